-- What a mail is when it is accepted, the mail for some of its recipients, and how large a message is.
use Rattle.std.specs.Prelude.{ℕ, ◌+◌, Bool, true, false, List, [], length, codes}
use Rattle.mj_mail.specs.declared.mail.Body.{Body}
use Rattle.mj_mail.specs.declared.mail.Body.TheVariants.{Original, Made}
use Rattle.mj_mail.specs.declared.mail.Mail.{Mail}
use Rattle.mj_mail.specs.declared.mail.NewMail.{NewMail}
use Rattle.mj_mail.specs.declared.mail.Stage.{Stage}
use Rattle.mj_mail.specs.declared.mail.Stage.TheVariants.{Process, Remote}
use Rattle.mj_mail.specs.Name.{first_name}
use Rattle.mj_head.specs.Head.{written}

-- the processor in which each accepted mail begins
abbrev pub root : List ℕ
root = codes "root"

-- the mail that is accepted under a number: in `root`, with the body that came in, without attributes, failures and
-- hops, and due at the start
abbrev pub first : ℕ → ℕ → NewMail → Mail
first start number new = record {
  name = first_name number;
  sender = new.sender;
  recipients = new.recipients;
  attributes = [];
  stage = Process root;
  error = [];
  head = new.head;
  body = Original number (length new.body);
  hops = 0;
  due = start;
}

-- a mail that is sent to a host
abbrev pub is_remote : Stage → Bool
is_remote (Process state) = false
is_remote (Remote delivery host attempt) = true

-- the same mail for these recipients
abbrev pub restrict : Mail → List (List ℕ × List ℕ) → Mail
restrict mail recipients = record mail { recipients = recipients }

-- how many bytes a body has
abbrev pub body_len : Body → ℕ
body_len (Original number len) = len
body_len (Made bytes) = length bytes

-- how many bytes a whole message has: the written head, the empty line and the body
abbrev pub size : List (List ℕ × List ℕ) → Body → ℕ
size head body = length (written head) + 2 + body_len body
