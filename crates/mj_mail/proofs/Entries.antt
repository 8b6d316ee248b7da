-- How large what is kept of a step is.
use Rattle.std.proofs.Common.{◌≡◌, ℕ, ◌+◌, ◌*◌, ◌≤◌, Bool, true, false, List, [], ◌∷◌, length, refl, arith, length-append}
use Rattle.std.specs.Prelude.{if◌then◌else◌}
use Rattle.std.specs.Int.{w32, to_le_bytes}
use Rattle.std.specs.List.{AllByRecursion, flat_map}
use Rattle.std.proofs.lemmas.Bool.{leb-true}
use Rattle.mj_mail.specs.declared.fact.Fact.TheVariants.{Overrun}
use Rattle.mj_mail.specs.declared.fact.Outcome.{Outcome}
use Rattle.mj_mail.specs.declared.limits.TheConstants.{MAX_DONE, MAX_PAYLOAD}
use Rattle.mj_mail.specs.declared.name.Name.{Name}
use Rattle.mj_mail.specs.declared.reply.Reply.{Reply}
use Rattle.mj_mail.specs.Entry.{done_fits, done_form, kept, reply_form}
use Rattle.mj_mail.specs.Outcome.{one_fact}

-- a path takes four bytes for each member
pub path_len : (path : List ℕ) → length (flat_map (to_le_bytes w32) path) ≡ 4 * length path
path_len [] = refl
path_len (member ∷ path) = omega (arith, path_len path)

-- a reply of at most 512 bytes of text takes at most 518
replies_len : (replies : List Reply) → AllByRecursion (λ reply. length reply.text ≤ 512) replies → length (flat_map reply_form replies) ≤ 518 * length replies
replies_len [] short = omega arith
replies_len (reply ∷ replies) short =
    omega (arith, short.0, replies_len replies short.1, length-append (reply_form reply) (flat_map reply_form replies))

-- the entry of a step that was too large
overrun_len : (name : Name) (replies : List Reply)
    → length (done_form name replies (one_fact Overrun)) ≡ 26 + length (flat_map (to_le_bytes w32) name.path) + length (flat_map reply_form replies)
overrun_len name replies = simp length-append (omega arith)

module _ (name : Name) (replies : List Reply) (path : length name.path ≤ 102203) (few : length replies ≤ 500) (short : AllByRecursion (λ reply. length reply.text ≤ 512) replies) where
  kept_by : (outcome : Outcome) (b : Bool) → done_fits name replies outcome ≡ b → length (done_form name replies (if b then outcome else one_fact Overrun)) ≤ MAX_PAYLOAD
  kept_by outcome true fits = omega (arith, leb-true (length (done_form name replies outcome)) MAX_DONE fits)
  kept_by outcome false fits = omega (arith, overrun_len name replies, path_len name.path, replies_len replies short)

  -- what is kept of a step has a small entry, whatever it made
  pub kept_small : (outcome : Outcome) → length (done_form name replies (kept name replies outcome)) ≤ MAX_PAYLOAD
  kept_small outcome = kept_by outcome (done_fits name replies outcome) refl
