-- How long an address may be (RFC 5321, 4.5.3.1).
use Rattle.std.specs.Prelude.{ℕ, nat_le, Bool, ◌&&◌, List, length}
use Rattle.mj_address.specs.Grammar.{Mailbox}

-- a domain in at most 255 bytes
abbrev pub is_short_domain : List ℕ → Bool
is_short_domain domain = nat_le (length domain) 255

-- a local part in at most 64 bytes, at such a domain
abbrev pub is_short : Mailbox → Bool
is_short address = nat_le (length address.0) 64 && is_short_domain address.1
