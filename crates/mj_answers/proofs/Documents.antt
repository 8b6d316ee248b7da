-- What is read of bytes, beside the document that they are.
use Rattle.std.proofs.Common.{◌≡◌, Bool, true, false, cond, Some, None, List, ℕ, refl}
use Rattle.std.proofs.lemmas.Str.{is_utf8-from_IsUtf8, IsUtf8-from_is_utf8}
use Rattle.std.specs.Str.{IsUtf8, is_utf8}
use Rattle.toml.specs.Data.{Members}
use Rattle.toml.specs.Parse.{parse_document}
use Rattle.mj_answers.specs.Reading.{document}

pub document_read : (bytes : List ℕ) (table : Members) → IsUtf8 bytes → parse_document bytes ≡ Some table → document bytes ≡ Some table
document_read bytes table text read = rw (is_utf8-from_IsUtf8 bytes text) read

refused_cases : (bytes : List ℕ) (b : Bool) → is_utf8 bytes ≡ b → (IsUtf8 bytes → parse_document bytes ≡ None) → cond b (parse_document bytes) None ≡ None
refused_cases bytes true e h = h (IsUtf8-from_is_utf8 bytes e)
refused_cases bytes false e h = refl

pub document_refused : (bytes : List ℕ) → (IsUtf8 bytes → parse_document bytes ≡ None) → document bytes ≡ None
document_refused bytes h = refused_cases bytes (is_utf8 bytes) refl h
