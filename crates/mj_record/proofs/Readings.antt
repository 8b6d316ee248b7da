-- What the reading of whole bytes says of the entries that have their form.
use Rattle.std.proofs.Common.{◌≡◌, List, ℕ, Some, Result, Ok, Err, IfOk, sym, ap, subst, ◌∙◌}
use Rattle.mj_mail.specs.Entry.{entry_form}
use Rattle.mj_mail.specs.declared.entry.Entry.{Entry}
use Rattle.mj_entry_rows.specs.Forms.{IsEntry}
use Rattle.mj_entry_rows.specs.Items.{entry_of}
use Rattle.mj_entry_rows.specs.Readings.{AreBytes}
use Rattle.mj_entry_rows.proofs.Entries.{entry_again, entry_written, no_entry}
use Rattle.mj_record.specs.Reads.{Reads}
use Rattle.mj_entry_items.specs.declared.fault.EntryFault.{EntryFault}
use Rattle.mj_entry_items.specs.declared.fault.EntryFault.TheVariants.{Bad}

-- what was read has the form of the bytes
pub form_read : (bytes : List ℕ) (answer : Result Entry EntryFault) → AreBytes bytes → Reads answer (entry_of bytes) → IfOk answer (λ entry. entry_form entry ≡ bytes)
form_read bytes (Ok entry) small found = (entry_written bytes entry small found).1
form_read bytes (Err fault) small found = tt

-- and is an entry
pub entry_read : (bytes : List ℕ) (answer : Result Entry EntryFault) → AreBytes bytes → Reads answer (entry_of bytes) → IfOk answer (λ entry. IsEntry entry)
entry_read bytes (Ok entry) small found = (entry_written bytes entry small found).0
entry_read bytes (Err fault) small found = tt

-- no entry has the form of bytes that are refused
pub none_read : (bytes : List ℕ) (answer : Result Entry EntryFault) → Reads answer (entry_of bytes) → answer ≡ Err Bad
    → (entry : Entry) → IsEntry entry → entry_form entry ≡ bytes → ⊥
none_read bytes answer found refused = no_entry bytes (subst (λ (said : Result Entry EntryFault). Reads said (entry_of bytes)) refused found)

-- an entry of this form is the one that was read
pub again_read : (bytes : List ℕ) (answer : Result Entry EntryFault) → Reads answer (entry_of bytes)
    → (entry : Entry) → IsEntry entry → entry_form entry ≡ bytes → IfOk answer (λ read. read ≡ entry)
again_read bytes (Ok read) found entry is same =
    let one : Some read ≡ Some entry = sym found ∙ ap entry_of (sym same) ∙ entry_again entry is in
    cc
again_read bytes (Err fault) found entry is same = tt
