-- When an index answers for a list.
use Rattle.std.specs.Prelude.{◌≡◌, Bool, List}
use Rattle.std.specs.List.{list_any}

-- Whatever is looked for is among the keys of an index exactly where it is among the items of the list.
abbrev pub IsIndexOf : {T : Type 0} → (T → T → Bool) → List T → List T → Type 0
IsIndexOf eq items keys = (wanted : _) → list_any (eq wanted) keys ≡ list_any (eq wanted) items
