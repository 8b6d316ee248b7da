-- Rows one behind the other, what is made of an item, and items that pass a test.
use Rattle.std.proofs.Common.{◌≡◌, ℕ, suc, Bool, true, false, if◌then◌else◌, List, [], ◌∷◌, ◌++◌, Option, Some, None, refl, sym, ap, ◌∙◌, subst, append_assoc}
use Rattle.mj_entry_rows.specs.Readings.{AreBytes, IsRow, Reading, both_in, made_in, passing_in, then_in}

-- ---- What was read

-- an item was read behind another
pub record IsBehind {X Y : Type 0} (first : Option (X × List ℕ)) (next : X → Reading Y) (y : Y) (rest : List ℕ) : Type 0 where
  pub item : X
  pub behind : List ℕ
  pub read : first ≡ Some (item, behind)
  pub goes_on : next item behind ≡ Some (y, rest)

pub parts_in : {X Y : Type 0} (first : Option (X × List ℕ)) (next : X → Reading Y) (y : Y) (rest : List ℕ) → then_in first next ≡ Some (y, rest)
    → IsBehind first next y rest
parts_in None next y rest h = absurd (cc)
parts_in (Some found) next y rest h = record { item = found.0; behind = found.1; read = refl; goes_on = h }

-- the same item, and the same bytes behind it
pub same_found : {X : Type 0} (left right : X × List ℕ) → Some left ≡ Some right → (left.0 ≡ right.0) × (left.1 ≡ right.1)
same_found left right h =
    let same : left ≡ right = cc in
    (ap (λ found. found.0) same, ap (λ found. found.1) same)

-- what is there passed the test
pub passed : {X : Type 0} (test : Bool) (found : Option X) (x : X) → (if test then found else None) ≡ Some x → (test ≡ true) × (found ≡ Some x)
passed true found x h = (refl, h)
passed false found x h = absurd (cc)

-- bytes behind others are bytes
pub bytes_behind : (piece rest : List ℕ) → AreBytes (piece ++ rest) → AreBytes rest
bytes_behind [] rest small = small
bytes_behind (b ∷ piece) rest small = bytes_behind piece rest (λ i. small (suc i))

-- ---- The laws

module _ {X : Type 0} {IsX : X → Type 0} {form_x : X → List ℕ} {read_x : Reading X} (row : IsRow IsX form_x read_x) where
  -- bytes behind an item that was read
  pub rest_bytes : (bytes : List ℕ) (x : X) (rest : List ℕ) → AreBytes bytes → read_x bytes ≡ Some (x, rest) → AreBytes rest
  rest_bytes bytes x rest small read = bytes_behind (form_x x) rest (subst AreBytes (row.written bytes x rest small read).1 small)

  -- the same row where its items are called otherwise
  pub same_row : (Is : X → Type 0) → ((x : X) → IsX x → Is x) → ((x : X) → Is x → IsX x) → IsRow Is form_x read_x
  same_row Is to from = record {
    again = λ x rest is. row.again x rest (from x is);
    written = λ bytes x rest small read.
        let item = row.written bytes x rest small read in
        (to x item.0, item.1);
  }

  -- the same row where the form is said otherwise
  pub same_form : (form : X → List ℕ) → ((x : X) → form x ≡ form_x x) → IsRow IsX form read_x
  same_form form same = record {
    again = λ x rest is. ap (λ l. read_x (l ++ rest)) (same x) ∙ row.again x rest is;
    written = λ bytes x rest small read.
        let item = row.written bytes x rest small read in
        (item.0, item.1 ∙ ap (λ l. l ++ rest) (sym (same x)));
  }

  -- what is made of an item is read
  pub made_again : {Y : Type 0} (make : X → Y) (x : X) (rest : List ℕ) → IsX x → made_in make read_x (form_x x ++ rest) ≡ Some (make x, rest)
  made_again make x rest is = ap (λ found. then_in found (λ item behind. Some (make item, behind))) (row.again x rest is)

  -- and what is read is made of an item that was written
  pub record IsMade {Y : Type 0} (make : X → Y) (bytes : List ℕ) (y : Y) (rest : List ℕ) : Type 0 where
    pub item : X
    pub is : IsX item
    pub made : make item ≡ y
    pub whole : bytes ≡ form_x item ++ rest

  pub made_written : {Y : Type 0} (make : X → Y) (bytes : List ℕ) (y : Y) (rest : List ℕ) → AreBytes bytes
      → made_in make read_x bytes ≡ Some (y, rest) → IsMade make bytes y rest
  made_written make bytes y rest small h =
      let one = parts_in (read_x bytes) (λ item behind. Some (make item, behind)) y rest h in
      let item = row.written bytes one.item one.behind small one.read in
      let same = same_found (make one.item, one.behind) (y, rest) one.goes_on in
      record { item = one.item; is = item.0; made = same.0; whole = item.1 ∙ ap (λ behind. form_x one.item ++ behind) same.1 }

  -- what is made of parts, which are found in it again
  pub made_row : {Y : Type 0} (make : X → Y) (parts : Y → X) (Is : Y → Type 0) (form : Y → List ℕ) → ((y : Y) → make (parts y) ≡ y)
      → ((x : X) → IsX x → Is (make x)) → ((y : Y) → Is y → IsX (parts y)) → ((x : X) → form (make x) ≡ form_x x) → IsRow Is form (made_in make read_x)
  made_row {Y} make parts Is form whole to from same = record {
    again = λ y rest is.
        ap (λ l. made_in make read_x (l ++ rest)) (ap form (sym (whole y)) ∙ same (parts y))
        ∙ made_again make (parts y) rest (from y is)
        ∙ ap (λ z. Some (z, rest)) (whole y);
    written = λ bytes y rest small h.
        let m = made_written make bytes y rest small h in
        subst (λ (z : Y). Is z × (bytes ≡ form z ++ rest)) m.made (to m.item m.is, m.whole ∙ ap (λ l. l ++ rest) (sym (same m.item)));
  }

  -- items that pass a test
  pub passing_row : (test : X → Bool) (Is : X → Type 0) → ((x : X) → IsX x → test x ≡ true → Is x) → ((x : X) → Is x → IsX x × (test x ≡ true))
      → IsRow Is form_x (passing_in test read_x)
  passing_row test Is to from = record {
    again = λ x rest is.
        ap (λ found. then_in found (λ item behind. if test item then Some (item, behind) else None)) (row.again x rest (from x is).0)
        ∙ ap (λ (b : Bool). if b then Some (x, rest) else None) (from x is).1;
    written = λ bytes x rest small h.
        let one = parts_in (read_x bytes) (λ item behind. if test item then Some (item, behind) else None) x rest h in
        let pass = passed (test one.item) (Some (one.item, one.behind)) (x, rest) one.goes_on in
        let same = same_found (one.item, one.behind) (x, rest) pass.1 in
        let item = row.written bytes one.item one.behind small one.read in
        let whole : bytes ≡ form_x one.item ++ rest = item.1 ∙ ap (λ behind. form_x one.item ++ behind) same.1 in
        subst (λ (y : X). Is y × (bytes ≡ form_x y ++ rest)) same.0 (to one.item item.0 pass.0, whole);
  }

module _ {X Y : Type 0} {IsX : X → Type 0} {IsY : Y → Type 0} {form_x : X → List ℕ} {form_y : Y → List ℕ} {read_x : Reading X} {read_y : Reading Y}
    (first : IsRow IsX form_x read_x) (second : IsRow IsY form_y read_y) where
  both_again : (pair : X × Y) (rest : List ℕ) → IsX pair.0 × IsY pair.1
      → both_in read_x read_y ((form_x pair.0 ++ form_y pair.1) ++ rest) ≡ Some (pair, rest)
  both_again pair rest is =
      ap (both_in read_x read_y) (append_assoc (form_x pair.0) (form_y pair.1) rest)
      ∙ ap (λ found. then_in found (λ x behind. then_in (read_y behind) (λ y end. Some ((x, y), end))))
      (first.again pair.0 (form_y pair.1 ++ rest) is.0)
      ∙ ap (λ found. then_in found (λ y end. Some ((pair.0, y), end))) (second.again pair.1 rest is.1)

  both_written : (bytes : List ℕ) (pair : X × Y) (rest : List ℕ) → AreBytes bytes → both_in read_x read_y bytes ≡ Some (pair, rest)
      → (IsX pair.0 × IsY pair.1) × (bytes ≡ (form_x pair.0 ++ form_y pair.1) ++ rest)
  both_written bytes pair rest small h =
      let one = parts_in (read_x bytes) (λ x behind. then_in (read_y behind) (λ y end. Some ((x, y), end))) pair rest h in
      let two = parts_in (read_y one.behind) (λ y end. Some ((one.item, y), end)) pair rest one.goes_on in
      let x = first.written bytes one.item one.behind small one.read in
      let y = second.written one.behind two.item two.behind (rest_bytes first bytes one.item one.behind small one.read) two.read in
      let same = same_found ((one.item, two.item), two.behind) (pair, rest) two.goes_on in
      let whole : bytes ≡ (form_x one.item ++ form_y two.item) ++ rest =
      x.1
      ∙ ap (λ l. form_x one.item ++ l) (y.1 ∙ ap (λ end. form_y two.item ++ end) same.1)
      ∙ sym (append_assoc (form_x one.item) (form_y two.item) rest) in
      subst (λ (p : X × Y). (IsX p.0 × IsY p.1) × (bytes ≡ (form_x p.0 ++ form_y p.1) ++ rest)) same.0 ((x.0, y.0), whole)

  -- one behind the other
  pub both_row : IsRow (λ (pair : X × Y). IsX pair.0 × IsY pair.1) (λ (pair : X × Y). form_x pair.0 ++ form_y pair.1) (both_in read_x read_y)
  both_row = record { again = both_again; written = both_written }
