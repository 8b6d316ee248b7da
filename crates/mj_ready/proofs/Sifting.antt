-- A heap whose one row may stand too low or too high: what an exchange with the row above or below leaves, and when it is a heap.
use Rattle.std.proofs.Common.{◌≡◌, ◌≢◌, ℕ, ◌+◌, ◌*◌, ◌/◌, ◌<◌, ◌≤◌, Bool, true, false, List, [], ◌∷◌, ◌++◌, length, slice_get, Some, length-append, inl, inr, refl, sym, ap, ◌∙◌, zero, suc, arith}
use Rattle.std.specs.List.{swap, AllByRecursion}
use Rattle.std.proofs.lemmas.Bool.{cases_eq}
use Rattle.std.proofs.lemmas.List.{get_or_append_left, get_or_default}
use Rattle.std.proofs.lemmas.List.Elements.{recursion_from_All}
use Rattle.std.proofs.Math.Seq.{get_or-append_seam}
use Rattle.std.proofs.lemmas.List.Edits.{Swapped, swapped_from_swap, length-swap}
use Rattle.mj_ready.specs.Due.{is_before}
use Rattle.mj_ready.specs.Heap.{row_at, in_order, Follows, IsHeap, RisesFrom, SinksFrom}
use Rattle.mj_ready.proofs.Ordered.{IsOrder, pairs_in_order, irreflexive, in_order-swap, in_order-push, inserted-least, all-in_order}

module _ {X : Type 0} (before : X → X → Bool) (o : IsOrder before) where
  -- the same of equal rows
  carried : (x y u v : X) → x ≡ u → y ≡ v → before u v ≡ false → before x y ≡ false
  carried x y u v e f h = cc

  -- n rows, of which each at another place than `at` follows the one above it, and each below `at` the one above `at`
  record Rising (f : ℕ → X) (n at : ℕ) : Type 0 where
    others : (p k : ℕ) → 2 * p + 1 ≤ k → k ≤ 2 * p + 2 → k < n → k ≢ at → before (f k) (f p) ≡ false
    joined : (p k : ℕ) → 2 * p + 1 ≤ at → at ≤ 2 * p + 2 → 2 * at + 1 ≤ k → k ≤ 2 * at + 2 → k < n → before (f k) (f p) ≡ false

  -- the same of those that aren't below `at`
  record Sinking (f : ℕ → X) (n at : ℕ) : Type 0 where
    others : (p k : ℕ) → 2 * p + 1 ≤ k → k ≤ 2 * p + 2 → k < n → p ≢ at → before (f k) (f p) ≡ false
    joined : (p k : ℕ) → 2 * p + 1 ≤ at → at ≤ 2 * p + 2 → 2 * at + 1 ≤ k → k ≤ 2 * at + 2 → k < n → before (f k) (f p) ≡ false

  module _ (f g : ℕ → X) (n at other : ℕ) (moved : Swapped f g at other) where
    still : (k : ℕ) → k ≢ at → k ≢ other → g k ≡ f k
    still = moved.2

    -- the row at `at` has risen to the place above it
    risen : 2 * other + 1 ≤ at → at ≤ 2 * other + 2 → at < n → before (f at) (f other) ≡ true → Rising f n at
        → Rising g n other
    risen low high within first h = record {
      others = λ p k p_low p_high k_in not_other.
          elim (cases_eq k at) [
            | inl here ↦
                let there : p ≡ other = omega arith in
                carried _ _ (f other) (f at) (ap g here ∙ moved.0) (ap g there ∙ moved.1) back
            | inr apart ↦ elim (cases_eq p at) [
              | inl below ↦
                  carried _ _ (f k) (f other) (still k apart not_other) (ap g below ∙ moved.0)
                  (h.joined other k low high (omega arith) (omega arith) k_in)
              | inr off ↦ elim (cases_eq p other) [
                | inl beside ↦
                    let first_one : before (f k) (f other) ≡ false = h.others other k (omega arith) (omega arith) k_in apart in
                    carried _ _ (f k) (f at) (still k apart not_other) (ap g beside ∙ moved.1)
                    (o.through (f k) (f other) (f at) first_one back)
                | inr away ↦
                    carried _ _ (f k) (f p) (still k apart not_other) (still p off away)
                    (h.others p k p_low p_high k_in apart)
              ]
            ]
          ];
      joined = λ p k p_low p_high k_low k_high k_in.
          let top : g p ≡ f p = still p (λ e. omega arith) (λ e. omega arith) in
          let above : before (f other) (f p) ≡ false = h.others p other p_low p_high (omega arith) (λ e. omega arith) in
          elim (cases_eq k at) [
            | inl here ↦ carried _ _ (f other) (f p) (ap g here ∙ moved.0) top above
            | inr apart ↦
                let first_one : before (f k) (f other) ≡ false = h.others other k k_low k_high k_in apart in
                carried _ _ (f k) (f p) (still k apart (λ e. omega arith)) top (o.through (f k) (f other) (f p) first_one above)
          ];
    }
      where
        back : before (f other) (f at) ≡ false
        back = o.one_way (f at) (f other) first

    -- the row at `at` has sunk to the place of the first one below it
    sunk : 2 * at + 1 ≤ other → other ≤ 2 * at + 2 → other < n → before (f other) (f at) ≡ true
        → ((k : ℕ) → 2 * at + 1 ≤ k → k ≤ 2 * at + 2 → k < n → before (f k) (f other) ≡ false)
        → Sinking f n at → Sinking g n other
    sunk low high within first least h = record {
      others = λ p k p_low p_high k_in not_other.
          elim (cases_eq p at) [
            | inl here ↦ elim (cases_eq k other) [
              | inl there ↦ carried _ _ (f at) (f other) (ap g there ∙ moved.1) (ap g here ∙ moved.0) back
              | inr apart ↦
                  carried _ _ (f k) (f other) (still k (λ e. omega arith) apart) (ap g here ∙ moved.0)
                  (least k (omega arith) (omega arith) k_in)
            ]
            | inr apart ↦ elim (cases_eq k at) [
              | inl below ↦
                  carried _ _ (f other) (f p) (ap g below ∙ moved.0) (still p apart not_other)
                  (h.joined p other (omega arith) (omega arith) low high within)
              | inr off ↦
                  carried _ _ (f k) (f p) (still k off (λ e. omega arith)) (still p apart not_other)
                  (h.others p k p_low p_high k_in apart)
            ]
          ];
      joined = λ p k p_low p_high k_low k_high k_in.
          let here : p ≡ at = omega arith in
          carried _ _ (f k) (f other) (still k (λ e. omega arith) (λ e. omega arith)) (ap g here ∙ moved.0)
          (h.others other k k_low k_high k_in (λ e. omega arith));
    }
      where
        back : before (f at) (f other) ≡ false
        back = o.one_way (f other) (f at) first

module _ (xs : List (ℕ × ℕ)) where
  -- the first row can't rise
  pub heap_from_first : RisesFrom xs 0 → IsHeap xs
  heap_from_first h = record { follows = λ p k low high within. h.others p k low high within (λ e. omega arith) }

  -- a row that follows the one above it needn't
  pub heap_from_risen : (at above : ℕ) → 2 * above + 1 ≤ at → at ≤ 2 * above + 2 → Follows xs at above
      → RisesFrom xs at → IsHeap xs
  heap_from_risen at above at_low at_high done h = record {
    follows = λ p k low high within.
        elim (cases_eq k at) [
          | inl here ↦
              let there : p ≡ above = omega arith in
              carried is_before pairs_in_order _ _ _ _ (ap (row_at xs) here) (ap (row_at xs) there) done
          | inr apart ↦ h.others p k low high within apart
        ];
  }

  -- a row with none below it can't sink
  pub heap_from_last : (at : ℕ) → length xs ≤ 2 * at + 1 → SinksFrom xs at → IsHeap xs
  heap_from_last at none h = record { follows = λ p k low high within. h.others p k low high within (λ e. omega arith) }

  -- a row that no row below it comes before needn't
  pub heap_from_sunk : (at : ℕ)
      → ((k : ℕ) → 2 * at + 1 ≤ k → k ≤ 2 * at + 2 → k < length xs → Follows xs k at)
      → SinksFrom xs at → IsHeap xs
  heap_from_sunk at done h = record {
    follows = λ p k low high within.
        elim (cases_eq p at) [
          | inl here ↦
              carried is_before pairs_in_order _ _ _ _ refl (ap (row_at xs) here) (done k (omega arith) (omega arith) within)
          | inr apart ↦ h.others p k low high within apart
        ];
  }

  -- a row that is put at the end of a heap
  pub RisesFrom-push : (row : ℕ × ℕ) → IsHeap xs → RisesFrom (xs ++ row ∷ []) (length xs)
  RisesFrom-push row h = record {
    others = λ p k low high within not_last.
        let size = length-append xs (row ∷ []) in
        carried is_before pairs_in_order _ _ _ _ (get_or_append_left xs (row ∷ []) (0, 0) k (omega arith))
        (get_or_append_left xs (row ∷ []) (0, 0) p (omega arith)) (h.follows p k low high (omega arith));
    joined = record {
      follows = λ p k low high k_low k_high within.
          absurd (omega (arith, length-append xs (row ∷ [])));
    };
  }

  pub RisesFrom-swap : (at above : ℕ) → at < length xs → 2 * above + 1 ≤ at → at ≤ 2 * above + 2
      → is_before (row_at xs at) (row_at xs above) ≡ true → RisesFrom xs at → RisesFrom (swap xs at above) above
  RisesFrom-swap at above within low high first h =
      let ys = swap xs at above in
      let size = length-swap xs at above in
      let moved = swapped_from_swap xs ys at above (0, 0) within (omega arith) refl in
      let before = risen is_before pairs_in_order (row_at xs) (row_at ys) (length xs) at above moved low high within first
      (record { others = h.others; joined = h.joined.follows }) in
      record {
        others = λ p k p_low p_high k_in. before.others p k p_low p_high (omega arith);
        joined = record {
          follows = λ p k p_low p_high k_low k_high k_in. before.joined p k p_low p_high k_low k_high (omega arith);
        };
      }

  pub SinksFrom-swap : (at below : ℕ) → 2 * at + 1 ≤ below → below ≤ 2 * at + 2 → below < length xs
      → is_before (row_at xs below) (row_at xs at) ≡ true
      → ((k : ℕ) → 2 * at + 1 ≤ k → k ≤ 2 * at + 2 → k < length xs → Follows xs k below)
      → SinksFrom xs at → SinksFrom (swap xs at below) below
  SinksFrom-swap at below low high within first least h =
      let ys = swap xs at below in
      let size = length-swap xs at below in
      let moved = swapped_from_swap xs ys at below (0, 0) (omega arith) within refl in
      let before = sunk is_before pairs_in_order (row_at xs) (row_at ys) (length xs) at below moved low high within first least
      (record { others = h.others; joined = h.joined.follows }) in
      record {
        others = λ p k p_low p_high k_in. before.others p k p_low p_high (omega arith);
        joined = record {
          follows = λ p k p_low p_high k_low k_high k_in. before.joined p k p_low p_high k_low k_high (omega arith);
        };
      }

  -- no row comes before the first
  pub first_of : IsHeap xs → (bound k : ℕ) → k < bound → k < length xs → Follows xs k 0
  first_of h zero k below within = absurd (omega arith)
  first_of h (suc bound) zero below within = irreflexive is_before pairs_in_order (row_at xs 0)
  first_of h (suc bound) (suc k) below within =
      let above = k / 2 in
      pairs_in_order.through (row_at xs (suc k)) (row_at xs above) (row_at xs 0)
      (h.follows above (suc k) (omega arith) (omega arith) within)
      (first_of h bound above (omega arith) (omega arith))

  -- the first row is exchanged with the last one and taken out there
  module _ (zs : List (ℕ × ℕ)) (row : ℕ × ℕ) (last : ℕ) (size : last + 1 ≡ length xs)
      (cut : swap xs 0 last ≡ zs ++ row ∷ []) (h : IsHeap xs) where
    shorter : length zs ≡ last
    shorter = omega (arith, ap length cut, length-swap xs 0 last, length-append zs (row ∷ []))

    moved : Swapped (row_at xs) (row_at (swap xs 0 last)) 0 last
    moved = swapped_from_swap xs (swap xs 0 last) 0 last (0, 0) (omega arith) (omega arith) refl

    kept : (k : ℕ) → k < length zs → row_at zs k ≡ row_at (swap xs 0 last) k
    kept k within = sym (ap (λ rows. row_at rows k) cut ∙ get_or_append_left zs (row ∷ []) (0, 0) k within)

    beyond : (k : ℕ) → k ≢ 0 → k < length zs → row_at zs k ≡ row_at xs k
    beyond k some within = kept k within ∙ moved.2 k some (λ e. omega (arith, shorter))

    taken_out : row ≡ row_at xs 0
    taken_out =
        sym (get_or-append_seam zs row [] (0, 0)) ∙ ap (λ k. row_at (zs ++ row ∷ []) k) shorter
        ∙ sym (ap (λ rows. row_at rows last) cut) ∙ moved.1

    pub SinksFrom-pop : SinksFrom zs 0
    SinksFrom-pop = record {
      others = λ p k low high within off.
          carried is_before pairs_in_order _ _ _ _ (beyond k (λ e. omega arith) within) (beyond p off (omega arith))
          (h.follows p k low high (omega (arith, shorter)));
      joined = record { follows = λ p k low high. absurd (omega arith) };
    }

    follows_row : (k : ℕ) → k < length zs → is_before (row_at zs k) row ≡ false
    follows_row k within =
        elim (cases_eq k 0) [
          | inl here ↦
              carried is_before pairs_in_order _ _ _ _ (kept k within ∙ ap (row_at (swap xs 0 last)) here ∙ moved.0) taken_out
              (first_of h (last + 1) last (omega arith) (omega arith))
          | inr some ↦
              carried is_before pairs_in_order _ _ _ _ (beyond k some within) taken_out
              (first_of h (k + 1) k (omega arith) (omega (arith, shorter)))
        ]

    pub in_order-pop : in_order is_before xs ≡ row ∷ in_order is_before zs
    in_order-pop =
        sym (in_order-swap is_before pairs_in_order xs 0 last (omega arith) (omega arith))
        ∙ ap (in_order is_before) cut
        ∙ in_order-push is_before pairs_in_order zs row
        ∙ inserted-least is_before pairs_in_order row (in_order is_before zs)
        (all-in_order is_before pairs_in_order (λ y. is_before y row ≡ false) zs
        (recursion_from_All (λ y. is_before y row ≡ false) zs
        (λ k d within. rw (get_or_default zs k d (0, 0) within) (follows_row k within))))

-- the first row is the first of all
pub slice_get-in_order : (xs : List (ℕ × ℕ)) → 0 < length xs → IsHeap xs
    → slice_get (in_order is_before xs) 0 ≡ Some (row_at xs 0)
slice_get-in_order [] some h = absurd (omega arith)
slice_get-in_order (x ∷ xs) some h =
    let all : AllByRecursion (λ y. is_before y x ≡ false) xs =
    recursion_from_All (λ y. is_before y x ≡ false) xs
    (λ k d within. rw (get_or_default xs k d (0, 0) within) (first_of (x ∷ xs) h (k + 2) (suc k) (omega arith) (omega arith))) in
    ap (λ rows. slice_get rows 0)
    (inserted-least is_before pairs_in_order x (in_order is_before xs)
    (all-in_order is_before pairs_in_order (λ y. is_before y x ≡ false) xs all))
