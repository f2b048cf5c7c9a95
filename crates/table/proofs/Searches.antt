-- The laws of the table's searches, in terms of its view. Assumes nothing.
use Rattle.std.proofs.Common.{Option, Some, None, Bool, true, false, cond, List, ◌≡◌, refl, sym, ap, ◌∙◌, ◌≢◌, ℕ, zero, suc, ◌+◌, ◌<◌, arith, lt-ltb, ltb-true, eq-eqb, ne_eqb, eqb-true, ltb, eqb, length, get_or, take, set, length-take, length-set, get_or-take, get_or-set_same, get_or-set_other}
use native.Mathlib.Decide.{ℕ_discrete}
use Rattle.frame.specs.declared.header.StreamId.{StreamId}
use Rattle.rules.specs.State.{found_of}
use Rattle.rules.specs.Lists.{Place, at, nowhere, first}
use Rattle.rules.specs.declared.Slot.{Slot}
use Rattle.table.specs.Rows.{blank, has_id, is_free}
use Rattle.table.specs.Table.{size, row_at, view, scanned, lowest_free, Finds, Tied, nth, Distinct}
use Rattle.table.specs.declared.row.Row.{Row}
use Rattle.table.proofs.Laws.{length-view, nth-view, row-held, row_listed}
use Rattle.rules.proofs.Lists.{both, first-at, first-nowhere, first_same}
use Rattle.table.proofs.Lists.{false_of}

-- ---- an answer and the place that it stands for

pub found_at : (p : Place) (s : Slot) → Some s ≡ found_of p → p ≡ at s.0
found_at (at i) s e = cc
found_at nowhere s e = let z : ◌≡◌ {A = ℕ} 0 1 = cc in absurd (omega arith)

pub found_nowhere : (p : Place) → None ≡ found_of p → p ≡ nowhere
found_nowhere (at i) e = let z : ◌≡◌ {A = ℕ} 0 1 = cc in absurd (omega arith)
found_nowhere nowhere e = refl

-- ---- the lowest free slot

free_key : (x : ℕ) → eqb x 0 ≡ cond (ltb 0 x) false true
free_key zero = refl
free_key (suc n) = ne_eqb (suc n) 0 (λ e. omega arith) ∙ sym (ap (λ (b : Bool). cond b false true) (lt-ltb 0 (suc n) (omega arith)))

-- 01: "the lowest free one is taken"
pub lowest : (t : List ℕ) (k : ℕ) → length t ≡ size k → lowest_free t k ≡ found_of (first is_free (view t k))
unfolding scanned
lowest t k sized =
    ap found_of (first_same (λ (c : ℕ). eqb c 0) is_free (take k t) (view t k) 0 blank (omega (arith, length-take k t, length-view t k)) same)
  where
    same : (i : ℕ) → i < length (take k t) → eqb (get_or (take k t) i 0) 0 ≡ is_free (nth (view t k) i)
    same i h =
        let b : i < k = omega (arith, length-take k t) in
        rw (nth-view t k i b, get_or-take k t i 0 b, row-held t k i sized b) (free_key (get_or t i 0))

-- ---- the slot of an id

module _ (t : List ℕ) (k : ℕ) (id : StreamId) (sized : length t ≡ size k) (tied : Tied t k) where
  -- a row has the id exactly where its key is the id's
  has_key : (i : ℕ) → i < k → get_or t i 0 ≡ id.0 + 2 → has_id id (nth (view t k) i) ≡ true
  unfolding Tied
  has_key i h e =
      let l : (row_at t k i).listed ≡ true = row_listed t k i sized h ∙ lt-ltb 1 (get_or t i 0) (omega arith) in
      let s : (row_at t k i).stream.id.0 ≡ id.0 = omega (arith, tied i h (omega arith)) in
      rw (nth-view t k i h, l) (eq-eqb (row_at t k i).stream.id.0 id.0 s)

  key_has : (i : ℕ) → i < k → has_id id (nth (view t k) i) ≡ true → get_or t i 0 ≡ id.0 + 2
  unfolding Tied
  key_has i h e =
      let b = both (row_at t k i).listed (eqb (row_at t k i).stream.id.0 id.0) (rw (nth-view t k i h) at e) in
      let l : 1 < get_or t i 0 = ltb-true 1 (get_or t i 0) (sym (row_listed t k i sized h) ∙ b.0) in
      omega (arith, tied i h l, eqb-true (row_at t k i).stream.id.0 id.0 b.1)

  -- with distinct ids, whatever the hints: the listed slot with that id
  pub found : Distinct (view t k) → (f : Option Slot) → Finds t k id f → f ≡ found_of (first (has_id id) (view t k))
  unfolding Distinct
  found distinct (Some s) fs =
      ap found_of (sym (first-at (has_id id) (view t k) s.0 blank (omega (arith, length-view t k)) none (has_key s.0 fs.0 fs.1)))
    where
      none : (j : ℕ) → j < s.0 → has_id id (nth (view t k) j) ≡ false
      none j h = false_of (has_id id (nth (view t k) j)) no
        where
          no : has_id id (nth (view t k) j) ≡ true → ⊥
          no e =
              let a = both (nth (view t k) j).listed (eqb (nth (view t k) j).stream.id.0 id.0) e in
              let b = both (nth (view t k) s.0).listed (eqb (nth (view t k) s.0).stream.id.0 id.0) (has_key s.0 fs.0 fs.1) in
              let i : (nth (view t k) j).stream.id.0 ≡ (nth (view t k) s.0).stream.id.0
              = eqb-true (nth (view t k) j).stream.id.0 id.0 a.1 ∙ sym (eqb-true (nth (view t k) s.0).stream.id.0 id.0 b.1) in
              let q : j ≡ s.0 = distinct j s.0 (omega (arith, length-view t k)) (omega (arith, length-view t k)) a.0 b.0 i in
              omega arith
  found distinct None fs =
      ap found_of (sym (first-nowhere (has_id id) (view t k) blank (λ j h. none j (omega (arith, length-view t k)))))
    where
      none : (j : ℕ) → j < k → has_id id (nth (view t k) j) ≡ false
      none j h = false_of (has_id id (nth (view t k) j)) (λ e. fs j h (key_has j h e))

-- ---- distinct ids

-- a row takes a slot, and no other row in the table has its id
pub distinct_set : (rs : List Row) (i : ℕ) (r : Row) → Distinct rs
    → ((j : ℕ) → j < length rs → j ≢ i → r.listed ≡ true → (nth rs j).listed ≡ true → (nth rs j).stream.id.0 ≡ r.stream.id.0 → ⊥)
    → Distinct (set rs i r)
unfolding Distinct
distinct_set rs i r d other a b ha hb = go (ℕ_discrete a i) (ℕ_discrete b i)
  where
    la : a < length rs
    la = omega (arith, length-set rs i r)

    lb : b < length rs
    lb = omega (arith, length-set rs i r)

    go : Dec (a ≡ i) → Dec (b ≡ i) → (nth (set rs i r) a).listed ≡ true → (nth (set rs i r) b).listed ≡ true
        → (nth (set rs i r) a).stream.id.0 ≡ (nth (set rs i r) b).stream.id.0 → a ≡ b
    go (yes p) (yes q) x y e = p ∙ sym q
    go (yes p) (no q) x y e =
        let ra : nth (set rs i r) a ≡ r = ap (nth (set rs i r)) p ∙ get_or-set_same rs i r blank (omega (arith, la)) in
        let rb : nth (set rs i r) b ≡ nth rs b = get_or-set_other rs i b r blank q in
        absurd (other b lb q (rw ra at x) (rw rb at y) (sym (rw (ra, rb) at e)))
    go (no p) (yes q) x y e =
        let ra : nth (set rs i r) a ≡ nth rs a = get_or-set_other rs i a r blank p in
        let rb : nth (set rs i r) b ≡ r = ap (nth (set rs i r)) q ∙ get_or-set_same rs i r blank (omega (arith, lb)) in
        absurd (other a la p (rw rb at y) (rw ra at x) (rw (ra, rb) at e))
    go (no p) (no q) x y e =
        let ra : nth (set rs i r) a ≡ nth rs a = get_or-set_other rs i a r blank p in
        let rb : nth (set rs i r) b ≡ nth rs b = get_or-set_other rs i b r blank q in
        d a b la lb (rw ra at x) (rw rb at y) (rw (ra, rb) at e)

-- no row is in the table
pub distinct_none : (rs : List Row) → ((j : ℕ) → j < length rs → (nth rs j).listed ≡ false) → Distinct rs
unfolding Distinct
distinct_none rs none i j hi hj a b e = let z : ◌≡◌ {A = ℕ} 0 1 = cc (none i hi) in absurd (omega arith)
