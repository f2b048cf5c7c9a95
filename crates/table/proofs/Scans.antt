-- What a scan of the keys finds, and a walk of the rows counts. Assumes nothing.
use Rattle.std.proofs.Common.{Some, None, Bool, List, ◌≡◌, refl, sym, ap, ◌∙◌, ℕ, ◌+◌, min, ◌≤◌, ◌<◌, add-one, arith, eqb-true, eqb, length, get_or, take, drop, length-take, drop_of_length-le, get_or-take}
use native.Mathlib.Decide.{dec_lt}
use borrow.Author.Tests.{eqb-false}
use lib.ListN.{get_or-eq_default}
use Rattle.std.specs.List.{position, position_or_len}
use Rattle.std.proofs.lemmas.Grind.{common_steps}
use Rattle.std.proofs.lemmas.List.{take_min}
use Rattle.std.proofs.lemmas.List.Quantifiers.{position-Some}
use Rattle.std.proofs.lemmas.List.Sums.{fails_before_first}
use Rattle.frame.specs.declared.header.StreamId.{StreamId}
use Rattle.rules.specs.Lists.{Place, at, nowhere, first, sum}
use Rattle.rules.specs.State.{one, found_of}
use Rattle.rules.specs.declared.Mode.{Mode}
use Rattle.table.specs.Rows.{is_unacknowledged, blank}
use Rattle.table.specs.Table.{scanned, Finds, row_at, view, unacknowledged}
use Rattle.table.specs.declared.row.Row.{Row}
use Rattle.rules.proofs.Lists.{Says, first_says, first-at, first-nowhere, sum_drop}
use Rattle.table.proofs.Lists.{length-tabulate, get_d_tabulate}

-- ---- keys

module _ (t : List ℕ) (k key : ℕ) where
  abbrev is : ℕ → Bool
  is c = eqb c key

  -- the library's first place of the key, where the table may end before the k keys
  pub scan-at : (n : ℕ) → n ≡ min k (length t) → (i : ℕ) → position is (take n t) ≡ Some i → Some (record { 0 = i }) ≡ scanned t k key
  unfolding scanned
  scan-at n m i e =
      let s = position-Some is (take k t) i 0 (rw (m, take_min k t) at e) in
      ap found_of (sym (first-at is (take k t) i 0 s.0 s.2 s.1))

  pub scan-nowhere : (n : ℕ) → n ≡ min k (length t) → position is (take n t) ≡ None → None ≡ scanned t k key
  unfolding scanned
  scan-nowhere n m e =
      let e₂ = rw (m, take_min k t) at e in
      let s : length (take k t) ≤ position_or_len is (take k t) = grind (arith, common_steps) in
      ap found_of (sym (first-nowhere is (take k t) 0 (λ j h. fails_before_first is (take k t) j 0 (omega arith))))

-- a scan for an id's key finds it
module _ (t : List ℕ) (k : ℕ) (id : StreamId) where
  present : (i : ℕ) → i < k → get_or t i 0 ≡ id.0 + 2 → i < length (take k t)
  present i h e = go (dec_lt i (length t))
    where
      go : Dec (i < length t) → i < length (take k t)
      go (yes p) = omega (arith, length-take k t)
      go (no p) = absurd (omega (arith, get_or-eq_default t 0 {n = i} (omega arith)))

  finds : (p : Place) → Says (is t k (id.0 + 2)) (take k t) 0 p → Finds t k id (found_of p)
  finds (at i) s =
      let h : i < k = omega (arith, length-take k t) in
      (h, sym (get_or-take k t i 0 h) ∙ eqb-true (get_or (take k t) i 0) (id.0 + 2) s.1)
  finds nowhere s =
      λ i h e. eqb-false (get_or (take k t) i 0) (id.0 + 2) (s i (present i h e)) (get_or-take k t i 0 h ∙ e)

  pub scan-finds : Finds t k id (scanned t k (id.0 + 2))
  unfolding scanned
  scan-finds = finds (first (is t k (id.0 + 2)) (take k t)) (first_says (is t k (id.0 + 2)) (take k t) 0)

-- ---- the count

module _ (t : List ℕ) (k : ℕ) (m : Mode) where
  -- what the rows from i on count
  unfoldable pub rest : ℕ → ℕ
  rest i = sum (λ (r : Row). one (is_unacknowledged m r)) (drop i (view t k))

  pub rest_all : rest 0 ≡ unacknowledged t k m
  unfolding rest unacknowledged
  rest_all = refl

  pub rest-step : (i : ℕ) → i < k → rest i ≡ one (is_unacknowledged m (row_at t k i)) + rest (i + 1)
  unfolding rest view
  rest-step i h =
      let l : length (view t k) ≡ k = length-tabulate k (row_at t k) in
      sum_drop (λ (r : Row). one (is_unacknowledged m r)) (view t k) i blank (omega arith)
      ∙ rw (get_d_tabulate k (row_at t k) i blank h, add-one)

  pub rest-none : rest k ≡ 0
  unfolding rest view
  rest-none = ap (sum (λ (r : Row). one (is_unacknowledged m r))) (drop_of_length-le (view t k) {i = k} (omega (arith, length-tabulate k (row_at t k))))
