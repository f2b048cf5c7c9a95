-- The laws that a caller of the table cites: what loads and stores say of its view. Assumes nothing.
use Rattle.std.proofs.Common.{true, List, [], map, ◌≡◌, refl, sym, ap, ◌∙◌, subst, ◌≢◌, ℕ, zero, suc, ◌+◌, ◌*◌, ◌/◌, ◌≤◌, ◌<◌, mod-lt, add-one, arith, le-leb, leb-true, lt-ltb, ltb, leb, length, get_or, take, drop, set, replicate, length-set, ext_get_or, get_or-set_same, get_or-set_other, drop-set-lt}
use native.Mathlib.Decide.{ℕ_discrete, dec_lt}
use lib.ListN.{length-replicate, get_or-replicate, length-map, get_or-map}
use Rattle.frame.specs.declared.header.StreamId.{StreamId}
use Rattle.chunks.specs.Blocks.{put}
use Rattle.rules.proofs.Lists.{split, either}
use Rattle.table.specs.Rows.{row_of, key_of, cells_of, blank, end_row, Proper}
use Rattle.table.specs.Table.{size, place, row_at, view, stored, hint_place, inserted, ended, zeros, Tied, nth}
use Rattle.table.specs.declared.row.Row.{Row}
use Rattle.table.proofs.Lists.{length-tabulate, get_d_tabulate, part-replicate}
use Rattle.table.proofs.Parts.{length-put, put_same, put-before, put-after, getD-put-before}
use Rattle.table.proofs.Packing.{packed, proper_row_of, proper_end, key_listed}

-- ---- lengths

pub length-stored : (t : List ℕ) (k i : ℕ) (r : Row) → length (stored t k i r) ≡ length t
unfolding stored
length-stored t k i r =
    split (λ (l : List ℕ). length l ≡ length t) (leb (place k i + 6) (length t))
    (λ e. length-put (set t i (key_of r)) (cells_of r) (place k i) (omega (arith, leb-true (place k i + 6) (length t) e, length-set t i (key_of r))) ∙ length-set t i (key_of r))
    (λ e. refl)

pub length_inserted : (t : List ℕ) (k i : ℕ) (r : Row) → length (inserted t k i r) ≡ length t
unfolding inserted
length_inserted t k i r =
    either (λ (l : List ℕ). length l ≡ length t) (ltb i k) (length-set (stored t k i r) (hint_place k r.stream.id) i ∙ length-stored t k i r) refl

pub length-ended : (t : List ℕ) (k n : ℕ) → length (ended t k n) ≡ length t
unfolding ended
length-ended t k zero = refl
length-ended t k (suc n) = length-stored (ended t k n) k n (end_row (row_at (ended t k n) k n)) ∙ length-ended t k n

pub ended_more : (t : List ℕ) (k n : ℕ) → ended t k (n + 1) ≡ stored (ended t k n) k n (end_row (row_at (ended t k n) k n))
unfolding ended
ended_more t k n = rw (add-one)

-- ---- the view

pub length-view : (t : List ℕ) (k : ℕ) → length (view t k) ≡ k
unfolding view
length-view t k = length-tabulate k (row_at t k)

pub nth-view : (t : List ℕ) (k i : ℕ) → i < k → nth (view t k) i ≡ row_at t k i
unfolding view
nth-view t k i h = get_d_tabulate k (row_at t k) i blank h

-- whatever the cells are
pub proper_row : (t : List ℕ) (k i : ℕ) → Proper (row_at t k i)
unfolding row_at
proper_row t k i = either Proper (leb (place k i + 6) (length t)) (proper_row_of (get_or t i 0) (take 6 (drop (place k i) t))) (proper_row_of 0 [])

-- two tables with the same rows have the same view
pub view_ext : (k : ℕ) (t : List ℕ) (rs : List Row) → length rs ≡ k → ((j : ℕ) → j < k → row_at t k j ≡ nth rs j) → view t k ≡ rs
view_ext k t rs e same =
    ext_get_or blank (view t k) rs (length-view t k ∙ sym e)
    (λ j h. let g : j < k = omega (arith, length-view t k) in nth-view t k j g ∙ same j g)

-- ---- one slot's key and cells

module _ (t : List ℕ) (k i : ℕ) (sized : length t ≡ size k) (below : i < k) where
  reach : leb (place k i + 6) (length t) ≡ true
  reach = le-leb (place k i + 6) (length t) (omega arith)

  pub row_in : row_at t k i ≡ row_of (get_or t i 0) (take 6 (drop (place k i) t))
  unfolding row_at
  row_in = rw reach

  stored-in : (r : Row) → stored t k i r ≡ put (set t i (key_of r)) (place k i) (cells_of r)
  unfolding stored
  stored-in r = rw reach

  pub row-held : (row_at t k i).held ≡ ltb 0 (get_or t i 0)
  row-held = ap (λ (r : Row). r.held) row_in

  pub row_listed : (row_at t k i).listed ≡ ltb 1 (get_or t i 0)
  row_listed = ap (λ (r : Row). r.listed) row_in

module _ (t : List ℕ) (k i : ℕ) (r : Row) (sized : length t ≡ size k) (below : i < k) where
  fits : place k i + 6 ≤ length (set t i (key_of r))
  fits = omega (arith, length-set t i (key_of r))

  pub key-same : get_or (stored t k i r) i 0 ≡ key_of r
  key-same =
      ap (λ (l : List ℕ). get_or l i 0) (stored-in t k i sized below r)
      ∙ getD-put-before (set t i (key_of r)) (cells_of r) (place k i) fits i 0 (omega arith)
      ∙ get_or-set_same t i (key_of r) 0 (omega arith)

  pub key-other : (j : ℕ) → j < k → j ≢ i → get_or (stored t k i r) j 0 ≡ get_or t j 0
  key-other j h n =
      ap (λ (l : List ℕ). get_or l j 0) (stored-in t k i sized below r)
      ∙ getD-put-before (set t i (key_of r)) (cells_of r) (place k i) fits j 0 (omega arith)
      ∙ get_or-set_other t i j (key_of r) 0 n

  cells_same : take 6 (drop (place k i) (stored t k i r)) ≡ cells_of r
  cells_same =
      ap (λ (l : List ℕ). take 6 (drop (place k i) l)) (stored-in t k i sized below r)
      ∙ put_same (set t i (key_of r)) (cells_of r) (place k i) fits

  cells-key : (j : ℕ) → take 6 (drop (place k j) (set t i (key_of r))) ≡ take 6 (drop (place k j) t)
  cells-key j = ap (take 6) (drop-set-lt (place k j) t i (key_of r) (omega arith))

  cells-other : (j : ℕ) → j ≢ i → take 6 (drop (place k j) (stored t k i r)) ≡ take 6 (drop (place k j) t)
  cells-other j n = ap (λ (l : List ℕ). take 6 (drop (place k j) l)) (stored-in t k i sized below r) ∙ go (dec_lt j i) ∙ cells-key j
    where
      go : Dec (j < i) → take 6 (drop (place k j) (put (set t i (key_of r)) (place k i) (cells_of r))) ≡ take 6 (drop (place k j) (set t i (key_of r)))
      go (yes p) = put-before (set t i (key_of r)) (cells_of r) (place k i) fits (place k j) 6 (omega arith)
      go (no p) =
          let g : i < j = let h : j ≡ i → ⊥ = n in omega arith in
          ap (take 6) (put-after (set t i (key_of r)) (cells_of r) (place k i) fits (place k j) (omega arith))

  pub sized-stored : length (stored t k i r) ≡ size k
  sized-stored = length-stored t k i r ∙ sized

  -- load after store at the same slot
  pub row_same : Proper r → row_at (stored t k i r) k i ≡ r
  row_same p = row_in (stored t k i r) k i sized-stored below ∙ rw (key-same, cells_same) (packed r p)

  -- load after store at another slot
  pub row_other : (j : ℕ) → j < k → j ≢ i → row_at (stored t k i r) k j ≡ row_at t k j
  row_other j h n =
      row_in (stored t k i r) k j sized-stored h ∙ rw (key-other j h n, cells-other j n) (sym (row_in t k j sized h))

  -- a store is `set` on the view
  pub view-stored : Proper r → view (stored t k i r) k ≡ set (view t k) i r
  view-stored p = view_ext k (stored t k i r) (set (view t k) i r) (length-set (view t k) i r ∙ length-view t k) (λ j h. go j h (ℕ_discrete j i))
    where
      go : (j : ℕ) → j < k → Dec (j ≡ i) → row_at (stored t k i r) k j ≡ nth (set (view t k) i r) j
      go j h (yes e) =
          rw e (row_same p ∙ sym (get_or-set_same (view t k) i r blank (omega (arith, length-view t k))))
      go j h (no n) = row_other j h n ∙ sym (get_or-set_other (view t k) i j r blank n ∙ nth-view t k j h)

  -- a store keeps keys tied to their rows
  pub tied-stored : Proper r → Tied t k → Tied (stored t k i r) k
  unfolding Tied
  tied-stored p tied j h = go (ℕ_discrete j i)
    where
      go : Dec (j ≡ i) → 1 < get_or (stored t k i r) j 0 → get_or (stored t k i r) j 0 ≡ (row_at (stored t k i r) k j).stream.id.0 + 2
      go (yes e) = rw (e, key-same, row_same p) (key_listed r.listed r.held r.stream.id.0)
      go (no n) = rw (key-other j h n, row_other j h n) (tied j h)

-- ---- hints

-- a hint's cell is between the keys and the rows
pub hint_above : (k : ℕ) (id : StreamId) → k ≤ hint_place k id
hint_above k id = omega arith

pub hint_below : (k : ℕ) (id : StreamId) → 0 < k → hint_place k id < 3 * k
hint_below k id h = omega (arith, mod-lt (id.0 / 2) {m = 2 * k} (omega arith))

-- no key and no row is read from a hint
module _ (t : List ℕ) (k h v : ℕ) (sized : length t ≡ size k) (low : k ≤ h) (high : h < 3 * k) where
  key-hint : (i : ℕ) → i < k → get_or (set t h v) i 0 ≡ get_or t i 0
  key-hint i b = get_or-set_other t h i v 0 (λ e. omega arith)

  row-hint : (i : ℕ) → i < k → row_at (set t h v) k i ≡ row_at t k i
  row-hint i b =
      row_in (set t h v) k i (length-set t h v ∙ sized) b
      ∙ rw (key-hint i b, drop-set-lt (place k i) t h v (omega arith)) (sym (row_in t k i sized b))

  pub view-hint : view (set t h v) k ≡ view t k
  view-hint = view_ext k (set t h v) (view t k) (length-view t k) (λ j b. row-hint j b ∙ sym (nth-view t k j b))

  pub tied-hint : Tied t k → Tied (set t h v) k
  unfolding Tied
  tied-hint tied j b = rw (key-hint j b, row-hint j b) (tied j b)

module _ (t : List ℕ) (k i : ℕ) (r : Row) (sized : length t ≡ size k) (below : i < k) (proper : Proper r) where
  inserted-in : inserted t k i r ≡ set (stored t k i r) (hint_place k r.stream.id) i
  unfolding inserted
  inserted-in = rw (lt-ltb i k below)

  -- an insert is `set` on the view
  pub view-inserted : view (inserted t k i r) k ≡ set (view t k) i r
  view-inserted =
      ap (λ (l : List ℕ). view l k) inserted-in
      ∙ view-hint (stored t k i r) k (hint_place k r.stream.id) i (sized-stored t k i r sized below) (hint_above k r.stream.id) (hint_below k r.stream.id (omega arith))
      ∙ view-stored t k i r sized below proper

  pub tied-inserted : Tied t k → Tied (inserted t k i r) k
  tied-inserted tied =
      subst (λ (l : List ℕ). Tied l k) (sym inserted-in)
      (tied-hint (stored t k i r) k (hint_place k r.stream.id) i (sized-stored t k i r sized below) (hint_above k r.stream.id) (hint_below k r.stream.id (omega arith))
      (tied-stored t k i r sized below proper tied))

-- ---- a table of zeros

module _ (k : ℕ) where
  pub sized-init : length (zeros (size k)) ≡ size k
  sized-init = length-replicate {A = ℕ} (size k) 0

  row-init : (i : ℕ) → i < k → row_at (zeros (size k)) k i ≡ blank
  row-init i h =
      row_in (zeros (size k)) k i sized-init h
      ∙ rw (get_or-replicate {A = ℕ} (size k) i 0 0 (omega arith), part-replicate {A = ℕ} (place k i) 6 (size k) 0 (omega arith))

  pub view-init : view (zeros (size k)) k ≡ replicate k blank
  view-init =
      view_ext k (zeros (size k)) (replicate k blank) (length-replicate k blank)
      (λ j h. row-init j h ∙ sym (get_or-replicate k j blank blank h))

  pub tied-init : Tied (zeros (size k)) k
  unfolding Tied
  tied-init i h l = absurd (omega (arith, get_or-replicate {A = ℕ} (size k) i 0 0 (omega arith)))

-- ---- the end of a connection

module _ (t : List ℕ) (k : ℕ) (sized : length t ≡ size k) where
  sized-ended : (n : ℕ) → length (ended t k n) ≡ size k
  sized-ended n = length-ended t k n ∙ sized

  proper-last : (n : ℕ) → Proper (end_row (row_at (ended t k n) k n))
  proper-last n = proper_end (row_at (ended t k n) k n) (proper_row (ended t k n) k n)

  -- the rows not reached yet
  row-after : (n j : ℕ) → n ≤ j → j < k → row_at (ended t k n) k j ≡ row_at t k j
  unfolding ended
  row-after zero j h b = refl
  row-after (suc n) j h b =
      row_other (ended t k n) k n (end_row (row_at (ended t k n) k n)) (sized-ended n) (omega arith) j b (λ e. omega arith)
      ∙ row-after n j (omega arith) b

  row-ended : (n j : ℕ) → n ≤ k → j < n → row_at (ended t k n) k j ≡ end_row (row_at t k j)
  unfolding ended
  row-ended zero j h b = absurd (omega arith)
  row-ended (suc n) j h b = go (ℕ_discrete j n) (row-ended n j (omega arith))
    where
      go : Dec (j ≡ n) → (j < n → row_at (ended t k n) k j ≡ end_row (row_at t k j))
          → row_at (stored (ended t k n) k n (end_row (row_at (ended t k n) k n))) k j ≡ end_row (row_at t k j)
      go (yes e) before =
          rw e (row_same (ended t k n) k n (end_row (row_at (ended t k n) k n)) (sized-ended n) (omega arith) (proper-last n) ∙ ap end_row (row-after n n (omega arith) (omega arith)))
      go (no m) before =
          row_other (ended t k n) k n (end_row (row_at (ended t k n) k n)) (sized-ended n) (omega arith) j (omega arith) m
          ∙ before (let q : j ≡ n → ⊥ = m in omega arith)

  -- the end is `end_row` on every row of the view
  pub view-ended : view (ended t k k) k ≡ map end_row (view t k)
  view-ended =
      view_ext k (ended t k k) (map end_row (view t k)) (length-map (view t k) end_row ∙ length-view t k)
      (λ j h. row-ended k j (omega arith) h ∙ ap end_row (sym (nth-view t k j h)) ∙ sym (get_or-map end_row (view t k) j blank))

  pub tied-ended : Tied t k → (n : ℕ) → n ≤ k → Tied (ended t k n) k
  unfolding ended
  tied-ended tied zero h = tied
  tied-ended tied (suc n) h =
      tied-stored (ended t k n) k n (end_row (row_at (ended t k n) k n)) (sized-ended n) (omega arith) (proper-last n) (tied-ended tied n (omega arith))
