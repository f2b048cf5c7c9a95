-- The table of K slots: K keys, 2 × K hints, then K rows of six cells.
use Rattle.std.specs.Prelude.{true, cond, List, [], ◌∷◌, ◌≡◌, ℕ, zero, suc, ◌+◌, ◌*◌, ◌/◌, ◌%◌, ◌<◌, ltb, leb, eqb, length, get_or, take, drop, set, replicate, Option, Some, None}
use Rattle.frame.specs.declared.header.StreamId.{StreamId}
use Rattle.chunks.specs.Blocks.{put}
use Rattle.rules.specs.Lists.{first, sum}
use Rattle.rules.specs.State.{one, found_of}
use Rattle.rules.specs.declared.Mode.{Mode}
use Rattle.table.specs.Rows.{low, row_of, key_of, cells_of, blank, is_unacknowledged, end_row}
use Rattle.table.specs.declared.row.Row.{Row}
use Rattle.rules.specs.declared.Slot.{Slot}

-- the cells of K slots
abbrev pub size : ℕ → ℕ
size k = 9 * k

-- where slot i's row starts
abbrev pub place : ℕ → ℕ → ℕ
place k i = 3 * k + 6 * i

-- f 0, f 1, .. as many as n
abbrev pub tabulate : {A : Type 0} → ℕ → (ℕ → A) → List A
tabulate zero f = []
tabulate (suc n) f = f 0 ∷ tabulate n (λ i. f (suc i))

-- n cells of 0
abbrev pub zeros : ℕ → List ℕ
zeros n = replicate n 0

-- Slot i's row: what its key and its six cells say. Where the table ends before them, a slot that is not in use.
unfoldable pub row_at : List ℕ → ℕ → ℕ → Row
row_at t k i = cond (leb (place k i + 6) (length t)) (row_of (get_or t i 0) (take 6 (drop (place k i) t))) blank

-- the K rows
unfoldable pub view : List ℕ → ℕ → List Row
view t k = tabulate k (row_at t k)

-- The table with r at slot i, its key and its six cells. Where the table ends before them, the table as it was.
unfoldable pub stored : List ℕ → ℕ → ℕ → Row → List ℕ
stored t k i r = cond (leb (place k i + 6) (length t)) (put (set t i (key_of r)) (place k i) (cells_of r)) t

-- where the hint of an id is
abbrev pub hint_place : ℕ → StreamId → ℕ
hint_place k id = k + id.0 / 2 % (2 * k)

-- the slot that the hint of an id says, which may be any
abbrev pub hinted : List ℕ → ℕ → StreamId → ℕ
hinted t k id = cond (ltb 0 k) (low (get_or t (hint_place k id) 0)) 0

-- The table with r at slot i, and the hint of r's id set to i. A slot that is not below K leaves the table as it was.
unfoldable pub inserted : List ℕ → ℕ → ℕ → Row → List ℕ
inserted t k i r = cond (ltb i k) (set (stored t k i r) (hint_place k r.stream.id) i) t

-- The table with the rows of the first n slots ended, one after the other.
unfoldable pub ended : List ℕ → ℕ → ℕ → List ℕ
ended t k zero = t
ended t k (suc n) = stored (ended t k n) k n (end_row (row_at (ended t k n) k n))

-- ---- searches and counts

-- the first of the K keys that is this one
unfoldable pub scanned : List ℕ → ℕ → ℕ → Option Slot
scanned t k key = found_of (first (λ c. eqb c key) (take k t))

-- 01: "the lowest free one is taken"
abbrev pub lowest_free : List ℕ → ℕ → Option Slot
lowest_free t k = scanned t k 0

-- A slot whose key is the id's; or no key is. With ids of listed rows distinct this is one answer (proofs/Searches, `found`).
abbrev pub Finds : List ℕ → ℕ → StreamId → Option Slot → Type 0
Finds t k id (Some s) = (s.0 < k) × (get_or t s.0 0 ≡ id.0 + 2)
Finds t k id None = (i : ℕ) → i < k → get_or t i 0 ≡ id.0 + 2 → ⊥

-- 01: "own-parity streams Open and unacknowledged"
unfoldable pub unacknowledged : List ℕ → ℕ → Mode → ℕ
unacknowledged t k m = sum (λ r. one (is_unacknowledged m r)) (view t k)

-- ---- what stores keep

-- the key of a row in the table is its id's
unfoldable pub Tied : List ℕ → ℕ → Type 0
Tied t k = (i : ℕ) → i < k → 1 < get_or t i 0 → get_or t i 0 ≡ (row_at t k i).stream.id.0 + 2

abbrev pub nth : List Row → ℕ → Row
nth rs i = get_or rs i blank

-- no two rows in the table have one id
unfoldable pub Distinct : List Row → Type 0
Distinct rs =
    (i j : ℕ) → i < length rs → j < length rs → (nth rs i).listed ≡ true → (nth rs j).listed ≡ true
    → (nth rs i).stream.id.0 ≡ (nth rs j).stream.id.0 → i ≡ j
