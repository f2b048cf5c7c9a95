-- The slots that lent memory holds, and when it is valid: what every call leaves.
use Rattle.std.specs.Prelude.{◌≡◌, true, false, cond, List, [], ◌∷◌, map, ℕ, ◌*◌, ◌^◌, ◌≤◌, ◌<◌, length}
use Rattle.chunks.specs.Blocks.{BLOCK, blocks_for}
use Rattle.chunks.specs.Many.{Shared, contents, unreads}
use Rattle.chunks.specs.Store.{none}
use Rattle.chunks.specs.declared.Queue.{Queue}
use Rattle.rules.specs.Lists.{sum}
use Rattle.rules.specs.State.{Entry, vacant, one}
use Rattle.table.specs.Rows.{Proper}
use Rattle.table.specs.Table.{size, row_at, view, Tied, Distinct}
use Rattle.table.specs.declared.row.Row.{Row}
use Rattle.memory.specs.declared.Memory.{Memory}

abbrev pub queues : List Row → List Queue
queues rs = map (λ r. r.queue) rs

-- what a row and its unread bytes say of a slot; of a free slot, nothing
abbrev pub entry_of : Row → List ℕ → Entry
entry_of r b = cond r.held (record { held = true; listed = r.listed; stream = r.stream; bytes = b }) vacant

abbrev pub entries : List Row → List (List ℕ) → List Entry
entries [] bs = []
entries (r ∷ rs) [] = entry_of r [] ∷ entries rs []
entries (r ∷ rs) (b ∷ bs) = entry_of r b ∷ entries rs bs

-- the slots of a table, with the unread bytes that links and pool hold
unfoldable pub slots_of : Memory → List ℕ → List ℕ → List ℕ → List Entry
slots_of m t l p = entries (view t m.slots) (contents l p (queues (view t m.slots)))

-- document 01, "Settings": K is 1..1,024 and P at most 2^32-1; the lent slices have their sizes
pub record Sized (m : Memory) (t l p : List ℕ) : Type 0 where
  pub some : 1 ≤ m.slots
  pub most : m.slots ≤ 1024
  pub pooled : m.pool < 2 ^ 32
  pub table : length t ≡ size m.slots
  pub links : length l ≡ blocks_for m.slots m.pool
  pub bytes : length p ≡ blocks_for m.slots m.pool * BLOCK

-- What every call leaves: keys tied to rows, rows in range, a free slot without a queue, a queue with nothing unread at the start of
-- a block, no id twice in the table, the queues and the free blocks sharing the pool, and the counts equal to their sums.
pub record Valid (m : Memory) (t l p : List ℕ) : Type 0 where
  pub sized : Sized m t l p
  pub tied : Tied t m.slots
  pub proper : (i : ℕ) → i < m.slots → Proper (row_at t m.slots i)
  pub idle : (i : ℕ) → i < m.slots → (row_at t m.slots i).held ≡ false → (row_at t m.slots i).queue ≡ none
  pub empty : (i : ℕ) → i < m.slots → (row_at t m.slots i).queue.unread ≡ 0 → (row_at t m.slots i).queue.from ≡ 0
  pub distinct : Distinct (view t m.slots)
  pub shared : Shared m.slots m.pool l p m.free (queues (view t m.slots))
  pub listed : m.listed ≡ sum (λ (r : Row). one r.listed) (view t m.slots)
  pub unread : m.unread ≡ unreads (queues (view t m.slots))
  pub within : m.unread ≤ m.pool
