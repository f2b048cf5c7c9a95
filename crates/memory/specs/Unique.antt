-- What is the same of two memories, whichever blocks their queues have.
use Rattle.std.specs.Prelude.{◌≡◌, true, List, ℕ, ◌<◌}
use Rattle.chunks.specs.Store.{content}
use Rattle.table.specs.Table.{row_at}
use Rattle.table.specs.declared.row.Row.{Row}
use Rattle.memory.specs.declared.Memory.{Memory}

-- two rows say the same of a slot: a held slot's stream, the unread bytes, and where in its first block the queue starts
pub record SameRow (l p : List ℕ) (r : Row) (l' p' : List ℕ) (r' : Row) : Type 0 where
  pub held : r.held ≡ r'.held
  pub listed : r.listed ≡ r'.listed
  pub stream : r.held ≡ true → r.stream ≡ r'.stream
  pub from : r.queue.from ≡ r'.queue.from
  pub unread : r.queue.unread ≡ r'.queue.unread
  pub bytes : content l p r.queue ≡ content l' p' r'.queue

-- Sizes, counts, how many blocks are free, and what every row says. Not so: which blocks a queue has, and in which order others are free.
pub record Alike (m : Memory) (t l p : List ℕ) (m' : Memory) (t' l' p' : List ℕ) : Type 0 where
  pub slots : m.slots ≡ m'.slots
  pub pool : m.pool ≡ m'.pool
  pub listed : m.listed ≡ m'.listed
  pub unread : m.unread ≡ m'.unread
  pub free : m.free.count ≡ m'.free.count
  pub rows : (i : ℕ) → i < m.slots → SameRow l p (row_at t m.slots i) l' p' (row_at t' m'.slots i)
