-- What each operation does to the slots that valid memory holds. On any other contents it is safe and ends. `row` is what the slot holds before.
use Rattle.std.specs.Prelude.{◌≡◌, Bool, true, false, cond, List, ◌++◌, map, ℕ, ◌+◌, ◌-◌, ◌%◌, min, ◌≤◌, ◌<◌, eqb, length, take, drop, set, replicate}
use Rattle.chunks.specs.Blocks.{BLOCK}
use Rattle.stream.specs.declared.Stream.{Stream}
use Rattle.rules.specs.Lists.{nowhere}
use Rattle.rules.specs.State.{Entry, entry, vacant, find}
use Rattle.rules.specs.Ending.{end_entry}
use Rattle.rules.specs.Frames.{new_entry}
use Rattle.table.specs.Table.{row_at}
use Rattle.table.specs.declared.row.Row.{Row}
use Rattle.memory.specs.Slots.{slots_of, Sized, Valid}
use Rattle.memory.specs.declared.Memory.{Memory}

-- where in its first block a queue starts that started at f with n bytes and has n' now: past the bytes read, and at 0 where none is left
abbrev pub start_of : ℕ → ℕ → ℕ → ℕ
start_of f n n' = cond (eqb n' 0) 0 ((f + (n - n')) % BLOCK)

-- so each queue does
abbrev pub Advances : Memory → List ℕ → Memory → List ℕ → Type 0
Advances m t m' t' =
    (i : ℕ) → i < m'.slots
    → (row_at t' m'.slots i).queue.from
    ≡ start_of (row_at t m.slots i).queue.from (row_at t m.slots i).queue.unread (row_at t' m'.slots i).queue.unread

-- valid again, of the same sizes, each queue past the bytes read of it, and these the slots
pub record Becomes (m : Memory) (t : List ℕ) (es : List Entry) (m' : Memory) (t' l' p' : List ℕ) : Type 0 where
  pub valid : Valid m' t' l' p'
  pub slots : slots_of m' t' l' p' ≡ es
  pub same : (m'.slots ≡ m.slots) × (m'.pool ≡ m.pool)
  pub advances : Advances m t m' t'

-- the entry e at slot i, and every other slot as it was
abbrev pub Moved : Memory → List ℕ → List ℕ → List ℕ → ℕ → Entry → Memory → List ℕ → List ℕ → List ℕ → Type 0
Moved m t l p i e m' t' l' p' = Becomes m t (set (slots_of m t l p) i e) m' t' l' p'

-- the entry with the stream s, in the table or not, and these unread bytes
abbrev pub held : Stream → Bool → List ℕ → Entry
held s listed b = record { held = true; listed = listed; stream = s; bytes = b }

-- s, in the table where b says so, may take the place of the held entry e: its id is e's, and it is in the table only if e was
pub record Follows (e : Entry) (s : Stream) (b : Bool) : Type 0 where
  pub held : e.held ≡ true
  pub id : s.id ≡ e.stream.id
  pub listed : b ≡ true → e.listed ≡ true

-- the stream at slot i is s, its bytes as they were
abbrev pub Stores : Memory → List ℕ → ℕ → Row → Stream → Bool → Memory → List ℕ → Type 0
Stores m t i row s listed m' t' =
    (l p : List ℕ) → row ≡ row_at t m.slots i → Valid m t l p → i < m.slots → Follows (entry (slots_of m t l p) i) s listed
    → Moved m t l p i (held s listed (entry (slots_of m t l p) i).bytes) m' t' l p

-- the stream at slot i is s, with b after its bytes
abbrev pub Feeds : Memory → List ℕ → List ℕ → List ℕ → ℕ → Row → Stream → Bool → List ℕ → Memory → List ℕ → List ℕ → List ℕ → Type 0
Feeds m t l p i row s listed b m' t' l' p' =
    row ≡ row_at t m.slots i → Valid m t l p → i < m.slots → Follows (entry (slots_of m t l p) i) s listed → m.unread + length b ≤ m.pool
    → Moved m t l p i (held s listed ((entry (slots_of m t l p) i).bytes ++ b)) m' t' l' p'

-- the stream at slot i is s, its oldest n bytes moved to the front of out, which is else as it was
pub record Drained (m : Memory) (t l p : List ℕ) (i : ℕ) (s : Stream) (out : List ℕ) (n : ℕ) (m' : Memory) (t' l' out' : List ℕ) : Type 0 where
  pub gave : out' ≡ take n (entry (slots_of m t l p) i).bytes ++ drop n out
  pub moved : Moved m t l p i (held s (entry (slots_of m t l p) i).listed (drop n (entry (slots_of m t l p) i).bytes)) m' t' l' p

abbrev pub Drains : Memory → List ℕ → List ℕ → List ℕ → ℕ → Row → Stream → List ℕ → Memory → List ℕ → List ℕ → List ℕ → Type 0
Drains m t l p i row s out m' t' l' out' =
    row ≡ row_at t m.slots i → Valid m t l p → i < m.slots → Follows (entry (slots_of m t l p) i) s (entry (slots_of m t l p) i).listed
    → Drained m t l p i s out (min (length out) (length (entry (slots_of m t l p) i).bytes)) m' t' l' out'

-- a new stream takes the free slot i, with b queued; no stream in the table has its id
abbrev pub Makes : Memory → List ℕ → List ℕ → List ℕ → ℕ → Stream → List ℕ → Memory → List ℕ → List ℕ → List ℕ → Type 0
Makes m t l p i s b m' t' l' p' =
    Valid m t l p → i < m.slots → (entry (slots_of m t l p) i).held ≡ false → find (slots_of m t l p) s.id ≡ nowhere
    → m.unread + length b ≤ m.pool
    → Moved m t l p i (new_entry s b) m' t' l' p'

-- the slot is free, and its bytes are room again
abbrev pub Frees : Memory → List ℕ → List ℕ → ℕ → Row → Memory → List ℕ → List ℕ → Type 0
Frees m t l i row m' t' l' =
    (p : List ℕ) → row ≡ row_at t m.slots i → Valid m t l p → i < m.slots → (entry (slots_of m t l p) i).held ≡ true → Moved m t l p i vacant m' t' l' p

-- 01: "Ending empties the table, makes each stream in it Closed, clears all waits; held handles and unread bytes stay."
abbrev pub Ends : Memory → List ℕ → Memory → List ℕ → Type 0
Ends m t m' t' = (l p : List ℕ) → Valid m t l p → Becomes m t (map end_entry (slots_of m t l p)) m' t' l p

-- memory laid out anew, for K slots and P bytes: K free slots
pub record Starts (K P : ℕ) (m : Memory) (t l : List ℕ) : Type 0 where
  pub slots : m.slots ≡ K
  pub pool : m.pool ≡ P
  pub valid : (p : List ℕ) → Sized m t l p → Valid m t l p
  pub vacant : (p : List ℕ) → Sized m t l p → slots_of m t l p ≡ replicate K vacant
