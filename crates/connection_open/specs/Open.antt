-- What opening a stream promises. Sentences are document 01's.
use Rattle.std.specs.Prelude.{◌≡◌, false, List, ℕ, ◌+◌, ◌<◌, Some, None}
use Rattle.stream.specs.declared.Stream.{Stream}
use Rattle.rules.specs.Replies.{no_wakes, leaves_all}
use Rattle.rules.specs.State.{entry}
use Rattle.rules.specs.declared.Reply.TheVariants as reply
use Rattle.rules.specs.declared.Slot.{Slot}
use Rattle.table.specs.Table.{lowest_free, unacknowledged}
use Rattle.handlers.specs.Locals.{open_action, perform_open}
use Rattle.handlers.specs.declared.Answer.{Answer}
use Rattle.handlers.specs.declared.Opening.{Opening}
use Rattle.handlers.specs.declared.Opening.TheVariants as opening
use Rattle.memory.specs.Slots.{slots_of}
use Rattle.connection.specs.Abstract.{Valid}
use Rattle.connection.specs.Promises.{Handles}
use Rattle.connection.specs.declared.Connection.{Connection}
use Rattle.connection.specs.declared.Done.{Done}

-- what the open does, by the counts and the table's cells
abbrev pub decided : Connection → List ℕ → ℕ → Opening
decided c t now =
    open_action c.memory.listed c.config.max_num_streams (unacknowledged t c.memory.slots c.config.mode) c.next_id
    (lowest_free t c.memory.slots) now

-- the answer that gives a new stream's slot and id
abbrev pub opened : Slot → ℕ → Answer
opened i id = record { reply = reply.Done; slot = Some i; value = Some id; sent = None; wakes = no_wakes }

-- the stream may be made in slot i: the slot is free, its id is the next one, and two more comes after it
pub record Opens (c : Connection) (t l p : List ℕ) (i : ℕ) (s : Stream) (after : ℕ) : Type 0 where
  pub below : i < c.memory.slots
  pub free : (entry (slots_of c.memory t l p) i).held ≡ false
  pub id : s.id ≡ record { 0 = c.next_id }
  pub next : after ≡ c.next_id + 2

-- what a valid state lets an open do
abbrev pub Fits : Connection → List ℕ → List ℕ → List ℕ → Opening → Type 0
Fits c t l p (opening.End r) = Unit {0}
Fits c t l p opening.Wait = Unit {0}
Fits c t l p (opening.Refuse r) = Unit {0}
Fits c t l p (opening.New i s after) = Opens c t l p i.0 s after

-- an end is no refusal
abbrev pub Sound : Opening → Type 0
Sound (opening.End r) = leaves_all r ≡ false
Sound opening.Wait = Unit {0}
Sound (opening.Refuse r) = Unit {0}
Sound (opening.New i s after) = Unit {0}

-- what the opening says is performed, where a valid state lets it
abbrev pub Acts : Connection → List ℕ → List ℕ → List ℕ → Opening → Done → List ℕ → List ℕ → List ℕ → Type 0
Acts c t l p o d t' l' p' = Sound o → (Valid c t l p → Fits c t l p o) → Handles (λ x. perform_open x o) c t l p d t' l' p'
