-- What the parts of a drop do.
use Rattle.std.specs.Prelude.{◌≡◌, false, List, ℕ, Option, Some, None}
use Rattle.rules.specs.State.{entry}
use Rattle.rules.specs.Calls.{drop_rules}
use Rattle.rules.specs.declared.Slot.{Slot}
use Rattle.rules.specs.declared.Reply.TheVariants as reply
use Rattle.table.specs.Table.{row_at}
use Rattle.table.specs.declared.row.Row.{Row}
use Rattle.handlers.specs.Locals.{slot_answer, on_drop}
use Rattle.memory.specs.Moves.{Stores}
use Rattle.memory.specs.declared.Memory.{Memory}
use Rattle.connection.specs.Parts.{Holds}
use Rattle.connection.specs.Promises.{Handles}
use Rattle.connection.specs.declared.Connection.{Connection}
use Rattle.connection.specs.declared.Done.{Done}
use Rattle.connection.specs.declared.Applied.{Applied}

-- 01: "removes from the table whichever stream has that id, making it Closed": the one found, for the handle at slot i
abbrev pub Removes : Memory → List ℕ → Slot → Option Slot → Applied → List ℕ → Type 0
Removes m t i None r t' = (r ≡ record { memory = m; answer = slot_answer i reply.Done None None }) × (t' ≡ t)
Removes m t i (Some j) r t' =
    let row = row_at t m.slots j.0 in
    (r.answer ≡ (on_drop i row.stream).answer) × Stores m t j.0 row (on_drop i row.stream).stream false r.memory t'

-- the rules of a drop, for a handle that is held
abbrev pub Releases : Connection → List ℕ → List ℕ → Slot → Row → Done → List ℕ → List ℕ → Type 0
Releases c t l i row d t' l' =
    Holds c t i.0 row → (p : List ℕ) → Handles (λ x. drop_rules x i.0 (entry x.slots i.0)) c t l p d t' l' p
