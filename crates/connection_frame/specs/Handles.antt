-- What the handling of a frame promises, on every input and from a valid state.
use Rattle.std.specs.Prelude.{◌≡◌, Bool, true, false, cond, List, ℕ, length, eqb, Result, Ok, Err}
use Rattle.frame.specs.declared.header.Header.{Header}
use Rattle.frame.specs.declared.header.HeaderDecodeError.{HeaderDecodeError}
use Rattle.frame.specs.declared.header.HeaderDecodeError.TheVariants as found
use Rattle.rules.specs.State.{Conn, find}
use Rattle.rules.specs.Ending.{Effect, refuse, end}
use Rattle.rules.specs.Frames.{frame_rules, ping_rules, body_length, on_header}
use Rattle.rules.specs.declared.Reply.TheVariants as reply
use Rattle.table.specs.declared.row.Row.{Row}
use Rattle.handlers.specs.Perform.{waits_on, of_stream}
use Rattle.handlers.specs.declared.Action.{Action}
use Rattle.handlers.specs.declared.Action.TheVariants as action
use Rattle.handlers.specs.declared.Answer.{Answer}
use Rattle.memory.specs.Moves.{Stores, Feeds, Makes}
use Rattle.memory.specs.declared.Memory.{Memory}
use Rattle.connection.specs.Parts.{rebuilt, answered}
use Rattle.connection.specs.Promises as connection
use Rattle.connection.specs.Promises.{bare_answer, Handles}
use Rattle.connection.specs.declared.Connection.{Connection}
use Rattle.connection.specs.declared.Done.{Done}
use Rattle.connection.specs.declared.Applied.{Applied}

-- ---- an action

-- memory as it was, and this answer
abbrev pub Leaves : Memory → List ℕ → List ℕ → List ℕ → Answer → Applied → List ℕ → List ℕ → List ℕ → Type 0
Leaves m t l p o r t' l' p' = (r ≡ record { memory = m; answer = o }) × (t' ≡ t) × (l' ≡ l) × (p' ≡ p)

-- each action is one operation on memory, with its answer
abbrev pub Applies : Memory → List ℕ → List ℕ → List ℕ → Row → Action → List ℕ → Applied → List ℕ → List ℕ → List ℕ → Type 0
Applies m t l p row (action.Refuse q) body r t' l' p' = Leaves m t l p (bare_answer q false) r t' l' p'
Applies m t l p row (action.Answer o) body r t' l' p' = Leaves m t l p o r t' l' p'
Applies m t l p row (action.Store i s listed o) body r t' l' p' = (r.answer ≡ o) × Stores m t i.0 row s listed r.memory t' × (l' ≡ l) × (p' ≡ p)
Applies m t l p row (action.Queue i s listed o) body r t' l' p' = (r.answer ≡ o) × Feeds m t l p i.0 row s listed body r.memory t' l' p'
Applies m t l p row (action.New i s o) body r t' l' p' = (r.answer ≡ o) × Makes m t l p i.0 s body r.memory t' l' p'

-- the connection over the memory that an action leaves
abbrev pub settled : Connection → Applied → Done
settled c r =
    answered
    (rebuilt c c.rtt c.ended c.next_id (waits_on c.open_wait r.answer) c.growth r.memory)
    r.answer

-- ---- each type of frame

-- a body of the length that the header and its type say
abbrev pub HandlesType : Connection → List ℕ → List ℕ → List ℕ → Header → List ℕ → ℕ → Done → List ℕ → List ℕ → List ℕ → Type 0
HandlesType c t l p h body now d t' l' p' =
    length body ≡ body_length h.tag h.length.0
    → Handles (λ x. frame_rules h.tag x h body (find x.slots h.stream_id) now) c t l p d t' l' p'

abbrev pub HandlesStream : Connection → List ℕ → List ℕ → List ℕ → Header → List ℕ → ℕ → Done → List ℕ → List ℕ → List ℕ → Type 0
HandlesStream c t l p h body now d t' l' p' = of_stream h.tag ≡ true → HandlesType c t l p h body now d t' l' p'

abbrev pub HandlesPing : Connection → List ℕ → Header → ℕ → Done → Type 0
HandlesPing c t h now d = (l p : List ℕ) → Handles (λ x. ping_rules x h now) c t l p d t l p

-- ---- what twelve bytes were found to be

-- "11, 12, 13, the rules below", once the time is in range and the connection has not ended
abbrev pub found_rules : Result Header HeaderDecodeError → Conn → List ℕ → ℕ → Effect
found_rules (Err found.Size) x body now = refuse x reply.Size
found_rules (Err (found.Version v)) x body now = end x reply.Version
found_rules (Err (found.Type n)) x body now = end x reply.Type
found_rules (Ok h) x body now = on_header x h body now

abbrev pub HandlesDecoded : Connection → List ℕ → List ℕ → List ℕ → Result Header HeaderDecodeError → List ℕ → ℕ → Done → List ℕ → List ℕ → List ℕ → Type 0
HandlesDecoded c t l p f body now d t' l' p' = Handles (λ x. found_rules f x body now) c t l p d t' l' p'

-- ---- the call

-- whether all that is lent has its size, the frame's header among it
abbrev pub sized : Connection → ℕ → ℕ → ℕ → ℕ → ℕ → Bool
sized c t l p sent head = cond (connection.sized c t l p sent) (eqb head 12) false
