-- What a read promises, on every input and from a valid state.
use Rattle.std.specs.Prelude.{◌≡◌, Bool, true, false, List, ℕ, ◌≤◌, ◌<◌, length, drop}
use Rattle.stream.specs.Streams.{send_window_update}
use Rattle.rules.specs.State.{Conn, entry}
use Rattle.rules.specs.Ending.{Effect}
use Rattle.rules.specs.Calls.{read_rules}
use Rattle.rules.specs.Step.{step, read}
use Rattle.rules.specs.declared.Slot.{Slot}
use Rattle.table.specs.Table.{row_at}
use Rattle.table.specs.declared.row.Row.{Row}
use Rattle.handlers.specs.Locals.{on_read, perform_read}
use Rattle.handlers.specs.declared.ReadStep.{ReadStep}
use Rattle.memory.specs.Moves as memory
use Rattle.memory.specs.Slots.{slots_of}
use Rattle.connection.specs.Abstract.{abs_of, Valid}
use Rattle.connection.specs.Parts.{Holds}
use Rattle.connection.specs.Promises.{sent_after, out_after, Silent, Handles}
use Rattle.rules.specs.Replies.{count_of, may_give}
use Rattle.connection.specs.declared.Connection.{Connection}
use Rattle.connection.specs.declared.Done.{Done}

-- "replies but 0, 1 and 2 give neither": no bytes
abbrev pub Quiet : Done → Type 0
Quiet d = may_give d.answer.reply ≡ false → count_of d.answer.value ≡ 0

-- 01: "Lent output changes only in the bytes read and in the 12 of a header given; replies but 0, 1 and 2 give neither."
pub record Outputs (sized : Bool) (c : Connection) (t l p : List ℕ) (time i : ℕ) (out sent : List ℕ) (d : Done) (out' sent' : List ℕ) : Type 0 where
  pub bytes : sized ≡ true → Valid c t l p → out' ≡ out_after (step (abs_of c t l p) (read time i (length out))).outcome.bytes out
  pub within : count_of d.answer.value ≤ length out
  pub past : drop (count_of d.answer.value) out' ≡ drop (count_of d.answer.value) out
  pub quiet : Quiet d
  pub header : sent' ≡ sent_after d.answer.sent sent
  pub silent : Silent d

-- ---- the parts

-- a rule that is handled, with its bytes; and nothing past the bytes read changes
pub record Reads (rule : Conn → Effect) (c : Connection) (t l p out : List ℕ) (d : Done) (t' l' out' : List ℕ) : Type 0 where
  pub handles : Handles rule c t l p d t' l' p
  pub bytes : Valid c t l p → out' ≡ out_after (rule (abs_of c t l p)).outcome.bytes out
  pub within : count_of d.answer.value ≤ length out
  pub past : drop (count_of d.answer.value) out' ≡ drop (count_of d.answer.value) out
  pub quiet : Quiet d

-- "first the window update .., then the oldest min(asked, unread) bytes": the step, read off the slot's row
abbrev pub step_of : Connection → Slot → Row → ℕ → ℕ → ReadStep
step_of c i row asked time =
    on_read i
    (send_window_update row.stream row.queue.unread time c.rtt.round_trip c.config.limit c.config.max_num_streams c.growth)
    row.queue.unread asked

-- the step may be done at slot i, whose row is `row`
pub record Draws (c : Connection) (t l p : List ℕ) (i : ℕ) (row : Row) (s : ReadStep) : Type 0 where
  pub loaded : row ≡ row_at t c.memory.slots i
  pub below : i < c.memory.slots
  pub follows : memory.Follows (entry (slots_of c.memory t l p) i) s.stream (entry (slots_of c.memory t l p) i).listed
  pub unread : count_of s.answer.value ≤ length (entry (slots_of c.memory t l p) i).bytes

abbrev pub Takes : Connection → List ℕ → List ℕ → List ℕ → ℕ → Row → ReadStep → List ℕ → Done → List ℕ → List ℕ → List ℕ → Type 0
Takes c t l p i row s out d t' l' out' =
    may_give s.answer.reply ≡ true → (Valid c t l p → Draws c t l p i row s)
    → Reads (λ x. perform_read x (record { 0 = i }) (entry x.slots i) s) c t l p out d t' l' out'

-- the rule of a read from slot i
abbrev pub rule_of : Conn → ℕ → ℕ → ℕ → Effect
rule_of x i asked time = read_rules x i (entry x.slots i) asked time

abbrev pub ReadsRow : Connection → List ℕ → List ℕ → List ℕ → ℕ → Row → List ℕ → ℕ → Done → List ℕ → List ℕ → List ℕ → Type 0
ReadsRow c t l p i row out time d t' l' out' =
    Holds c t i row → Reads (λ x. rule_of x i (length out) time) c t l p out d t' l' out'
