-- A connection built anew, what is left of one by a ping, and what stands before a call's rule.
use Rattle.std.specs.Prelude.{◌≡◌, Bool, true, false, cond, List, ℕ, ◌<◌, ltb, leb, Result, Ok, Err, ⊤}
use Rattle.rtt.specs.declared.Rtt.{Rtt}
use Rattle.rules.specs.Settings.{last_time}
use Rattle.rules.specs.declared.Reply.TheVariants as reply
use Rattle.table.specs.Table.{row_at}
use Rattle.table.specs.declared.row.Row.{Row}
use Rattle.handlers.specs.declared.Answer.{Answer}
use Rattle.handlers.specs.declared.PingStep.{PingStep}
use Rattle.memory.specs.declared.Memory.{Memory}
use Rattle.connection.specs.declared.Connection.{Connection}
use Rattle.connection.specs.declared.Done.{Done}
use Rattle.rules.specs.declared.Reply.{Reply}

-- the connection with these parts; its settings stay
abbrev pub rebuilt : Connection → Rtt → Bool → ℕ → Bool → ℕ → Memory → Connection
rebuilt c r ended next wait growth m = record {
  config = c.config;
  rtt = r;
  ended = ended;
  next_id = next;
  open_wait = wait;
  growth = growth;
  memory = m;
}

abbrev pub with_memory : Connection → Memory → Connection
with_memory c m = rebuilt c c.rtt c.ended c.next_id c.open_wait c.growth m

abbrev pub answered : Connection → Answer → Done
answered c a = record { connection = c; answer = a }

-- the pings after a tick or a Ping frame, and what it answers
abbrev pub pinged : Connection → PingStep → Done
pinged c q = answered (rebuilt c q.rtt c.ended c.next_id c.open_wait c.growth c.memory) q.answer

-- a call goes on to its rule
abbrev pub goes_on : Result ⊤ Reply
goes_on = Ok tt

-- 14, "tested first in every call"; then "10, 5 (ended)": a time above 2^62-1, and next a connection that has ended
abbrev pub gate_of : Bool → Bool → ℕ → Result ⊤ Reply
gate_of sized ended now =
    cond sized
    (cond (ltb last_time now) (Err reply.Time) (cond ended (Err reply.Closed) goes_on))
    (Err reply.Size)

-- "handle not held"
abbrev pub held_in : ℕ → List ℕ → ℕ → Result Row Reply
held_in k t i = cond (leb k i) (Err reply.NotHeld) (cond (row_at t k i).held (Ok (row_at t k i)) (Err reply.NotHeld))

-- "Others: 10, 9, then the rules": an ended connection refuses no call on a handle (B7)
abbrev pub behind : Result ⊤ Reply → Result Row Reply → Result Row Reply
behind (Err r) h = Err r
behind (Ok _) h = h

abbrev pub handle_of : Bool → ℕ → List ℕ → ℕ → ℕ → Result Row Reply
handle_of sized k t i now = behind (gate_of sized false now) (held_in k t i)

-- slot i is held, and its row is `row`
pub record Holds (c : Connection) (t : List ℕ) (i : ℕ) (row : Row) : Type 0 where
  pub loaded : row ≡ row_at t c.memory.slots i
  pub below : i < c.memory.slots
  pub held : row.held ≡ true
