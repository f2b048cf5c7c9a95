-- What the call of an event promises from a valid state: the rules' step, and what its line shows of lent output.
use Rattle.std.specs.Prelude.{◌≡◌, Bool, false, cond, List, ℕ, ltb, eqb, length, take, Option}
use Rattle.rules.specs.Replies.{count_of}
use Rattle.rules.specs.Step.{Call, step}
use Rattle.connection.specs.Abstract.{abs_of, Valid}
use Rattle.connection.specs.Promises as connection
use Rattle.connection.specs.Promises.{Follows, sent_after}
use Rattle.connection.specs.declared.Connection.{Connection}
use Rattle.connection.specs.declared.Done.{Done}
use Rattle.trace_events.specs.Calls.{call_on}
use Rattle.trace_events.specs.declared.Event.{Event}
use Rattle.trace_events.specs.declared.Kind.{Kind}
use Rattle.trace_events.specs.declared.Kind.TheVariants.{Tick, Frame, Open, Read, Write, Close, Drop, Gone}

-- the slot of this number, or one above every K: both are not held
abbrev pub slot_of : ℕ → ℕ
slot_of n = cond (ltb 4294967295 n) 4294967295 n

-- how many bytes read the line of an event shows: those that a read's value counts; no other call reads
abbrev pub bytes_read : Kind → Option ℕ → ℕ
bytes_read (Read slot count) v = count_of v
bytes_read Tick v = 0
bytes_read (Frame head body) v = 0
bytes_read Open v = 0
bytes_read (Write slot start) v = 0
bytes_read (Close slot) v = 0
bytes_read (Drop slot) v = 0
bytes_read Gone v = 0

-- the rules' step, its header in the twelve lent bytes, and the n bytes that it read at the start of the lent output
pub record Applied (c : Connection) (t l p sent : List ℕ) (x : Call) (n : ℕ) (d : Done) (t' l' p' sent' bytes' : List ℕ) : Type 0 where
  pub follows : Follows c t l p (step (abs_of c t l p) x) d t' l' p'
  pub header : sent' ≡ sent_after d.answer.sent sent
  pub bytes : take n bytes' ≡ (step (abs_of c t l p) x).outcome.bytes
  pub all : n ≡ length (step (abs_of c t l p) x).outcome.bytes

-- the call that an event stands for is applied, from a valid state and with twelve bytes for a header
abbrev pub Applies : Connection → List ℕ → List ℕ → List ℕ → List ℕ → List ℕ → Event → Done → List ℕ → List ℕ → List ℕ → List ℕ → List ℕ → Type 0
Applies c t l p sent s e d t' l' p' sent' bytes' =
    Valid c t l p → length sent ≡ 12 → Applied c t l p sent (call_on s e) (bytes_read e.kind d.answer.value) d t' l' p' sent' bytes'

-- all that calls test of what is lent, and room for 16,384 bytes read
abbrev pub sized : Connection → ℕ → ℕ → ℕ → ℕ → ℕ → Bool
sized c t l p sent bytes = cond (connection.sized c t l p sent) (eqb bytes 16384) false
