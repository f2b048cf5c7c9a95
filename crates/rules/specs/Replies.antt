-- "Numbered replies": the number of each, and what an answer carries.
use Rattle.std.specs.Prelude.{Bool, true, false, List, [], ℕ, Option, Some, None}
use Rattle.rules.specs.declared.Reply.{Reply}
use Rattle.rules.specs.declared.Reply.TheVariants as reply
use Rattle.rules.specs.declared.Woke.{Woke}
use Rattle.rules.specs.declared.Slot.{Slot}
use Rattle.frame.specs.declared.header.Header.{Header}

abbrev pub number : Reply → ℕ
number reply.Done = 0
number reply.Wait = 1
number reply.GoAway = 2
number reply.TooManyStreams = 3
number reply.NoMoreStreamIds = 4
number reply.Closed = 5
number reply.WriteClosed = 6
number reply.NoSlot = 7
number reply.NoRoom = 8
number reply.NotHeld = 9
number reply.Time = 10
number reply.Version = 11
number reply.Type = 12
number reply.Body = 13
number reply.Size = 14

-- How many bytes a read's value counts: none at reply 1, where it is `-`. Contracts and theorems ask it, no rule does.
abbrev pub count_of : Option ℕ → ℕ
count_of (Some n) = n
count_of None = 0

-- "nothing changed": the replies 6 to 10, 13 and 14. Contracts and theorems ask it, no rule does.
abbrev pub leaves_all : Reply → Bool
leaves_all reply.Done = false
leaves_all reply.Wait = false
leaves_all reply.GoAway = false
leaves_all reply.TooManyStreams = false
leaves_all reply.NoMoreStreamIds = false
leaves_all reply.Closed = false
leaves_all reply.WriteClosed = true
leaves_all reply.NoSlot = true
leaves_all reply.NoRoom = true
leaves_all reply.NotHeld = true
leaves_all reply.Time = true
leaves_all reply.Version = false
leaves_all reply.Type = false
leaves_all reply.Body = true
leaves_all reply.Size = true

-- "replies but 0, 1 and 2 give neither". Contracts and theorems ask it, no rule does.
abbrev pub may_give : Reply → Bool
may_give reply.Done = true
may_give reply.Wait = true
may_give reply.GoAway = true
may_give reply.TooManyStreams = false
may_give reply.NoMoreStreamIds = false
may_give reply.Closed = false
may_give reply.WriteClosed = false
may_give reply.NoSlot = false
may_give reply.NoRoom = false
may_give reply.NotHeld = false
may_give reply.Time = false
may_give reply.Version = false
may_give reply.Type = false
may_give reply.Body = false
may_give reply.Size = false

-- All that a call gives: the reply, the slot and the value that its line shows, the header to send and the body that goes
-- with it (the caller's own bytes), who is woken, and the bytes read.
pub record Outcome : Type 0 where
  pub reply : Reply
  pub slot : Option Slot
  pub value : Option ℕ
  pub header : Option Header
  pub body : List ℕ
  pub wakes : Woke
  pub bytes : List ℕ

abbrev pub no_wakes : Woke
no_wakes = record { reader = false; writer = false; opener = false; all = false }

-- an answer of the reply alone: a refusal
abbrev pub bare : Reply → Outcome
bare r = record { reply = r; slot = None; value = None; header = None; body = []; wakes = no_wakes; bytes = [] }

-- "only a when this event ended the connection"
abbrev pub ending : Reply → Outcome
ending r = record {
  reply = r;
  slot = None;
  value = None;
  header = None;
  body = [];
  wakes = record { reader = false; writer = false; opener = false; all = true };
  bytes = [];
}
