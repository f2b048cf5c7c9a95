-- The states of a stream. Sentences are document 01's.
use Rattle.std.specs.Prelude.{Bool, true, false, cond}
use Rattle.stream.specs.declared.State.{State}
use Rattle.stream.specs.declared.State.TheVariants.{Open, SendClosed, RecvClosed, Closed}

-- "State changes: Open to whatever is next; RecvClosed and SendClosed to Closed by each other or by Closed; Closed stays;
-- the rest no change."
abbrev pub change : State → State → State
change (Open a) next = next
change SendClosed (Open a) = SendClosed
change SendClosed SendClosed = SendClosed
change SendClosed RecvClosed = Closed
change SendClosed Closed = Closed
change RecvClosed (Open a) = RecvClosed
change RecvClosed SendClosed = Closed
change RecvClosed RecvClosed = RecvClosed
change RecvClosed Closed = Closed
change Closed next = Closed

-- "the window update if the state is Open or SendClosed"; "done with 0 in RecvClosed or Closed, else wait"
abbrev pub can_read : State → Bool
can_read (Open a) = true
can_read SendClosed = true
can_read RecvClosed = false
can_read Closed = false

-- "state SendClosed or Closed, 6"
abbrev pub can_write : State → Bool
can_write (Open a) = true
can_write SendClosed = false
can_write RecvClosed = true
can_write Closed = false

abbrev pub is_closed : State → Bool
is_closed (Open a) = false
is_closed SendClosed = false
is_closed RecvClosed = false
is_closed Closed = true

-- "Open and unacknowledged"
abbrev pub is_pending_ack : State → Bool
is_pending_ack (Open true) = false
is_pending_ack (Open false) = true
is_pending_ack SendClosed = false
is_pending_ack RecvClosed = false
is_pending_ack Closed = false

-- "with ACK, a known stream goes to Open acknowledged if it is Open"
abbrev pub acknowledge : State → State
acknowledge s = change s (Open true)

-- "FIN (next state RecvClosed)"
abbrev pub finish : Bool → State → State
finish fin s = cond fin (change s RecvClosed) s
