-- One stream's part of each rule. Sentences are document 01's.
use Rattle.std.specs.Prelude.{Bool, true, false, cond, ℕ, ◌+◌, ◌-◌, min, eqb, leb, Option, Some, None, Result, Ok, Err}
use Rattle.frame.specs.Header.{data_header, window_update_header, with_syn, with_ack, with_fin, with_rst, close_stream, initial_window}
use Rattle.frame.specs.declared.header.Header.{Header}
use Rattle.frame.specs.declared.header.StreamId.{StreamId}
use Rattle.frame.specs.declared.header.Credit.{Credit}
use Rattle.frame.specs.declared.header.Len.{Len}
use Rattle.flow_control.specs.Windows.{top, fresh, next_window_update, with_send, with_receive, Moved}
use Rattle.flow_control.specs.declared.Due.{Due}
use Rattle.flow_control.specs.declared.InvalidWindowUpdate.{InvalidWindowUpdate}
use Rattle.stream.specs.States.{change, can_read, can_write, acknowledge, finish}
use Rattle.stream.specs.declared.State.{State}
use Rattle.stream.specs.declared.State.TheVariants.{Open, SendClosed, RecvClosed, Closed}
use Rattle.stream.specs.declared.Flag.{Flag}
use Rattle.stream.specs.declared.Flag.TheVariants as owed
use Rattle.stream.specs.declared.Stream.{Stream}
use Rattle.stream.specs.declared.StreamWakes.{StreamWakes}
use Rattle.stream.specs.declared.Woken.{Woken}
use Rattle.stream.specs.declared.Updated.{Updated}
use Rattle.stream.specs.declared.ReadEnd.{ReadEnd}
use Rattle.stream.specs.declared.ReadEnd.TheVariants as reading
use Rattle.stream.specs.declared.Written.{Written}
use Rattle.stream.specs.declared.Written.TheVariants as written
use Rattle.stream.specs.declared.Closing.{Closing}
use Rattle.stream.specs.declared.Dropped.{Dropped}

-- ---- a new stream

-- "A new stream, inbound or own, is Open and unacknowledged, without waits"
abbrev pub made : StreamId → Flag → ℕ → ℕ → Stream
made id flag send now = record { id = id; flag = flag; state = Open false; reader = false; writer = false; flow = fresh send now }

-- inbound: ACK is owed; "WindowUpdate adds its credit to an inbound one's send window"
abbrev pub new_inbound : StreamId → ℕ → ℕ → Stream
new_inbound id send now = made id owed.Ack send now

-- our own: SYN is owed
abbrev pub new_outbound : StreamId → ℕ → Stream
new_outbound id now = made id owed.Syn initial_window now

-- ---- one field changed

abbrev pub with_state : Stream → State → Stream
with_state s t = record { id = s.id; flag = s.flag; state = t; reader = s.reader; writer = s.writer; flow = s.flow }

abbrev pub with_waits : Stream → Bool → Bool → Stream
with_waits s r w = record { id = s.id; flag = s.flag; state = s.state; reader = r; writer = w; flow = s.flow }

abbrev pub wakes : Bool → Bool → StreamWakes
wakes r w = record { reader = r; writer = w }

-- ---- frames received

-- what a frame that is taken leaves: the stream, and who waited
abbrev pub received : Stream → StreamWakes → Result Woken InvalidWindowUpdate
received s w = Ok (record { stream = s; wakes = w })

-- code 1
abbrev pub invalid : Result Woken InvalidWindowUpdate
invalid = Err (record {})

-- "Else the window falls by the body; then FIN (next state RecvClosed), body queued, reader woken."
abbrev pub data_taken : Stream → ℕ → Bool → Stream
data_taken s n fin = record {
  id = s.id;
  flag = s.flag;
  state = finish fin s.state;
  reader = false;
  writer = s.writer;
  flow = with_receive s.flow (s.flow.receive_window - n);
}

-- "Known, Data: body above the receive window, code 1."
abbrev pub on_data : Stream → ℕ → Bool → Result Woken InvalidWindowUpdate
on_data s n fin = cond (leb n s.flow.receive_window) (received (data_taken s n fin) (wakes s.reader false)) invalid

-- "else credit added, FIN (waking the reader), writer woken"
abbrev pub update_taken : Stream → Credit → Bool → Stream
update_taken s c fin = record {
  id = s.id;
  flag = s.flag;
  state = finish fin s.state;
  reader = cond fin false s.reader;
  writer = false;
  flow = with_send s.flow (s.flow.send_window + c.0);
}

-- "WindowUpdate: send window past 2^32-1, code 1"
abbrev pub on_window_update : Stream → Credit → Bool → Result Woken InvalidWindowUpdate
on_window_update s c fin =
    cond (leb (s.flow.send_window + c.0) top)
    (received (update_taken s c fin) (wakes (cond fin s.reader false) s.writer))
    invalid

-- "RST: a known stream becomes Closed, .. reader and writer woken"; ending does the same to each stream in the table
abbrev pub closed : Stream → Stream
closed s = record { id = s.id; flag = s.flag; state = Closed; reader = false; writer = false; flow = s.flow }

abbrev pub reset : Stream → Woken
reset s = record { stream = closed s; wakes = wakes s.reader s.writer }

-- "with ACK, a known stream goes to Open acknowledged if it is Open"
abbrev pub acknowledged : Stream → Stream
acknowledged s = with_state s (acknowledge s.state)

-- ---- frames sent

-- "The first write or window update frame of a stream carries SYN (own) or ACK (inbound, if still owed)"
abbrev pub add_flag : Flag → Header → Header
add_flag owed.None h = h
add_flag owed.Syn h = with_syn h
add_flag owed.Ack h = with_ack h

abbrev pub owes_ack : Flag → Bool
owes_ack owed.None = false
owes_ack owed.Syn = false
owes_ack owed.Ack = true

-- ---- read

-- "Then a WindowUpdate carries due": the frame for what the window step granted
abbrev pub update_frame : Stream → Option Due → Option Header
update_frame s None = None
update_frame s (Some d) = Some (add_flag s.flag (window_update_header s.id d.credit))

-- a flag that was sent is owed no more
abbrev pub flag_after : Option Header → Flag → Flag
flag_after None f = f
flag_after (Some h) f = owed.None

abbrev pub step_taken : Stream → Moved → Updated
step_taken s t = record {
  stream = record {
    id = s.id;
    flag = flag_after (update_frame s t.granted.update) s.flag;
    state = s.state;
    reader = s.reader;
    writer = s.writer;
    flow = t.flow;
  };
  growth = t.granted.growth;
  step = Some t.granted;
  sent = update_frame s t.granted.update;
}

-- "first the window update if the state is Open or SendClosed"
abbrev pub send_window_update : Stream → ℕ → ℕ → Option ℕ → ℕ → ℕ → ℕ → Updated
send_window_update s unread now rt limit m growth =
    cond (can_read s.state)
    (step_taken s
    (next_window_update s.flow
    (record { unread = unread; time = now; round_trip = rt; limit = limit; max_num_streams = m; growth = growth })))
    (record { stream = s; growth = growth; step = None; sent = None })

-- "if that is 0: done with 0 in RecvClosed or Closed, else wait"
abbrev pub read_end : Stream → ℕ → ReadEnd
read_end s n =
    cond (eqb n 0)
    (cond (can_read s.state) (reading.Wait (with_waits s true s.writer)) (reading.Done s))
    (reading.Done s)

-- ---- write

-- "n = min(window, given, split)"
abbrev pub write_count : Stream → ℕ → ℕ → ℕ
write_count s given split = min (min s.flow.send_window given) split

-- "the window falls by n, and a Data frame carries the first n bytes"; "a write with ACK acknowledges"
abbrev pub write_taken : Stream → ℕ → Written
write_taken s n =
    written.Frame
    (record {
      id = s.id;
      flag = owed.None;
      state = cond (owes_ack s.flag) (acknowledge s.state) s.state;
      reader = s.reader;
      writer = s.writer;
      flow = with_send s.flow (s.flow.send_window - n);
    })
    (add_flag s.flag (data_header s.id (record { 0 = n })))

-- "state SendClosed or Closed, 6; send window 0, wait; else .."
abbrev pub write : Stream → ℕ → ℕ → Written
write s given split =
    cond (can_write s.state)
    (cond (eqb s.flow.send_window 0)
    (written.Wait (with_waits s s.reader true))
    (write_taken s (write_count s given split)))
    written.Closed

-- ---- close

-- "FIN, with ACK if still owed and then owed no more, and next state SendClosed; SYN is not added and stays owed"
abbrev pub close_taken : Stream → Closing
close_taken s = record {
  stream = record {
    id = s.id;
    flag = cond (owes_ack s.flag) owed.None s.flag;
    state = change s.state SendClosed;
    reader = s.reader;
    writer = s.writer;
    flow = s.flow;
  };
  sent = Some (close_stream s.id (owes_ack s.flag));
}

-- "Close: Closed, done without a frame."
abbrev pub close_in : State → Stream → Closing
close_in (Open a) s = close_taken s
close_in SendClosed s = close_taken s
close_in RecvClosed s = close_taken s
close_in Closed s = record { stream = s; sent = None }

abbrev pub close : Stream → Closing
close s = close_in s.state s

-- ---- drop

abbrev pub empty : Len
empty = record { 0 = 0 }

-- "if it was Open, RST is given; RecvClosed gives FIN, else none"
abbrev pub farewell : State → StreamId → Option Header
farewell (Open a) id = Some (with_rst (data_header id empty))
farewell RecvClosed id = Some (with_fin (data_header id empty))
farewell SendClosed id = None
farewell Closed id = None

-- "making it Closed: ..; its reader and writer are woken"
abbrev pub dropped : Stream → Dropped
dropped s = record { stream = closed s; sent = farewell s.state s.id; wakes = wakes s.reader s.writer }
