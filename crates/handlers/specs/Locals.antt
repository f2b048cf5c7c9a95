-- The local calls as actions: what the rules of `rules/specs/Calls` do, said of one stream's value and of numbers.
use Rattle.std.specs.Prelude.{Bool, true, false, cond, not, List, [], ℕ, ◌+◌, min, ltb, leb, take, Option, Some, None, Result, Ok, Err}
use Rattle.frame.specs.declared.header.StreamId.{StreamId}
use Rattle.rtt.specs.Pings.{next_ping}
use Rattle.rtt.specs.declared.Rtt.{Rtt}
use Rattle.flow_control.specs.Windows.{top}
use Rattle.stream.specs.Streams as stream
use Rattle.stream.specs.declared.Stream.{Stream}
use Rattle.stream.specs.declared.Updated.{Updated}
use Rattle.stream.specs.declared.ReadEnd.{ReadEnd}
use Rattle.stream.specs.declared.ReadEnd.TheVariants as reading
use Rattle.stream.specs.declared.Written.{Written}
use Rattle.stream.specs.declared.Written.TheVariants as written
use Rattle.rules.specs.Replies.{no_wakes, bare, count_of}
use Rattle.rules.specs.State.{Entry, Conn, entry, with_slot, with_growth, with_next_id, with_open_wait, with_stream}
use Rattle.rules.specs.Ending.{Effect, gives, refuse, end}
use Rattle.rules.specs.Frames.{quiet, new_entry}
use Rattle.rules.specs.Calls.{read_entry}
use Rattle.rules.specs.declared.Slot.{Slot}
use Rattle.rules.specs.declared.Reply.{Reply}
use Rattle.rules.specs.declared.Reply.TheVariants as reply
use Rattle.handlers.specs.Actions.{done, no_action}
use Rattle.handlers.specs.declared.Answer.{Answer}
use Rattle.handlers.specs.declared.calls.StreamStep.{StreamStep}
use Rattle.handlers.specs.declared.PingStep.{PingStep}
use Rattle.handlers.specs.declared.NextId.{NextId}
use Rattle.handlers.specs.declared.Opening.{Opening}
use Rattle.handlers.specs.declared.Opening.TheVariants as opening
use Rattle.handlers.specs.declared.ReadStep.{ReadStep}
use Rattle.frame.specs.declared.header.Header.{Header}

-- the answer of a call on a handle
abbrev pub slot_answer : Slot → Reply → Option ℕ → Option Header → Answer
slot_answer i r v h = record { reply = r; slot = Some i; value = v; sent = h; wakes = no_wakes }

-- the stream of a step at slot i, which stays in the table if it was there, and the step's answer, with this body to its header
unfoldable pub perform_step : Conn → ℕ → List ℕ → StreamStep → Effect
perform_step c i body k =
    gives
    (record {
      reply = k.answer.reply;
      slot = k.answer.slot;
      value = k.answer.value;
      header = k.answer.sent;
      body = body;
      wakes = k.answer.wakes;
      bytes = [];
    })
    (with_slot c i (with_stream (entry c.slots i) k.stream))

-- ---- write

abbrev pub write_step : Slot → Written → Result StreamStep Reply
write_step i written.Closed = Err reply.WriteClosed
write_step i (written.Wait s) = Ok (record { stream = s; answer = slot_answer i reply.Wait None None })
write_step i (written.Frame s h) = Ok (record { stream = s; answer = slot_answer i reply.Done (Some h.length.0) (Some h) })

-- "Write: connection ended, or state SendClosed or Closed, 6; send window 0, wait; else .."
abbrev pub on_write : Bool → Slot → Stream → ℕ → ℕ → Result StreamStep Reply
on_write ended i s given split = cond ended (Err reply.WriteClosed) (write_step i (stream.write s given split))

-- "a Data frame carries the first n bytes": those that the header's length counts
abbrev pub body_of : Option Header → List ℕ → List ℕ
body_of None given = []
body_of (Some h) given = take h.length.0 given

abbrev pub perform_write : Conn → ℕ → List ℕ → Result StreamStep Reply → Effect
perform_write c i given (Err r) = refuse c r
perform_write c i given (Ok k) = perform_step c i (body_of k.answer.sent given) k

-- ---- close

-- "Close: Closed, done without a frame. Else FIN .."
abbrev pub on_close : Slot → Stream → StreamStep
on_close i s = record { stream = (stream.close s).stream; answer = slot_answer i reply.Done None (stream.close s).sent }

-- ---- open

-- "When next id + 2 passes 2^32-1, reply 4"
abbrev pub next_stream_id : ℕ → Option NextId
next_stream_id n = cond (ltb top (n + 2)) None (Some (record { id = record { 0 = n }; after = n + 2 }))

abbrev pub open_in : Option Slot → StreamId → ℕ → ℕ → Opening
open_in None id after now = opening.Refuse reply.NoSlot
open_in (Some i) id after now = opening.New i (stream.new_outbound id now) after

abbrev pub open_with : Option NextId → Option Slot → ℕ → Opening
open_with None v now = opening.End reply.NoMoreStreamIds
open_with (Some n) v now = open_in v n.id n.after now

-- "Open: table at M or more, 3; 256 or more own-parity streams Open and unacknowledged, wait"
unfoldable pub open_action : ℕ → ℕ → ℕ → ℕ → Option Slot → ℕ → Opening
open_action listed m backlog next_id v now =
    cond (leb m listed)
    (opening.End reply.TooManyStreams)
    (cond (leb 256 backlog) opening.Wait (open_with (next_stream_id next_id) v now))

unfoldable pub perform_open : Conn → Opening → Effect
perform_open c (opening.End r) = end c r
perform_open c opening.Wait = gives (bare reply.Wait) (with_open_wait c true)
perform_open c (opening.Refuse r) = refuse c r
perform_open c (opening.New i s after) =
    gives
    (record { reply = reply.Done; slot = Some i; value = Some s.id.0; header = None; body = []; wakes = no_wakes; bytes = [] })
    (with_slot (with_next_id c after) i.0 (new_entry s []))

-- ---- read

-- "ended with read-after-close off, done with 0 bytes"
abbrev pub is_shut : Bool → Bool → Bool
is_shut ended read_after_close = cond ended (not read_after_close) false

abbrev pub nothing_read : Slot → Answer
nothing_read i = slot_answer i reply.Done (Some 0) None

abbrev pub read_ended : Slot → Updated → ℕ → ReadEnd → ReadStep
read_ended i u n (reading.Done s) = record { stream = s; growth = u.growth; answer = slot_answer i reply.Done (Some n) u.sent }
read_ended i u n (reading.Wait s) = record { stream = s; growth = u.growth; answer = slot_answer i reply.Wait None u.sent }

-- after the window step: "then the oldest min(asked, unread) bytes in their order; if that is 0: done with 0 in RecvClosed or
-- Closed, else wait"
unfoldable pub on_read : Slot → Updated → ℕ → ℕ → ReadStep
on_read i u unread asked = read_ended i u (min asked unread) (stream.read_end u.stream (min asked unread))

-- the oldest bytes of the entry e go out, as many as the answer's value counts
unfoldable pub perform_read : Conn → Slot → Entry → ReadStep → Effect
perform_read c i e r =
    gives
    (record {
      reply = r.answer.reply;
      slot = r.answer.slot;
      value = r.answer.value;
      header = r.answer.sent;
      body = [];
      wakes = r.answer.wakes;
      bytes = take (count_of r.answer.value) e.bytes;
    })
    (with_slot (with_growth c r.growth) i.0 (read_entry e r.stream (count_of r.answer.value)))

-- ---- drop

-- "removes from the table whichever stream has that id, making it Closed": s is that stream, and i the handle's slot
abbrev pub on_drop : Slot → Stream → StreamStep
on_drop i s = record {
  stream = (stream.dropped s).stream;
  answer = done false (Some i) None (stream.dropped s).sent (stream.dropped s).wakes;
}

-- ---- tick

abbrev pub ping_sent : Rtt → Option Header → PingStep
ping_sent r None = record { rtt = r; answer = no_action false }
ping_sent r (Some h) = record { rtt = r; answer = done false None (Some h.length.0) (Some h) quiet }

-- "no ping outstanding and due time <= now: Ping SYN with the next id .. No ping to send: done."
unfoldable pub on_tick : Rtt → ℕ → PingStep
on_tick r now = ping_sent (next_ping r now).rtt (next_ping r now).ping
