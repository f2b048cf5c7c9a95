-- "Frame rules". Sentences are document 01's.
use Rattle.std.specs.Prelude.{Bool, true, false, cond, not, List, [], ◌++◌, ℕ, ◌+◌, length, eqb, ltb, leb, Option, Some, None, Result, Ok, Err}
use Rattle.frame.specs.Header.{contains, syn, ack, fin, rst, session, ping_header, go_away_header, with_ack, protocol_error, internal_error, initial_window}
use Rattle.frame.specs.declared.header.Header.{Header}
use Rattle.frame.specs.declared.header.StreamId.{StreamId}
use Rattle.frame.specs.declared.header.Tag.{Tag}
use Rattle.frame.specs.declared.header.Tag.TheVariants as tag
use Rattle.rtt.specs.Pings.{handle_pong}
use Rattle.flow_control.specs.Windows.{top}
use Rattle.stream.specs.States.{finish, is_closed}
use Rattle.stream.specs.Streams.{new_inbound, data_taken, with_state, on_data, on_window_update, reset, acknowledged}
use Rattle.stream.specs.declared.Stream.{Stream}
use Rattle.stream.specs.declared.StreamWakes.{StreamWakes}
use Rattle.rules.specs.declared.Reply.TheVariants as reply
use Rattle.rules.specs.Replies.{Outcome}
use Rattle.rules.specs.Lists.{Place, at, nowhere}
use Rattle.rules.specs.State.{Entry, Conn, entry, with_slot, with_pings, with_open_wait, with_stream, find, lowest_free, listed_count, room, is_remote}
use Rattle.rules.specs.Ending.{Effect, gives, refuse, end}
use Rattle.rules.specs.declared.Slot.{Slot}
use Rattle.rtt.specs.declared.UnexpectedPong.{UnexpectedPong}
use Rattle.rtt.specs.declared.Rtt.{Rtt}
use Rattle.flow_control.specs.declared.InvalidWindowUpdate.{InvalidWindowUpdate}
use Rattle.stream.specs.declared.Woken.{Woken}

-- ---- the ACK step

-- The connection before a frame and after the frame's ACK step, and whether that woke an open. Replies 7 and 8 undo the
-- step: they leave `before`.
pub record Acked : Type 0 where
  pub before : Conn
  pub conn : Conn
  pub woke : Bool

abbrev pub acknowledge_at : Place → Conn → Conn
acknowledge_at nowhere c = c
acknowledge_at (at i) c = with_slot c i (with_stream (entry c.slots i) (acknowledged (entry c.slots i).stream))

-- "with ACK, a known stream goes to Open acknowledged if it is Open; an open wait is woken even for an unknown id"
unfoldable pub ack_step : Conn → Header → Place → Acked
ack_step c h place =
    cond (contains h.flags ack)
    (record { before = c; conn = with_open_wait (acknowledge_at place c) false; woke = c.open_wait })
    (record { before = c; conn = c; woke = false })

-- ---- answers of a frame

abbrev pub frame_wakes : Acked → StreamWakes → Rattle.rules.specs.declared.Woke.Woke
frame_wakes a w = record { reader = w.reader; writer = w.writer; opener = a.woke; all = false }

abbrev pub quiet : StreamWakes
quiet = record { reader = false; writer = false }

abbrev pub answer : Acked → Option Slot → Option ℕ → Option Header → StreamWakes → Outcome
answer a slot v h w = record { reply = reply.Done; slot = slot; value = v; header = h; body = []; wakes = frame_wakes a w; bytes = [] }

-- "done, no action"
abbrev pub no_action : Acked → Effect
no_action a = gives (answer a None None None quiet) a.conn

-- 2, "GoAway to send": "header with code 1 or 2; the connection goes on"
abbrev pub go_away : Acked → ℕ → Effect
go_away a code =
    gives
    (record { reply = reply.GoAway; slot = None; value = Some code; header = Some (go_away_header code); body = []; wakes = frame_wakes a quiet; bytes = [] })
    a.conn

-- "for a frame or open, the new or woken stream's": the slot is told where its reader or its writer is woken
abbrev pub whose : StreamWakes → ℕ → Option Slot
whose w i = cond w.reader (Some (record { 0 = i })) (cond w.writer (Some (record { 0 = i })) None)

-- ---- RST

-- "RST: a known stream becomes Closed, leaves the table, reader and writer woken. Unknown, even with SYN: no action."
abbrev pub reset_entry : Entry → Entry
reset_entry e = record { held = e.held; listed = false; stream = (reset e.stream).stream; bytes = e.bytes }

unfoldable pub on_reset : Acked → Place → Effect
on_reset a nowhere = no_action a
on_reset a (at i) =
    let e = entry a.conn.slots i in
    let w = (reset e.stream).wakes in
    gives (answer a (whose w i) None None w) (with_slot a.conn i (reset_entry e))

-- ---- a new stream

abbrev pub new_entry : Stream → List ℕ → Entry
new_entry s body = record { held = true; listed = true; stream = s; bytes = body }

-- "Seven is given exactly when the rules would make a stream and all K slots are in use; 8 exactly when the body would be
-- queued and is longer than the room; both undo the ACK step too."
unfoldable pub make_at : Place → Acked → Stream → List ℕ → Effect
make_at nowhere a s body = refuse a.before reply.NoSlot
make_at (at i) a s body =
    cond (ltb (room a.conn) (length body))
    (refuse a.before reply.NoRoom)
    (gives
    (answer a (Some (record { 0 = i })) (Some s.id.0) None quiet)
    (with_slot a.conn i (new_entry s body)))

unfoldable pub make : Acked → Stream → List ℕ → Effect
make a s body = make_at (lowest_free a.conn.slots) a s body

abbrev pub is_known : Place → Bool
is_known (at i) = true
is_known nowhere = false

-- "id of the wrong parity, 2 with code 1; id in the table, code 1; M streams in the table, code 2 .. WindowUpdate: the same
-- but M full is code 1". M is tested as M or more (reading A11).
unfoldable pub syn_rules : Acked → StreamId → Place → ℕ → Effect → Effect
syn_rules a id place full next =
    cond (is_remote a.conn.config.mode id)
    (cond (is_known place)
    (go_away a protocol_error)
    (cond (leb a.conn.config.max_num_streams (listed_count a.conn.slots))
    (go_away a full)
    next))
    (go_away a protocol_error)

-- "body above 262,144, code 1"; "FIN makes it RecvClosed; a body is taken from its receive window and queued"
unfoldable pub syn_data : Acked → Header → List ℕ → Place → ℕ → Effect
syn_data a h body place now =
    syn_rules a h.stream_id place internal_error
    (cond (ltb initial_window (length body))
    (go_away a protocol_error)
    (make a (data_taken (new_inbound h.stream_id initial_window now) (length body) (contains h.flags fin)) body))

-- "its maximum and both windows are 262,144, and WindowUpdate adds its credit to an inbound one's send window. FIN makes it
-- RecvClosed"
abbrev pub opened_by : Header → ℕ → Stream
opened_by h now =
    let s = new_inbound h.stream_id (h.length.0 + initial_window) now in
    with_state s (finish (contains h.flags fin) s.state)

-- "WindowUpdate: the same but M full is code 1, and the last test is credit + 262,144 above 2^32-1, code 1."
unfoldable pub syn_update : Acked → Header → Place → ℕ → Effect
syn_update a h place now =
    syn_rules a h.stream_id place protocol_error
    (cond (ltb top (h.length.0 + initial_window))
    (go_away a protocol_error)
    (make a (opened_by h now) []))

-- ---- a known stream

-- "A stream Closed after a FIN leaves the table."
abbrev pub taken_entry : Entry → Stream → Bool → List ℕ → Entry
taken_entry e s finished body = record {
  held = e.held;
  listed = cond finished (not (is_closed s.state)) e.listed;
  stream = s;
  bytes = e.bytes ++ body;
}

-- "Known, Data: body above the receive window, code 1. Else the window falls by the body; then FIN .., body queued, reader
-- woken." "WindowUpdate: send window past 2^32-1, code 1; else credit added, FIN (waking the reader), writer woken." "8 exactly when
-- the body would be queued and is longer than the room; both undo the ACK step too."
unfoldable pub take_at : ℕ → Acked → Header → List ℕ → Result Woken InvalidWindowUpdate → Effect
take_at i a h body (Err _) = go_away a protocol_error
take_at i a h body (Ok k) =
    cond (ltb (room a.conn) (length body))
    (refuse a.before reply.NoRoom)
    (gives
    (answer a (whose k.wakes i) None None k.wakes)
    (with_slot a.conn i (taken_entry (entry a.conn.slots i) k.stream (contains h.flags fin) body)))

unfoldable pub known_data : Acked → Header → List ℕ → Place → Effect
known_data a h body nowhere = no_action a
known_data a h body (at i) = take_at i a h body (on_data (entry a.conn.slots i).stream (length body) (contains h.flags fin))

unfoldable pub known_update : Acked → Header → Place → Effect
known_update a h nowhere = no_action a
known_update a h (at i) =
    take_at i a h [] (on_window_update (entry a.conn.slots i).stream (record { 0 = h.length.0 }) (contains h.flags fin))

-- ---- each type

unfoldable pub data_rules : Acked → Header → List ℕ → Place → ℕ → Effect
data_rules a h body place now =
    cond (contains h.flags rst)
    (on_reset a place)
    (cond (contains h.flags syn) (syn_data a h body place now) (known_data a h body place))

unfoldable pub update_rules : Acked → Header → Place → ℕ → Effect
update_rules a h place now =
    cond (contains h.flags rst)
    (on_reset a place)
    (cond (contains h.flags syn) (syn_update a h place now) (known_update a h place))

-- no ACK step: ACK on a Ping acknowledges no stream and wakes no open (reading A6)
abbrev pub unacked : Conn → Acked
unacked c = record { before = c; conn = c; woke = false }

-- "A pong not awaited or of another id: code 1."
unfoldable pub pong_rules : Conn → Result Rtt UnexpectedPong → Effect
pong_rules c (Err _) = go_away (unacked c) protocol_error
pong_rules c (Ok p) = no_action (unacked (with_pings c p))

-- "Ping with ACK: see below. Else, id 0 or in the table: Ping ACK, same value, stream 0; other ids: nothing."
abbrev pub answers_ping : Conn → StreamId → Bool
answers_ping c id = cond (session id) true (is_known (find c.slots id))

unfoldable pub ping_rules : Conn → Header → ℕ → Effect
ping_rules c h now =
    cond (contains h.flags ack)
    (pong_rules c (handle_pong c.pings h.length.0 now c.config.interval))
    (cond (answers_ping c h.stream_id)
    (gives (answer (unacked c) None (Some h.length.0) (Some (with_ack (ping_header h.length.0))) quiet) c)
    (no_action (unacked c)))

-- "GoAway: 5."
unfoldable pub frame_rules : Tag → Conn → Header → List ℕ → Place → ℕ → Effect
frame_rules tag.Data c h body place now = data_rules (ack_step c h place) h body place now
frame_rules tag.WindowUpdate c h body place now = update_rules (ack_step c h place) h place now
frame_rules tag.Ping c h body place now = ping_rules c h now
frame_rules tag.GoAway c h body place now = end c reply.Closed

-- "body length not the header's (Data), or a body on another type"
abbrev pub body_length : Tag → ℕ → ℕ
body_length tag.Data n = n
body_length tag.WindowUpdate n = 0
body_length tag.Ping n = 0
body_length tag.GoAway n = 0

unfoldable pub on_header : Conn → Header → List ℕ → ℕ → Effect
on_header c h body now =
    cond (eqb (length body) (body_length h.tag h.length.0))
    (frame_rules h.tag c h body (find c.slots h.stream_id) now)
    (refuse c reply.Body)
