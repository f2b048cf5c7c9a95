-- "Demand 2's rules exclude a table that refuses everything, one fixed reply, a table that never changes, and one that handles the
-- first frame and then feigns the rest": in every reached state that goes on, what the rules allow is done, and is seen afterwards.
use Rattle.std.specs.Prelude.{◌≡◌, ◌≢◌, ◌⊎◌, Bool, true, false, cond, not, List, [], ◌++◌, ℕ, ◌+◌, ◌≤◌, ◌<◌, length, take, Some, None, Ok}
use Rattle.frame.specs.Header.{contains, syn, ack, fin, rst, session_id, data_header, ping_header, close_stream, with_syn, with_ack, with_fin, with_rst, initial_window}
use Rattle.frame.specs.Wire.{decoded}
use Rattle.frame.specs.declared.header.Header.{Header}
use Rattle.frame.specs.declared.header.StreamId.{StreamId}
use Rattle.frame.specs.declared.header.Tag.{Tag}
use Rattle.frame.specs.declared.header.Tag.TheVariants as tag
use Rattle.rtt.specs.Pings.{elapsed, id_after}
use Rattle.rtt.specs.declared.RttState.TheVariants.{Waiting, AwaitingPong}
use Rattle.flow_control.specs.Windows.{top}
use Rattle.stream.specs.States.{can_write, is_closed, acknowledge, finish}
use Rattle.stream.specs.Streams.{new_inbound, new_outbound, data_taken, add_flag, owes_ack, write_count}
use Rattle.stream.specs.declared.State.{State}
use Rattle.stream.specs.declared.State.TheVariants.{Open, SendClosed, RecvClosed, Closed}
use Rattle.stream.specs.declared.Flag.TheVariants as owed
use Rattle.rules.specs.declared.Reply.TheVariants as reply
use Rattle.rules.specs.Replies.{Outcome, no_wakes, bare}
use Rattle.rules.specs.Lists.{at}
use Rattle.rules.specs.Settings.{last_time}
use Rattle.rules.specs.State.{Entry, Conn, entry, with_pings, lowest_free, listed_count, unacknowledged, room}
use Rattle.rules.specs.Ending.{Effect, gives}
use Rattle.rules.specs.Frames.{new_entry, opened_by, body_length}
use Rattle.rules.specs.Calls.{on_slot}
use Rattle.rules.specs.Step.{step}
use Rattle.rules.specs.Step as rules
use Rattle.demands.specs.Demands.{Reach, held_count, opens, opens_by_credit}
use Rattle.demands.specs.Theorems.{Gave}
use Rattle.demands.specs.Handles.{Drops}

-- a frame of type t for the stream in slot i, its body as long as the type and the header say
pub record FrameFor (t : Tag) (c : Conn) (i : ℕ) (head body : List ℕ) : Type 0 where
  pub header : Header
  pub decodes : decoded head ≡ Ok header
  pub is_of : header.tag ≡ t
  pub names : header.stream_id ≡ (entry c.slots i).stream.id
  pub long : length body ≡ body_length t header.length.0

-- neither SYN nor RST
abbrev pub Plain : Header → Type 0
Plain h = (contains h.flags syn ≡ false) × (contains h.flags rst ≡ false)

-- "with ACK, .. goes to Open acknowledged if it is Open": the state of a stream after a frame, received or sent, with ACK or without
abbrev pub ack_taken : Bool → State → State
ack_taken acks q = cond acks (acknowledge q) q

-- "FIN (next state RecvClosed)", after the ACK step; "A stream Closed after a FIN leaves the table", and any other stays in it.
abbrev pub Goes : Header → Entry → Entry → Type 0
Goes h old new =
    (new.stream.state ≡ finish (contains h.flags fin) (ack_taken (contains h.flags ack) old.stream.state))
    × (new.listed ≡ cond (contains h.flags fin) (not (is_closed new.stream.state)) true)

-- done, the body behind the unread bytes, the receive window less the body, and the state as ACK and FIN make it
abbrev pub Takes : Header → List ℕ → Entry → Outcome → Entry → Type 0
Takes h body old o new =
    (o.reply ≡ reply.Done)
    × (new.bytes ≡ old.bytes ++ body)
    × (new.stream.flow.receive_window + length body ≡ old.stream.flow.receive_window)
    × Goes h old new

-- Data without SYN and RST for a stream in the table, within its receive window and the room, is done: the body stands behind the
-- unread bytes, and the window falls by it. This holds in every reached state, so after any frames, not only after the first.
abbrev pub DataIsTaken : Type 0
DataIsTaken =
    (c : Conn) → Reach c → (now i : ℕ) (head body : List ℕ) (f : FrameFor tag.Data c i head body) → Plain f.header → now ≤ last_time → (entry c.slots i).listed ≡ true →
    length body ≤ (entry c.slots i).stream.flow.receive_window → length body ≤ room c →
    let r = step c (rules.frame now head body) in
    Takes f.header body (entry c.slots i) r.outcome (entry r.after.slots i)

-- "credit added, .. writer woken": done, the send window of slot i more by the credit, the unread bytes as they were; a writer that
-- waited is told, with the slot, and waits no more. The state is as ACK and FIN make it.
abbrev pub Credits : ℕ → Header → Entry → Outcome → Entry → Type 0
Credits i h old o new =
    (o.reply ≡ reply.Done)
    × (new.stream.flow.send_window ≡ old.stream.flow.send_window + h.length.0)
    × (new.bytes ≡ old.bytes)
    × (o.wakes.writer ≡ old.stream.writer)
    × (old.stream.writer ≡ true → o.slot ≡ Some (record { 0 = i }))
    × (new.stream.writer ≡ false)
    × Goes h old new

-- A WindowUpdate without SYN and RST for a stream in the table, whose credit takes its send window to at most 2^32-1, is done and
-- adds it.
abbrev pub CreditIsAdded : Type 0
CreditIsAdded =
    (c : Conn) → Reach c → (now i : ℕ) (head : List ℕ) (f : FrameFor tag.WindowUpdate c i head []) → Plain f.header → now ≤ last_time → (entry c.slots i).listed ≡ true →
    (entry c.slots i).stream.flow.send_window + f.header.length.0 ≤ top →
    let r = step c (rules.frame now head []) in
    Credits i f.header (entry c.slots i) r.outcome (entry r.after.slots i)

-- "a known stream becomes Closed, leaves the table": done, the unread bytes and the handle as they were
abbrev pub Resets : Entry → Outcome → Entry → Type 0
Resets old o new =
    (o.reply ≡ reply.Done)
    × (new.stream.state ≡ Closed)
    × (new.listed ≡ false)
    × (new.bytes ≡ old.bytes)
    × (new.held ≡ old.held)

-- Data or a WindowUpdate with RST for a stream in the table, whatever its other flags and its body, is done and resets it.
abbrev pub ResetIsTaken : Type 0
ResetIsTaken =
    (c : Conn) → Reach c → (now i : ℕ) (head body : List ℕ) (t : Tag) → (t ≡ tag.Data) ⊎ (t ≡ tag.WindowUpdate) → (f : FrameFor t c i head body) →
    contains f.header.flags rst ≡ true → now ≤ last_time → (entry c.slots i).listed ≡ true →
    let r = step c (rules.frame now head body) in
    Resets (entry c.slots i) r.outcome (entry r.after.slots i)

-- "the lowest free one is taken": the lowest slot that was free before the call is the one told, and holds the entry after it.
abbrev pub InLowest : Conn → Effect → Entry → Type 0
InLowest c r e =
    (i : ℕ) × (lowest_free c.slots ≡ at i) × (r.outcome.slot ≡ Some (record { 0 = i })) × (entry r.after.slots i ≡ e)

-- Data that the rules would make a stream of is done where a slot and room for its body are left: the answer has the id and the
-- lowest free slot, and that slot holds the stream, with the body queued and taken from its receive window.
abbrev pub SynIsOpened : Type 0
SynIsOpened =
    (c : Conn) → Reach c → (now : ℕ) (head body : List ℕ) (h : Header) → decoded head ≡ Ok h → h.tag ≡ tag.Data → h.length.0 ≡ length body →
    now ≤ last_time → c.ended ≡ false → opens c h body ≡ true → length body ≤ room c → held_count c.slots < c.config.slots →
    let r = step c (rules.frame now head body) in
    Gave r h.stream_id.0
    × InLowest c r (new_entry (data_taken (new_inbound h.stream_id initial_window now) (length body) (contains h.flags fin)) body)

-- A WindowUpdate that the rules would make a stream of is done where a slot is left: the answer has the id and the lowest free
-- slot, and that slot holds the stream, its credit added to the send window, with no bytes.
abbrev pub UpdateIsOpened : Type 0
UpdateIsOpened =
    (c : Conn) → Reach c → (now : ℕ) (head : List ℕ) (h : Header) → decoded head ≡ Ok h → h.tag ≡ tag.WindowUpdate →
    now ≤ last_time → c.ended ≡ false → opens_by_credit c h ≡ true → held_count c.slots < c.config.slots →
    let r = step c (rules.frame now head []) in
    Gave r h.stream_id.0 × InLowest c r (new_entry (opened_by h now) [])

-- An open with fewer than M streams in the table, fewer than 256 unacknowledged, an id and a slot left gives the next id and the
-- lowest free slot, which holds the new stream.
abbrev pub OpenIsGiven : Type 0
OpenIsGiven =
    (c : Conn) → Reach c → (now : ℕ) → now ≤ last_time → c.ended ≡ false → listed_count c.slots < c.config.max_num_streams →
    unacknowledged c.config.mode c.slots < 256 → c.next_id + 2 ≤ top → held_count c.slots < c.config.slots →
    let r = step c (rules.open_stream now) in
    Gave r c.next_id × InLowest c r (new_entry (new_outbound (record { 0 = c.next_id }) now) [])

-- "the window falls by n, and a Data frame carries the first n bytes": n bytes of those given are sent for slot i, under a Data header
-- of the stream, of length n and with the flag that is owed, and then owed no more; "a write with ACK acknowledges".
abbrev pub Sends : Conn → ℕ → List ℕ → ℕ → Effect → Type 0
Sends c i given n r =
    let s = (entry c.slots i).stream in
    (r.outcome ≡ record {
      reply = reply.Done;
      slot = Some (record { 0 = i });
      value = Some n;
      header = Some (add_flag s.flag (data_header s.id (record { 0 = n })));
      body = take n given;
      wakes = no_wakes;
      bytes = [];
    })
    × ((entry r.after.slots i).stream.flow.send_window + n ≡ s.flow.send_window)
    × ((entry r.after.slots i).stream.flag ≡ owed.None)
    × ((entry r.after.slots i).stream.state ≡ ack_taken (owes_ack s.flag) s.state)

-- A write on a held handle that may write, with its send window open, sends min(window, given, split) bytes.
abbrev pub WriteIsSent : Type 0
WriteIsSent =
    (c : Conn) (now i : ℕ) (given : List ℕ) → now ≤ last_time → c.ended ≡ false → (entry c.slots i).held ≡ true →
    can_write (entry c.slots i).stream.state ≡ true → 0 < (entry c.slots i).stream.flow.send_window →
    Sends c i given (write_count (entry c.slots i).stream (length given) c.config.split) (step c (rules.write now i given))

-- ---- pings

-- done, with this value and header to send, no slot told and nobody woken
abbrev pub ping_answer : ℕ → Header → Outcome
ping_answer v h = record { reply = reply.Done; slot = None; value = Some v; header = Some h; body = []; wakes = no_wakes; bytes = [] }

-- "id 0 or in the table"
abbrev pub PingedAt : Conn → StreamId → Type 0
PingedAt c id = (id ≡ session_id) ⊎ ((i : ℕ) × ((entry c.slots i).listed ≡ true) × ((entry c.slots i).stream.id ≡ id))

-- "Ping ACK, same value, stream 0": a Ping without ACK is answered so, and nothing changes.
abbrev pub PingIsAnswered : Type 0
PingIsAnswered =
    (c : Conn) → Reach c → (now : ℕ) (head : List ℕ) (h : Header) → decoded head ≡ Ok h → h.tag ≡ tag.Ping → contains h.flags ack ≡ false →
    now ≤ last_time → c.ended ≡ false → PingedAt c h.stream_id →
    step c (rules.frame now head []) ≡ gives (ping_answer h.length.0 (with_ack (ping_header h.length.0))) c

-- "round trip = elapsed, next ping at now + interval": the pong of the ping that was sent at a time is done, and of the state the
-- pings alone change.
abbrev pub PongIsTaken : Type 0
PongIsTaken =
    (c : Conn) → Reach c → (now sent : ℕ) (head : List ℕ) (h : Header) → decoded head ≡ Ok h → h.tag ≡ tag.Ping → contains h.flags ack ≡ true →
    now ≤ last_time → c.ended ≡ false → c.pings.state ≡ AwaitingPong sent h.length.0 →
    step c (rules.frame now head []) ≡ gives (bare reply.Done) (with_pings c (record {
      state = Waiting (now + c.config.interval);
      next_id = c.pings.next_id;
      round_trip = Some (elapsed sent now);
    }))

-- "no ping outstanding and due time <= now: Ping SYN with the next id, which runs from 4294967295 to 0": then the pong of that id is
-- awaited from now on.
abbrev pub TickIsSent : Type 0
TickIsSent =
    (c : Conn) (now due : ℕ) → now ≤ last_time → c.ended ≡ false → c.pings.state ≡ Waiting due → due ≤ now →
    let id = c.pings.next_id in
    step c (rules.tick now) ≡ gives (ping_answer id (with_syn (ping_header id))) (with_pings c (record {
      state = AwaitingPong now id;
      next_id = id_after id;
      round_trip = c.pings.round_trip;
    }))

-- ---- the end of a stream

-- "next state SendClosed": the state of a stream once our FIN is sent
abbrev pub fin_sent : State → State
fin_sent (Open a) = SendClosed
fin_sent SendClosed = SendClosed
fin_sent RecvClosed = Closed
fin_sent Closed = Closed

-- "FIN, with ACK if still owed and then owed no more, .. SYN is not added and stays owed": a close on a held handle whose stream is
-- not Closed sends a Data header of length 0 with FIN, and with ACK where that is owed.
abbrev pub CloseIsSent : Type 0
CloseIsSent =
    (c : Conn) (now i : ℕ) → now ≤ last_time → (entry c.slots i).held ≡ true → (entry c.slots i).stream.state ≢ Closed →
    let s = (entry c.slots i).stream in
    let r = step c (rules.close now i) in
    (r.outcome ≡ on_slot i reply.Done None (Some (close_stream s.id (owes_ack s.flag))) [])
    × ((entry r.after.slots i).stream.state ≡ fin_sent s.state)
    × ((entry r.after.slots i).stream.flag ≡ cond (owes_ack s.flag) owed.None s.flag)

-- "if it was Open, RST is given; RecvClosed gives FIN": a drop of a handle whose stream is in the table takes it out, and the slot
-- is free.
abbrev pub DropIsSent : Type 0
DropIsSent =
    (c : Conn) → Reach c → (now i : ℕ) → now ≤ last_time → (entry c.slots i).listed ≡ true →
    let s = (entry c.slots i).stream in
    let r = step c (rules.drop now i) in
    Drops c i r
    × ((a : Bool) → s.state ≡ Open a → r.outcome.header ≡ Some (with_rst (data_header s.id (record { 0 = 0 }))))
    × (s.state ≡ RecvClosed → r.outcome.header ≡ Some (with_fin (data_header s.id (record { 0 = 0 }))))
