-- The frame rules as actions: what the rules of `rules/specs/Frames` do, said of one stream's value and of numbers.
use Rattle.std.specs.Prelude.{Bool, true, false, cond, not, ℕ, eqb, ltb, leb, Option, Some, None, Result, Ok, Err}
use Rattle.frame.specs.Header.{contains, ack, syn, fin, rst, session, ping_header, go_away_header, with_ack, protocol_error, internal_error, initial_window}
use Rattle.frame.specs.declared.header.Header.{Header}
use Rattle.frame.specs.declared.header.Tag.{Tag}
use Rattle.frame.specs.declared.header.Tag.TheVariants as tag
use Rattle.rtt.specs.Pings.{handle_pong}
use Rattle.rtt.specs.declared.Rtt.{Rtt}
use Rattle.stream.specs.States.{is_closed}
use Rattle.stream.specs.Streams.{new_inbound, on_data, on_window_update, reset, acknowledged}
use Rattle.stream.specs.declared.Stream.{Stream}
use Rattle.stream.specs.declared.StreamWakes.{StreamWakes}
use Rattle.rules.specs.State.{is_remote}
use Rattle.rules.specs.Frames.{quiet, whose, body_length}
use Rattle.rules.specs.declared.Slot.{Slot}
use Rattle.rules.specs.declared.Reply.TheVariants as reply
use Rattle.rules.specs.declared.Woke.{Woke}
use Rattle.handlers.specs.declared.Answer.{Answer}
use Rattle.handlers.specs.declared.Known.{Known}
use Rattle.handlers.specs.declared.Action.{Action}
use Rattle.handlers.specs.declared.Action.TheVariants as action
use Rattle.handlers.specs.declared.PingStep.{PingStep}
use Rattle.handlers.specs.declared.Limits.{Limits}
use Rattle.rtt.specs.declared.UnexpectedPong.{UnexpectedPong}
use Rattle.flow_control.specs.declared.InvalidWindowUpdate.{InvalidWindowUpdate}
use Rattle.stream.specs.declared.Woken.{Woken}

-- ---- answers; `woke` says whether the ACK step woke an open

abbrev pub woken : Bool → StreamWakes → Woke
woken woke w = record { reader = w.reader; writer = w.writer; opener = woke; all = false }

abbrev pub done : Bool → Option Slot → Option ℕ → Option Header → StreamWakes → Answer
done woke slot v h w = record { reply = reply.Done; slot = slot; value = v; sent = h; wakes = woken woke w }

abbrev pub no_action : Bool → Answer
no_action woke = done woke None None None quiet

-- the answer of a frame that a known stream takes
abbrev pub told : Bool → Slot → StreamWakes → Answer
told woke i w = done woke (whose w i.0) None None w

abbrev pub go_away : Bool → Header → Answer
go_away woke h = record { reply = reply.GoAway; slot = None; value = Some h.length.0; sent = Some h; wakes = woken woke quiet }

abbrev pub terminate : Bool → ℕ → Answer
terminate woke code = go_away woke (go_away_header code)

-- ---- the ACK step on the frame's stream

abbrev pub acked : Header → Stream → Stream
acked h s = cond (contains h.flags ack) (acknowledged s) s

-- the frame's stream in the table, as the ACK step left it
abbrev pub known : Slot → Stream → Option Known
known i s = Some (record { slot = i; stream = s })

-- code 1, which leaves the stream as the ACK step made it
abbrev pub violated : Bool → Option Known → Action
violated woke (Some k) = action.Store k.slot k.stream true (terminate woke protocol_error)
violated woke None = action.Answer (terminate woke protocol_error)

-- ---- what a stream makes of the frame: a WindowUpdate's credit, or a Data frame's body

abbrev pub is_update : Tag → Bool
is_update tag.Data = false
is_update tag.WindowUpdate = true
is_update tag.Ping = false
is_update tag.GoAway = false

unfoldable pub receive : Stream → Header → Result Woken InvalidWindowUpdate
receive s h =
    cond (is_update h.tag)
    (on_window_update s (record { 0 = h.length.0 }) (contains h.flags fin))
    (on_data s h.length.0 (contains h.flags fin))

-- ---- RST

unfoldable pub on_reset : Bool → Option Known → Action
on_reset woke None = action.Answer (no_action woke)
on_reset woke (Some k) =
    action.Store k.slot (reset k.stream).stream false (told woke k.slot (reset k.stream).wakes)

-- ---- SYN

-- "M streams in the table, code 2 .. WindowUpdate: the same but M full is code 1"
abbrev pub full_code : Tag → ℕ
full_code k = cond (is_update k) protocol_error internal_error

abbrev pub full : Bool → Header → Answer
full woke h = terminate woke (full_code h.tag)

-- a new stream in the lowest free slot, with a body of n bytes
abbrev pub new_action : Option Slot → ℕ → Bool → Stream → ℕ → Action
new_action None room woke s n = action.Refuse reply.NoSlot
new_action (Some i) room woke s n =
    cond (ltb room n) (action.Refuse reply.NoRoom) (action.New i s (done woke (Some i) (Some s.id.0) None quiet))

-- a stream is made, and takes the frame
abbrev pub made : ℕ → Bool → Option Slot → ℕ → Result Woken InvalidWindowUpdate → Action
made room woke v n (Err _) = violated woke None
made room woke v n (Ok k) = new_action v room woke k.stream n

abbrev pub first : ℕ → Bool → Option Slot → Header → ℕ → Action
first room woke v h now = made room woke v (body_length h.tag h.length.0) (receive (new_inbound h.stream_id initial_window now) h)

-- "id of the wrong parity, 2 with code 1; id in the table, code 1; M streams in the table"
abbrev pub unknown_syn : Limits → Bool → Option Known → Option Slot → Header → ℕ → Action
unknown_syn l woke (Some k) v h now = violated woke (Some k)
unknown_syn l woke None v h now =
    cond (leb l.max_num_streams l.listed) (action.Answer (full woke h)) (first l.room woke v h now)

unfoldable pub on_syn : Limits → Bool → Option Known → Option Slot → Header → ℕ → Action
on_syn l woke k v h now = cond (is_remote l.mode h.stream_id) (unknown_syn l woke k v h now) (violated woke k)

-- ---- a known stream

-- whether the stream stays in the table: it leaves where a FIN closed it
abbrev pub stays : Bool → Stream → Bool
stays finished s = cond finished (not (is_closed s.state)) true

-- a body of no bytes touches no queue
abbrev pub queued_if : Slot → Stream → Bool → ℕ → Answer → Action
queued_if i t listed n o = cond (eqb n 0) (action.Store i t listed o) (action.Queue i t listed o)

abbrev pub take : Slot → Stream → ℕ → Bool → Bool → ℕ → Result Woken InvalidWindowUpdate → Action
take i s room woke finished n (Err _) = violated woke (known i s)
take i s room woke finished n (Ok k) =
    cond (ltb room n) (action.Refuse reply.NoRoom) (queued_if i k.stream (stays finished k.stream) n (told woke i k.wakes))

unfoldable pub on_known : ℕ → Bool → Option Known → Header → Action
on_known room woke None h = action.Answer (no_action woke)
on_known room woke (Some k) h =
    take k.slot k.stream room woke (contains h.flags fin) (body_length h.tag h.length.0) (receive k.stream h)

-- ---- Data and WindowUpdate

unfoldable pub stream_action : Limits → Bool → Option Known → Option Slot → Header → ℕ → Action
stream_action l woke k v h now =
    cond (contains h.flags rst)
    (on_reset woke k)
    (cond (contains h.flags syn) (on_syn l woke k v h now) (on_known l.room woke k h))

-- ---- Ping

abbrev pub pong_heard : Rtt → Result Rtt UnexpectedPong → PingStep
pong_heard r (Err _) = record { rtt = r; answer = terminate false protocol_error }
pong_heard r (Ok p) = record { rtt = p; answer = no_action false }

abbrev pub ping_heard : Rtt → ℕ → PingStep
ping_heard r n = record { rtt = r; answer = done false None (Some n) (Some (with_ack (ping_header n))) quiet }

unfoldable pub on_ping : Rtt → Bool → Header → ℕ → ℕ → PingStep
on_ping r in_table h now interval =
    cond (contains h.flags ack)
    (pong_heard r (handle_pong r h.length.0 now interval))
    (cond (cond (session h.stream_id) true in_table)
    (ping_heard r h.length.0)
    (record { rtt = r; answer = no_action false }))
