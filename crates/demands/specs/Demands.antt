-- The words of the demands. Sentences in quotes are document 01's.
use Rattle.std.specs.Prelude.{◌≡◌, Bool, true, false, cond, not, List, ℕ, ◌+◌, ◌<◌, length, eqb, ltb, leb, Ok, Result, Err}
use Rattle.frame.specs.Header.{contains, syn, rst, initial_window}
use Rattle.frame.specs.Wire.{decoded}
use Rattle.frame.specs.declared.header.Header.{Header}
use Rattle.frame.specs.declared.header.Tag.{Tag}
use Rattle.frame.specs.declared.header.Tag.TheVariants as tag
use Rattle.frame.specs.declared.header.HeaderDecodeError.{HeaderDecodeError}
use Rattle.frame.specs.declared.header.HeaderDecodeError.TheVariants as found
use Rattle.flow_control.specs.Windows.{top}
use Rattle.rules.specs.declared.Settings.{Settings}
use Rattle.rules.specs.declared.Config.{Config}
use Rattle.rules.specs.Settings.{checked, last_time}
use Rattle.rules.specs.Lists.{Place, at, nowhere, sum}
use Rattle.rules.specs.State.{Entry, Conn, initial, entry, one, find, listed_count, unacknowledged, room, is_remote}
use Rattle.rules.specs.Frames.{is_known, body_length}
use Rattle.rules.specs.Calls.{growth_of}
use Rattle.rules.specs.Step as rules

-- The states that accepted settings and any calls lead to: any frames in any order, with any flags and ids, any times and
-- any arguments. No bound is put on the calls, not even that a byte is below 256 or that a number has 64 bits.
pub data Reach : Conn → Type 0 where
  new : {c : Config} (s : Settings) → checked s ≡ Ok c → Reach (initial c)
  then : {c : Conn} → Reach c → (k : rules.Call) → Reach (rules.step c k).after

-- "A slot is in use while its handle is held": the handles held, in the table or not
abbrev pub held_count : List Entry → ℕ
held_count es = sum (λ e. one e.held) es

-- "it is a sum over held streams": of what each receive maximum has above 262,144
abbrev pub held_growth : List Entry → ℕ
held_growth es = sum (λ e. cond e.held (growth_of e) 0) es

abbrev pub and : Bool → Bool → Bool
and a b = cond a b false

-- ---- what a frame would do

-- "Order, frame: 10, 5 (ended), 11, 12, 13, the rules below": whether a frame comes to the rules, and its header is as asked
abbrev pub ruled : Result Header HeaderDecodeError → Conn → ℕ → List ℕ → (Header → Bool) → Bool
ruled (Err found.Size) c now body test = false
ruled (Err (found.Version v)) c now body test = false
ruled (Err (found.Type t)) c now body test = false
ruled (Ok h) c now body test =
    and (leb now last_time)
    (and (not c.ended)
    (and (eqb (length body) (body_length h.tag h.length.0))
    (test h)))

-- Whether the rules would make a stream of a frame that has the header: SYN and no RST, the remote's parity, an id that is not in
-- the table, fewer than M streams in it, and the last test.
abbrev pub admits : Conn → Header → Bool → Bool
admits c h last =
    and (not (contains h.flags rst))
    (and (contains h.flags syn)
    (and (is_remote c.config.mode h.stream_id)
    (and (not (is_known (find c.slots h.stream_id)))
    (and (ltb (listed_count c.slots) c.config.max_num_streams) last))))

-- of a Data frame that has the body: at most 262,144 of it
abbrev pub opens : Conn → Header → List ℕ → Bool
opens c h body = admits c h (leb (length body) initial_window)

-- of a WindowUpdate: a credit that with 262,144 is at most 2^32-1
abbrev pub opens_by_credit : Conn → Header → Bool
opens_by_credit c h = admits c h (leb (h.length.0 + initial_window) top)

abbrev pub opens_as : Tag → Conn → Header → List ℕ → Bool
opens_as tag.Data c h body = opens c h body
opens_as tag.WindowUpdate c h body = opens_by_credit c h
opens_as tag.Ping c h body = false
opens_as tag.GoAway c h body = false

-- "the rules would make a stream" of a frame as it comes in at a time
abbrev pub would_open : Conn → ℕ → List ℕ → List ℕ → Bool
would_open c now head body = ruled (decoded head) c now body (λ h. opens_as h.tag c h body)

-- "Known, Data: body above the receive window, code 1. Else .. body queued"
abbrev pub takes_at : Place → Conn → List ℕ → Bool
takes_at nowhere c body = false
takes_at (at i) c body = leb (length body) (entry c.slots i).stream.flow.receive_window

-- Whether the rules would queue the body of a Data frame that has the header: no RST, and a new stream with SYN, or else one in the
-- table that takes it.
abbrev pub queues : Conn → Header → List ℕ → Bool
queues c h body =
    and (not (contains h.flags rst))
    (cond (contains h.flags syn) (opens c h body) (takes_at (find c.slots h.stream_id) c body))

abbrev pub queues_as : Tag → Conn → Header → List ℕ → Bool
queues_as tag.Data c h body = queues c h body
queues_as tag.WindowUpdate c h body = false
queues_as tag.Ping c h body = false
queues_as tag.GoAway c h body = false

-- "the body would be queued" of a frame as it comes in at a time
abbrev pub would_queue : Conn → ℕ → List ℕ → List ℕ → Bool
would_queue c now head body = ruled (decoded head) c now body (λ h. queues_as h.tag c h body)

-- ---- what a call would do

-- "Open: 10, 5, 3, wait, 4, 7": whether an open passes all but the 7
abbrev pub open_passes : Conn → ℕ → Bool
open_passes c now =
    and (leb now last_time)
    (and (not c.ended)
    (and (ltb (listed_count c.slots) c.config.max_num_streams)
    (and (ltb (unacknowledged c.config.mode c.slots) 256)
    (leb (c.next_id + 2) top))))

-- "the rules would make a stream" of a call
abbrev pub would_make : Conn → rules.Call → Bool
would_make c (rules.tick now) = false
would_make c (rules.frame now head body) = would_open c now head body
would_make c (rules.open_stream now) = open_passes c now
would_make c (rules.read now i asked) = false
would_make c (rules.write now i given) = false
would_make c (rules.close now i) = false
would_make c (rules.drop now i) = false
would_make c (rules.gone now) = false

-- "the body would be queued and is longer than the room" of a call
abbrev pub Overflows : Conn → rules.Call → Type 0
Overflows c (rules.tick now) = ⊥
Overflows c (rules.frame now head body) = (would_queue c now head body ≡ true) × (room c < length body)
Overflows c (rules.open_stream now) = ⊥
Overflows c (rules.read now i asked) = ⊥
Overflows c (rules.write now i given) = ⊥
Overflows c (rules.close now i) = ⊥
Overflows c (rules.drop now i) = ⊥
Overflows c (rules.gone now) = ⊥
