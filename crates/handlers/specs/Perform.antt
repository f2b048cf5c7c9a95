-- What an action does to a connection, in the rules' terms.
use Rattle.std.specs.Prelude.{Bool, true, false, cond, List, [], ◌++◌, ℕ, Option, None}
use Rattle.frame.specs.Header.{contains, ack}
use Rattle.frame.specs.declared.header.Header.{Header}
use Rattle.frame.specs.declared.header.Tag.{Tag}
use Rattle.frame.specs.declared.header.Tag.TheVariants as tag
use Rattle.stream.specs.declared.Stream.{Stream}
use Rattle.rules.specs.Replies.{Outcome}
use Rattle.rules.specs.Lists.{Place, at, nowhere}
use Rattle.rules.specs.State.{Entry, Conn, entry, with_slot, with_open_wait, listed_count, room}
use Rattle.rules.specs.Ending.{Effect, gives, refuse}
use Rattle.rules.specs.Frames.{new_entry}
use Rattle.handlers.specs.Actions.{acked, known}
use Rattle.handlers.specs.declared.Answer.{Answer}
use Rattle.handlers.specs.declared.Known.{Known}
use Rattle.handlers.specs.declared.Limits.{Limits}
use Rattle.handlers.specs.declared.Action.{Action}
use Rattle.handlers.specs.declared.Action.TheVariants as action

-- an answer that carries neither a body nor bytes read
abbrev pub outcome_of : Answer → Outcome
outcome_of a = record { reply = a.reply; slot = a.slot; value = a.value; header = a.sent; body = []; wakes = a.wakes; bytes = [] }

-- the entry with the stream s, in the table or not, and b after its unread bytes
abbrev pub changed : Entry → Stream → Bool → List ℕ → Entry
changed e s listed b = record { held = true; listed = listed; stream = s; bytes = e.bytes ++ b }

-- an open that the answer wakes waits no more
abbrev pub waits_on : Bool → Answer → Bool
waits_on waits o = cond o.wakes.opener false waits

abbrev pub heard : Conn → Answer → Conn
heard c o = with_open_wait c (waits_on c.open_wait o)

-- 7 and 8 undo the ACK step: what it left of the stream is not stored, and they wake no open
unfoldable pub perform : Conn → List ℕ → Action → Effect
perform c body (action.Refuse r) = refuse c r
perform c body (action.Answer o) = gives (outcome_of o) (heard c o)
perform c body (action.Store i s listed o) = gives (outcome_of o) (with_slot (heard c o) i.0 (changed (entry c.slots i.0) s listed []))
perform c body (action.Queue i s listed o) = gives (outcome_of o) (with_slot (heard c o) i.0 (changed (entry c.slots i.0) s listed body))
perform c body (action.New i s o) = gives (outcome_of o) (with_slot (heard c o) i.0 (new_entry s body))

-- ---- what the handlers are shown of a connection

-- the frame's stream in the table, as the ACK step leaves it
abbrev pub known_at : Conn → Header → Place → Option Known
known_at c h nowhere = None
known_at c h (at i) = known (record { 0 = i }) (acked h (entry c.slots i).stream)

abbrev pub limits_of : Conn → Limits
limits_of c = record { mode = c.config.mode; max_num_streams = c.config.max_num_streams; listed = listed_count c.slots; room = room c }

-- whether the frame's ACK wakes an open
abbrev pub wakes_open : Bool → Header → Bool
wakes_open waits h = cond (contains h.flags ack) waits false

-- Data and WindowUpdate, the frames of a stream
abbrev pub of_stream : Tag → Bool
of_stream tag.Data = true
of_stream tag.WindowUpdate = true
of_stream tag.Ping = false
of_stream tag.GoAway = false
