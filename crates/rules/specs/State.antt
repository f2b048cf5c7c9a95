-- The connection's state, and its slots. Sentences are document 01's.
use Rattle.std.specs.Prelude.{Bool, true, false, cond, List, [], ℕ, ◌-◌, length, get_or, set, replicate, eqb, Option, Some, None}
use Rattle.frame.specs.Header.{session_id, client, server}
use Rattle.frame.specs.declared.header.StreamId.{StreamId}
use Rattle.rtt.specs.Pings.{start}
use Rattle.rtt.specs.declared.Rtt.{Rtt}
use Rattle.stream.specs.States.{is_pending_ack}
use Rattle.stream.specs.Streams.{new_outbound}
use Rattle.stream.specs.declared.Stream.{Stream}
use Rattle.rules.specs.Lists.{Place, at, nowhere, first, sum}
use Rattle.rules.specs.declared.Config.{Config}
use Rattle.rules.specs.declared.Mode.{Mode}
use Rattle.rules.specs.declared.Mode.TheVariants.{Client, Server}
use Rattle.rules.specs.declared.Slot.{Slot}

-- A slot: whether its handle is held, whether its stream is in the table, the stream, and the bytes not read yet.
pub record Entry : Type 0 where
  pub held : Bool
  pub listed : Bool
  pub stream : Stream
  pub bytes : List ℕ

-- The connection. `growth` is a figure that the rules move.
pub record Conn : Type 0 where
  pub config : Config
  pub pings : Rtt
  pub ended : Bool
  pub next_id : ℕ
  pub open_wait : Bool
  pub growth : ℕ
  pub slots : List Entry

-- a slot that is not in use; which stream stands in it is our choice, and no rule looks at it
abbrev pub vacant : Entry
vacant = record { held = false; listed = false; stream = new_outbound session_id 0; bytes = [] }

abbrev pub entry : List Entry → ℕ → Entry
entry es i = get_or es i vacant

-- "ids start at 1 (client) or 2 (server)"
abbrev pub first_own : Mode → ℕ
first_own Client = 1
first_own Server = 2

-- a new connection: K free slots, the first ping as set, nothing grown
abbrev pub initial : Config → Conn
initial c = record {
  config = c;
  pings = start c.first_time c.first_id;
  ended = false;
  next_id = first_own c.mode;
  open_wait = false;
  growth = 0;
  slots = replicate c.slots vacant;
}

-- ---- one field changed

abbrev pub with_slots : Conn → List Entry → Conn
with_slots c es = record {
  config = c.config;
  pings = c.pings;
  ended = c.ended;
  next_id = c.next_id;
  open_wait = c.open_wait;
  growth = c.growth;
  slots = es;
}

abbrev pub with_slot : Conn → ℕ → Entry → Conn
with_slot c i e = with_slots c (set c.slots i e)

abbrev pub with_growth : Conn → ℕ → Conn
with_growth c g = record {
  config = c.config;
  pings = c.pings;
  ended = c.ended;
  next_id = c.next_id;
  open_wait = c.open_wait;
  growth = g;
  slots = c.slots;
}

abbrev pub with_pings : Conn → Rtt → Conn
with_pings c p = record {
  config = c.config;
  pings = p;
  ended = c.ended;
  next_id = c.next_id;
  open_wait = c.open_wait;
  growth = c.growth;
  slots = c.slots;
}

abbrev pub with_open_wait : Conn → Bool → Conn
with_open_wait c w = record {
  config = c.config;
  pings = c.pings;
  ended = c.ended;
  next_id = c.next_id;
  open_wait = w;
  growth = c.growth;
  slots = c.slots;
}

abbrev pub with_next_id : Conn → ℕ → Conn
with_next_id c n = record {
  config = c.config;
  pings = c.pings;
  ended = c.ended;
  next_id = n;
  open_wait = c.open_wait;
  growth = c.growth;
  slots = c.slots;
}

abbrev pub with_stream : Entry → Stream → Entry
with_stream e s = record { held = e.held; listed = e.listed; stream = s; bytes = e.bytes }

-- ---- looking at the slots

abbrev pub one : Bool → ℕ
one b = cond b 1 0

-- "id in the table"
abbrev pub has_id : StreamId → Entry → Bool
has_id id e = cond e.listed (eqb e.stream.id.0 id.0) false

abbrev pub find : List Entry → StreamId → Place
find es id = first (has_id id) es

-- "A slot is in use while its handle is held; the lowest free one is taken."
abbrev pub is_free : Entry → Bool
is_free e = cond e.held false true

abbrev pub lowest_free : List Entry → Place
lowest_free es = first is_free es

-- a place as the code has it: a slot, or none
abbrev pub found_of : Place → Option Slot
found_of (at i) = Some (record { 0 = i })
found_of nowhere = None

-- the streams in the table
abbrev pub listed_count : List Entry → ℕ
listed_count es = sum (λ e. one e.listed) es

-- all unread bytes
abbrev pub unread_total : List Entry → ℕ
unread_total es = sum (λ e. length e.bytes) es

-- "Pool room is P less all unread bytes"
abbrev pub room : Conn → ℕ
room c = c.config.pool - unread_total c.slots

-- "Even ids, 0 among them, are the server's."
abbrev pub is_own : Mode → StreamId → Bool
is_own Client id = client id
is_own Server id = server id

abbrev pub is_remote : Mode → StreamId → Bool
is_remote Client id = server id
is_remote Server id = client id

-- "own-parity streams Open and unacknowledged", of those in the table
abbrev pub is_unacknowledged : Mode → Entry → Bool
is_unacknowledged m e = cond e.listed (cond (is_own m e.stream.id) (is_pending_ack e.stream.state) false) false

abbrev pub unacknowledged : Mode → List Entry → ℕ
unacknowledged m es = sum (λ e. one (is_unacknowledged m e)) es
