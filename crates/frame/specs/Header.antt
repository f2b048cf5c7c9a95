-- What a header's fields mean: each comment gives the Yamux specification's rule, in our words.
use Rattle.std.specs.Prelude.{Bool, true, false, cond, ℕ, ◌/◌, ◌%◌, ◌^◌, eqb}
use Rattle.std.specs.Int.Bits.{bit_and, bit_or}
use Rattle.frame.specs.declared.header.StreamId.{StreamId}
use Rattle.frame.specs.declared.header.Flags.{Flags}
use Rattle.frame.specs.declared.header.Len.{Len}
use Rattle.frame.specs.declared.header.Credit.{Credit}
use Rattle.frame.specs.declared.header.Header.{Header}
use Rattle.frame.specs.declared.header.Tag.{Tag}
use Rattle.frame.specs.declared.header.Tag.TheVariants.{Data, WindowUpdate, Ping, GoAway}

-- ---- stream ids

-- The client opens streams with odd ids, the server with even ones. Document 01: "Even ids, 0 among them, are the server's."
abbrev pub client : StreamId → Bool
client id = eqb (id.0 % 2) 1

abbrev pub server : StreamId → Bool
server id = eqb (id.0 % 2) 0

-- The id 0 stands for the session and no stream.
abbrev pub session : StreamId → Bool
session id = eqb id.0 0

-- ---- flags

-- SYN is 0x1: a new stream starts.
abbrev pub syn : Flags
syn = record { 0 = 1 }

-- ACK is 0x2: the start of a stream is acknowledged.
abbrev pub ack : Flags
ack = record { 0 = 2 }

-- FIN is 0x4: the sender's half of a stream is closed.
abbrev pub fin : Flags
fin = record { 0 = 4 }

-- RST is 0x8: a stream is reset at once.
abbrev pub rst : Flags
rst = record { 0 = 8 }

-- every bit of g is set in f
abbrev pub contains : Flags → Flags → Bool
contains f g = eqb (bit_and f.0 g.0) g.0

-- the bits of both
abbrev pub joined : Flags → Flags → Flags
joined f g = record { 0 = bit_or f.0 g.0 }

-- the header with the flag set beside those that it has
abbrev pub flagged : Header → Flags → Header
flagged h f = record { tag = h.tag; flags = joined h.flags f; stream_id = h.stream_id; length = h.length }

-- SYN and ACK go with data, window updates and pings; FIN and RST with data and window updates; GoAway has none.
-- Document 01: a setter that a type lacks returns the header as given.
abbrev pub opening : Tag → Flags → Header → Header
opening Data f h = flagged h f
opening WindowUpdate f h = flagged h f
opening Ping f h = flagged h f
opening GoAway f h = h

abbrev pub closing : Tag → Flags → Header → Header
closing Data f h = flagged h f
closing WindowUpdate f h = flagged h f
closing Ping f h = h
closing GoAway f h = h

abbrev pub with_syn : Header → Header
with_syn h = opening h.tag syn h

abbrev pub with_ack : Header → Header
with_ack h = opening h.tag ack h

abbrev pub with_fin : Header → Header
with_fin h = closing h.tag fin h

abbrev pub with_rst : Header → Header
with_rst h = closing h.tag rst h

-- The four flags, by the bit of the flag word that each is.
pub data Flag : Type 0 where
  SYN ACK FIN RST : Flag

abbrev pub position : Flag → ℕ
position SYN = 0
position ACK = 1
position FIN = 2
position RST = 3

-- bit k of a word
abbrev pub bit : ℕ → ℕ → ℕ
bit x k = x / 2 ^ k % 2

-- the setter of each flag
abbrev pub setter : Flag → Header → Header
setter SYN h = with_syn h
setter ACK h = with_ack h
setter FIN h = with_fin h
setter RST h = with_rst h

-- which types have it
abbrev pub opens : Tag → Bool
opens Data = true
opens WindowUpdate = true
opens Ping = true
opens GoAway = false

abbrev pub closes : Tag → Bool
closes Data = true
closes WindowUpdate = true
closes Ping = false
closes GoAway = false

abbrev pub has : Tag → Flag → Bool
has t SYN = opens t
has t ACK = opens t
has t FIN = closes t
has t RST = closes t

-- ---- the length field

-- a header with no flag set
abbrev pub plain : Tag → StreamId → ℕ → Header
plain t id n = record { tag = t; flags = record { 0 = 0 }; stream_id = id; length = record { 0 = n } }

abbrev pub session_id : StreamId
session_id = record { 0 = 0 }

-- Data: the length is that of the body, which follows the header.
abbrev pub data_header : StreamId → Len → Header
data_header id n = plain Data id n.0

-- Window Update: the length is the credit, by which the window grows: so many bytes more may the frame's receiver send.
abbrev pub window_update_header : StreamId → Credit → Header
window_update_header id c = plain WindowUpdate id c.0

-- Ping: the length is an opaque value, which the answer repeats; the stream id is 0.
abbrev pub ping_header : ℕ → Header
ping_header v = plain Ping session_id v

-- Go Away: the length is a code; the stream id is 0.
abbrev pub go_away_header : ℕ → Header
go_away_header code = plain GoAway session_id code

-- The codes: 0x0 normal termination, 0x1 protocol error, 0x2 internal error.
abbrev pub normal : ℕ
normal = 0

abbrev pub protocol_error : ℕ
protocol_error = 1

abbrev pub internal_error : ℕ
internal_error = 2

-- Each side of a new stream starts with a window of 256 KiB.
abbrev pub initial_window : ℕ
initial_window = 262144

-- ---- the frames that are more than a header of one type

-- Document 01: FIN, with ACK if still owed, as a Data frame of length 0.
abbrev pub close_stream : StreamId → Bool → Header
close_stream id owed =
    let f = with_fin (data_header id (record { 0 = 0 })) in
    cond owed (with_ack f) f

-- A Ping that asks carries SYN.
abbrev pub ping_syn : ℕ → Header
ping_syn v = with_syn (ping_header v)
