-- Pings: when one is sent, and what a pong does. Sentences are document 01's.
use Rattle.std.specs.Prelude.{ℕ, ◌+◌, ◌-◌, ◌%◌, min, cond, ◌==◌, nat_le, Some, None, Result, Ok, Err}
use Rattle.frame.specs.Header.{ping_syn}
use Rattle.rtt.specs.declared.Rtt.{Rtt}
use Rattle.rtt.specs.declared.RttState.{RttState}
use Rattle.rtt.specs.declared.RttState.TheVariants.{Waiting, AwaitingPong}
use Rattle.rtt.specs.declared.Pinged.{Pinged}
use Rattle.rtt.specs.declared.UnexpectedPong.{UnexpectedPong}

-- "Elapsed is the call's time less the noted one, 0 if negative."
abbrev pub elapsed : ℕ → ℕ → ℕ
elapsed noted now = now - noted

-- now + interval. Both are below 2^62 in a connection, so that the bound of 64 bits is never met there.
abbrev pub later : ℕ → ℕ → ℕ
later now interval = min (now + interval) 18446744073709551615

-- the first ping is due at the setting's first ping time, and has the setting's id
abbrev pub start : ℕ → ℕ → Rtt
start first id = record { state = Waiting first; next_id = id; round_trip = None }

-- "which runs from 4294967295 to 0"
abbrev pub id_after : ℕ → ℕ
id_after id = (id + 1) % 4294967296

-- "no ping outstanding and due time <= now: Ping SYN with the next id"
abbrev pub pinged : Rtt → ℕ → Pinged
pinged r now = record {
  rtt = record { state = AwaitingPong now r.next_id; next_id = id_after r.next_id; round_trip = r.round_trip };
  ping = Some (ping_syn r.next_id);
}

-- "No ping to send: done."
abbrev pub quiet : Rtt → Pinged
quiet r = record { rtt = r; ping = None }

abbrev pub next_ping_in : RttState → Rtt → ℕ → Pinged
next_ping_in (Waiting next) r now = cond (nat_le next now) (pinged r now) (quiet r)
next_ping_in (AwaitingPong sent id) r now = quiet r

abbrev pub next_ping : Rtt → ℕ → Pinged
next_ping r now = next_ping_in r.state r now

abbrev pub unexpected : UnexpectedPong
unexpected = record {}

-- "A pong not awaited or of another id: code 1. Else round trip = elapsed, next ping at now + interval."
abbrev pub handle_pong_in : RttState → Rtt → ℕ → ℕ → ℕ → Result Rtt UnexpectedPong
handle_pong_in (Waiting next) r id now interval = Err unexpected
handle_pong_in (AwaitingPong sent expected) r id now interval =
    cond (id == expected)
    (Ok (record { state = Waiting (later now interval); next_id = r.next_id; round_trip = Some (elapsed sent now) }))
    (Err unexpected)

abbrev pub handle_pong : Rtt → ℕ → ℕ → ℕ → Result Rtt UnexpectedPong
handle_pong r id now interval = handle_pong_in r.state r id now interval
