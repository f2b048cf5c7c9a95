-- Runs that the theorems speak of, by computation: that the demands are not met by doing nothing, and that their conditions are
-- needed.
use Rattle.std.specs.Prelude.{◌≡◌, true, false, List, [], ◌∷◌, ◌++◌, map, ℕ, zero, suc, ◌+◌, ◌/◌, ◌%◌, replicate, Some, Ok}
use Rattle.rules.specs.declared.Settings.{Settings}
use Rattle.rules.specs.Settings.{checked, config_of}
use Rattle.rules.specs.Replies.{Outcome, number, no_wakes}
use Rattle.rules.specs.State.{Conn, entry, initial}
use Rattle.rules.specs.Step.{step, run}
use Rattle.rules.specs.Step as rules

-- ---- the runs' words

-- a client's settings: M, limit, K, P; split 16,384, a ping first at 1,000 and then each 1,000
abbrev pub client : ℕ → ℕ → ℕ → ℕ → Settings
client m limit slots pool = record {
  mode = 0;
  max_num_streams = m;
  limit = limit;
  read_after_close = 1;
  split = 16384;
  interval = 1000;
  first_time = 1000;
  first_id = 0;
  slots = slots;
  pool = pool;
}

-- the twelve bytes of a header with a small stream id
abbrev pub head : ℕ → ℕ → ℕ → ℕ → List ℕ
head type flags id n = 0 ∷ type ∷ 0 ∷ flags ∷ 0 ∷ 0 ∷ 0 ∷ id ∷ n / 16777216 % 256 ∷ n / 65536 % 256 ∷ n / 256 % 256 ∷ n % 256 ∷ []

abbrev pub zeros : ℕ → List ℕ
zeros n = replicate n 0

-- frames at a time: Data with SYN, Data, RST, an answer to a ping
abbrev pub syn_data : ℕ → ℕ → ℕ → rules.Call
syn_data now id n = rules.frame now (head 0 1 id n) (zeros n)

abbrev pub reset : ℕ → ℕ → rules.Call
reset now id = rules.frame now (head 0 8 id 0) []

abbrev pub pong : ℕ → rules.Call
pong now = rules.frame now (head 2 2 0 0) []

abbrev pub ran : Settings → List rules.Call → rules.Ran
ran s ks = run (initial (config_of s)) ks

-- settings that are accepted, and what a run from them comes to
abbrev pub From : Settings → List rules.Call → (rules.Ran → Type 0) → Type 0
From s ks P = (checked s ≡ Ok (config_of s)) × P (ran s ks)

abbrev pub replies : List Outcome → List ℕ
replies os = map (λ o. number o.reply) os

abbrev pub given : List Outcome → List (List ℕ)
given os = map (λ o. o.bytes) os

-- ---- room (reading E7)

-- M = 1, K = 2, limit = P: the handle of a stream that was reset keeps 262,144 bytes, and one byte for the next finds no room
abbrev pub handle_keeps_room : List rules.Call
handle_keeps_room = syn_data 0 2 262144 ∷ reset 0 2 ∷ syn_data 0 4 1 ∷ []

-- and with P one less than limit + (K - M) x 262,144, 262,144 bytes for the next find none
abbrev pub handles_fill : List rules.Call
handles_fill = syn_data 0 2 262144 ∷ reset 0 2 ∷ syn_data 0 4 262144 ∷ []

-- ---- growth

-- a round trip of 10; a stream made at 2,000 whose 131,072 bytes are read, so that a read at 2,019 doubles its maximum; then the RST
abbrev pub grows : List rules.Call
grows = rules.tick 1000 ∷ pong 1010 ∷ syn_data 2000 2 131072 ∷ rules.read 2000 0 131072 ∷ rules.read 2019 0 0 ∷ []

abbrev pub grows_and_resets : List rules.Call
grows_and_resets = grows ++ (reset 2020 2 ∷ [])

abbrev pub grows_and_drops : List rules.Call
grows_and_drops = grows_and_resets ++ (rules.drop 2021 0 ∷ [])

-- ---- a stale handle

-- stream 2 is made in slot 0, reset while its handle is held, and made again in slot 1
abbrev pub stales : List rules.Call
stales = syn_data 0 2 3 ∷ reset 0 2 ∷ syn_data 0 2 5 ∷ []

-- ---- waits

-- the newer of those two is read out, and its reader waits
abbrev pub stale_waits : List rules.Call
stale_waits = stales ++ (rules.read 0 1 5 ∷ rules.read 0 1 1 ∷ [])

-- n writes of 16,384 bytes on slot 0
abbrev pub writes : ℕ → List rules.Call
writes zero = []
writes (suc n) = rules.write 0 0 (zeros 16384) ∷ writes n

-- a writer waits once 16 of them have used up the window; a close and a FIN then take its stream out of the table, mark and all
abbrev pub keeps_mark : List rules.Call
keeps_mark = syn_data 0 2 0 ∷ (writes 17 ++ (rules.close 0 0 ∷ rules.frame 0 (head 0 4 2 0) [] ∷ []))

-- 256 opens that no ACK answers, and one that waits behind them
abbrev pub opens_and_waits : List rules.Call
opens_and_waits = replicate 257 (rules.open_stream 0)

-- ---- long runs

-- round k: Data with two bytes that tell the round, and a read
abbrev pub round : ℕ → List rules.Call
round k = rules.frame 0 (head 0 0 2 2) (k ∷ (k + 1) ∷ []) ∷ rules.read 0 0 2 ∷ []

-- rounds n - 1 to 0
abbrev pub rounds : ℕ → List rules.Call
rounds zero = []
rounds (suc n) = round n ++ rounds n

-- what the reads of such rounds must give, each call's bytes in turn
abbrev pub echoes : ℕ → List (List ℕ)
echoes zero = []
echoes (suc n) = [] ∷ (n ∷ (n + 1) ∷ []) ∷ echoes n

-- a run through all replies but 4, which takes some 2^31 opens, and those two that end it before the end: 11 and 12
abbrev pub mixed : List rules.Call
mixed =
    rules.open_stream 0
    ∷ rules.read 0 0 1
    ∷ rules.frame 0 (head 0 1 3 0) []
    ∷ syn_data 0 2 4
    ∷ rules.frame 0 (head 0 0 2 9) (zeros 9)
    ∷ rules.frame 0 (head 0 0 2 1) []
    ∷ rules.read 0 5 1
    ∷ rules.tick 4611686018427387904
    ∷ rules.frame 0 (0 ∷ []) []
    ∷ rules.close 0 1
    ∷ rules.write 0 1 (7 ∷ [])
    ∷ rules.write 0 0 (7 ∷ [])
    ∷ reset 0 2
    ∷ syn_data 0 4 0
    ∷ rules.drop 0 1
    ∷ syn_data 0 4 0
    ∷ rules.open_stream 0
    ∷ rules.tick 0
    ∷ []

abbrev pub mixed_replies : List ℕ
mixed_replies = 0 ∷ 1 ∷ 2 ∷ 0 ∷ 8 ∷ 13 ∷ 9 ∷ 10 ∷ 14 ∷ 0 ∷ 6 ∷ 0 ∷ 0 ∷ 7 ∷ 0 ∷ 0 ∷ 3 ∷ 5 ∷ []

abbrev pub unknown_version : List rules.Call
unknown_version = rules.frame 0 (1 ∷ zeros 11) [] ∷ rules.open_stream 0 ∷ []

abbrev pub unknown_type : List rules.Call
unknown_type = rules.frame 0 (0 ∷ 4 ∷ zeros 10) [] ∷ rules.open_stream 0 ∷ []

-- ---- what they come to

abbrev pub Runs : Type 0
Runs =
    -- P of the limit is not enough once more than M handles are held, and limit + (K - M) x 262,144 is here the least that is
    From (client 1 262144 2 262144) handle_keeps_room (λ r. replies r.outcomes ≡ 0 ∷ 0 ∷ 8 ∷ [])
    × From (client 1 262144 2 524287) handles_fill (λ r. replies r.outcomes ≡ 0 ∷ 0 ∷ 8 ∷ [])
    × From (client 1 262144 2 524288) handles_fill (λ r. replies r.outcomes ≡ 0 ∷ 0 ∷ 0 ∷ [])
    -- grown by a read, kept by the RST, given back by the drop
    × From (client 4 2097152 4 4294967295) grows (λ r. r.after.growth ≡ 262144)
    × From (client 4 2097152 4 4294967295) grows_and_resets (λ r. r.after.growth ≡ 262144)
    × From (client 4 2097152 4 4294967295) grows_and_drops (λ r. r.after.growth ≡ 0)
    -- granted once, up to the maximum
    × From (client 4 2097152 4 4294967295) grows (λ r. (entry r.after.slots 0).stream.flow.max_receive_window ≡ 524288)
    × From (client 4 2097152 4 4294967295) grows (λ r. (entry r.after.slots 0).stream.flow.receive_window ≡ 524288)
    -- of a limit of M x 262,144 and 1,000 more, growth has the 1,000
    × From (client 4 1049576 4 4294967295) grows (λ r. r.after.growth ≡ 1000)
    -- a drop of the stale handle tells its own slot and the newer stream's reader
    × From (client 2 1048576 2 64) stale_waits (λ r. (step r.after (rules.drop 0 0)).outcome.slot ≡ Some (record { 0 = 0 }))
    × From (client 2 1048576 2 64) stale_waits (λ r. (step r.after (rules.drop 0 0)).outcome.wakes.reader ≡ true)
    -- a mark outside the table goes with the handle, and is not told
    × From (client 2 1048576 2 64) keeps_mark (λ r. (entry r.after.slots 0).listed ≡ false)
    × From (client 2 1048576 2 64) keeps_mark (λ r. (entry r.after.slots 0).stream.writer ≡ true)
    × From (client 2 1048576 2 64) keeps_mark (λ r. (step r.after (rules.drop 0 0)).outcome.wakes ≡ no_wakes)
    -- an open that waits is woken by an ACK for an id that is not in the table
    × From (client 257 67371008 257 0) opens_and_waits (λ r. (step r.after (rules.frame 0 (head 0 2 2 0) [])).outcome.wakes.opener ≡ true)
    -- a hundred rounds, each delivered as it was sent
    × From (client 4 1048576 4 64) (syn_data 0 2 0 ∷ rounds 100) (λ r. given r.outcomes ≡ [] ∷ echoes 100)
    -- no fixed reply
    × From (client 2 1048576 2 8) mixed (λ r. replies r.outcomes ≡ mixed_replies)
    × From (client 2 1048576 2 8) unknown_version (λ r. replies r.outcomes ≡ 11 ∷ 5 ∷ [])
    × From (client 2 1048576 2 8) unknown_type (λ r. replies r.outcomes ≡ 12 ∷ 5 ∷ [])

-- the state after a stream was reset and its number opened again: slot 0 is stale, slot 1 is the newer (for `stale-is-reached`)
abbrev pub stale_state : Conn
stale_state = (ran (client 2 1048576 2 64) stales).after
