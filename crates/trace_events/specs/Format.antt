-- Settings and events of a trace. Sentences are document 01's, "replay".
use Rattle.std.specs.Prelude.{cond, if◌then◌else◌, List, ℕ, ◌+◌, ◌*◌, length, get_or, eqb, ltb, leb, Ok, Err}
use Rattle.trace_events.specs.declared.Number.{Number}
use Rattle.trace_events.specs.declared.Preamble.{Preamble}
use Rattle.trace_events.specs.declared.Kind.{Kind}
use Rattle.trace_events.specs.declared.Kind.TheVariants as kinds
use Rattle.trace_events.specs.declared.Event.{Event}
use Rattle.trace_events.specs.declared.Code.{Code}
use Rattle.trace_events.specs.declared.Code.TheVariants.{Tick, Frame, Open, Read, Write, Close, Drop, Gone}
use Rattle.trace_events.specs.declared.Unreadable.TheVariants.{Short, Bad}
use Rattle.trace_events.specs.Numbers.{Reading, ◌>>=◌, number_at}

-- ---- settings

-- "First mode .., M, limit, read-after-close, split, interval, first time, first ping id, K, P": numbers one after another
unfoldable pub settings_at : List ℕ → Reading Preamble
settings_at s = do
  mode ← number_at s 0
  streams ← number_at s mode.next
  limit ← number_at s streams.next
  after-close ← number_at s limit.next
  split ← number_at s after-close.next
  interval ← number_at s split.next
  first-time ← number_at s interval.next
  first-id ← number_at s first-time.next
  slots ← number_at s first-id.next
  pool ← number_at s slots.next
  Ok
      (record {
        settings = record {
          mode = mode.value;
          max_num_streams = streams.value;
          limit = limit.value;
          read_after_close = after-close.value;
          split = split.value;
          interval = interval.value;
          first_time = first-time.value;
          first_id = first-id.value;
          slots = slots.value;
          pool = pool.value;
        };
        next = pool.next;
      })

-- ---- events

-- what is read, where the bytes below `end` are there
abbrev pub whole : {A : Type 0} → List ℕ → ℕ → Reading A → Reading A
whole s end r = cond (leb end (length s)) r (Err Short)

-- "a count or body above its bound .. is unreadable", as soon as it is read
abbrev pub bounded : {A : Type 0} → ℕ → Reading A → Reading A
bounded n r = cond (ltb 16384 n) (Err Bad) r

-- a header's length: its last four bytes, high first
abbrev pub length_at : List ℕ → ℕ → ℕ
length_at s p = ((get_or s (p + 8) 0 * 256 + get_or s (p + 9) 0) * 256 + get_or s (p + 10) 0) * 256 + get_or s (p + 11) 0

-- "1 frame (12 header bytes, body if the type byte is 0, at most 16,384)": as long as the header's length says
unfoldable pub frame_at : List ℕ → ℕ → Reading (Kind × ℕ)
frame_at s p =
    whole s (p + 12)
    (cond (eqb (get_or s (p + 1) 0) 0)
    (bounded (length_at s p) (whole s (p + 12 + length_at s p) (Ok (kinds.Frame p (p + 12), p + 12 + length_at s p))))
    (Ok (kinds.Frame p (p + 12), p + 12)))

-- "count (<= 16,384)"
unfoldable pub count_at : List ℕ → ℕ → Reading Number
count_at s p = do
  count ← number_at s p
  bounded count.value (Ok count)

-- "3 read slot, count (<= 16,384)", after the time
unfoldable pub read_at : List ℕ → ℕ → Reading (Kind × ℕ)
read_at s p = do
  slot ← number_at s p
  count ← count_at s slot.next
  Ok (kinds.Read slot.value count.value, count.next)

-- "4 write slot, count (<= 16,384), bytes", as many as the count says
unfoldable pub write_at : List ℕ → ℕ → Reading (Kind × ℕ)
write_at s p = do
  slot ← number_at s p
  count ← count_at s slot.next
  whole s (count.next + count.value) (Ok (kinds.Write slot.value count.next, count.next + count.value))

-- "5 close slot"
unfoldable pub close_at : List ℕ → ℕ → Reading (Kind × ℕ)
close_at s p = do
  slot ← number_at s p
  Ok (kinds.Close slot.value, slot.next)

-- "6 drop slot"
unfoldable pub drop_at : List ℕ → ℕ → Reading (Kind × ℕ)
drop_at s p = do
  slot ← number_at s p
  Ok (kinds.Drop slot.value, slot.next)

-- "0 tick; 1 frame ..; 2 open; 3 read ..; 4 write ..; 5 close ..; 6 drop ..; 7 peer gone"; "a kind above 7, is unreadable"
abbrev pub code_of : ℕ → Reading Code
code_of n =
    if eqb n 0 then Ok Tick
    else if eqb n 1 then Ok Frame
    else if eqb n 2 then Ok Open
    else if eqb n 3 then Ok Read
    else if eqb n 4 then Ok Write
    else if eqb n 5 then Ok Close
    else if eqb n 6 then Ok Drop
    else if eqb n 7 then Ok Gone
    else Err Bad

-- "rest": what follows the code and the time, and the place after it
abbrev pub rest_at : List ℕ → Code → ℕ → Reading (Kind × ℕ)
rest_at s Tick p = Ok (kinds.Tick, p)
rest_at s Frame p = frame_at s p
rest_at s Open p = Ok (kinds.Open, p)
rest_at s Read p = read_at s p
rest_at s Write p = write_at s p
rest_at s Close p = close_at s p
rest_at s Drop p = drop_at s p
rest_at s Gone p = Ok (kinds.Gone, p)

-- "events: kind, time, rest"
unfoldable pub event_at : List ℕ → ℕ → Reading Event
event_at s at = do
  first ← number_at s at
  code ← code_of first.value
  time ← number_at s first.next
  rest ← rest_at s code time.next
  Ok (record { now = time.value; next = rest.1; kind = rest.0 })
