-- The call that an event stands for, and where an event lies. Sentences are document 01's, "replay".
use Rattle.std.specs.Prelude.{◌≡◌, List, ℕ, ◌+◌, ◌-◌, ◌≤◌, ◌<◌, length, take, drop, Ok, Err}
use Rattle.rules.specs.Step.{Call}
use Rattle.rules.specs.Step as rules
use Rattle.trace_events.specs.declared.Preamble.{Preamble}
use Rattle.trace_events.specs.declared.Kind.{Kind}
use Rattle.trace_events.specs.declared.Kind.TheVariants.{Tick, Frame, Open, Read, Write, Close, Drop, Gone}
use Rattle.trace_events.specs.declared.Event.{Event}
use Rattle.trace_events.specs.declared.Unreadable.TheVariants.{Short, Bad}
use Rattle.trace_events.specs.Numbers.{Reading}
use Rattle.trace_events.specs.Format.{event_at}

-- a call and the place after its event; or "cut short" so far; or "unreadable"
pub data Found : Type 0 where
  call : Call → ℕ → Found
  short : Found
  bad : Found

-- the bytes from one place to another
abbrev pub part : List ℕ → ℕ → ℕ → List ℕ
part s from to = take (to - from) (drop from s)

-- the call of this kind, whose event ends at `next`
abbrev pub call_of : List ℕ → ℕ → ℕ → Kind → Call
call_of s now next Tick = rules.tick now
call_of s now next (Frame head body) = rules.frame now (part s head body) (part s body next)
call_of s now next Open = rules.open_stream now
call_of s now next (Read slot count) = rules.read now slot count
call_of s now next (Write slot start) = rules.write now slot (part s start next)
call_of s now next (Close slot) = rules.close now slot
call_of s now next (Drop slot) = rules.drop now slot
call_of s now next Gone = rules.gone now

-- the call that an event stands for
abbrev pub call_on : List ℕ → Event → Call
call_on s e = call_of s e.now e.next e.kind

abbrev pub found_in : List ℕ → Reading Event → Found
found_in s (Ok e) = call (call_on s e) e.next
found_in s (Err Short) = short
found_in s (Err Bad) = bad

-- the call at a place of a trace
unfoldable pub call_at : List ℕ → ℕ → Found
call_at s at = found_in s (event_at s at)

-- the most bytes that an event takes: kind, time, slot and count of ten groups each, and 16,384 bytes
abbrev pub longest : ℕ
longest = 16424

-- what is read is as P says; what is cut short wants a byte below `top` that is not there
abbrev pub ReadIn : {A : Type 0} → List ℕ → ℕ → (A → Type 0) → Reading A → Type 0
ReadIn s top P (Ok x) = P x
ReadIn s top P (Err Short) = length s < top
ReadIn s top P (Err Bad) = Unit

-- what is read from `low` on takes a byte or more, none from `top` on, and none that is not there
abbrev pub Spans : List ℕ → ℕ → ℕ → ℕ → Type 0
Spans s low top next = (low < next) × (next ≤ length s) × (next ≤ top)

-- the parts of the input that an event's kind names lie before its end, and are no longer than they may be
abbrev pub Lies : ℕ → Kind → Type 0
Lies next Tick = Unit
Lies next (Frame head body) = (head + 12 ≡ body) × (body ≤ next) × (next ≤ body + 16384)
Lies next Open = Unit
Lies next (Read slot count) = count ≤ 16384
Lies next (Write slot start) = (start ≤ next) × (next ≤ start + 16384)
Lies next (Close slot) = Unit
Lies next (Drop slot) = Unit
Lies next Gone = Unit

abbrev pub Within : List ℕ → ℕ → ℕ → Reading Event → Type 0
Within s low top = ReadIn s top (λ (e : Event). Spans s low top e.next × Lies e.next e.kind)

-- settings, which start at the input's first byte, lie within it: ten numbers of ten groups at most
abbrev pub PreambleIn : List ℕ → Reading Preamble → Type 0
PreambleIn s = ReadIn s 100 (λ (p : Preamble). Spans s 0 100 p.next)

-- ---- the same trace from another place on

-- what was read k bytes further on
abbrev pub later : ℕ → Found → Found
later k (call c next) = call c (k + next)
later k short = short
later k bad = bad
