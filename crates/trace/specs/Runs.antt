-- A run over a trace: its lines, the events applied, where it stops and why. Sentences are document 01's, "replay".
use Rattle.std.specs.Prelude.{◌≡◌, ◌⊎◌, Bool, false, cond, List, [], ◌∷◌, ◌++◌, ℕ, zero, suc, ◌+◌, ◌-◌, ◌<◌, length, drop, ltb, Option, Some, None}
use Rattle.frame.specs.Wire.{wire}
use Rattle.rules.specs.Lists.{sum}
use Rattle.rules.specs.Replies.{Outcome}
use Rattle.rules.specs.State.{Conn}
use Rattle.rules.specs.Step.{Call, step}
use Rattle.trace_events.specs.Calls.{Found, call, short, bad, call_at}
use Rattle.trace_lines.specs.Line.{line_of, shown_of}
use Rattle.trace_lines.specs.Writing.{longest_line}
use Rattle.trace.specs.declared.Stop.{Stop}
use Rattle.trace.specs.declared.Stop.TheVariants as stop
use Rattle.frame.specs.declared.header.Header.{Header}

-- The lines, how many events were applied, the place after the last of them, the state then, and why no more were.
pub record Traced : Type 0 where
  pub lines : List ℕ
  pub applied : ℕ
  pub at : ℕ
  pub after : Conn
  pub why : Stop

-- "header sent in hex": its twelve bytes, or none
abbrev pub header_bytes : Option Header → List ℕ
header_bytes (Some h) = wire h
header_bytes None = []

-- the line of the n-th event
unfoldable pub event_line : ℕ → Outcome → List ℕ
event_line n o = line_of (shown_of n o) (header_bytes o.header) o.bytes

-- ---- room

-- the room for lines: as much as they take, or so many bytes
pub data Room : Type 0 where
  endless : Room
  only : ℕ → Room

-- a line is begun only where there is room for the longest
abbrev pub is_full : Room → Bool
is_full endless = false
is_full (only n) = ltb n longest_line

abbrev pub less : Room → ℕ → Room
less endless k = endless
less (only n) k = only (n - k)

-- ---- a run

-- a run that stops before the event at a place
abbrev pub stopped : Conn → ℕ → Stop → Traced
stopped c at why = record { lines = []; applied = 0; at = at; after = c; why = why }

-- a line, and the run that goes on after it
abbrev pub wrote : List ℕ → Traced → Traced
wrote line r = record { lines = line ++ r.lines; applied = r.applied + 1; at = r.at; after = r.after; why = r.why }

-- The event at a place, n being applied before it: where it is whole and there is room, the rules' step and its line, and
-- the run goes on.
abbrev pub on_found : Found → Conn → ℕ → ℕ → Room → (Conn → ℕ → ℕ → Room → Traced) → Traced
on_found short c at n room go = stopped c at stop.Short
on_found bad c at n room go = stopped c at stop.Bad
on_found (call x next) c at n room go =
    cond (is_full room)
    (stopped c at stop.Full)
    (wrote
    (event_line (n + 1) (step c x).outcome)
    (go (step c x).after next (n + 1) (less room (length (event_line (n + 1) (step c x).outcome)))))

-- "The run has an allowance of .. events and returns the number applied": at most k events of s from a place on, n being
-- applied before
unfoldable pub runs : ℕ → Conn → List ℕ → ℕ → ℕ → Room → Traced
runs zero c s at n room = stopped c at stop.Spent
runs (suc k) c s at n room = on_found (call_at s at) c at n room (λ c' at' n' room'. runs k c' s at' n' room')

-- ---- the calls that a run makes

abbrev pub reads_on : Found → (ℕ → List Call) → List Call
reads_on short go = []
reads_on bad go = []
reads_on (call x next) go = x ∷ go next

-- the calls of at most k events from a place on
unfoldable pub reads : ℕ → List ℕ → ℕ → List Call
reads zero s at = []
reads (suc k) s at = reads_on (call_at s at) (λ next. reads k s next)

-- ---- where events stand

abbrev pub lengths_on : Found → ℕ → (ℕ → List ℕ) → List ℕ
lengths_on short at go = []
lengths_on bad at go = []
lengths_on (call x next) at go = (next - at) ∷ go next

-- the lengths of at most k events from a place on
unfoldable pub lengths : ℕ → List ℕ → ℕ → List ℕ
lengths zero s at = []
lengths (suc k) s at = lengths_on (call_at s at) at (λ next. lengths k s next)

-- the bytes that they take together
abbrev pub total : List ℕ → ℕ
total ns = sum (λ (n : ℕ). n) ns

-- an event that cannot be read, or is cut short, stands where a run over an input of so many bytes stopped
abbrev pub Unreadable : Traced → ℕ → Type 0
Unreadable r size = (r.why ≡ stop.Bad) ⊎ ((r.why ≡ stop.Short) × (r.at < size))

-- ---- the lines of a run

-- the lines of outcomes, n events being applied before the first
abbrev pub lines_of : ℕ → List Outcome → List ℕ
lines_of n [] = []
lines_of n (o ∷ os) = event_line (n + 1) o ++ lines_of (n + 1) os

-- ---- one run after another

-- a run that goes on after these lines, so many events being applied
abbrev pub resumed : List ℕ → ℕ → Traced → Traced
resumed lines count q = record { lines = lines ++ q.lines; applied = count + q.applied; at = q.at; after = q.after; why = q.why }

-- what two runs give, the second going on where the first stopped
abbrev pub onward : Traced → Traced → Traced
onward r q = resumed r.lines r.applied q

-- a run over the input from its m-th byte on, by places of the whole input
abbrev pub shifted : ℕ → Traced → Traced
shifted m r = record { lines = r.lines; applied = r.applied; at = m + r.at; after = r.after; why = r.why }

-- A part of the input, and the room that there is for the lines of its events. A caller that was told Full goes on with more
-- room and an empty part.
pub record Part : Type 0 where
  pub bytes : List ℕ
  pub room : Room

abbrev pub joined : List Part → List ℕ
joined [] = []
joined (p ∷ ps) = p.bytes ++ joined ps

-- Input in parts: each run takes what the one before it left and the next part; the last one takes what is left.
abbrev pub feeds : ℕ → Conn → List ℕ → ℕ → List Part → Traced
feeds k c rest n [] = runs k c rest 0 n endless
feeds k c rest n (p ∷ ps) =
    let r = runs k c (rest ++ p.bytes) 0 n p.room in
    onward r (shifted r.at (feeds (k - r.applied) r.after (drop r.at (rest ++ p.bytes)) (n + r.applied) ps))
