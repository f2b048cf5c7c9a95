-- What one event, and a run over the events from a place on, promise.
use Rattle.std.specs.Prelude.{◌≡◌, Bool, true, false, ◌⊎◌, List, ℕ, suc, ◌+◌, ◌-◌, ◌*◌, ◌≤◌, ◌<◌, min, length, take, Result, Ok, Err, Option, Some, None}
use Rattle.std.proofs.lemmas.List.Edits.{sets}
use Rattle.rules.specs.State.{Conn}
use Rattle.connection.specs.Abstract.{abs_of, Valid}
use Rattle.connection.specs.declared.Connection.{Connection}
use Rattle.handlers.specs.declared.Answer.{Answer}
use Rattle.trace_events.specs.Calls.{longest}
use Rattle.trace_events.specs.declared.Kind.{Kind}
use Rattle.trace_events.specs.declared.Unreadable.{Unreadable}
use Rattle.trace_events.specs.declared.Unreadable.TheVariants.{Short, Bad}
use Rattle.trace_lines.specs.Line.{line_of}
use Rattle.trace_lines.specs.Writing.{longest_line}
use Rattle.trace.specs.Applies.{bytes_read}
use Rattle.trace.specs.Runs.{Traced, only, stopped, wrote, runs, resumed}
use Rattle.trace.specs.declared.Stop.{Stop}
use Rattle.trace.specs.declared.Stop.TheVariants as stop
use Rattle.trace.specs.declared.Place.{Place}
use Rattle.trace.specs.declared.Report.{Report}
use Rattle.frame.specs.declared.header.Header.{Header}

-- ---- one event

-- how many of the twelve lent bytes a header takes
abbrev pub header_size : Option Header → ℕ
header_size (Some h) = 12
header_size None = 0

-- the line of an answer to an event of this kind, its header and its bytes read off the lent output
abbrev pub shown_line : ℕ → Kind → Answer → List ℕ → List ℕ → List ℕ
shown_line n k a sent bytes =
    line_of
    (record { number = n; reply = a.reply; slot = a.slot; value = a.value; wakes = a.wakes })
    (take (header_size a.sent) sent)
    (take (min (bytes_read k a.value) (length bytes)) bytes)

-- why a run stops where no event is read
abbrev pub stop_of : Unreadable → Stop
stop_of Short = stop.Short
stop_of Bad = stop.Bad

-- what a run that stops so lacks, on every input of `size` bytes and in `room` bytes for lines: fewer bytes are left than the longest event
-- takes, or less room than the longest line takes; of the other reasons nothing is said
abbrev pub Lacks : Stop → ℕ → ℕ → ℕ → ℕ → Type 0
Lacks stop.Short size at room put = size < at + longest
Lacks stop.Full size at room put = room - put < longest_line
Lacks stop.Bad size at room put = Unit {0}
Lacks stop.Spent size at room put = Unit {0}
Lacks (stop.Wrong w) size at room put = Unit {0}
Lacks stop.Size size at room put = Unit {0}

-- nothing is applied at a place, and so a run stops there, from any state
pub record Halts (t l p s : List ℕ) (at : ℕ) (o : List ℕ) (put : ℕ) (why : Stop) (t' l' p' o' : List ℕ) : Type 0 where
  pub table : t' ≡ t
  pub links : l' ≡ l
  pub pool : p' ≡ p
  pub out : o' ≡ o
  pub stops : (c : Conn) (k n : ℕ) → runs (suc k) c s at n (only (length o - put)) ≡ stopped c at why
  pub lacks : Lacks why (length s) at (length o) put

-- from a valid state: the event's line, and the run goes on after it
pub record Continues (c : Connection) (t l p s : List ℕ) (at number : ℕ) (o : List ℕ) (put : ℕ) (d : Connection) (after end : ℕ) (t' l' p' o' : List ℕ) : Type 0 where
  pub line : List ℕ
  pub valid : Valid d t' l' p'
  pub goes : (k n : ℕ) → n + 1 ≡ number
      → runs (suc k) (abs_of c t l p) s at n (only (length o - put)) ≡ wrote line (runs k (abs_of d t' l' p') s after (n + 1) (only (length o - end)))
  pub ends : end ≡ put + length line
  pub out : o' ≡ sets o put line

-- on every input: forward in the input, by no more than the longest event, and in the room, and inside both
pub record Goes (c : Connection) (t l p s : List ℕ) (at number : ℕ) (o : List ℕ) (put : ℕ) (d : Connection) (after end : ℕ) (t' l' p' o' : List ℕ) : Type 0 where
  pub forward : at < after
  pub reach : after ≤ at + longest
  pub inside : after ≤ length s
  pub written : put ≤ end
  pub room : end ≤ length o
  pub steps : Valid c t l p → Continues c t l p s at number o put d after end t' l' p' o'

abbrev pub Turns : Connection → List ℕ → List ℕ → List ℕ → List ℕ → List ℕ → Place → Result (Connection × Place) Stop → List ℕ → List ℕ → List ℕ → List ℕ → Type 0
Turns c t l p s o place (Err why) t' l' p' o' = Halts t l p s place.at o place.put why t' l' p' o'
Turns c t l p s o place (Ok on) t' l' p' o' =
    (on.1.applied ≡ place.applied + 1) × Goes c t l p s place.at (place.applied + 1) o place.put on.0 on.1.at on.1.put t' l' p' o'

-- ---- a run

abbrev pub stopped_at : Connection → Place → Stop → Report
stopped_at c place why = record { connection = c; place = place; stop = why }

-- A run's answer: valid again, and state, count, places, reason and lines are the definition's.
pub record RanAs (ran : Traced) (place : Place) (o : List ℕ) (r : Report) (t' l' p' o' : List ℕ) : Type 0 where
  pub valid : Valid r.connection t' l' p'
  pub after : abs_of r.connection t' l' p' ≡ ran.after
  pub applied : r.place.applied ≡ place.applied + ran.applied
  pub at : r.place.at ≡ ran.at
  pub put : r.place.put ≡ place.put + length ran.lines
  pub why : r.stop ≡ ran.why
  pub out : o' ≡ sets o place.put ran.lines

-- the definition's run from a place on, within the room that is left
abbrev pub runs_from : Connection → List ℕ → List ℕ → List ℕ → List ℕ → List ℕ → Place → ℕ → Traced
runs_from c t l p s o place allowance =
    runs (allowance - place.applied) (abs_of c t l p) s place.at place.applied (only (length o - place.put))

-- Where a run stands, on every input: never back, and never past the allowance, the input, the room or what the longest events take; and
-- where it started, unless it applied an event.
pub record Bounds (s o : List ℕ) (place : Place) (allowance at applied put : ℕ) : Type 0 where
  pub counted : place.applied ≤ applied
  pub forward : place.at ≤ at
  pub reach : at ≤ place.at + (applied - place.applied) * longest
  pub inside : place.at ≤ length s → at ≤ length s
  pub written : place.put ≤ put
  pub room : place.put ≤ length o → put ≤ length o
  pub moved : ((applied ≡ place.applied) × (at ≡ place.at) × (put ≡ place.put)) ⊎ ((place.applied < applied) × (applied ≤ allowance))

-- From a valid state, `sized` saying whether all that is lent has its size, a run is the definition's. A wrong size is told, and
-- nothing changes.
pub record Runs (sized : Bool) (c : Connection) (t l p s o : List ℕ) (place : Place) (allowance : ℕ) (r : Report) (t' l' p' o' : List ℕ) : Type 0 where
  pub steps : sized ≡ true → Valid c t l p → RanAs (runs_from c t l p s o place allowance) place o r t' l' p' o'
  pub wrong : sized ≡ false → (r ≡ stopped_at c place stop.Size) × (t' ≡ t) × (l' ≡ l) × (p' ≡ p) × (o' ≡ o)
  pub bounds : Bounds s o place allowance r.place.at r.place.applied r.place.put
  pub lacks : Lacks r.stop (length s) r.place.at (length o) r.place.put

-- "nothing changed": at a wrong size, what is lent to work with is as it was too
abbrev pub Untouched : Bool → List ℕ → List ℕ → List ℕ → List ℕ → Type 0
Untouched sized sent bytes sent' bytes' = sized ≡ false → (sent' ≡ sent) × (bytes' ≡ bytes)

-- ---- within a run

-- how far a run has come: the lines and the count so far, and what is left of the definition's run
pub record Reached (c : Connection) (t l p s o : List ℕ) (place : Place) (allowance : ℕ) (d : Connection) (t' l' p' o' : List ℕ) (at applied put : ℕ) : Type 0 where
  pub lines : List ℕ
  pub count : ℕ
  pub valid : Valid d t' l' p'
  pub left : runs_from c t l p s o place allowance ≡ resumed lines count (runs_from d t' l' p' s o' (record { at = at; applied = applied; put = put }) allowance)
  pub applies : applied ≡ place.applied + count
  pub puts : put ≡ place.put + length lines
  pub out : o' ≡ sets o place.put lines
