-- Places in the program's buffers, what follows a run, and how much there is still to do.
use Rattle.std.specs.Prelude.{◌≡◌, Bool, false, cond, ℕ, zero, suc, ◌+◌, ◌-◌, ◌*◌, ◌≤◌, ◌<◌, leb, eqb, Option, Some, None}
use Rattle.filter.specs.Parts.{done}
use Rattle.filter.specs.declared.Standing.{Standing}
use Rattle.trace_events.specs.Calls.{longest}
use Rattle.trace_lines.specs.Writing.{longest_line}
use Rattle.trace.specs.Output.{allowance}
use Rattle.trace.specs.declared.Stop.{Stop}
use Rattle.trace.specs.declared.Stop.TheVariants as stop
use Rattle.trace.specs.declared.Place.{Place}
use Rattle.trace.specs.declared.Report.{Report}
use Rattle.trace_play.specs.declared.State.{State}
use Rattle.trace_play.specs.declared.Task.{Task}
use Rattle.trace_play.specs.declared.Task.TheVariants as task

-- the place after a text at the room's start
abbrev pub end_of : Option ℕ → ℕ
end_of (Some end) = end
end_of None = 0

-- Where a run stopped for room, lines are written; where the input there is was short and has not ended, more is read; else all is done.
abbrev pub next_task : Stop → Bool → Task
next_task stop.Full ended = task.Write
next_task stop.Short ended = cond ended task.End task.Read
next_task stop.Bad ended = task.End
next_task stop.Spent ended = task.End
next_task (stop.Wrong w) ended = task.End
next_task stop.Size ended = task.End

-- where a run starts
abbrev pub place_of : State → Place
place_of s = record { at = s.standing.at; applied = s.applied; put = s.standing.put }

-- the state after a run, which neither reads nor writes
abbrev pub after_run : State → Report → State
after_run s r = record {
  connection = r.connection;
  applied = r.place.applied;
  before = s.before;
  standing = record {
    at = r.place.at;
    have = s.standing.have;
    put = r.place.put;
    ended = s.standing.ended;
    done = s.standing.done;
    work = s.standing.work;
  };
}

-- nothing but places changes
abbrev pub moved : State → Standing → State
moved s x = record { connection = s.connection; applied = s.applied; before = s.before; standing = x }

-- the bytes of the input before the place where the program stands
abbrev pub passed : State → ℕ
passed s = s.before + s.standing.at

-- what was not taken is moved to the buffer's start: all that was taken lies before it now
abbrev pub fed_on : State → Standing → State
fed_on s x = record { connection = s.connection; applied = s.applied; before = passed s; standing = x }

-- no more lies before that place than settings, and the longest events, as many as are applied, can take: a number of 64 bits holds it
abbrev pub Counted : State → Type 0
Counted s = (passed s ≤ 100 + s.applied * longest) × (s.applied ≤ allowance)

-- what was read is there, and what was written is inside the room
abbrev pub Sound : ℕ → ℕ → Standing → Type 0
Sound input room x = (x.at ≤ x.have) × (x.have ≤ input) × (x.put ≤ room)

-- the buffers can hold the longest event and the longest line
abbrev pub Roomy : ℕ → ℕ → Type 0
Roomy input room = (longest ≤ input) × (longest_line ≤ room)

-- What is lent is enough for 300 slots and a pool of 16,384 bytes, can hold the longest event and the longest line, and is a header and the
-- longest read.
abbrev pub sized_for : ℕ → ℕ → ℕ → ℕ → ℕ → ℕ → ℕ → Bool
sized_for table links pool sent bytes input room =
    cond (leb 2700 table)
    (cond (leb 616 links)
    (cond (leb 630784 pool) (cond (leb longest input) (cond (leb longest_line room) (cond (eqb sent 12) (eqb bytes 16384) false) false) false) false) false) false

-- 1 where there is any
abbrev pub some : ℕ → ℕ
some zero = 0
some (suc n) = 1

-- How much there may still be to do: events to apply, bytes that an event may still want, whether the input may go on, and lines to write.
-- An event is worth more than all the rest.
abbrev pub left : State → ℕ
left s = (allowance - s.applied) * (longest + 3) + ((longest - (s.standing.have - s.standing.at)) + (cond s.standing.ended 0 1 + some s.standing.put))

-- all is done, or less is left
abbrev pub Nears : State → State → Type 0
Nears s s' = done s'.standing ≡ false → left s' < left s
