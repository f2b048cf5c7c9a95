-- How a trace starts and ends, and all that is printed for an input. Sentences are document 01's, "replay".
use Rattle.std.specs.Prelude.{◌≡◌, cond, List, [], ◌++◌, ℕ, ◌+◌, ◌-◌, ◌*◌, ltb, length, Result, Ok, Err, Option, None}
use Rattle.chunks.specs.Blocks.{BLOCK, blocks_for}
use Rattle.table.specs.Table.{size}
use Rattle.rules.specs.Replies.{number}
use Rattle.rules.specs.Settings.{setting_number, checked_within}
use Rattle.rules.specs.State.{Conn, initial}
use Rattle.rules.specs.declared.Settings.{Settings}
use Rattle.rules.specs.declared.Config.{Config}
use Rattle.rules.specs.declared.Most.{Most}
use Rattle.rules.specs.declared.Reply.TheVariants as reply
use Rattle.trace_events.specs.Numbers.{Reading}
use Rattle.trace_events.specs.Format.{settings_at}
use Rattle.trace_events.specs.declared.Preamble.{Preamble}
use Rattle.trace_lines.specs.Line.{end_line, bad_line, config_line}
use Rattle.trace_lines.specs.Writing.{Writes, last_room}
use Rattle.trace.specs.Runs.{Traced, endless, runs}
use Rattle.trace.specs.declared.Stop.{Stop}
use Rattle.trace.specs.declared.Stop.TheVariants as stop
use Rattle.trace.specs.declared.ends.Sizes.{Sizes}
use Rattle.trace.specs.declared.ends.Begun.{Begun}
use Rattle.rules.specs.declared.Setting.{Setting}

-- ---- settings

-- "(here K <= 300, P <= 16,384)"
abbrev pub most : Most
most = record { slots = 300; pool = 16384 }

-- what settings ask for
abbrev pub sizes_of : Config → Sizes
sizes_of k = record { table = size k.slots; links = blocks_for k.slots k.pool; pool = blocks_for k.slots k.pool * BLOCK }

-- "a breach .. judged once all ten are read"
abbrev pub judged_as : Result Config Setting → Settings → ℕ → Result Begun Stop
judged_as (Err w) t next = Err (stop.Wrong w)
judged_as (Ok k) t next = Ok (record { settings = t; sizes = sizes_of k; next = next })

-- settings cut short, and an empty input, are unreadable (reading C6)
abbrev pub begun_as : Reading Preamble → Result Begun Stop
begun_as (Ok p) = judged_as (checked_within most p.settings) p.settings p.next
begun_as (Err e) = Err stop.Bad

-- ---- the last line

-- "Last line `end`, events applied, growth figure; for an unreadable trace `bad` and events applied", and then, by M-100, "the byte .. at
-- which the failing event starts"; for a wrong setting only `config` and its number, and for something lent of a wrong size 14, which no
-- input leads to. "An event cut short .. is unreadable": a run that is short of input where bytes are left has one, and stopped where it
-- starts. "Used up, it prints the last line." A run that stopped for room is not over, and has no last line.
abbrev pub last_line : Stop → ℕ → ℕ → ℕ → ℕ → List ℕ
last_line stop.Short left byte applied growth = cond (ltb 0 left) (bad_line applied byte) (end_line applied growth)
last_line stop.Bad left byte applied growth = bad_line applied byte
last_line stop.Spent left byte applied growth = end_line applied growth
last_line stop.Full left byte applied growth = []
last_line (stop.Wrong w) left byte applied growth = config_line (setting_number w)
last_line stop.Size left byte applied growth = config_line (number reply.Size)

-- The last line is written where there is room for it. Where the run stopped for room, nothing is, and that is told again.
abbrev pub Finishes : Stop → ℕ → ℕ → ℕ → ℕ → List ℕ → ℕ → List ℕ → Option ℕ → Type 0
Finishes stop.Short left byte applied growth o at o' r = Writes last_room o at (last_line stop.Short left byte applied growth) o' r
Finishes stop.Bad left byte applied growth o at o' r = Writes last_room o at (last_line stop.Bad left byte applied growth) o' r
Finishes stop.Spent left byte applied growth o at o' r = Writes last_room o at (last_line stop.Spent left byte applied growth) o' r
Finishes stop.Full left byte applied growth o at o' r = (r ≡ None) × (o' ≡ o)
Finishes (stop.Wrong w) left byte applied growth o at o' r = Writes last_room o at (last_line (stop.Wrong w) left byte applied growth) o' r
Finishes stop.Size left byte applied growth o at o' r = Writes last_room o at (last_line stop.Size left byte applied growth) o' r

-- ---- all that is printed

-- "The run has an allowance of 1,000,000 events"
abbrev pub allowance : ℕ
allowance = 1000000

-- the lines of a run over an input of so many bytes, and the last line
abbrev pub printed : Traced → ℕ → List ℕ
printed r size = r.lines ++ last_line r.why (size - r.at) r.at r.applied r.after.growth

-- M-100: "`config` prints that number"
abbrev pub output_with : Result Config Setting → List ℕ → ℕ → List ℕ
output_with (Err w) s next = config_line (setting_number w)
output_with (Ok k) s next = printed (runs allowance (initial k) s next 0 endless) (length s)

-- an unreadable trace, with no event applied; M-100: "0 for the settings"
abbrev pub output_of : Reading Preamble → List ℕ → List ℕ
output_of (Ok p) s = output_with (checked_within most p.settings) s p.next
output_of (Err e) s = bad_line 0 0

-- what is printed for an input
abbrev pub output : List ℕ → List ℕ
output s = output_of (settings_at s) s

-- ---- in parts

-- what a run prints over an input that b bytes lie before, n events being applied before it
abbrev pub printed_on : ℕ → ℕ → Traced → ℕ → List ℕ
printed_on b n r size = r.lines ++ last_line r.why (size - r.at) (b + r.at) (n + r.applied) r.after.growth

-- what is still printed for the input that is left after b bytes, n events being applied
abbrev pub remaining : ℕ → ℕ → Conn → List ℕ → List ℕ
remaining b n c s = printed_on b n (runs (allowance - n) c s 0 n endless) (length s)

-- where a run that stopped so is the last, whatever comes after the input that there was: nothing may come where it was short, and where it
-- stopped for room it goes on
abbrev pub IsLast : List ℕ → Stop → Type 0
IsLast more stop.Short = more ≡ []
IsLast more stop.Bad = Unit {0}
IsLast more stop.Spent = Unit {0}
IsLast more stop.Full = ⊥
IsLast more (stop.Wrong w) = Unit {0}
IsLast more stop.Size = Unit {0}
