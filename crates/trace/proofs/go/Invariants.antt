-- `trace::go` meets its contract. The loop's invariant: the events applied are the start of the definition's run, and what is left
-- of it starts where the loop stands. The measure is the allowance that is left. Assumes nothing.
use Rattle.std.proofs.Common.{◌-◌}
use Rattle.trace.proofs.Running.{Standing}
use Rattle.trace.proofs.go.Given as goal

abbrev pub invariant-loop-here : goal.invariant-loop-here
invariant-loop-here l =
    Standing l.initial.connection l.initial.table l.initial.links l.initial.pool l.src l.initial.out l.initial.here l.allowance l.connection l.table l.links l.pool l.out l.here.at l.here.applied l.here.put

abbrev pub decreases-loop-here : goal.decreases-loop-here
decreases-loop-here l =
    l.allowance - l.here.applied
