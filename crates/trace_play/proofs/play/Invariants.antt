-- The loop's invariant: the state is valid and was reached turn by turn, and the places are inside the buffers, which keep their sizes.
-- The measure is what is left to do.
use Rattle.std.proofs.Common.{length}
use Rattle.connection.specs.Abstract.{Valid}
use Rattle.filter.specs.Account.{Account}
use Rattle.trace_play.specs.Places.{Counted, Sound, Roomy}
use Rattle.trace_play.specs.Plays.{Lent, lent, Plays}
use Rattle.trace_play.specs.declared.State.{State}
use Rattle.trace_play.proofs.Nearing.{turns_left}
use Rattle.trace_play.proofs.play.Given as goal

abbrev pub Chain : State → Lent → State → Lent → Type 0
Chain s m s' m' = (b : Account) × Plays s m b s' m'

abbrev pub invariant-loop-state : goal.invariant-loop-state
invariant-loop-state g l =
    Sound (length l.src) (length l.out) l.state.standing
    × Roomy (length l.src) (length l.out)
    × Valid l.state.connection l.table l.links l.pool
    × Chain l.initial.state (lent l.initial.table l.initial.links l.initial.pool l.initial.src l.initial.out) l.state (lent l.table l.links l.pool l.src l.out)
    × Counted l.state

abbrev pub decreases-loop-state : goal.decreases-loop-state
decreases-loop-state g l = turns_left l.state
