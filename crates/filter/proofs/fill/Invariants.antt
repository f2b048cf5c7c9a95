-- The loop's invariant: what was read stands from the start on, and is what was consumed of the input. The measure is the bytes that are
-- wanted, and nothing where the input has ended.
use Rattle.std.proofs.Common.{◌≡◌, cond, suc, ◌-◌, length}
use Rattle.filter.proofs.Feeding.{Reading}
use Rattle.filter.proofs.fill.Given as goal

abbrev pub invariant-loop-s : goal.invariant-loop-s
invariant-loop-s g l = Reading (length l.initial.src) (g.R.Read.remaining l.initial.input) (g.R.Read.remaining l.input) l.src l.s × (length l.src ≡ length l.initial.src)

abbrev pub decreases-loop-s : goal.decreases-loop-s
decreases-loop-s g l = cond l.s.ended 0 (suc (l.least - l.s.have))
