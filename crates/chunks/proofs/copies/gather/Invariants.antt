-- The first `got` bytes of out are the chain's, and `last` is the last block that they were in; the measure is how many are left. Assumes nothing.
use Rattle.std.proofs.Common.{◌+◌, ◌-◌, ◌≤◌, ◌≡◌, length}
use Rattle.chunks.specs.Steps.{Gathers}
use Rattle.chunks.proofs.Pieces.{Stands}
use Rattle.chunks.proofs.copies.gather.Given as goal

abbrev pub invariant-loop-got : goal.invariant-loop-got
invariant-loop-got l =
    (l.got ≤ l.n) × (length l.out ≡ l.n) × Stands l.links l.at (l.from + l.got) (l.n - l.got) l.last × Gathers l.links l.pool l.at l.from (l.from + l.n) l.got l.out

abbrev pub decreases-loop-got : goal.decreases-loop-got
decreases-loop-got l = l.n - l.got
