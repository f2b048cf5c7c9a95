-- The body up to `rest` is in the chain's blocks, and `last` is the last of these; the measure is how many bytes are left. Assumes nothing.
use Rattle.std.proofs.Common.{length}
use Rattle.chunks.proofs.Pieces.{Written}
use Rattle.chunks.proofs.copies.scatter.Given as goal

abbrev pub invariant-loop-rest : goal.invariant-loop-rest
invariant-loop-rest l = Written l.links l.fn.pool l.at l.used l.body l.rest l.last l.pool

abbrev pub decreases-loop-rest : goal.decreases-loop-rest
decreases-loop-rest l = length l.rest
