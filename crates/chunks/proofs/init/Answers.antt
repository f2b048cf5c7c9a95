-- The links that the loop wrote, and after them those that a u32 doesn't count. Assumes nothing.
use Rattle.std.proofs.Common.{refl, arith}
use Rattle.std.proofs.lemmas.Grind.{common_steps}
use Rattle.chunks.proofs.Turns.{started}
use Rattle.chunks.proofs.init.Goals as goal

pub returns : goal.returns
returns c = started _ c.min-n.result _ refl refl (grind (arith, common_steps)) (λ k h. grind (arith, common_steps))
