-- What is copied is passed over. Assumes nothing.
use Rattle.std.proofs.Common.{◌%◌, refl}
use Rattle.chunks.specs.Blocks.{BLOCK}
use Rattle.chunks.proofs.Turns.{drawn}
use Rattle.chunks.proofs.pop.Goals as goal

pub returns : goal.returns
returns c =
    let g = c.gather in
    let n = c.min-count in
    let a = c.args in (
      c.pass.ensures.queue_after.0,
      λ good. (n.ensures, drawn a.links.now a.pool.now c.pass.new.links a.f a.q c.pass.result a.out.now g.new.out n.result (a.q.from % BLOCK) n.ensures refl g.auto.out g.ensures c.pass.ensures.queue_after.1 c.pass.ensures.passes good),
    )
