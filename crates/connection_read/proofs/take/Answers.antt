-- `connection_read::take` meets its contract: the front of the lent output is all that the drain is lent. Assumes nothing.
use Rattle.std.proofs.Common.{◌∙◌}
use Rattle.connection_read.proofs.Draws.{counts, take-reads}
use Rattle.connection_read.proofs.take.Goals as goal

pub returns : goal.returns
returns c gives draws =
    let a = c.args in
    let d = c.drain-memory in
    let e = c.unwrap_or-n.ensures ∙ counts a.step.answer.value in
    rw e
    (take-reads a.c a.table.now a.links.now a.pool.now a.slot.0 a.step d.result d.new.table d.new.links
    a.row gives draws a.out.now c.requires d.new.out (rw e at d.auto.out) (rw e at d.ensures))
