-- `memory::lay_out` meets its contract: all rows are blank and all blocks are free. Assumes nothing.
use Rattle.std.proofs.Common.{length}
use Rattle.memory.proofs.Ends.{start-moves}
use Rattle.memory.proofs.lay_out.Goals as goal

pub returns : goal.returns
returns c =
    let a = c.args in
    start-moves a.slots a.pool c.init-free.result c.init.new.table c.init-free.new.links (length a.table.now) c.init.ensures c.init-free.ensures
