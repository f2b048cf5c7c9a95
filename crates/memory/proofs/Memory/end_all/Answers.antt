-- `memory::Memory::end_all` meets its contract. Assumes nothing.
use Rattle.memory.proofs.Ends.{end-moves}
use Rattle.memory.proofs.Memory.end_all.Goals as goal

pub returns : goal.returns
returns c l p valid =
    let a = c.args in
    let w = c.end_all in
    rw c.counted.ensures (end-moves a.self a.table.now l p valid w.new.table w.ensures)
