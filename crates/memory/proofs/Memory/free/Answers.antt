-- `memory::Memory::free` meets its contract: the slot's blocks are free. Assumes nothing.
use Rattle.memory.proofs.Changes.{free-moves}
use Rattle.memory.proofs.Memory.free.Goals as goal

pub returns : goal.returns
returns c p loaded valid below held =
    let a = c.args in
    let u = c.discard-free in
    let w = c.clear in
    rw c.counted.ensures
    (free-moves a.self a.table.now a.links.now p valid a.slot.0 below a.row loaded held
    w.new.table u.new.links u.result c.left.result c.less-unread.result
    u.ensures u.auto.links w.ensures c.left.ensures c.less-unread.ensures)
