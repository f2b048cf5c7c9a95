-- `memory::Memory::drain` meets its contract: the slot's queue is what the pop leaves. Assumes nothing.
use Rattle.memory.proofs.Changes.{drain-moves}
use Rattle.memory.proofs.Ranges.{ranged_popped, proper_next}
use Rattle.memory.proofs.Memory.drain.Goals as goal

pub returns : goal.returns
returns c loaded valid below follows =
    let a = c.args in
    let u = c.pop-popped in
    let w = c.put in
    rw c.counted.ensures
    (drain-moves a.self a.table.now a.links.now a.pool.now valid a.slot.0 below a.row loaded a.stream follows
    a.out.now w.new.table u.new.links u.new.out u.result c.less.result
    u.ensures u.auto.links w.ensures
    (proper_next a.stream _ c.well_formed.1.1.1.1.1.1.0 a.row.listed u.result.queue (ranged_popped u.result _ u.type_inv))
    c.less.ensures)
