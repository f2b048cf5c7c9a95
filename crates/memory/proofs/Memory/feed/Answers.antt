-- `memory::Memory::feed` meets its contract: the slot's queue is what the push leaves. Assumes nothing.
use Rattle.memory.proofs.Changes.{feed-moves}
use Rattle.memory.proofs.Ranges.{ranged_pushed, proper_next}
use Rattle.memory.proofs.Memory.feed.Goals as goal

pub returns : goal.returns
returns c loaded valid below follows room =
    let a = c.args in
    let u = c.push-pushed in
    let w = c.put in
    rw c.counted.ensures
    (feed-moves a.self a.table.now a.links.now a.pool.now valid a.slot.0 below a.row loaded a.stream a.listed follows
    a.body.now w.new.table u.new.links u.new.pool u.result c.left-count.result c.more.result room
    u.ensures u.auto.links u.auto.pool w.ensures
    (proper_next a.stream _ c.well_formed.1.1.1.1.1.1.0 a.listed u.result.queue (ranged_pushed u.result _ u.type_inv))
    c.left-count.ensures c.more.ensures)
