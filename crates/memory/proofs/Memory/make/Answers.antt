-- `memory::Memory::make` meets its contract: a free slot has no queue, so the body is pushed to the empty one. Assumes nothing.
use Rattle.std.proofs.Common.{true, refl, subst}
use Rattle.chunks.specs.Store.{Pushes}
use Rattle.chunks.specs.declared.Queue.{Queue}
use Rattle.table.specs.Table.{row_at}
use Rattle.memory.proofs.Changes.{make-moves}
use Rattle.memory.proofs.Ranges.{ranged_pushed, proper_next}
use Rattle.memory.proofs.Memory.make.Goals as goal

pub returns : goal.returns
returns c valid below free new room =
    let a = c.args in
    let u = c.push-pushed in
    let w = c.insert in
    rw c.counted.ensures
    (make-moves a.self a.table.now a.links.now a.pool.now valid a.slot.0 below (row_at a.table.now a.self.slots a.slot.0) refl free a.stream
    a.body.now w.new.table u.new.links u.new.pool u.result c.more.result c.more-unread.result new room
    (subst (λ (q : Queue). Pushes a.links.now a.pool.now a.self.free q a.body.now u.new.links u.new.pool u.result) c.empty.ensures u.ensures)
    u.auto.links u.auto.pool w.ensures
    (proper_next a.stream _ c.well_formed.1.1.1.1.1.0 true u.result.queue (ranged_pushed u.result _ u.type_inv))
    c.more.ensures c.more-unread.ensures)
