-- `memory::Memory::store` meets its contract: the row keeps its queue. Assumes nothing.
use Rattle.table.proofs.Laws.{proper_row}
use Rattle.memory.proofs.Changes.{store-moves}
use Rattle.memory.proofs.Ranges.{ranged_row, proper_next}
use Rattle.memory.proofs.Memory.store.Goals as goal

pub returns : goal.returns
returns c l p loaded valid below follows =
    let a = c.args in
    let w = c.put in
    rw c.counted.ensures
    (store-moves a.self a.table.now l p valid a.slot.0 below a.row loaded a.stream a.listed follows
    w.new.table c.left.result w.ensures
    (proper_next a.stream _ c.well_formed.1.1.1.1.0 a.listed a.row.queue (ranged_row a.row (rw loaded (proper_row a.table.now a.self.slots a.slot.0))))
    c.left.ensures)
