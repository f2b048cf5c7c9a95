-- `trace_lines::put_fields` meets its contract: each field is stored after the one before it. Assumes nothing.
use Rattle.trace_lines.proofs.Stored.{stores_then}
use Rattle.trace_lines.specs.Line.{line_of}
use Rattle.trace_lines.proofs.put_fields.Goals as goal

-- each field is stored after the one before it
pub returns-clause-stores : goal.returns-clause-stores
unfolding line_of
returns-clause-stores c =
    let replied = rw (c.from-reply.ensures, c.from.ensures) at c.put_number-replied.ensures.stores in
    let slotted = rw c.slot_value-slot.ensures at c.put_value-slotted.ensures.stores in
    stores_then c.put_number-number.ensures.stores
    (stores_then replied
    (stores_then slotted
    (stores_then c.put_value-valued.ensures.stores
    (stores_then c.put_bytes-headed.ensures.stores
    (stores_then c.put_wakes-woken.ensures.stores c.put_bytes.ensures.stores)))))
