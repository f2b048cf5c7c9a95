-- `connection_read::read_row` meets its contract: nothing is read of an ended connection, else the step is taken. Assumes nothing.
use Rattle.std.proofs.Common.{sym, ◌∙◌, length}
use Rattle.rules.specs.State.{entry}
use Rattle.handlers.specs.Locals.{perform_read}
use Rattle.connection_read.specs.Promises.{rule_of}
use Rattle.connection_read.proofs.Rows.{step_room, step-giving, row-draws, row-rule}
use Rattle.connection_read.proofs.Calls.{same_reads, shut-reads}
use Rattle.connection_read.proofs.read_row.Goals as goal

pub returns-then-is_shut : goal.returns-then-is_shut
returns-then-is_shut c h =
    let a = c.args in
    rw c.nothing_read.ensures
    (shut-reads a.c a.table.now a.links.now a.pool.now a.out.now a.slot.0 a.time (sym c.is_shut.ensures ∙ c.if-is_shut.true))

pub take-requires : goal.take-requires
take-requires c =
    let a = c.args in
    rw c.step_of-step.ensures (step_room a.c a.slot.0 a.row (length a.out.now) a.time)

pub returns : goal.returns
returns c h =
    let a = c.args in
    let k = c.take in
    let e = c.step_of-step in
    let n = length a.out.now in
    let live = sym c.is_shut.ensures ∙ c.if-is_shut.false in
    same_reads a.c a.table.now a.links.now a.pool.now a.out.now
    (λ x. perform_read x a.slot (entry x.slots a.slot.0) e.result) (λ x. rule_of x a.slot.0 n a.time)
    k.result k.new.table k.new.links k.new.out
    (λ v. rw e.ensures (row-rule a.c a.slot.0 a.row n a.time a.table.now a.links.now a.pool.now h live v))
    (k.ensures (rw e.ensures (step-giving a.c a.slot.0 a.row n a.time))
    (λ v. rw e.ensures (row-draws a.c a.slot.0 a.row n a.time a.table.now a.links.now a.pool.now h v)))
