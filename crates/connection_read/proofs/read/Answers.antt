-- `connection_read::read` meets its contract: the handle's refusal, or its row read and the header put. Assumes nothing.
use Rattle.std.proofs.Common.{sym, ◌∙◌}
use Rattle.connection_read.proofs.Calls.{refused-call, held-call}
use Rattle.connection_read.proofs.read.Goals as goal

-- the clauses by their names
all : {A B : Type 0} → A × B → record { promised : A; outputs : B }
all x = record { promised = x.0; outputs = x.1 }

pub returns-in-Err : goal.returns-in-Err
returns-in-Err c =
    let a = c.args in
    rw (c.refuse.ensures, ← c.sized-fits.ensures)
    (all (refused-call a.c a.table.now a.links.now a.pool.now a.slot.0 a.out.now a.time _ a.sent.now _ (sym c.held_row.ensures ∙ c.in-Err.is)))

pub returns-in-Ok : goal.returns-in-Ok
returns-in-Ok c =
    let a = c.args in
    let k = c.read_row-done in
    let w = c.put in
    rw (← c.sized-fits.ensures)
    (all (held-call a.c a.table.now a.links.now a.pool.now a.slot.0 a.out.now a.time _ a.sent.now _ (sym c.held_row.ensures ∙ c.in-Ok.is)
    k.result k.new.table k.new.links k.new.out w.new.sent k.ensures w.ensures))
