-- `connection_open::open` meets its contract behind the gate, by what is decided. Assumes nothing.
use Rattle.std.proofs.Common.{sym, ◌∙◌, subst}
use Rattle.handlers.specs.declared.Opening.{Opening}
use Rattle.connection_open.specs.Open.{Acts}
use Rattle.connection_open.proofs.Opening.{entered}
use Rattle.connection_open.proofs.open.Goals as goal

pub returns-in-Ok : goal.returns-in-Ok
returns-in-Ok c =
    let a = c.args in
    let m = c.act in
    rw (← c.fits-fits.ensures)
    (entered a.c a.table.now a.links.now a.pool.now a.time _ (sym c.judge.ensures ∙ c.in-Ok.is)
    m.result m.new.table m.new.links m.new.pool
    (subst (λ (o : Opening). Acts a.c a.table.now a.links.now a.pool.now o m.result m.new.table m.new.links m.new.pool) c.decide-opening.ensures m.ensures))
