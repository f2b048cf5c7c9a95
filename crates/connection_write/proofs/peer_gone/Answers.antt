-- `connection_write::peer_gone` meets its contract: the gate is the rules' own, and behind it stands the end. Assumes nothing.
use Rattle.std.proofs.Common.{refl, sym, ◌∙◌}
use Rattle.rules.specs.Ending.{end}
use Rattle.rules.specs.Step.{gone, step}
use Rattle.rules.specs.declared.Reply.TheVariants as reply
use Rattle.connection.specs.Abstract.{abs_of}
use Rattle.connection.proofs.Promises.{promised}
use Rattle.connection.proofs.Tests.{gate-shut, gate_open}
use Rattle.connection_write.proofs.peer_gone.Goals as goal

pub returns-in-Err : goal.returns-in-Err
unfolding step
returns-in-Err c l p =
    let a = c.args in
    rw (c.refuse.ensures, ← c.table_fits-fits.ensures)
    (gate-shut a.c a.table.now l p _ (gone a.time) a.time _ a.c.ended _ (sym c.judge.ensures ∙ c.in-Err.is) (λ v. refl))

pub returns-in-Ok : goal.returns-in-Ok
unfolding step
returns-in-Ok c l p =
    let a = c.args in
    let e = c.drop_all_streams in
    let o = gate_open _ a.c.ended a.time (sym c.judge.ensures ∙ c.in-Ok.is) in
    rw (← c.table_fits-fits.ensures)
    (promised a.c a.table.now l p _ (gone a.time) o.0 (λ x. end x reply.Closed) e.result e.new.table l p
    (λ v. o.1 (abs_of a.c a.table.now l p) (end (abs_of a.c a.table.now l p) reply.Closed)) (e.ensures l p refl))
