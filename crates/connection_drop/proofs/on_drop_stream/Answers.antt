-- `connection_drop::on_drop_stream` meets its contract: the handle's tests are the rules' own, and behind them stand the rules of a drop. Assumes nothing.
use Rattle.std.proofs.Common.{refl, sym, ◌∙◌}
use Rattle.rules.specs.Step.{drop, step}
use Rattle.connection.proofs.Promises.{refused-gives, named}
use Rattle.connection.proofs.Tests.{handle-shut}
use Rattle.connection_drop.proofs.Dropping.{drop_promised}
use Rattle.connection_drop.proofs.on_drop_stream.Goals as goal

pub returns-in-Err : goal.returns-in-Err
unfolding step
returns-in-Err c =
    let a = c.args in
    rw (c.refuse.ensures, ← c.sized-fits.ensures) (record {
      by_index = λ p. handle-shut a.c a.table.now a.links.now p _ (drop a.time a.slot.0) a.time a.slot.0 _ _ (sym c.held_row.ensures ∙ c.in-Err.is) (λ v. refl);
      gives = refused-gives _ _ _;
    })

pub returns-in-Ok : goal.returns-in-Ok
returns-in-Ok c =
    let a = c.args in
    let k = c.release-done in
    rw (← c.sized-fits.ensures)
    (named (drop_promised _ a.c a.table.now a.links.now a.time a.slot _ (sym c.held_row.ensures ∙ c.in-Ok.is)
    k.result k.new.table k.new.links _ _ k.ensures c.put.ensures))
