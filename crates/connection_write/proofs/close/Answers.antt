-- `connection_write::close` meets its contract: the handle's tests are the rules' own, and behind them the stream is put back. Assumes nothing.
use Rattle.std.proofs.Common.{[], refl, sym, ◌∙◌}
use Rattle.stream.proofs.Laws.{close_same}
use Rattle.rules.specs.Step.{close, step}
use Rattle.connection.proofs.Promises.{refused-gives, named}
use Rattle.connection.proofs.Tests.{handle-shut}
use Rattle.connection_write.proofs.Handles.{close_promised}
use Rattle.connection_write.proofs.close.Goals as goal

pub returns-in-Err : goal.returns-in-Err
unfolding step
returns-in-Err c =
    let a = c.args in
    rw (c.refuse.ensures, ← c.sized-fits.ensures) (record {
      by_index = λ l p. handle-shut a.c a.table.now l p _ (close a.time a.slot.0) a.time a.slot.0 _ _ (sym c.held_row.ensures ∙ c.in-Err.is) (λ v. refl);
      gives = refused-gives _ _ _;
    })

pub returns-in-Ok : goal.returns-in-Ok
returns-in-Ok c =
    let a = c.args in
    let e = sym c.held_row.ensures ∙ c.in-Ok.is in
    let k = rw c.on_close.ensures at c.keep.ensures in
    rw (← c.sized-fits.ensures)
    (named (close_promised _ a.c a.table.now a.time a.slot.0 c.in-Ok.row e _ _ _ _
    (λ h. let x = k h (close_same c.in-Ok.row.stream).0 refl in (λ l p. x.0 l p [], x.1))))
