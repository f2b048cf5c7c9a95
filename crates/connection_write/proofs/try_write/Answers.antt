-- `connection_write::try_write` meets its contract: the handle's tests are the rules' own, and behind them a refusal, or the stream put back. Assumes nothing.
use Rattle.std.proofs.Common.{Ok, Err, length, refl, sym, ◌∙◌}
use Rattle.std.proofs.lemmas.Result.{err_from_is_err_and}
use Rattle.rules.specs.Step.{write, step}
use Rattle.handlers.specs.Locals.{body_of}
use Rattle.connection.proofs.Promises.{refused-handles, refused-gives}
use Rattle.connection.proofs.Tests.{handle-shut}
use Rattle.connection_write.proofs.Writes.{kept_step, with-body, write-promised}
use Rattle.connection_write.proofs.try_write.Goals as goal

pub returns-in_err-row : goal.returns-in_err-row
unfolding step
returns-in_err-row c =
    let a = c.args in
    let r = err_from_is_err_and c.from_residual.result c.from_residual.ensures.1 in
    rw (r.1, r.2, ← c.sized-fits.ensures)
    (with-body _ a.c a.table.now a.time a.slot.0 a.given.now _ _ _ _
    (λ l p. handle-shut a.c a.table.now l p _ (write a.time a.slot.0 a.given.now) a.time a.slot.0 _ _ (sym c.held_row.ensures ∙ c.in_err-row.was) (λ v. refl))
    (refused-gives _ _ _))

pub returns-in_err-step : goal.returns-in_err-step
returns-in_err-step c =
    let a = c.args in
    let r = err_from_is_err_and c.from_residual-in_err-step.result c.from_residual-in_err-step.ensures.1 in
    rw (r.1, r.2, ← c.sized-fits.ensures)
    (write-promised _ a.c a.table.now a.time a.slot.0 a.given.now _ _ _ _ _ (sym c.held_row.ensures ∙ c.in_ok-row.was) (Err _)
    (sym c.on_write.ensures ∙ c.in_err-step.was) (λ h. (λ l p. refused-handles a.c a.table.now l p _, refused-gives _ _ _)))

pub returns : goal.returns
returns c =
    let a = c.args in
    let k = c.in_ok-step.step in
    let e = sym c.held_row.ensures ∙ c.in_ok-row.was in
    let w = sym c.on_write.ensures ∙ c.in_ok-step.was in
    let s = kept_step a.c.ended a.slot c.in_ok-row.row.stream (length a.given.now) a.c.config.split k w in
    rw (← c.sized-fits.ensures)
    (write-promised _ a.c a.table.now a.time a.slot.0 a.given.now _ _ _ _ c.in_ok-row.row e (Ok k) w
    (λ h. let x = c.keep.ensures h s.0 s.1 in (λ l p. x.0 l p (body_of k.answer.sent a.given.now), x.1)))
