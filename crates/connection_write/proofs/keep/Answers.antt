-- `connection_write::keep` meets its contract: the header is put, and the stream put back. Assumes nothing.
use Rattle.std.proofs.Common.{sym, ◌∙◌}
use Rattle.handlers.specs.Locals.{perform_step}
use Rattle.rules.proofs.Lists.{never}
use Rattle.connection.proofs.Promises.{acted}
use Rattle.connection_write.proofs.Handles.{step_follows}
use Rattle.connection_write.proofs.keep.Goals as goal

pub returns : goal.returns
returns c h same given =
    let a = c.args in
    let s = c.store-memory in (
      λ l p body. acted a.c a.table.now l p (λ x. perform_step x a.slot.0 body a.step) _ s.new.table l p given
          (step_follows a.c a.table.now l p a.slot.0 a.row h a.step s.result s.new.table same s.ensures body),
      record { header = c.put.ensures; silent = λ w. never (sym given ∙ w) },
    )
