-- `trace::run` meets its contract: where all that is lent has its size, the loop is the run. Assumes nothing.
use Rattle.std.proofs.Common.{sym, ◌∙◌}
use Rattle.trace.proofs.run.Goals as goal

pub returns-clause-runs : goal.returns-clause-runs
returns-clause-runs c = rw (sym c.sized.ensures ∙ c.if-not-sized.false) c.go.ensures
