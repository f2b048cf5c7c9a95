-- `trace_lines::put_number` meets its contract: the digits are stored, and the byte that ends them. Assumes nothing.
use Rattle.trace_lines.proofs.Stored.{stores_one, stores_then}
use Rattle.trace_lines.proofs.put_number.Goals as goal

pub returns-clause-stores : goal.returns-clause-stores
returns-clause-stores c = stores_then c.put_decimal-p.ensures (stores_one _ _ _)
