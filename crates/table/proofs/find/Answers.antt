-- `table::find` meets its contract. A hinted slot is taken only where its key says so; else the keys are scanned. Assumes nothing.
use Rattle.table.proofs.Scans.{scan-finds}
use Rattle.table.proofs.find.Goals as goal

pub returns : goal.returns
returns c = let a = c.args in rw (c.scan.ensures, c.from-key.ensures) (scan-finds a.table.now a.k a.id)
