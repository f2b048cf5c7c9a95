-- `table::end_all` meets its contract. The rows of the first `i` slots are ended. Assumes nothing.
use Rattle.std.proofs.Common.{◌≡◌}
use Rattle.table.specs.Table.{ended}
use Rattle.table.proofs.end_all.Given as goal

abbrev pub invariant-loop-i : goal.invariant-loop-i
invariant-loop-i l = l.table ≡ ended l.initial.table l.k l.i
