-- `table::ack_backlog` meets its contract. The count so far and what the rows from `i` on count make the whole. Assumes nothing.
use mathlib.Core.Path.{◌≡◌}
use Prim.Native.Nat.{◌+◌, ◌≤◌}
use Rattle.table.specs.Table.{unacknowledged}
use Rattle.table.proofs.Scans.{rest}
use Rattle.table.proofs.ack_backlog.Given as goal

abbrev pub invariant-loop-i : goal.invariant-loop-i
invariant-loop-i l = (l.count ≤ l.i) × (l.count + rest l.table l.k l.mode l.i ≡ unacknowledged l.table l.k l.mode)
