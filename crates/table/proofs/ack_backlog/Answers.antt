-- `table::ack_backlog` meets its contract, by the invariant of its loop. Assumes nothing.
use Rattle.std.proofs.Common.{rules, ◌≡◌}
use native.Mathlib.Omega.{arith}
use Rattle.table.specs.Rows.{is_unacknowledged}
use Rattle.table.specs.Table.{row_at}
use Rattle.table.proofs.Scans.{rest_all, rest-step, rest-none}
use Rattle.table.proofs.ack_backlog.Goals as goal
use Rattle.table.proofs.ack_backlog.Goals.{then-is_unacknowledged, else-is_unacknowledged}

pub loop-i-init : goal.loop-i-init
loop-i-init c = let a = c.args in (omega arith, omega (arith, rest_all a.table.now a.k a.mode))

pub loop-i-preserved : goal.loop-i-preserved
loop-i-preserved c =
    let a = c.args in
    let u : c.is_unacknowledged.result ≡ is_unacknowledged a.mode (row_at a.table.now a.k c.loop-i.i) = search rules in
    let e = rw (← u) at (rest-step a.table.now a.k a.mode c.loop-i.i (omega arith)) in
    elim c.if-is_unacknowledged.branch [
      | then-is_unacknowledged w ↦ let s = rw w.if-is_unacknowledged.true at e in (omega arith, omega arith)
      | else-is_unacknowledged w ↦ let s = rw w.if-is_unacknowledged.false at e in (omega arith, omega arith)
    ]

pub returns : goal.returns
returns c =
    let a = c.args in
    let e : c.loop-i.i ≡ a.k = omega arith in
    let v = rw e at c.loop-i.invariant.1 in
    omega (arith, rest-none a.table.now a.k a.mode)
