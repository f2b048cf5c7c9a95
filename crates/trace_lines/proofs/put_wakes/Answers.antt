-- `trace_lines::put_wakes` meets its contract. Assumes nothing.
use Rattle.std.proofs.Common.{◌≡◌, [], ◌<◌, arith, length}
use Rattle.trace_lines.proofs.Stored.{stores_one, stores_at, stores_then}
use Rattle.trace_lines.proofs.Texts.{wakes-all, wakes-none, wakes-some, empty}
use Rattle.trace_lines.specs.Line.{marks}
use Rattle.trace_lines.proofs.put_wakes.Goals as goal

pub returns-then-wakes-clause-stores : goal.returns-then-wakes-clause-stores
returns-then-wakes-clause-stores c = rw (wakes-all c.args.wakes c.if-wakes.true) c.put_two.ensures

pub returns-then-p-at-clause-stores : goal.returns-then-p-at-clause-stores
returns-then-p-at-clause-stores c =
    let w = c.args.wakes in
    let e : marks w ≡ [] = empty (marks w) (omega arith) in
    rw (wakes-none w c.if-wakes.false e)
    (stores_then (rw e at c.put_marks-p.ensures) (stores_at c.if-p-at.true c.put_dash.ensures))

pub returns-clause-stores : goal.returns-clause-stores
returns-clause-stores c =
    let w = c.args.wakes in
    let h : 0 < length (marks w) = omega arith in
    rw (wakes-some w c.if-wakes.false h) (stores_then c.put_marks-p.ensures (stores_one _ _ _))
