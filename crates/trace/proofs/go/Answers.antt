-- `trace::go` meets its contract, by the invariant of its loop. Assumes nothing.
use Rattle.std.proofs.Common.{refl, true}
use Rattle.trace.proofs.Running.{turned, halted-runs, spent-runs}
use Rattle.trace.proofs.go.Goals as goal

pub returns-in-Err : goal.returns-in-Err
returns-in-Err c =
    let a = c.args in
    let l = c.loop-here in
    let k = c.turn in
    let told = rw c.in-Err.is at k.ensures in
    rw c.stopped.ensures
    (halted-runs true a.c a.table.now a.links.now a.pool.now a.src.now a.out.now a.place a.allowance refl
    l.connection _ _ _ _ l.here.at l.here.applied l.here.put l.invariant _ _ _ _ _ c.loop-here-test.true told)

pub loop-here-preserved : goal.loop-here-preserved
loop-here-preserved c =
    let a = c.args in
    let l = c.loop-here in
    let k = c.turn in
    let told = rw c.in-Ok.is at k.ensures in
    let x = turned a.c a.table.now a.links.now a.pool.now a.src.now a.out.now a.place a.allowance
    l.connection _ _ _ _ l.here.at l.here.applied l.here.put c.loop-here-test.true _ _ _ _ _ _ _ k.auto.out l.invariant told.1 in
    rw told.0 x

pub returns : goal.returns
returns c =
    let a = c.args in
    let l = c.loop-here in
    rw c.stopped-2.ensures
    (spent-runs true a.c a.table.now a.links.now a.pool.now a.src.now a.out.now a.place a.allowance refl
    l.connection _ _ _ _ l.here.at l.here.applied l.here.put l.invariant c.loop-here-test.false)
