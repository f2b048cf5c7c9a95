-- `trace_play::turn` meets its contract: a run, and what follows it. Assumes nothing.
use Rattle.trace.proofs.Applying.{run-sized}
use Rattle.trace_play.proofs.Turning.{turned}
use Rattle.trace_play.proofs.turn.Goals as goal

pub returns-clause-valid_after : goal.returns-clause-valid_after
returns-clause-valid_after g c =
    let a = c.args in
    let k = c.run-report in
    let r = rw (c.place_of.ensures, run-sized a.state.connection a.table.now a.links.now a.pool.now a.sent.now a.bytes.now c.requires.valid c.told-sent c.told-bytes) at k.ensures.runs in
    let e = rw c.after_run-next.ensures at c.go_on.ensures.goes in
    (turned a.state _ _ _ a.src.now _ c.requires.not_done k.result _ _ _ _ r c.go_on.result _ _ c.requires.valid e).0

pub returns-clause-turns : goal.returns-clause-turns
returns-clause-turns g c =
    let a = c.args in
    let k = c.run-report in
    let r = rw (c.place_of.ensures, run-sized a.state.connection a.table.now a.links.now a.pool.now a.sent.now a.bytes.now c.requires.valid c.told-sent c.told-bytes) at k.ensures.runs in
    let e = rw c.after_run-next.ensures at c.go_on.ensures.goes in
    (turned a.state _ _ _ a.src.now _ c.requires.not_done k.result _ _ _ _ r c.go_on.result _ _ c.requires.valid e).1
