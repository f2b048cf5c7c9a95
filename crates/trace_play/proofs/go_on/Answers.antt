-- `trace_play::go_on` meets its contract: each task has what follows it. Assumes nothing.
use Rattle.std.proofs.Common.{sym, ◌∙◌}
use Rattle.trace_play.proofs.Acting.{end-acts}
use Rattle.trace_play.proofs.go_on.Goals as goal

pub returns-in-End-clause-sound_after : goal.returns-in-End-clause-sound_after
returns-in-End-clause-sound_after g c =
    let a = c.args in
    let p = c.requires in
    (end-acts a.state a.stop a.src.now a.out.now p.sound p.counted (sym c.next_task.ensures ∙ c.in-End.is) c.finish.ensures.1).0

pub returns-in-End-clause-counted_after : goal.returns-in-End-clause-counted_after
returns-in-End-clause-counted_after g c =
    let a = c.args in
    let p = c.requires in
    (end-acts a.state a.stop a.src.now a.out.now p.sound p.counted (sym c.next_task.ensures ∙ c.in-End.is) c.finish.ensures.1).1.1.0
