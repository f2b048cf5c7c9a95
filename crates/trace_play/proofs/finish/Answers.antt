-- `trace_play::finish` meets its contract: two writes, the second where the first did its work. Assumes nothing.
use Rattle.trace_play.specs.Plays.{broken, last}
use Rattle.trace_play.proofs.finish.Goals as goal

pub returns-then-flushed : goal.returns-then-flushed
returns-then-flushed g c =
    let f = c.flush-flushed.ensures.flushes in
    (f.0, broken f.1 c.if-flushed.true)

pub returns : goal.returns
returns g c =
    let f = c.flush-flushed.ensures.flushes in
    let k = c.last_line-put in
    let x = c.flush-last.ensures.flushes in
    (_, last k.result f.1 c.if-flushed.false (rw c.passed.ensures at k.ensures.out_after) x.1)
