-- `connection_frame::on_stream` meets its contract: a handler decides from what it is shown, and its action is applied. Assumes nothing.
use Rattle.connection_frame.proofs.Arrives.{stream-handled}
use Rattle.connection_frame.proofs.on_stream.Goals as goal

pub returns : goal.returns
returns c =
    let a = c.args in
    let f = c.find-found in
    let w = c.apply in
    let applies = rw c.decide-action.ensures at w.ensures in
    rw c.settle.ensures (λ tagged n. stream-handled a.c a.table.now a.links.now a.pool.now a.header a.body.now a.time f.result f.ensures n w.result w.new.table w.new.links w.new.pool applies tagged)
