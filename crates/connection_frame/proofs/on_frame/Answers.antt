-- `connection_frame::on_frame` meets its contract: the gate, then what was found, and the header put. Assumes nothing.
use Rattle.std.proofs.Common.{sym, ◌∙◌, length}
use Rattle.connection.proofs.Promises.{refused-gives}
use Rattle.connection_frame.proofs.Orders.{shut, passed}
use Rattle.connection_frame.proofs.on_frame.Goals as goal

pub returns-in-Err : goal.returns-in-Err
returns-in-Err c =
    let a = c.args in
    let e = rw c.sized-fits.ensures at (sym c.judge.ensures ∙ c.in-Err.is) in
    rw c.refuse.ensures (record {
      promised = shut a.c a.table.now a.links.now a.pool.now a.head.now a.body.now a.time (length a.sent.now) _ e;
      gives = refused-gives a.c _ a.sent.now;
    })

pub returns : goal.returns
returns c =
    let a = c.args in
    let w = c.on_decoded-done in
    let e = rw c.sized-fits.ensures at (sym c.judge.ensures ∙ c.in_default.is) in
    let h = rw c.decode.ensures at w.ensures in
    record {
      promised = passed a.c a.table.now a.links.now a.pool.now a.head.now a.body.now a.time (length a.sent.now) e w.result w.new.table w.new.links w.new.pool h;
      gives = record { header = c.put.ensures; silent = h.silent };
    }
