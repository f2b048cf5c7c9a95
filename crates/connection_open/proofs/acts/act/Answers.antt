-- `acts::act` meets its contract: where the connection ends, and where a new stream is made. Assumes nothing.
use Rattle.connection_open.proofs.Opening.{ending, making}
use Rattle.connection_open.proofs.acts.act.Goals as goal

pub returns-in-End : goal.returns-in-End
returns-in-End c =
    let a = c.args in
    let e = c.drop_all_streams in
    rw c.in-End.is (ending a.c a.table.now a.links.now a.pool.now _ e.result e.new.table e.ensures)

pub returns-in-New : goal.returns-in-New
returns-in-New c =
    let a = c.args in
    let m = c.make-memory in
    rw (c.in-New.is, c.opened.ensures)
    (making a.c a.table.now a.links.now a.pool.now _ _ _ m.result m.new.table m.new.links m.new.pool m.ensures)
