-- `connection::drop_all_streams` meets its contract: the memory is ended, and the answer says all. Assumes nothing.
use Rattle.connection.proofs.Ending.{end-handles}
use Rattle.connection.proofs.drop_all_streams.Goals as goal

pub returns : goal.returns
returns c =
    let a = c.args in
    let e = c.end_all-memory in
    rw c.bare.ensures (end-handles a.c a.table.now e.result e.new.table e.ensures a.reply)
