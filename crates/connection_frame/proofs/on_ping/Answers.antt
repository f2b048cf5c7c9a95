-- `connection_frame::on_ping` meets its contract: the pings alone change. Assumes nothing.
use Rattle.connection_frame.proofs.Orders.{ping_handles}
use Rattle.connection_frame.proofs.on_ping.Goals as goal

pub returns : goal.returns
returns c =
    let a = c.args in
    let f = c.find in
    rw (c.pinged.ensures, c.on_ping-pong.ensures, c.is_some-in_table.ensures) (ping_handles a.c a.table.now a.header a.time f.result f.ensures)
