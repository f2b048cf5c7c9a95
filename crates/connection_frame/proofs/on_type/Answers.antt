-- `connection_frame::on_type` meets its contract: each arm is its type's rule. Assumes nothing.
use Rattle.std.proofs.Common.{refl}
use Rattle.rules.specs.Frames.{frame_rules, ping_rules}
use Rattle.connection_frame.proofs.on_type.Goals as goal

pub returns-in-Ping : goal.returns-in-Ping
unfolding frame_rules ping_rules
returns-in-Ping c =
    let a = c.args in
    rw c.in-Ping.is (λ n. c.on_ping.ensures a.links.now a.pool.now)

pub returns-in-GoAway : goal.returns-in-GoAway
unfolding frame_rules
returns-in-GoAway c =
    let a = c.args in
    rw c.in-GoAway.is (λ n. c.drop_all_streams.ensures a.links.now a.pool.now refl)
