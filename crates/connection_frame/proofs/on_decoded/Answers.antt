-- `connection_frame::on_decoded` meets its contract: each arm is what was found. Assumes nothing.
use Rattle.std.proofs.Common.{refl}
use Rattle.rules.specs.declared.Reply.TheVariants as reply
use Rattle.connection.proofs.Promises.{refused-handles}
use Rattle.connection_frame.proofs.Orders.{header-handles, header_refused}
use Rattle.connection_frame.proofs.on_decoded.Goals as goal

pub returns-in-Err-Size : goal.returns-in-Err-Size
returns-in-Err-Size c =
    let a = c.args in
    rw (c.in-Err-Size.is, rw c.in-Err-Size.is at c.in-Err-Size.field-0-is, c.refuse.ensures) (refused-handles a.c a.table.now a.links.now a.pool.now reply.Size)

pub returns-in-Err-Version : goal.returns-in-Err-Version
returns-in-Err-Version c =
    let a = c.args in
    rw (c.in-Err-Version.is, rw c.in-Err-Version.is at c.in-Err-Version.field-0-is) (c.drop_all_streams.ensures a.links.now a.pool.now refl)

pub returns-in-Err-Type : goal.returns-in-Err-Type
returns-in-Err-Type c =
    let a = c.args in
    rw (c.in-Err-Type.is, rw c.in-Err-Type.is at c.in-Err-Type.field-0-is) (c.drop_all_streams-in-Err-Type.ensures a.links.now a.pool.now refl)

pub returns-then-body-body_length : goal.returns-then-body-body_length
returns-then-body-body_length c =
    let a = c.args in
    let w = c.on_type in
    let e = rw c.body_length.ensures at c.if-body-body_length.true in
    rw c.in-Ok.is (header-handles a.c a.table.now a.links.now a.pool.now _ a.body.now a.time e w.result w.new.table w.new.links w.new.pool (w.ensures e))

pub returns-else-body-body_length : goal.returns-else-body-body_length
returns-else-body-body_length c =
    let a = c.args in
    rw (c.in-Ok.is, c.refuse-else-body-body_length.ensures) (header_refused a.c a.table.now a.links.now a.pool.now _ a.body.now a.time (rw c.body_length.ensures at c.if-body-body_length.false))
