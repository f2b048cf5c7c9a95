-- `trace::apply::apply` meets its contract: each event's call promises the rules' step. Assumes nothing.
use Rattle.std.proofs.Common.{subst, arith}
use Rattle.trace_events.specs.Calls.{Lies}
use Rattle.trace.proofs.Applying.{tick-applies, frame-applies, open-applies, read-applies, write-applies, close-applies, drop-applies, gone-applies}
use Rattle.trace.proofs.apply.apply.Goals as goal

pub returns-in-Tick : goal.returns-in-Tick
returns-in-Tick c =
    let a = c.args in
    let k = c.tick in
    tick-applies a.c a.table.now a.links.now a.pool.now a.sent.now a.src.now a.event k.result _ _ _ _ _ c.in-Tick.is (k.ensures.by_index a.links.now a.pool.now) k.ensures.gives.header

pub returns-in-Frame : goal.returns-in-Frame
returns-in-Frame c =
    let a = c.args in
    let k = c.on_frame in
    let h = subst (Lies _) c.in-Frame.is c.requires.0 in
    frame-applies a.c a.table.now a.links.now a.pool.now a.sent.now a.src.now a.event k.result _ _ _ _ _ _ _ c.in-Frame.is h.0 (omega (arith, h.1, c.requires.1)) k.ensures.promised k.ensures.gives.header

pub returns-in-Open : goal.returns-in-Open
returns-in-Open c =
    let a = c.args in
    let k = c.«open» in
    open-applies a.c a.table.now a.links.now a.pool.now a.sent.now a.src.now a.event k.result _ _ _ _ c.in-Open.is k.ensures

pub returns-in-Read : goal.returns-in-Read
returns-in-Read c =
    let a = c.args in
    let k = c.read in
    let h = subst (Lies _) c.in-Read.is c.requires.0 in
    let e = rw c.slot_of.ensures at k.ensures in
    read-applies a.c a.table.now a.links.now a.pool.now a.sent.now a.src.now a.event k.result _ _ a.bytes.now _ _ _ _ c.in-Read.is h c.told-bytes e.promised e.outputs

pub returns-in-Write : goal.returns-in-Write
returns-in-Write c =
    let a = c.args in
    let k = c.write in
    let e = rw c.slot_of-in-Write.ensures at (k.ensures.by_index a.links.now a.pool.now) in
    write-applies a.c a.table.now a.links.now a.pool.now a.sent.now a.src.now a.event k.result _ _ _ _ _ _ _ c.in-Write.is e k.ensures.gives.header

pub returns-in-Close : goal.returns-in-Close
returns-in-Close c =
    let a = c.args in
    let k = c.close in
    let e = rw c.slot_of-in-Close.ensures at (k.ensures.by_index a.links.now a.pool.now) in
    close-applies a.c a.table.now a.links.now a.pool.now a.sent.now a.src.now a.event k.result _ _ _ _ _ _ c.in-Close.is e k.ensures.gives.header

pub returns-in-Drop : goal.returns-in-Drop
returns-in-Drop c =
    let a = c.args in
    let k = c.on_drop_stream in
    let e = rw c.slot_of-in-Drop.ensures at (k.ensures.by_index a.pool.now) in
    drop-applies a.c a.table.now a.links.now a.pool.now a.sent.now a.src.now a.event k.result _ _ _ _ _ _ c.in-Drop.is e k.ensures.gives.header

pub returns-in-Gone : goal.returns-in-Gone
returns-in-Gone c =
    let a = c.args in
    let k = c.peer_gone in
    gone-applies a.c a.table.now a.links.now a.pool.now a.sent.now a.src.now a.event k.result _ _ _ _ c.in-Gone.is (k.ensures a.links.now a.pool.now)
