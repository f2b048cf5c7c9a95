-- Without a block nothing moves; else the queue's chain is put before the free one. Assumes nothing.
use Rattle.std.proofs.Common.{◌≡◌, ◌-◌, arith}
use Rattle.chunks.specs.Store.{size}
use Rattle.chunks.proofs.Moves.{return_all}
use Rattle.chunks.proofs.discard.Goals as goal

pub returns : goal.returns
returns c p g =
    let a = c.args in
    let e : c.size-n.result ≡ size a.q = c.size-n.ensures in
    let h = c.if-n-eq0.false in
    rw c.join.ensures
    (return_all a.links.now p a.f.head a.f.count a.q.head a.q.tail (size a.q) a.q.from a.q.unread _ (size a.q - 1) (omega (arith, h)) (omega (arith, h, g.fits)) g)
