-- The blocks become one chain, the body is copied to where the queue ends, and the chain is cut after it. Assumes nothing.
use Rattle.std.proofs.Common.{ℕ, ◌+◌, ◌-◌, ◌%◌, ◌≡◌, ap, arith, length, lt-ltb, le-ltb}
use Rattle.chunks.specs.Blocks.{BLOCK, hold}
use Rattle.chunks.specs.Store.{size}
use Rattle.chunks.proofs.Turns.{next_block, fed}
use Rattle.chunks.proofs.append.Goals as goal
use Rattle.chunks.proofs.append.Goals.{then-used-gt0, else-used-gt0}

pub returns : goal.returns
returns c good room =
    let d = c.discard-all in
    let a = c.args in
    let z = c.scatter-tail in
    let k = d.ensures a.pool.now good in
    let used = c.end-used.result % BLOCK in
    let at : c.if-used-gt0.at ≡ next_block used a.q.tail a.f.head = elim c.if-used-gt0.branch [ then-used-gt0 w ↦ rw (lt-ltb 0 used w.if-used-gt0.true) w.at-is | else-used-gt0 w ↦ rw (le-ltb 0 used w.if-used-gt0.false) w.at-is ] in
    let count : a.f.count + c.size.result - c.size-2.result ≡ a.f.count + size a.q - hold (a.q.from + (a.q.unread + length a.body.now)) = omega (arith, c.size.ensures, c.size-2.ensures) in
    fed a.links.now a.pool.now d.new.links z.new.pool a.f d.result a.q a.body.now used c.if-used-gt0.at z.result c.link.result _
    (ap (λ (i : ℕ). i % BLOCK) c.end-used.ensures) at z.ensures.value c.link.ensures count c.requires.body_nonzero z.auto.pool z.ensures.scatters good room k.0 k.1
