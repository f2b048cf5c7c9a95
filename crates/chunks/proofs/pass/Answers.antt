-- All that is unread goes with all blocks; else the blocks that are used up go, if there are any. Assumes nothing.
use Rattle.std.proofs.Common.{ℕ, ◌+◌, ◌-◌, ◌/◌, ◌%◌, ◌≤◌, ◌≡◌, refl, sym, ap, subst, ◌∙◌, List, arith, length, drop, length-take, drop_of_length-le}
use Rattle.chunks.specs.Blocks.{BLOCK, hold, bytes}
use Rattle.chunks.specs.Store.{state, Kept, content, nodes, size}
use Rattle.chunks.specs.declared.Queue.{Queue}
use Rattle.chunks.proofs.Moves.{pass_in, pass_over}
use Rattle.chunks.proofs.pass.Goals as goal

-- with no more than n bytes unread, n bytes are all of them
spent : (l p : List ℕ) (q : Queue) (n : ℕ) → q.unread ≤ n → length (content l p q) ≤ n
spent l p q n h = omega (arith, length-take q.unread (drop q.from (bytes p (nodes l q))))

pub returns-then-unread-eq0-clause-passes : goal.returns-then-unread-eq0-clause-passes
returns-then-unread-eq0-clause-passes c =
    let a = c.args in
    let n : a.n ≤ a.q.unread = c.requires in
    let z : a.q.unread - a.n ≡ 0 = c.if-unread-eq0.true in
    let d = c.discard in
    let e = c.empty.ensures in
    let u : c.empty.result.unread ≡ 0 = ap (λ (x : Queue). x.unread) e in
    λ p g. (
      subst (λ (x : Queue). Kept (state a.links.now p a.f a.q) (state d.new.links p d.result x)) (sym e) (d.ensures p g).0,
      ap (λ (x : Queue). content d.new.links p x) e ∙ sym (drop_of_length-le (content a.links.now p a.q) (spent a.links.now p a.q a.n (omega arith))),
      λ some. absurd (omega arith),
    )

pub returns-then-k-eq0-clause-passes : goal.returns-then-k-eq0-clause-passes
returns-then-k-eq0-clause-passes c =
    let a = c.args in
    let n : a.n ≤ a.q.unread = c.requires in
    let h : (a.q.from + a.n) / BLOCK ≡ 0 = c.if-k-eq0.true in
    λ p g.
    let r = pass_in a.links.now p a.f.head a.f.count a.q.head a.q.tail (size a.q) a.q.from a.q.unread (hold ((a.q.from + a.n) % BLOCK + (a.q.unread - a.n))) a.n ((a.q.from + a.n) % BLOCK) (omega arith) (omega arith) (omega arith) g in
    (r.0, r.1, λ some. refl)

pub returns-clause-passes : goal.returns-clause-passes
returns-clause-passes c =
    let a = c.args in
    let n : a.n ≤ a.q.unread = c.requires in
    let u : a.q.unread - a.n ≡ 0 → ⊥ = c.if-unread-eq0.false in
    let x = a.q.from + a.n in
    let h : x / BLOCK ≡ 0 → ⊥ = c.if-k-eq0.false in
    λ p g.
    let r = pass_over a.links.now c.join.new.links p a.f.head a.f.count a.q.head a.q.tail (size a.q) a.q.from a.q.unread (hold (x % BLOCK + (a.q.unread - a.n))) _ a.n (x / BLOCK - 1) (x % BLOCK) c.hop-last.result c.link-head.result c.hop-last.ensures c.link-head.ensures c.join.ensures (omega arith) (omega (arith, g.fits)) (omega arith) (omega arith) g in
    (r.0, r.1, λ some. refl)
