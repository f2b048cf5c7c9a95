-- `chunks::copies::gather` meets its contract, by the invariant of its loop. Assumes nothing.
use Rattle.std.proofs.Common.{arith, ◌+◌, ◌-◌, min, ◌≤◌, ◌<◌, ◌≡◌, ◌∙◌, le-add_right, length}
use lib.Seq.{length_front}
use Rattle.chunks.specs.Blocks.{BLOCK}
use Rattle.chunks.proofs.Parts.{part_length, length_mid}
use Rattle.chunks.proofs.Pieces.{stands_first, stands_on, gather_first, gather_next}
use Rattle.chunks.proofs.copies.gather.Goals as goal

pub loop-got-init : goal.loop-got-init
loop-got-init c =
    let a = c.args in
    let m = c.min-got.result in
    let e : m ≡ min (length a.out.now) (BLOCK - a.from) = c.min-got.ensures in
    let d = c.drain in
    let starts : a.from < BLOCK = c.requires in (
      omega arith,
      length_front a.out.now d.new.out m d.auto.out,
      stands_first a.links.now a.at a.from (length a.out.now) m starts (omega arith) (λ h. omega arith),
      gather_first a.links.now a.pool.now a.at a.from (a.from + length a.out.now) m a.out.now d.new.out (omega arith) starts (omega arith) d.auto.out d.ensures,
    )

pub loop-got-preserved : goal.loop-got-preserved
loop-got-preserved c =
    let a = c.args in
    let v = c.loop-got in
    let p = c.piece_at-p in
    let k = c.link-node in
    let d = c.drain-in-loop-got in
    let n = length a.out.now in
    let m = p.result.len in
    let l₁ : v.got + m ≤ n = omega (arith, p.ensures.most, v.invariant.0) in
    let l₂ : v.got + m ≤ length v.out = omega (arith, v.invariant.1) in
    let l₃ : length d.new.out ≡ v.got + m - v.got = d.auto.out ∙ length_mid v.out v.got (v.got + m) l₂ in (
      l₁,
      part_length v.out d.new.out v.got (v.got + m) (le-add_right v.got m) l₂ l₃ ∙ v.invariant.1,
      stands_on a.links.now a.at a.from v.got n v.last k.result p.result v.invariant.2 k.ensures p.ensures,
      gather_next a.links.now a.pool.now a.at a.from (a.from + n) v.got (n - v.got) v.last k.result p.result v.out d.new.out v.invariant.2 k.ensures p.ensures (omega arith) l₂ l₃ v.invariant.3 d.ensures,
    )
