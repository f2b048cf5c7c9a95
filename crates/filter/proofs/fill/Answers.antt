-- A read more stands behind what stood.
use Rattle.std.proofs.Common.{◌≡◌, sym, ap, subst, ◌∙◌, false, ℕ}
use borrow.Author.Tests.{not-true}
use Rattle.filter.specs.Parts.{Inside, after_read, holding}
use Rattle.filter.specs.declared.Standing.{Standing}
use Rattle.filter.proofs.Feeding.{Reading, one_more}
use Rattle.filter.proofs.fill.Goals as goal

pub loop-s-preserved : goal.loop-s-preserved
loop-s-preserved g c =
    let v = c.loop-s.invariant in
    let s = c.loop-s.s in
    let k = c.read_more-got in
    let e = k.ensures in
    let on : s.ended ≡ false = not-true s.ended c.if-not-s.true in
    let stood : s ≡ holding s.have false = v.0.live (v.0.on on) ∙ ap (holding s.have) on in
    let is = c.after_read-s.ensures ∙ ap (λ (x : Standing). after_read x s.have k.result) stood in (
      subst (Reading _ _ _ _) (sym is) (one_more _ _ _ _ _ _ s.have v.0.inside v.0.consumed e.src_unchanged k.result (subst (λ (n : ℕ). Inside s.have n k.result) v.1 e.inside) e.brings),
      k.auto.src ∙ v.1,
    )
