-- `trace_events::read_number` meets its contract, by the invariant of its loop. Assumes nothing.
use Rattle.std.proofs.Common.{arith, sym, ◌∙◌, refl, add-zero}
use Rattle.std.proofs.lemmas.Grind.{pow_more}
use Rattle.trace_events.specs.Numbers.{number_at}
use Rattle.trace_events.proofs.Groups.{group_is, stays_below, weight_fits, cut, ends, continues, too_large}
use Rattle.trace_events.proofs.read_number.Goals as goal

pub returns-in_default : goal.returns-in_default
unfolding number_at
returns-in_default c = sym (simp add-zero at (cut c.args.src.now c.args.at 0 1 0 (omega arith) refl (omega arith) (omega (arith, c.in_default.ensures.lookup))))

pub returns-in_default-get : goal.returns-in_default-get
returns-in_default-get c =
    let l = c.loop-k in
    let i = l.invariant in
    sym (cut _ _ _ _ _ c.loop-k-test.true i.weighs i.below (omega (arith, c.in-Some.ensures.lookup, c.in_default-get.ensures.lookup))) ∙ i.rest

pub returns-then-b-gt1 : goal.returns-then-b-gt1
returns-then-b-gt1 c =
    let i = c.loop-k.invariant in
    let o = c.in-Some.ensures.lookup.0 in
    let b = c.in-Some-get.ensures.lookup.3 in
    let here = group_is _ _ c.args.at _ _ o.2 o.3 b.0 (b.1 0) in
    sym (too_large _ _ _ _ _ c.loop-k-test.true i.weighs i.below _ here c.if-k-eq9.true c.if-b-gt1.true) ∙ i.rest

pub returns-then-b-lt128 : goal.returns-then-b-lt128
returns-then-b-lt128 c =
    let i = c.loop-k.invariant in
    let o = c.in-Some.ensures.lookup.0 in
    let b = c.in-Some-get.ensures.lookup.3 in
    let here = group_is _ _ c.args.at _ _ o.2 o.3 b.0 (b.1 0) in
    rw c.from.ensures (sym (ends _ _ _ _ _ c.loop-k-test.true i.weighs i.below _ here c.else-k-eq9.either c.if-b-lt128.true) ∙ i.rest)

pub overflow_mul-weight : goal.overflow_mul-weight
overflow_mul-weight c =
    let i = c.loop-k.invariant in
    omega (arith, weight_fits _ _ _ c.loop-k-test.true i.weighs i.below _ c.else-k-eq9.either c.if-b-lt128.false)

pub loop-k-preserved : goal.loop-k-preserved
loop-k-preserved c =
    let i = c.loop-k.invariant in
    let o = c.in-Some.ensures.lookup.0 in
    let b = c.in-Some-get.ensures.lookup.3 in
    let here = group_is _ _ c.args.at _ _ o.2 o.3 b.0 (b.1 0) in
    rw c.from.ensures
    (record {
      rest = continues _ _ _ _ _ c.loop-k-test.true i.weighs i.below _ here c.else-k-eq9.either c.if-b-lt128.false ∙ i.rest;
      weighs = rw (pow_more 128 c.loop-k.k, i.weighs) refl;
      below = stays_below _ _ _ c.loop-k-test.true i.weighs i.below _;
    })
