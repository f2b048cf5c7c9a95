-- The links before the first one that goes elsewhere go each to the next block. Assumes nothing.
use Rattle.std.proofs.Common.{rules, arith, tests, ◌≡◌, max, ◌≤◌, ◌<◌, ℕ, suc, List, get_or, Option, None, Some}
use Rattle.std.specs.Option.{MatchOption, unwrap_or}
use Rattle.std.proofs.lemmas.Iterator.{first_from_Range}
use Rattle.std.proofs.lemmas.List.{get_or_read}
use Rattle.chunks.specs.Steps.{Lined}
use Rattle.chunks.proofs.copies.run.Goals as goal

-- where the search ends, x: at the first link that goes elsewhere, else at the end
reached : (l : List ℕ) (at stop end x : ℕ) (r : Option ℕ) → end ≡ max stop at → x ≡ unwrap_or r end → MatchOption r (Lined l at stop) (λ i. (at ≤ i) × (i < stop) × (get_or l i 0 ≡ suc i → ⊥) × Lined l at i)
    → (at ≤ x) × (x ≤ end) × Lined l at x
reached l at stop end x None e₁ e₂ h = (omega arith, omega arith, λ k p q. h k p (omega arith))
reached l at stop end x (Some i) e₁ e₂ h = rw e₂ (h.0, omega arith, h.3)

pub returns : goal.returns
returns c =
    let l = c.args.links.now in
    let r = reached l c.args.at c.min-stop.result c.max.result c.unwrap_or.result c.find.result c.max.ensures c.unwrap_or.ensures
    (first_from_Range _ _ _ _ (λ i. get_or l i 0 ≡ suc i → ⊥) (λ i. get_or l i 0 ≡ suc i) c.find.ensures.ran (λ x q k. grind (arith, tests, get_or_read)) (λ x q k. (search rules, grind (arith, tests, get_or_read)))) in
    (r.0, omega (arith, r.1), r.2)
