-- The fold's steps are the links that are followed. Assumes nothing.
use Rattle.std.proofs.Common.{rules, arith, ◌≡◌, ◌∙◌, ◌+◌, zero, suc, refl, get_or, List, ℕ}
use Rattle.std.specs.List.{fold, range_with_len}
use Rattle.std.proofs.lemmas.Iterator.{YieldsList-from_range}
use Rattle.std.proofs.lemmas.Iterator.Consumers.{fold_from_yields_List}
use Rattle.chunks.specs.Chain.{hop}
use Rattle.chunks.proofs.hop.Goals as goal

hop-fold : (l : List ℕ) (at a k : ℕ) → fold (λ node i. get_or l node 0) at (range_with_len a k) ≡ hop l at k
hop-fold l at a zero = refl
hop-fold l at a (suc k) = hop-fold l (get_or l at 0) (a + 1) k

pub returns : goal.returns
returns c =
    let l = c.args.links.now in
    fold_from_yields_List _ (λ node i. get_or l node 0) c.args.at c.fold.result c.fold.ensures.ran (YieldsList-from_range 0 c.args.k c.args.k refl (omega arith)) (λ a x b q w. search rules) ∙ hop-fold l c.args.at 0 c.args.k
