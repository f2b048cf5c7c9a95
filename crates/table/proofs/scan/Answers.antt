-- `table::scan` meets its contract: what the library's `position` finds in the first `k` cells is the first key. Assumes nothing.
use Rattle.std.proofs.Common.{rules, tests, ◌∙◌, sym, eqb, take}
use Rattle.std.proofs.lemmas.Iterator.Search.{position_from_yields_List}
use Rattle.std.proofs.lemmas.Iterator.{YieldsList-from_slice}
use Rattle.table.proofs.Scans.{scan-at, scan-nowhere}
use Rattle.table.proofs.scan.Goals as goal

pub returns-in_err-i : goal.returns-in_err-i
returns-in_err-i c =
    let a = c.args in
    let e = position_from_yields_List (λ x. eqb x a.key) _ _ c.position.result c.position.ensures.ran (YieldsList-from_slice (take c.min-n.result a.table.now) cc) (λ x b q k. search (rules, tests)) in
    rw c.from_residual.ensures (scan-nowhere a.table.now a.k a.key c.min-n.result c.min-n.ensures (sym e ∙ c.in_err-i.was))

pub returns : goal.returns
returns c =
    let a = c.args in
    let e = position_from_yields_List (λ x. eqb x a.key) _ _ c.position.result c.position.ensures.ran (YieldsList-from_slice (take c.min-n.result a.table.now) cc) (λ x b q k. search (rules, tests)) in
    scan-at a.table.now a.k a.key c.min-n.result c.min-n.ensures c.in_ok-i.i (sym e ∙ c.in_ok-i.was)
