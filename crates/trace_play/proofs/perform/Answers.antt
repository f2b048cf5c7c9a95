-- `trace_play::perform` meets its contract: what the settings ask for is there. Assumes nothing.
use Rattle.std.proofs.Common.{◌≡◌, sym, ap, ◌∙◌, List, ℕ, ◌≤◌, arith, length, take, length-take-le, Result, Ok}
use Rattle.filter.specs.declared.Standing.{Standing}
use Rattle.rules.specs.declared.Settings.{Settings}
use Rattle.trace_events.specs.Format.{settings_at}
use Rattle.trace.specs.declared.Stop.{Stop}
use Rattle.trace.specs.Output.{begun_as}
use Rattle.trace.specs.declared.Sizes.{Sizes}
use Rattle.trace.specs.declared.ends.Begun.{Begun}
use Rattle.trace.proofs.Remaining.{Prepared, events_reached}
use Rattle.trace_play.specs.Plays.{lent}
use Rattle.trace_play.proofs.Starting.{asked, fitting, unread_performs, line_performs, plays}
use Rattle.trace_play.proofs.perform.Goals as goal

-- the settings are there, and what they ask for
ready : {r : Result Begun Stop} (s : List ℕ) {b : Begun} → r ≡ begun_as (settings_at s) → r ≡ Ok b → Prepared s b.settings b.sizes b.next
ready s {b = b} e f = events_reached s b (sym e ∙ f)

-- what the settings ask for is lent
fits : {s : List ℕ} {t : Settings} {z : Sizes} {next : ℕ} → Prepared s t z next → (table links pool : List ℕ) → 2700 ≤ length table → 616 ≤ length links → 630784 ≤ length pool
    → (z.table ≤ length table) × (z.links ≤ length links) × (z.pool ≤ length pool)
fits r table links pool x y w = let f = asked r in (omega (arith, f.table, x), omega (arith, f.links, y), omega (arith, f.pool, w))

pub returns-then-filled : goal.returns-then-filled
returns-then-filled g c =
    let a = c.args in
    let m = lent a.table.now a.links.now a.pool.now a.src.now a.out.now in
    let k = c.fill-filled in
    unread_performs m k.result.have k.new.src _ (c.work.ensures ∙ k.ensures.fills.failed c.if-filled.true)

pub slice_bounds-start-end : goal.slice_bounds-start-end
slice_bounds-start-end g c =
    let a = c.args in
    let p = c.requires in
    let r = ready (take c.fill-filled.result.have c.fill-filled.new.src) c.begin.ensures c.in-Ok.is in
    (fits r a.table.now a.links.now a.pool.now p.0 p.1 p.2).0

pub slice_bounds-start-end-in-Ok-2 : goal.slice_bounds-start-end-in-Ok-2
slice_bounds-start-end-in-Ok-2 g c =
    let a = c.args in
    let p = c.requires in
    let r = ready (take c.fill-filled.result.have c.fill-filled.new.src) c.begin.ensures c.in-Ok.is in
    (fits r a.table.now a.links.now a.pool.now p.0 p.1 p.2).1

pub start-requires-clause-sound : goal.start-requires-clause-sound
start-requires-clause-sound g c =
    let k = c.fill-filled in
    let r = ready (take c.fill-filled.result.have c.fill-filled.new.src) c.begin.ensures c.in-Ok.is in
    let inside : k.result.have ≤ length k.new.src = omega (arith, k.ensures.fills.inside, k.auto.src) in
    let n = length-take-le k.result.have k.new.src inside in
    let e = ap (λ (x : Standing). x.put) (k.ensures.fills.live c.if-filled.false) in
    (omega (arith, r.inside, n), inside, omega (arith, e))

pub start-requires-clause-fitting : goal.start-requires-clause-fitting
start-requires-clause-fitting g c =
    let a = c.args in
    let p = c.requires in
    let r = ready (take c.fill-filled.result.have c.fill-filled.new.src) c.begin.ensures c.in-Ok.is in
    let f = fits r a.table.now a.links.now a.pool.now p.0 p.1 p.2 in
    fitting r a.table.now a.links.now a.pool.now f.0 f.1 f.2

pub start-requires-clause-at_bound : goal.start-requires-clause-at_bound
start-requires-clause-at_bound g c = (ready (take c.fill-filled.result.have c.fill-filled.new.src) c.begin.ensures c.in-Ok.is).brief

pub returns-in-Ok : goal.returns-in-Ok
returns-in-Ok g c =
    let a = c.args in
    let p = c.requires in
    let m = lent a.table.now a.links.now a.pool.now a.src.now a.out.now in
    let k = c.fill-filled in
    let w = c.start in
    let e = sym c.begin.ensures ∙ c.in-Ok.is in
    let r = ready (take c.fill-filled.result.have c.fill-filled.new.src) c.begin.ensures c.in-Ok.is in
    let f = fits r a.table.now a.links.now a.pool.now p.0 p.1 p.2 in
    let inside : k.result.have ≤ length k.new.src = omega (arith, k.ensures.fills.inside, k.auto.src) in
    plays m k.result k.new.src c.in-Ok.begun w.result _ _ _ (w.auto.table ∙ length-take-le _ _ f.0) (w.auto.links ∙ length-take-le _ _ f.1) (w.auto.pool ∙ length-take-le _ _ f.2) (k.ensures.fills.live c.if-filled.false) k.ensures.fills.enough inside e w.ensures

pub returns-in-Err : goal.returns-in-Err
returns-in-Err g c =
    let a = c.args in
    let m = lent a.table.now a.links.now a.pool.now a.src.now a.out.now in
    let k = c.fill-filled in
    let inside : k.result.have ≤ length k.new.src = omega (arith, k.ensures.fills.inside, k.auto.src) in
    line_performs m k.result k.new.src _ _ (k.ensures.fills.live c.if-filled.false) k.ensures.fills.enough inside (sym c.begin.ensures ∙ c.in-Err.is) c.only_line.ensures
