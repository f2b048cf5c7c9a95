-- `trace::turn` meets its contract: an event that is there, with room for its line, is applied and written. Assumes nothing.
use Rattle.std.proofs.Common.{refl, sym, ◌∙◌, ◌+◌}
use Rattle.std.proofs.lemmas.Result.{err_from_is_err_and}
use Rattle.trace.proofs.Turning.{none-halts, none-lacks, lies, full-halts, goes}
use Rattle.trace.proofs.turn.Goals as goal

pub returns-in_err-event : goal.returns-in_err-event
returns-in_err-event c =
    let a = c.args in
    let p = err_from_is_err_and c.from_residual.result c.from_residual.ensures.1 in
    let h = sym c.read_event.ensures ∙ c.in_err-event.was in
    rw (p.1, p.2) (record { table = refl; links = refl; pool = refl; out = refl; stops = λ x k n. none-halts a.src.now a.place.at _ h x k n _; lacks = none-lacks a.src.now a.place.at _ h _ _ })

pub returns-then-left-lt-LONGEST_LINE : goal.returns-then-left-lt-LONGEST_LINE
returns-then-left-lt-LONGEST_LINE c =
    let a = c.args in
    let h = sym c.read_event.ensures ∙ c.in_ok-event.was in
    let l = rw c.room_left-left.ensures at c.if-left-lt-LONGEST_LINE.true in
    record { table = refl; links = refl; pool = refl; out = refl; stops = λ x k n. full-halts a.src.now a.place.at _ h _ l x k n; lacks = l }

pub apply-done-requires : goal.apply-done-requires
apply-done-requires c =
    let h = lies c.args.src.now c.args.place.at _ (sym c.read_event.ensures ∙ c.in_ok-event.was) in
    (h.1, h.0.1)

pub returns : goal.returns
returns c =
    let a = c.args in
    let k = c.apply-done in
    let w = c.show-put in
    let room = rw c.room_left-left.ensures at c.if-left-lt-LONGEST_LINE.false in (
      refl,
      goes a.c a.table.now a.links.now a.pool.now a.sent.now a.src.now a.place.at (a.place.applied + 1) a.out.now a.place.put _ _ k.result _ _ _ _ _ _
          (sym c.read_event.ensures ∙ c.in_ok-event.was) c.told-sent room k.ensures w.ensures.stores w.ensures.upper_bound,
    )
