-- `trace_play::play` meets its contract, by the invariant of its loop. Assumes nothing.
use Rattle.std.proofs.Common.{arith}
use Rattle.filter.specs.Account.{nothing}
use Rattle.trace_play.specs.Plays.{lent, none, more}
use Rattle.trace_play.proofs.play.Goals as goal

pub loop-state-init : goal.loop-state-init
loop-state-init g c =
    let p = c.requires in
    (p.sound, p.roomy, p.valid, (nothing, none), p.counted)

pub loop-state-preserved : goal.loop-state-preserved
loop-state-preserved g c =
    let k = c.turn-state in
    let v = c.loop-state.invariant in
    let e = k.ensures in (
      (e.sound_after.0, omega (arith, e.sound_after.1, k.auto.src), omega (arith, e.sound_after.2, k.auto.out)),
      (omega (arith, v.1.0, k.auto.src), omega (arith, v.1.1, k.auto.out)),
      e.valid_after,
      (_, more {m₂ = lent k.new.table k.new.links k.new.pool k.new.src k.new.out} v.3.1 e.turns.1),
      e.counted_after,
    )
