-- `trace_lines::put_hex` meets its contract, by the invariant of its loop. Assumes nothing.
use Rattle.std.proofs.Common.{arith, add-one}
use Rattle.trace_lines.specs.Line.{hex}
use Rattle.trace_lines.proofs.Stored.{stores-none, stores_then}
use Rattle.trace_lines.proofs.Texts.{hex-size, hex-next}
use Rattle.trace_lines.proofs.put_hex.Goals as goal

pub loop-b-init : goal.loop-b-init
unfolding hex
loop-b-init c =
    let a = c.args in
    (stores-none a.out.now a.at, omega arith, omega (arith, hex-size a.bytes.now))

pub loop-b-preserved : goal.loop-b-preserved
loop-b-preserved c =
    let l = c.loop-b in
    let two = rw (c.hex_digit.ensures, c.hex_digit-in-loop-b.ensures) at c.put_two-p.ensures in (
      rw (add-one l.b-index, hex-next _ _ c.loop-b-test.true) (stores_then l.invariant.0 two),
      omega arith,
      omega arith,
    )
