-- `trace_lines::put_bytes` meets its contract. Assumes nothing.
use Rattle.std.proofs.Common.{◌≡◌, [], ◌<◌, arith, length}
use Rattle.trace_lines.proofs.Stored.{stores_one, stores_then}
use Rattle.trace_lines.proofs.Texts.{hex-size, dash_none, dash_some, empty}
use Rattle.trace_lines.specs.Line.{hex}
use Rattle.trace_lines.proofs.put_bytes.Goals as goal

pub returns-then-is_empty-clause-stores : goal.returns-then-is_empty-clause-stores
returns-then-is_empty-clause-stores c =
    let b = c.args.bytes.now in
    let n : length b ≡ 0 = grind (arith, c.is_empty.ensures, c.if-is_empty.true) in
    let h : hex b ≡ [] = empty (hex b) (omega (arith, hex-size b)) in
    rw (h, dash_none) c.put_dash.ensures

pub returns-clause-stores : goal.returns-clause-stores
returns-clause-stores c =
    let b = c.args.bytes.now in
    let n : 0 < length b = grind (arith, c.is_empty.ensures, c.if-is_empty.false) in
    let h : 0 < length (hex b) = omega (arith, hex-size b) in
    rw (dash_some (hex b) h) (stores_then c.put_hex-p.ensures (stores_one _ _ _))
