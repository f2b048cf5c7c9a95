-- `trace_lines::put_last` meets its contract. Assumes nothing.
use Rattle.std.proofs.Common.{◌+◌, ◌≤◌, arith, length}
use Rattle.trace_lines.specs.Line.{last_of}
use Rattle.trace_lines.proofs.Stored.{stores_then, writes}
use Rattle.trace_lines.proofs.put_last.Goals as goal

pub returns : goal.returns
unfolding last_of
returns c =
    let a = c.args in
    let h : a.at + 100 ≤ length a.out.now = omega arith in
    writes 100 h (omega arith)
    (stores_then c.put_text-said.ensures (stores_then c.put_number-first.ensures.stores c.put_number.ensures.stores))
