-- `trace_lines::config_line` meets its contract. Assumes nothing.
use Rattle.std.proofs.Common.{◌+◌, ◌≤◌, arith, length}
use Rattle.trace_lines.specs.Line.{config_line}
use Rattle.trace_lines.proofs.Stored.{stores_then, writes}
use Rattle.trace_lines.proofs.config_line.Goals as goal

pub returns : goal.returns
unfolding config_line
returns c =
    let a = c.args in
    let h : a.at + 100 ≤ length a.out.now = omega arith in
    writes 100 h (omega arith)
    (stores_then c.put_text-said.ensures (rw c.from.ensures at c.put_number.ensures.stores))
