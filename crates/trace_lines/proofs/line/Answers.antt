-- `trace_lines::line` meets its contract. Assumes nothing.
use Rattle.std.proofs.Common.{◌+◌, ◌≤◌, arith, length}
use Rattle.trace_lines.specs.Writing.{line_room}
use Rattle.trace_lines.proofs.Stored.{writes}
use Rattle.trace_lines.proofs.line.Goals as goal

pub returns : goal.returns
returns c =
    let a = c.args in
    let room = line_room (length a.header.now) (length a.bytes.now) in
    let h : a.at + room ≤ length a.out.now = omega arith in
    writes room h c.put_fields.ensures.upper_bound c.put_fields.ensures.stores
