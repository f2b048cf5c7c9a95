-- `trace_lines::put_marks` meets its contract. Assumes nothing.
use Rattle.trace_lines.specs.Line.{marks}
use Rattle.trace_lines.proofs.Stored.{stores_then}
use Rattle.trace_lines.proofs.put_marks.Goals as goal

pub returns : goal.returns
unfolding marks
returns c = stores_then c.put_mark-reader.ensures (stores_then c.put_mark-writer.ensures c.put_mark.ensures)
