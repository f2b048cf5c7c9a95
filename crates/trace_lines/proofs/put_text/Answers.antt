-- `trace_lines::put_text` meets its contract. Assumes nothing.
use Rattle.trace_lines.proofs.Stored.{stores-copy}
use Rattle.trace_lines.proofs.put_text.Goals as goal

pub returns : goal.returns
returns c = stores-copy c.args.out.now c.args.at c.args.text.now _ c.requires c.copy_from_slice.ensures.after
