-- `trace::show` meets its contract: with room for the longest line the line is written. Assumes nothing.
use Rattle.trace.proofs.Showing.{shows}
use Rattle.trace.proofs.show.Goals as goal

pub returns : goal.returns
returns c =
    let k = c.line in
    let e = rw (c.header_size.ensures.value, c.min.ensures, c.bytes_read-count.ensures) at k.ensures in
    let w = shows c.args.kind c.args.answer c.args.sent.now c.args.bytes.now c.args.number c.args.out.now c.args.put _ c.told-sent c.told-bytes c.requires k.result (rw c.told-bytes e) k.auto.out in
    rw c.unwrap_or.ensures (record { stores = w.0; upper_bound = w.1 })
