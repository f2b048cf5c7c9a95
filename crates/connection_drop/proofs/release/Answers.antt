-- `connection_drop::release` meets its contract: the growth is given back, the stream removed, and the slot freed. Assumes nothing.
use Rattle.connection_drop.proofs.Dropping.{release-handles}
use Rattle.connection_drop.proofs.release.Goals as goal

pub returns : goal.returns
returns c =
    let a = c.args in
    let d = c.find-found in
    let r = c.remove in
    let f = c.free-memory in
    release-handles a.c a.table.now a.links.now a.slot a.row r.result r.new.table f.result f.new.table f.new.links
    (rw c.load-mine.ensures at f.ensures) _ c.growth_returned-growth.ensures d.result d.ensures r.ensures
