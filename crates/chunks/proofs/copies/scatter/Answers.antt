-- `chunks::copies::scatter` meets its contract, by the invariant of its loop. Assumes nothing.
use Rattle.std.proofs.Common.{rules, tests}
use Rattle.chunks.proofs.Pieces.{written_first, written_next, written_all}
use Rattle.chunks.proofs.copies.scatter.Goals as goal

pub loop-rest-init : goal.loop-rest-init
loop-rest-init c =
    let a = c.args in
    let s = c.split_at in
    written_first a.links.now a.pool.now c.fill.new.pool a.at a.used c.min.result a.body.now s.result.0.now s.result.1.now c.requires c.min.ensures s.ensures.front s.ensures.back c.fill.auto.pool c.fill.ensures

pub loop-rest-preserved : goal.loop-rest-preserved
loop-rest-preserved c =
    let a = c.args in
    let s = c.split_at-in-loop-rest in
    let f = c.fill-in-loop-rest in
    written_next a.links.now a.pool.now c.loop-rest.pool f.new.pool a.at a.used c.loop-rest.last c.link-node.result c.piece_at-p.result a.body.now c.loop-rest.rest.now s.result.0.now s.result.1.now c.loop-rest.invariant c.link-node.ensures c.piece_at-p.ensures s.ensures.front s.ensures.back f.auto.pool f.ensures

pub returns : goal.returns
returns c =
    let r = written_all _ _ _ _ _ _ _ _ c.loop-rest.invariant (search (rules, tests)) in
    record { value = r.0; scatters = r.1 }
