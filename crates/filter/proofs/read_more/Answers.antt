-- What a read brought stands behind what was there.
use lib.Seq.{take-append-le}
use borrow.Rule.Slice.PartMut.{put_mid, post_of}
use Rattle.std.proofs.Common.{drop_at, sym, ap, subst, ◌∙◌, ℕ, ◌-◌, ◌≤◌, arith, length, take, length-take-le}
use Rattle.std.proofs.lemmas.List.{drop-take}
use Rattle.filter.specs.Parts.{Brings}
use Rattle.filter.proofs.Feeding.{answered-brings}
use Rattle.filter.proofs.read_more.Goals as goal

pub returns-clause-brings : goal.returns-clause-brings
returns-clause-brings g c =
    let a = c.args in
    let s = a.src.now in
    let room = length s - a.have in
    let behind = drop_at (take a.have s) _ a.have (length-take-le a.have s (omega arith)) in
    let brought = λ (n : ℕ) (l : n ≤ length c.read.new.buf). drop-take a.have n (put_mid a.have room s c.read.new.buf) ∙ ap (take n) behind ∙ take-append-le n c.read.new.buf (post_of a.have room s) l in
    subst (Brings _ _ _ _) (sym c.answered.ensures) (answered-brings _ _ _ _ _ brought (omega (arith, c.read.auto.buf)) _ c.read.ensures.bound c.read.ensures.bytes)
