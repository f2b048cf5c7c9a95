-- Settings that a trace may have ask for no more than the program has, and make a connection. Assumes nothing.
use Rattle.std.proofs.Common.{Ok, Result, Err, ◌≡◌, refl, sym, ap, subst, ◌∙◌, true, List, ◌++◌, ℕ, ◌*◌, ◌≤◌, arith, leb, length, take, length-take-le, leb-true, eqb, eqb-true, eq-eqb}
use lib.Seq.{take-append_seam}
use Rattle.rules.proofs.Judging.{all_hold, permitted_too}
use Rattle.rules.proofs.Lists.{both}
use Rattle.std.specs.Prelude.{⊤}
use Rattle.rules.specs.Settings.{within}
use Rattle.rules.specs.declared.Settings.{Settings}
use Rattle.rules.specs.declared.Setting.TheVariants as setting
use Rattle.rules.specs.declared.Config.{Config}
use Rattle.chunks.specs.Blocks.{BLOCK, blocks_for}
use Rattle.table.specs.Table.{size}
use Rattle.connection_open.specs.Start.{sized}
use Rattle.trace_events.specs.Format.{settings_at}
use Rattle.trace.specs.Output.{most, sizes_of, begun_as}
use Rattle.trace.specs.declared.Stop.{Stop}
use Rattle.trace.specs.declared.ends.Sizes.{Sizes}
use Rattle.trace.specs.declared.ends.Begun.{Begun}
use Rattle.trace.proofs.Remaining.{Prepared}
use Rattle.filter.specs.Account.{reads}
use Rattle.filter.specs.Parts.{holding}
use Rattle.filter.specs.declared.Standing.{Standing}
use Rattle.filter.specs.declared.Fault.{Fault}
use Rattle.filter.specs.declared.Fault.TheVariants.{Unread}
use Rattle.trace_events.specs.Calls.{longest}
use Rattle.trace_lines.specs.Writing.{longest_line}
use Rattle.trace_play.specs.Places.{Roomy, sized_for}
use Rattle.trace_play.specs.Plays.{Lent, lent, Fitting, Started, OnlyLine, Lines, Enough, Performed, Performs, unread, unreached, played}

-- ---- the settings

-- the program's table, links and pool
pub record Lends (z : Sizes) : Type 0 where
  pub table : z.table ≤ 2700
  pub links : z.links ≤ 616
  pub pool : z.pool ≤ 630784

sizes_fit : (k : Config) → sized k (sizes_of k).table (sizes_of k).links (sizes_of k).pool ≡ true
sizes_fit k =
    let n : ℕ = blocks_for k.slots k.pool in
    rw (eq-eqb (size k.slots) (size k.slots) refl, eq-eqb n n refl) (eq-eqb (n * BLOCK) (n * BLOCK) refl)

module _ {s : List ℕ} {t : Settings} {z : Sizes} {next : ℕ} (f : Prepared s t z next) where
  pub asked : Lends z
  asked =
      let ok = all_hold most t f.config f.fine in
      let h = both (within 1 1024 t.slots) _ (ok.0 setting.Slots) in
      let i = both (leb t.max_num_streams t.slots) _ h.1 in
      let j = both (leb t.pool 4294967295) _ (ok.0 setting.Pool) in
      let a : t.slots ≤ 300 = leb-true _ _ i.1 in
      let b : t.pool ≤ 16384 = leb-true _ _ j.1 in
      rw (f.sizes, ok.1) (record { table = omega arith; links = omega arith; pool = omega arith })

  pub fitting : (table links pool : List ℕ) → z.table ≤ length table → z.links ≤ length links → z.pool ≤ length pool
      → Fitting t (length (take z.table table)) (length (take z.links links)) (length (take z.pool pool))
  fitting table links pool a b c = record {
    config = f.config;
    fine = permitted_too most t f.config f.fine;
    fits = rw (length-take-le z.table table a, length-take-le z.links links b, length-take-le z.pool pool c, f.sizes) (sizes_fit f.config);
  }

-- the settings are not read
pub unread_performs : (m : Lent) (have : ℕ) (input : List ℕ) (r : Result ⊤ Fault) → r ≡ Err Unread → Performs m r (lent m.table m.links m.pool input m.room)
unread_performs m have input r e = (_, subst (λ (w : Result ⊤ Fault). Performed m (reads (take have input)) w (lent m.table m.links m.pool input m.room)) (sym e) (unread have input))

-- no event is reached
pub line_performs : (m : Lent) (x : Standing) (input : List ℕ) (why : Stop) (r : Result ⊤ Fault) {room' : List ℕ} → x ≡ holding x.have x.ended → Enough x.have x.ended → x.have ≤ length input → begun_as (settings_at (take x.have input)) ≡ Err why
    → Lines why x r room' → Performs m r (lent m.table m.links m.pool input room')
line_performs m x input why r {room'} e n h g q = (_, unreached x.have x.ended input why r n h g (subst (λ (y : Standing). OnlyLine why y q.0 r room') e q.1))

-- what was lent of a list stands before the rest of it
front_is : (front rest : List ℕ) (n : ℕ) → length front ≡ n → take n (front ++ rest) ≡ front
front_is front rest n e = ap (λ (k : ℕ). take k (front ++ rest)) (sym e) ∙ take-append_seam front rest

-- the events are played from the place after the settings on
pub plays : (m : Lent) (x : Standing) (input : List ℕ) (b : Begun) (r : Result ⊤ Fault) {t' l' p' input' room' : List ℕ} (more-t more-l more-p : List ℕ)
    → length t' ≡ b.sizes.table → length l' ≡ b.sizes.links → length p' ≡ b.sizes.pool
    → x ≡ holding x.have x.ended → Enough x.have x.ended → x.have ≤ length input
    → begun_as (settings_at (take x.have input)) ≡ Ok b
    → Started b.settings (record { at = b.next; have = x.have; put = x.put; ended = x.ended; done = x.done; work = x.work }) input m.room r (lent t' l' p' input' room')
    → Performs m r (lent (t' ++ more-t) (l' ++ more-l) (p' ++ more-p) input' room')
plays m x input b r {t'} {l'} {p'} {input'} {room'} more-t more-l more-p i j k e n h g q =
    let w = subst (λ (y : Standing). Started b.settings (record { at = b.next; have = y.have; put = y.put; ended = y.ended; done = y.done; work = y.work }) input m.room r (lent t' l' p' input' room')) e q in (
      _,
      played {m' = lent (t' ++ more-t) (l' ++ more-l) (p' ++ more-p) input' room'} x.have x.ended input b r n h g (rw (front_is t' more-t b.sizes.table i, front_is l' more-l b.sizes.links j, front_is p' more-p b.sizes.pool k) w),
    )

-- ---- what is lent

-- what is judged to be enough
pub enough : (t l p sent bytes input room : ℕ) → sized_for t l p sent bytes input room ≡ true
    → (2700 ≤ t) × (616 ≤ l) × (630784 ≤ p) × (sent ≡ 12) × (bytes ≡ 16384) × Roomy input room
enough t l p sent bytes input room e =
    let a = both (leb 2700 t) _ e in
    let b = both (leb 616 l) _ a.1 in
    let c = both (leb 630784 p) _ b.1 in
    let d = both (leb longest input) _ c.1 in
    let f = both (leb longest_line room) _ d.1 in
    let g = both (eqb sent 12) _ f.1 in
    (leb-true _ _ a.0, leb-true _ _ b.0, leb-true _ _ c.0, eqb-true _ _ g.0, eqb-true _ _ g.1, (leb-true _ _ d.0, leb-true _ _ f.0))
