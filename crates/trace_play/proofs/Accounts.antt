-- All that is printed for the bytes that reads brought is what was put to be written: of every turn, and of the whole. Assumes nothing.
use Rattle.std.proofs.Common.{◌≡◌, refl, sym, ap, subst, ◌∙◌, Bool, true, false, inl, inr, List, [], ◌++◌, append_assoc, append-nil, ℕ, ◌+◌, ◌-◌, ◌≤◌, add-zero, zero-add, arith, length, take, drop, length-append, length-drop, take-append-drop, length-take-le, take-take, le-leb, Option, Some, None, Result, Ok, Err, is_ok}
use Rattle.std.proofs.lemmas.List.Edits.{sets-eq}
use lib.Seq.{length-sets, take-append_seam}
use Rattle.chunks.proofs.Parts.{drop-take}
use Rattle.rules.proofs.Lists.{never}
use Rattle.std.specs.Prelude.{⊤}
use Rattle.std.specs.declared.io.Error.{Error}
use Rattle.rules.specs.State.{Conn}
use Rattle.rules.specs.Settings.{checked_within}
use Rattle.rules.specs.declared.Settings.{Settings}
use Rattle.connection.specs.Abstract.{abs_of, Valid}
use Rattle.trace.specs.Runs.{Traced, only}
use Rattle.trace.specs.Output.{most, judged_as, begun_as, last_line, allowance, output, remaining, IsLast}
use Rattle.trace.specs.Turns.{Runs, RanAs, runs_from}
use Rattle.trace.specs.declared.Stop.{Stop}
use Rattle.trace.specs.declared.Stop.TheVariants as stop
use Rattle.trace.specs.declared.Report.{Report}
use Rattle.trace.specs.declared.ends.Begun.{Begun}
use Rattle.trace_events.specs.Format.{settings_at}
use Rattle.trace_events.specs.declared.Preamble.{Preamble}
use Rattle.trace_events.specs.Numbers.{Reading}
use Rattle.trace_events.specs.declared.Unreadable.TheVariants.{Short}
use Rattle.rules.proofs.Judging.{permitted_too}
use Rattle.trace_events.proofs.More.{Settles}
use Rattle.trace_events.proofs.Settings.{settings-more}
use Rattle.trace.proofs.Whole.{settings_there}
use Rattle.trace.proofs.Remaining.{run-remains, last_remains, none_reached, events_reached}
use Rattle.filter.specs.Parts.{kept, Inside, after_read, after_write, done, work, Flushed}
use Rattle.filter.specs.Account.{Account, nothing, reads, writes, then, Prefix}
use Rattle.filter.specs.declared.Standing.{Standing}
use Rattle.filter.specs.declared.Fault.{Fault}
use Rattle.filter.specs.declared.Fault.TheVariants.{Unwritten}
use Rattle.trace_play.specs.Places.{next_task, place_of, after_run, moved, passed, fed_on}
use Rattle.trace_play.specs.Plays.{Wrote, Took, putting, over, Closed, broken, last, GoesOn, Lent, lent, Played, Plays, none, more, Performed, unread, unreached, played, is_ended, Lasts}
use Rattle.trace_play.specs.declared.State.{State}
use Rattle.rules.specs.declared.Config.{Config}
use Rattle.rules.specs.declared.Setting.{Setting}

-- as many bytes are kept as were not taken
pub kept-length : (s : List ℕ) (from to : ℕ) → from ≤ to → to ≤ length s → length (kept s from to) ≡ to - from
kept-length s from to h k = rw (le-leb to (length s) k) (length-take-le (to - from) (drop from s) (rw (length-drop from s) (omega arith)))

-- the state that is reached
abbrev conn : State → Lent → Conn
conn s m = abs_of s.connection m.table m.links m.pool

-- the bytes that were read and not yet taken
abbrev rest : State → Lent → List ℕ
rest s m = drop s.standing.at (take s.standing.have m.input)

-- Whatever comes after the bytes that were read, all that is printed is what was put to be written, the lines that stand in the room, and
-- what is printed for the bytes not yet taken.
pub record Stands (a : Account) (s : State) (m : Lent) : Type 0 where
  pub valid : Valid s.connection m.table m.links m.pool
  pub at : s.standing.at ≤ s.standing.have
  pub have : s.standing.have ≤ length m.input
  pub put : s.standing.put ≤ length m.room
  pub owes : (next : List ℕ) → output (a.brought ++ next) ≡ a.put ++ (take s.standing.put m.room ++ remaining (passed s) s.applied (conn s m) (rest s m ++ next))

-- What was put is the start of what is printed for all that was brought; and all of it where all is done and every read and write did its
-- work, whatever comes after where the input has not ended: then the room holds the last line.
pub record Told (a : Account) (s : State) (room : List ℕ) : Type 0 where
  pub start : Prefix a.put (output a.brought)
  pub all : done s.standing ≡ true → work s.standing ≡ Ok tt → (next : List ℕ) → (s.standing.ended ≡ true → next ≡ []) → output (a.brought ++ next) ≡ a.put
  pub line : done s.standing ≡ true → work s.standing ≡ Ok tt → Lasts (output a.brought) room

pub record After (a : Account) (s : State) (m : Lent) : Type 0 where
  pub stands : done s.standing ≡ false → Stands a s m
  pub told : Told a s m.room

stands_there : (end : ℕ) (room line : List ℕ) → take end room ≡ line → Prefix line room
stands_there end room line e = (drop end room, sym (take-append-drop end room) ∙ ap (λ (l : List ℕ). l ++ drop end room) e)

starts : (a : Account) (s : State) (m : Lent) → Stands a s m → Prefix a.put (output a.brought)
starts a s m z = (_, rw append-nil at (z.owes []))

-- ---- a run

module _ (a : Account) (s : State) (m : Lent) (z : Stands a s m) (report : Report) (t' l' p' written : List ℕ)
    (k : Runs true s.connection m.table m.links m.pool (take s.standing.have m.input) m.room (place_of s) allowance report t' l' p' written) where
  abbrev read : List ℕ
  read = take s.standing.have m.input

  abbrev ran : Traced
  ran = runs_from s.connection m.table m.links m.pool read m.room (place_of s) allowance

  ran-as : RanAs ran (place_of s) m.room report t' l' p' written
  ran-as = k.steps refl z.valid

  size : length read ≡ s.standing.have
  size = length-take-le s.standing.have m.input z.have

  inside : s.standing.at ≤ length read
  inside = omega (arith, size, z.at)

  fits : s.standing.put + length ran.lines ≤ length m.room
  fits = omega (arith, ran-as.put, k.bounds.room z.put)

  -- the lines stand behind those that stood there
  lines-put : take report.place.put written ≡ take s.standing.put m.room ++ ran.lines
  lines-put =
      let o = m.room in
      let front = take s.standing.put o ++ ran.lines in
      let n : report.place.put ≡ length front = ran-as.put ∙ rw (length-append (take s.standing.put o) ran.lines, length-take-le s.standing.put o z.put) in
      rw (ran-as.out, sets-eq ran.lines o s.standing.put fits, n) (take-append_seam front (drop (s.standing.put + length ran.lines) o))

  ran-owes : (next : List ℕ) → output (a.brought ++ next) ≡ a.put ++ ((take s.standing.put m.room ++ ran.lines) ++ remaining (s.before + ran.at) (s.applied + ran.applied) ran.after (drop ran.at read ++ next))
  ran-owes next =
      z.owes next
      ∙ ap (λ (l : List ℕ). a.put ++ (take s.standing.put m.room ++ l)) (run-remains s.before s.applied (conn s m) read s.standing.at (only (length m.room - s.standing.put)) inside next)
      ∙ ap (λ (l : List ℕ). a.put ++ l) (sym (append_assoc (take s.standing.put m.room) ran.lines _))

  pub ran-stands : Stands a (after_run s report) (lent t' l' p' m.input written)
  ran-stands = record {
    valid = ran-as.valid;
    at = omega (arith, size, k.bounds.inside inside);
    have = z.have;
    put = rw (ran-as.out, length-sets m.room s.standing.put ran.lines) (k.bounds.room z.put);
    owes = λ next. rw (lines-put, ran-as.after, ran-as.applied, ran-as.at) (ran-owes next);
  }

  -- where this run is the last, the last line is printed
  pub ran_ends : (next : List ℕ) → IsLast next report.stop
      → output (a.brought ++ next) ≡ a.put ++ (take report.place.put written ++ last_line report.stop (s.standing.have - report.place.at) (s.before + report.place.at) report.place.applied report.connection.growth)
  ran_ends next l =
      let g : report.connection.growth ≡ ran.after.growth = ap (λ (c : Conn). c.growth) ran-as.after in
      let w = last_remains s.before s.applied (conn s m) read s.standing.at (only (length m.room - s.standing.put)) inside next (subst (IsLast next) ran-as.why l) in
      ran-owes next
      ∙ ap (λ (x : List ℕ). a.put ++ ((take s.standing.put m.room ++ ran.lines) ++ x)) w
      ∙ rw (lines-put, ran-as.why, ran-as.at, ran-as.applied, g, size)

-- ---- what follows it

module _ (a : Account) (s : State) (m : Lent) (z : Stands a s m) (live : done s.standing ≡ false) where
  -- lines are written
  module _ (b : Account) (s' : State) (w : Wrote s m.room b s') where
    wrote-stands : (written : Result ⊤ Error) → Stands (then a (writes (take s.standing.put m.room))) (moved s (after_write s.standing written)) m
    wrote-stands (Ok u) = record { valid = z.valid; at = z.at; have = z.have; put = omega arith; owes = λ next. rw (append-nil, append_assoc) (z.owes next) }
    wrote-stands (Err e) = record { valid = z.valid; at = z.at; have = z.have; put = omega arith; owes = λ next. rw (append-nil, append_assoc) (z.owes next) }

    wrote-told : (written : Result ⊤ Error) → After (then a (writes (take s.standing.put m.room))) (moved s (after_write s.standing written)) m
    wrote-told (Ok u) = record { stands = λ d. wrote-stands (Ok u); told = record { start = starts _ _ _ (wrote-stands (Ok u)); all = λ d w next n. never (sym d ∙ live); line = λ d w. never (sym d ∙ live) } }
    wrote-told (Err e) = record { stands = λ d. wrote-stands (Err e); told = record { start = starts _ _ _ (wrote-stands (Err e)); all = λ d w next n. never (sym (ap is_ok w)); line = λ d w. never (sym (ap is_ok w)) } }

    wrote_after : After (then a b) s' m
    wrote_after =
        subst (λ (y : State). After (then a b) y m) (sym w.is)
        (rw w.flushed.puts (subst (λ (y : Standing). After (then a (writes (take s.standing.put m.room))) (moved s y) m) (sym w.flushed.is) (wrote-told w.flushed.written)))

  -- more is read
  module _ (b : Account) (s' : State) (input' : List ℕ) (t : Took s m.input b s' input') where
    abbrev front : List ℕ
    front = kept m.input s.standing.at s.standing.have

    abbrev x : Standing
    x = s'.standing

    abbrev new : List ℕ
    new = drop (length front) (take x.have input')

    is-rest : front ≡ rest s m
    is-rest = rw (le-leb s.standing.have (length m.input) z.have) (sym (drop-take s.standing.at s.standing.have m.input))

    places : (got : Result (Option ℕ) Error) → Inside (length front) (length m.input) got → x ≡ after_read s.standing (length front) got
        → (x.at ≡ 0) × (x.put ≡ s.standing.put) × (length front ≤ x.have) × (x.have ≤ length m.input)
    places (Ok (Some n)) i q = rw q (refl, refl, omega (arith, i.0), i.1)
    places (Ok None) i q = rw q (refl, refl, omega arith, omega (arith, kept-length m.input s.standing.at s.standing.have z.at z.have, z.have))
    places (Err e) i q = rw q (refl, refl, omega arith, omega (arith, kept-length m.input s.standing.at s.standing.have z.at z.have, z.have))

    ended : (got : Result (Option ℕ) Error) → x ≡ after_read s.standing (length front) got → done x ≡ true → work x ≡ Ok tt → ⊥
    ended (Ok (Some n)) q d w = never (sym d ∙ ap (λ (y : Standing). done y) q ∙ live)
    ended (Ok None) q d w = never (sym d ∙ ap (λ (y : Standing). done y) q ∙ live)
    ended (Err e) q d w = never (sym (ap is_ok w) ∙ ap (λ (y : Standing). is_ok (work y)) q)

    took-stands : Stands (then a (reads new)) (fed_on s x) (lent m.table m.links m.pool input' m.room)
    took-stands =
        let f = places t.fed.got t.fed.inside t.fed.is in
        let whole : take x.have input' ≡ rest s m ++ new = sym (take-append-drop (length front) (take x.have input')) ∙ ap (λ (y : List ℕ). y ++ new) (take-take (length front) x.have input' f.2 ∙ t.fed.front ∙ is-rest) in
        record {
          valid = z.valid;
          at = omega (arith, f.0);
          have = omega (arith, f.3, t.fed.size);
          put = omega (arith, f.1, z.put);
          owes = λ next.
              let l : drop x.at (take x.have input') ++ next ≡ rest s m ++ (new ++ next) =
              ap (λ (i : ℕ). drop i (take x.have input') ++ next) f.0 ∙ ap (λ (y : List ℕ). y ++ next) whole ∙ append_assoc (rest s m) new next in
              rw (append-nil a.put, append_assoc a.brought new next, l, f.1, f.0, add-zero (passed s)) (z.owes (new ++ next));
        }

    took-after : After (then a b) s' (lent m.table m.links m.pool input' m.room)
    took-after =
        subst (λ (y : State). After (then a b) y (lent m.table m.links m.pool input' m.room)) (sym t.is)
        (rw t.fed.brings (record { stands = λ d. took-stands; told = record { start = starts _ _ _ took-stands; all = λ d w next n. absurd (ended t.fed.got t.fed.is d w); line = λ d w. absurd (ended t.fed.got t.fed.is d w) } }))

-- ---- a turn

module _ (a : Account) (s : State) (m : Lent) (z : Stands a s m) (b : Account) (s' : State) (m' : Lent) (k : Played s m b s' m') where
  abbrev s₁ : State
  s₁ = after_run s k.report

  abbrev m₁ : Lent
  m₁ = lent m'.table m'.links m'.pool m.input k.written

  here : Stands a s₁ m₁
  here = ran-stands a s m z k.report m'.table m'.links m'.pool k.written k.runs

  abbrev lines : List ℕ
  lines = take k.report.place.put k.written

  abbrev line : List ℕ
  line = last_line k.report.stop (s.standing.have - k.report.place.at) (passed s₁) k.report.place.applied k.report.connection.growth

  -- whatever may still come, the last line is printed
  abbrev Ends : Type 0
  Ends = (next : List ℕ) → (s.standing.ended ≡ true → next ≡ []) → output (a.brought ++ next) ≡ a.put ++ (lines ++ line)

  -- all is done where the last line did its work
  whole-after : (c d : Account) (y : Standing) → Ends → y.ended ≡ s.standing.ended → c ≡ writes lines → d ≡ writes line → IsLast [] k.report.stop → Prefix line m'.room → After (then a (then c d)) (moved s₁ (over y)) m'
  whole-after c d y e same p q is_last there =
      rw (p, q, append-nil a.brought) (record {
        stands = λ g. never g;
        told = record {
          start = ([], ap output (sym (append-nil a.brought)) ∙ e [] (λ g. refl) ∙ sym (append-nil (a.put ++ (lines ++ line))));
          all = λ g w next n. e next (λ h. n (same ∙ h));
          line = λ g w. record {
            front = a.put ++ lines;
            why = k.report.stop;
            left = s.standing.have - k.report.place.at;
            byte = passed s₁;
            applied = k.report.place.applied;
            growth = k.report.connection.growth;
            over = is_last;
            is = ap output (sym (append-nil a.brought)) ∙ e [] (λ g. refl) ∙ sym (append_assoc a.put lines line);
            there = there;
          };
        };
      })

  broken-after : (c : Account) (x : Standing) → Ends → c ≡ writes lines → Flushed s₁.standing k.written c x → done x ≡ true → After (then a c) (moved s₁ x) m'
  broken-after c x e p f d =
      rw p (record {
        stands = λ g. never (sym d ∙ g);
        told = record { start = (line, rw (append-nil, append_assoc) (rw append-nil at (e [] (λ g. refl)))); all = λ g w next n. never (broke w); line = λ g w. never (broke w) };
      })
    where
      unwritten : (b : Result ⊤ Error) → x ≡ after_write s₁.standing b → work x ≡ Err Unwritten
      unwritten (Ok u) q = never (sym d ∙ ap (λ (y : Standing). done y) q ∙ k.live)
      unwritten (Err e) q = ap (λ (y : Standing). work y) q

      broke : work x ≡ Ok tt → true ≡ false
      broke w = sym (ap is_ok w) ∙ ap is_ok (unwritten f.written f.is)

  closed_after : (why : Stop) → k.report.stop ≡ why → ((next : List ℕ) → (s.standing.ended ≡ true → next ≡ []) → IsLast next why) → {b : Account} {s' : State} → Closed why s₁ k.written b s' m'.room → After (then a b) s' m'
  closed_after why e l c = go c refl
    where
      all : Ends
      all next n = ran_ends a s m z k.report m'.table m'.links m'.pool k.written k.runs next (rw e (l next n))

      same : (x y : Standing) (w : Result ⊤ Error) → y ≡ after_write x w → y.ended ≡ x.ended
      same x y (Ok u) q = ap (λ (v : Standing). v.ended) q
      same x y (Err f) q = ap (λ (v : Standing). v.ended) q

      go : {b : Account} {s' : State} {room : List ℕ} → Closed why s₁ k.written b s' room → m'.room ≡ room → After (then a b) s' m'
      go (broken {a} {x} f d) i = broken-after a x all f.puts f d
      go (last {a} {b} {x} {y} {room'} end f d t g) i =
          let text : take end room' ≡ line = t ∙ rw e in
          whole-after a b y all (same (putting x end) y g.written g.is ∙ same s₁.standing x f.written f.is) f.puts (g.puts ∙ ap writes text) (rw e (l [] (λ g. refl))) (rw i (stands_there end room' line text))

  goes_after : (why : Stop) (ended : Bool) → s.standing.ended ≡ ended → k.report.stop ≡ why → GoesOn (next_task why ended) why s₁ m.input k.written b s' m'.input m'.room → After (then a b) s' m'
  goes_after stop.Full ended i e g =
      subst (After (then a b) s') (λ i. record { table = m'.table; links = m'.links; pool = m'.pool; input = sym g.1 i; room = sym g.2 i }) (wrote_after a s₁ m₁ here k.live b s' g.0)
  goes_after stop.Short true i e g = closed_after stop.Short e (λ next n. n i) g.0
  goes_after stop.Short false i e g = subst (λ (o : List ℕ). After (then a b) s' (lent m'.table m'.links m'.pool m'.input o)) (sym g.1) (took-after a s₁ m₁ here k.live b s' m'.input g.0)
  goes_after stop.Bad ended i e g = closed_after stop.Bad e (λ next n. tt) g.0
  goes_after stop.Spent ended i e g = closed_after stop.Spent e (λ next n. tt) g.0
  goes_after (stop.Wrong w) ended i e g = closed_after (stop.Wrong w) e (λ next n. tt) g.0
  goes_after stop.Size ended i e g = closed_after stop.Size e (λ next n. tt) g.0

  turn-after : After (then a b) s' m'
  turn-after = goes_after k.report.stop s.standing.ended refl refl k.goes

-- ---- the whole

then-nothing : (a : Account) → then a nothing ≡ a
then-nothing a = rw (append-nil a.brought, append-nil a.put)

then-then : (a b c : Account) → then (then a b) c ≡ then a (then b c)
then-then a b c = rw (append_assoc a.brought b.brought c.brought, append_assoc a.put b.put c.put)

one_more : (a₀ a b : Account) (s s' : State) (m m' : Lent) → After (then a₀ a) s m → Played s m b s' m' → After (then a₀ (then a b)) s' m'
one_more a₀ a b s s' m m' z q = subst (λ (c : Account). After c s' m') (then-then a₀ a b) (turn-after (then a₀ a) s m (z.stands q.live) b s' m' q)

plays_after : (a₀ : Account) (s : State) (m : Lent) → After a₀ s m → {a : Account} {s' : State} {m' : Lent} → Plays s m a s' m' → After (then a₀ a) s' m'
plays_after a₀ s m z none = subst (λ (c : Account). After c s m) (sym (then-nothing a₀)) z
plays_after a₀ s m z (more {a} {b} {s₁} {s₂} {m₁} {m₂} p q) = one_more a₀ a b s₁ s₂ m₁ m₂ (plays_after a₀ s m z p) q

-- where no event is reached the run is over
begun_over : (x : Reading Preamble) (why : Stop) → begun_as x ≡ Err why → IsLast [] why
begun_over x why e = go x e
  where
    by : (a : Stop) → IsLast [] a → ◌≡◌ {A = Result Begun Stop} (Err a) (Err why) → IsLast [] why
    by a h q = let z : a ≡ why = cc in subst (IsLast []) z h

    judged : (t : Settings) (next : ℕ) (y : Result Config Setting) → judged_as y t next ≡ Err why → IsLast [] why
    judged t next (Err w) f = by (stop.Wrong w) tt f
    judged t next (Ok c) f = absurd (let z : ◌≡◌ {A = ℕ} 0 1 = cc in omega arith)

    go : (y : Reading Preamble) → begun_as y ≡ Err why → IsLast [] why
    go (Ok p) f = judged p.settings p.next (checked_within most p.settings) f
    go (Err x) f = by stop.Bad tt f

-- no event is reached, whatever comes after where the input has not ended
none_after : (s next : List ℕ) (ended : Bool) (why : Stop) → (ended ≡ false → 100 ≤ length s) → (ended ≡ true → next ≡ []) → begun_as (settings_at s) ≡ Err why → output (s ++ next) ≡ last_line why 0 0 0 0
none_after s next true why h n e = rw (n refl, append-nil s) (none_reached s why e)
none_after s next false why h n e = go (settings-more s next)
  where
    go : Settles (Err Short) (settings_at s) (settings_at (s ++ next)) → output (s ++ next) ≡ last_line why 0 0 0 0
    go (inl q) = absurd (settings_there s (h refl) q)
    go (inr q) = none_reached (s ++ next) why (ap begun_as q ∙ e)

-- Of the bytes that its reads brought, in order, what the program put to be written is the start of what is printed for them. Where every
-- read and write did its work it is all of it, for the program ends where the input has ended, or where nothing that may come would be
-- printed; and the room for lines holds the last line.
pub performed : {m : Lent} {b : Account} {r : Result ⊤ Fault} {m' : Lent} (p : Performed m b r m')
    → Prefix b.put (output b.brought)
    × (r ≡ Ok tt → (next : List ℕ) → (is_ended p ≡ true → next ≡ []) → output (b.brought ++ next) ≡ b.put)
    × (r ≡ Ok tt → Lasts (output b.brought) m'.room)
performed (unread have input) = ((_, refl), λ e next n. never (sym (ap is_ok e)), λ e. never (sym (ap is_ok e)))
performed (unreached {b} {room'} have ended input why r n h e o) =
    let p : b ≡ writes (last_line why 0 0 0 0) = o.flushed.puts ∙ ap writes o.text in
    let l : length (take have input) ≡ have = length-take-le have input h in
    let printed = none_reached (take have input) why e in
    rw (p, append-nil (take have input)) (
      ([], printed ∙ sym (append-nil (last_line why 0 0 0 0))),
      λ q next f. none_after (take have input) next ended why (λ i. rw l (n i)) f e,
      λ q. record { front = []; why = why; left = 0; byte = 0; applied = 0; growth = 0; over = begun_over (settings_at (take have input)) why e; is = printed; there = stands_there o.end room' _ o.text },
    )
performed {m} (played {m'} have ended input b r n h e q) =
    let is_done = q.ended.done in
    let whole : r ≡ Ok tt → work q.ended.state.standing ≡ Ok tt = λ w. sym q.ended.work ∙ w in
    (last.start, λ w later f. last.all is_done (whole w) later f, λ w. last.line is_done (whole w))
  where
    first : State
    first = record { connection = q.connection; applied = 0; before = 0; standing = record { at = b.next; have = have; put = 0; ended = ended; done = false; work = Ok tt } }

    made : Lent
    made = lent q.table q.links q.pool input m.room

    here : Stands (reads (take have input)) first made
    here =
        let f = events_reached (take have input) b e in
        record {
          valid = q.valid;
          at = omega (arith, f.inside, length-take-le have input h);
          have = h;
          put = omega arith;
          owes = λ later. rw (q.new f.config (permitted_too most b.settings f.config f.fine), zero-add b.next) (f.prints later);
        }

    last : Told (then (reads (take have input)) q.ended.account) q.ended.state m'.room
    last =
        (plays_after (reads (take have input)) first made
        (record { stands = λ d. here; told = record { start = starts (reads (take have input)) first made here; all = λ d w later n. never (sym d); line = λ d w. never (sym d) } })
        q.ended.plays).told
