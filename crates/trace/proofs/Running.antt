-- A run, event by event: what was reached, and what is left of the definition's run. Assumes nothing.
use Rattle.std.proofs.Common.{◌≡◌, refl, sym, ap, subst, ◌∙◌, Bool, true, inr, List, [], ◌++◌, append_assoc, append-nil, ℕ, suc, ◌+◌, ◌-◌, ◌≤◌, ◌<◌, add-zero, arith, length, length-append}
use Rattle.std.proofs.lemmas.List.Edits.{sets}
use Rattle.rules.proofs.Lists.{never}
use Rattle.connection.specs.Abstract.{abs_of, Valid}
use Rattle.connection.specs.declared.Connection.{Connection}
use Rattle.trace_lines.proofs.Stored.{sets_then}
use Rattle.trace.specs.Runs.{Traced, stopped, wrote, runs, resumed}
use Rattle.trace.specs.Turns.{Lacks, Halts, Continues, Goes, RanAs, runs_from, Bounds, Runs, Reached}
use Rattle.trace.specs.declared.Stop.{Stop}
use Rattle.trace.specs.declared.Stop.TheVariants as stop
use Rattle.trace.specs.declared.Place.{Place}

resumed-none : (q : Traced) → q ≡ resumed [] 0 q
resumed-none q = let e : q.applied ≡ 0 + q.applied = omega arith in ap (λ (n : ℕ). record { lines = q.lines; applied = n; at = q.at; after = q.after; why = q.why }) e

resumed-wrote : (lines : List ℕ) (count : ℕ) (line : List ℕ) (q : Traced) → resumed lines count (wrote line q) ≡ resumed (lines ++ line) (count + 1) q
resumed-wrote lines count line q =
    let e : count + (q.applied + 1) ≡ count + 1 + q.applied = omega arith in
    rw (e, sym (append_assoc lines line q.lines))

-- the allowance that is left, where some is
more : (allowance applied : ℕ) → applied < allowance → allowance - applied ≡ suc (allowance - (applied + 1))
more allowance applied h = omega arith

none : (allowance applied : ℕ) → allowance ≤ applied → allowance - applied ≡ 0
none allowance applied h = omega arith

-- all that holds where a loop's turn begins
pub record Standing (c : Connection) (t l p s o : List ℕ) (place : Place) (allowance : ℕ) (d : Connection) (t' l' p' o' : List ℕ) (at applied put : ℕ) : Type 0 where
  pub bounds : Bounds s o place allowance at applied put
  pub size : length o' ≡ length o
  pub reached : Valid c t l p → Reached c t l p s o place allowance d t' l' p' o' at applied put

module _ (c : Connection) (t l p s o : List ℕ) (place : Place) (allowance : ℕ) where
  module _ (d : Connection) (t' l' p' o' : List ℕ) (at applied put : ℕ) where
    -- where the definition's run stops, so does the code's
    ended : (why : Stop) → runs_from d t' l' p' s o' (record { at = at; applied = applied; put = put }) allowance ≡ stopped (abs_of d t' l' p') at why
        → Reached c t l p s o place allowance d t' l' p' o' at applied put
        → RanAs (runs_from c t l p s o place allowance) place o (record { connection = d; place = record { at = at; applied = applied; put = put }; stop = why }) t' l' p' o'
    ended why e r =
        subst (λ (q : Traced). RanAs q place o (record { connection = d; place = record { at = at; applied = applied; put = put }; stop = why }) t' l' p' o')
        (sym (r.left ∙ ap (resumed r.lines r.count) e))
        (record {
          valid = r.valid;
          after = refl;
          applied = r.applies ∙ ap (λ (n : ℕ). place.applied + n) (sym (add-zero r.count));
          at = refl;
          put = r.puts ∙ ap (λ (x : List ℕ). place.put + length x) (sym (append-nil r.lines));
          why = refl;
          out = r.out ∙ ap (λ (x : List ℕ). sets o place.put x) (sym (append-nil r.lines));
        })

    pub spent : allowance ≤ applied → Reached c t l p s o place allowance d t' l' p' o' at applied put
        → RanAs (runs_from c t l p s o place allowance) place o (record { connection = d; place = record { at = at; applied = applied; put = put }; stop = stop.Spent }) t' l' p' o'
    unfolding runs
    spent h r = ended stop.Spent (rw (none allowance applied h)) r

    pub halted : (why : Stop) (t'' l'' p'' o'' : List ℕ) → applied < allowance → Halts t' l' p' s at o' put why t'' l'' p'' o''
        → Reached c t l p s o place allowance d t' l' p' o' at applied put
        → RanAs (runs_from c t l p s o place allowance) place o (record { connection = d; place = record { at = at; applied = applied; put = put }; stop = why }) t'' l'' p'' o''
    halted why t'' l'' p'' o'' h k r =
        rw (k.table, k.links, k.pool, k.out)
        (ended why (rw (more allowance applied h) (k.stops (abs_of d t' l' p') (allowance - (applied + 1)) applied)) r)

    module _ (h : applied < allowance) (d'' : Connection) (after end : ℕ) (t'' l'' p'' o'' : List ℕ) (same : length o'' ≡ length o') where
      onto : Reached c t l p s o place allowance d t' l' p' o' at applied put
          → Continues d t' l' p' s at (applied + 1) o' put d'' after end t'' l'' p'' o''
          → Reached c t l p s o place allowance d'' t'' l'' p'' o'' after (applied + 1) end
      onto r k = record {
        lines = r.lines ++ k.line;
        count = r.count + 1;
        valid = k.valid;
        left = r.left ∙ ap (resumed r.lines r.count) went ∙ resumed-wrote r.lines r.count k.line _;
        applies = omega (arith, r.applies);
        puts = rw length-append (omega (arith, r.puts, k.ends));
        out = k.out ∙ rw (r.out, r.puts) (sets_then o place.put r.lines k.line);
      }
        where
          went : runs_from d t' l' p' s o' (record { at = at; applied = applied; put = put }) allowance
              ≡ wrote k.line (runs_from d'' t'' l'' p'' s o'' (record { at = after; applied = applied + 1; put = end }) allowance)
          went = rw (more allowance applied h, same) (k.goes (allowance - (applied + 1)) applied refl)

      pub turned : Standing c t l p s o place allowance d t' l' p' o' at applied put
          → Goes d t' l' p' s at (applied + 1) o' put d'' after end t'' l'' p'' o''
          → Standing c t l p s o place allowance d'' t'' l'' p'' o'' after (applied + 1) end
      turned x k = record {
        bounds = record {
          counted = omega (arith, x.bounds.counted);
          forward = omega (arith, x.bounds.forward, k.forward);
          reach = omega (arith, x.bounds.counted, x.bounds.reach, k.reach);
          inside = λ w. k.inside;
          written = omega (arith, x.bounds.written, k.written);
          room = λ w. omega (arith, k.room, x.size);
          moved = inr (omega (arith, x.bounds.counted), omega (arith, h));
        };
        size = same ∙ x.size;
        reached = λ v. onto (x.reached v) (k.steps (x.reached v).valid);
      }

-- ---- the answers of a run

module _ (sz : Bool) (c : Connection) (t l p s o : List ℕ) (place : Place) (allowance : ℕ) where
  module _ (e : sz ≡ true) (d : Connection) (t' l' p' o' : List ℕ) (at applied put : ℕ)
      (x : Standing c t l p s o place allowance d t' l' p' o' at applied put) where
    pub spent-runs : allowance ≤ applied
        → Runs sz c t l p s o place allowance (record { connection = d; place = record { at = at; applied = applied; put = put }; stop = stop.Spent }) t' l' p' o'
    spent-runs h = record {
      steps = λ r v. spent c t l p s o place allowance d t' l' p' o' at applied put h (x.reached v);
      wrong = λ w. never (sym e ∙ w);
      bounds = x.bounds;
      lacks = tt;
    }

    pub halted-runs : (why : Stop) (t'' l'' p'' o'' : List ℕ) → applied < allowance → Halts t' l' p' s at o' put why t'' l'' p'' o''
        → Runs sz c t l p s o place allowance (record { connection = d; place = record { at = at; applied = applied; put = put }; stop = why }) t'' l'' p'' o''
    halted-runs why t'' l'' p'' o'' h k = record {
      steps = λ r v. halted c t l p s o place allowance d t' l' p' o' at applied put why t'' l'' p'' o'' h k (x.reached v);
      wrong = λ w. never (sym e ∙ w);
      bounds = x.bounds;
      lacks = subst (λ (n : ℕ). Lacks why (length s) at n put) x.size k.lacks;
    }
