-- A run's count, state and lines are those of the rules' run over the calls read. Assumes nothing.
use Rattle.std.proofs.Common.{◌≡◌, refl, sym, ap, subst, ◌∙◌, Bool, true, false, cond, List, ◌∷◌, ◌++◌, ℕ, zero, suc, ◌+◌, add-one, length}
use Rattle.rules.specs.State.{Conn}
use Rattle.rules.specs.Step.{Call, step, run}
use Rattle.trace_events.specs.Calls.{Found, call, short, bad, call_at}
use Rattle.trace.specs.declared.Stop.{Stop}
use Rattle.trace.specs.declared.Stop.TheVariants as stop
use Rattle.trace.specs.Runs.{Traced, Room, endless, is_full, less, event_line, stopped, wrote, on_found, runs, reads_on, reads, lines_of}

-- a run made these calls, and is the rules' run over them
pub record Made (c : Conn) (n : ℕ) (ks : List Call) (r : Traced) : Type 0 where
  pub count : r.applied ≡ (run c ks).count
  pub after : r.after ≡ (run c ks).after
  pub lines : r.lines ≡ lines_of n (run c ks).outcomes

none_made : (c : Conn) (s : List ℕ) (at n : ℕ) (why : Stop) → Made c n (reads 0 s at) (stopped c at why)
unfolding reads
none_made c s at n why = record { count = refl; after = refl; lines = refl }

one_read : (s : List ℕ) (at : ℕ) (x : Call) (next m : ℕ) → call_at s at ≡ call x next → reads (m + 1) s at ≡ x ∷ reads m s next
unfolding reads
one_read s at x next m e = rw (add-one m, e)

one-made : (c : Conn) (s : List ℕ) (at n : ℕ) (x : Call) (next : ℕ) (r : Traced) → call_at s at ≡ call x next
    → Made (step c x).after (n + 1) (reads r.applied s next) r
    → Made c n (reads (r.applied + 1) s at) (wrote (event_line (n + 1) (step c x).outcome) r)
one-made c s at n x next r e m =
    subst (λ (ks : List Call). Made c n ks (wrote (event_line (n + 1) (step c x).outcome) r)) (sym (one_read s at x next r.applied e))
    (record {
      count = ap (λ (i : ℕ). i + 1) m.count;
      after = m.after;
      lines = ap (λ (l : List ℕ). event_line (n + 1) (step c x).outcome ++ l) m.lines;
    })

-- "its result equals the definition's step count": the calls of as many events as were applied, from its place on
pub steps : (k : ℕ) (c : Conn) (s : List ℕ) (at n : ℕ) (room : Room) → let r = runs k c s at n room in Made c n (reads r.applied s at) r
unfolding runs
steps zero c s at n room = none_made c s at n stop.Spent
steps (suc k) c s at n room = go (call_at s at) refl (λ d p m r. steps k d s p m r)
  where
    full : (t : Bool) (q : Traced) → Made c n (reads q.applied s at) q → let r = cond t (stopped c at stop.Full) q in Made c n (reads r.applied s at) r
    full true q m = none_made c s at n stop.Full
    full false q m = m

    go : (f : Found) → call_at s at ≡ f → ((d : Conn) (p m : ℕ) (r : Room) → Made d m (reads (runs k d s p m r).applied s p) (runs k d s p m r))
        → let r = on_found f c at n room (λ c' at' n' room'. runs k c' s at' n' room') in Made c n (reads r.applied s at) r
    go short q ih = none_made c s at n stop.Short
    go bad q ih = none_made c s at n stop.Bad
    go (call x next) q ih =
        let line = event_line (n + 1) (step c x).outcome in
        full (is_full room) _ (one-made c s at n x next (runs k (step c x).after s next (n + 1) (less room (length line))) q (ih (step c x).after next (n + 1) (less room (length line))))

-- with room for all lines, every event that can be read within the allowance is applied
pub all_applied : (k : ℕ) (c : Conn) (s : List ℕ) (at n : ℕ) → (runs k c s at n endless).applied ≡ length (reads k s at)
unfolding runs reads
all_applied zero c s at n = refl
all_applied (suc k) c s at n = go (call_at s at) (λ d p m. all_applied k d s p m)
  where
    go : (f : Found) → ((d : Conn) (p m : ℕ) → (runs k d s p m endless).applied ≡ length (reads k s p))
        → (on_found f c at n endless (λ c' at' n' room'. runs k c' s at' n' room')).applied ≡ length (reads_on f (λ p. reads k s p))
    go short ih = refl
    go bad ih = refl
    go (call x next) ih = add-one _ ∙ ap suc (ih _ next _)
