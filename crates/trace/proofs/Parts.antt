-- Runs one after another: however a trace is cut, and whatever room there is each time, the lines, the count, the place and
-- the state are those of one run over the whole. Assumes nothing.
use Rattle.std.proofs.Common.{◌≡◌, refl, sym, ap, subst, ◌∙◌, inl, inr, Bool, true, false, cond, List, [], ◌∷◌, ◌++◌, append_assoc, append-nil, ℕ, zero, suc, ◌+◌, ◌-◌, ◌≤◌, ◌<◌, add-zero, arith, length, drop, length-append, Ok, Err}
use Rattle.std.proofs.lemmas.List.{drop-append-le}
use Rattle.rules.specs.State.{Conn}
use Rattle.rules.specs.Step.{Call, step}
use Rattle.trace_events.specs.Format.{event_at}
use Rattle.trace_events.specs.Calls.{Found, call, short, bad, found_in, call_at, later, longest, Within}
use Rattle.trace_events.specs.Numbers.{Reading}
use Rattle.trace_events.specs.declared.Event.{Event}
use Rattle.trace_events.specs.declared.Unreadable.TheVariants.{Short, Bad}
use Rattle.trace_events.proofs.Inside.{event_in}
use Rattle.trace_events.proofs.More.{Settles, call-more}
use Rattle.trace_events.proofs.Moved.{call-later}
use Rattle.trace.specs.declared.Stop.{Stop}
use Rattle.trace.specs.declared.Stop.TheVariants as stop
use Rattle.trace.specs.Runs.{Traced, Room, endless, is_full, less, event_line, stopped, wrote, on_found, runs, onward, shifted, Part, joined, feeds}

-- ---- where the event after one stands

-- an event takes a byte or more, all of them there
abbrev pub Ahead : List ℕ → ℕ → Found → Type 0
Ahead s at (call x next) = (at < next) × (next ≤ length s)
Ahead s at short = Unit {0}
Ahead s at bad = Unit {0}

pub call_in : (s : List ℕ) (at : ℕ) → Ahead s at (call_at s at)
unfolding call_at
call_in s at = go (event_at s at) (event_in s at)
  where
    go : (r : Reading Event) → Within s at (at + longest) r → Ahead s at (found_in s r)
    go (Ok e) h = (h.0.0, h.0.1)
    go (Err Short) h = tt
    go (Err Bad) h = tt

-- a run stops inside the input
pub runs_inside : (k : ℕ) (c : Conn) (s : List ℕ) (at n : ℕ) (room : Room) → at ≤ length s → (runs k c s at n room).at ≤ length s
unfolding runs
runs_inside zero c s at n room h = h
runs_inside (suc k) c s at n room h = go (call_at s at) (call_in s at) (λ d p m r l. runs_inside k d s p m r l)
  where
    full : (t : Bool) (q : Traced) → q.at ≤ length s → (cond t (stopped c at stop.Full) q).at ≤ length s
    full true q l = h
    full false q l = l

    go : (f : Found) → Ahead s at f → ((d : Conn) (p m : ℕ) (r : Room) → p ≤ length s → (runs k d s p m r).at ≤ length s)
        → (on_found f c at n room (λ c' at' n' room'. runs k c' s at' n' room')).at ≤ length s
    go short a ih = h
    go bad a ih = h
    go (call x next) a ih = full (is_full room) _ (ih _ next _ _ a.1)

-- ---- from a later place on

module _ (m : ℕ) (s : List ℕ) (within : m ≤ length s) where
  -- a run m places further on is the run over what is left without the first m bytes
  pub runs-later : (k : ℕ) (c : Conn) (at n : ℕ) (room : Room) → runs k c s (m + at) n room ≡ shifted m (runs k c (drop m s) at n room)
  unfolding runs
  runs-later zero c at n room = refl
  runs-later (suc k) c at n room = rw (call-later s m within at) (go (call_at (drop m s) at) (λ d p q r. runs-later k d p q r))
    where
      full : (t : Bool) (p q : Traced) → p ≡ shifted m q
          → cond t (stopped c (m + at) stop.Full) p ≡ shifted m (cond t (stopped c at stop.Full) q)
      full true p q e = refl
      full false p q e = e

      go : (f : Found) → ((d : Conn) (p q : ℕ) (r : Room) → runs k d s (m + p) q r ≡ shifted m (runs k d (drop m s) p q r))
          → on_found (later m f) c (m + at) n room (λ c' at' n' room'. runs k c' s at' n' room')
          ≡ shifted m (on_found f c at n room (λ c' at' n' room'. runs k c' (drop m s) at' n' room'))
      go short ih = refl
      go bad ih = refl
      go (call x next) ih = full (is_full room) _ _ (ap (wrote (event_line (n + 1) (step c x).outcome)) (ih _ next _ _))

  pub runs-from : (k : ℕ) (c : Conn) (n : ℕ) (room : Room) → runs k c s m n room ≡ shifted m (runs k c (drop m s) 0 n room)
  runs-from k c n room = ap (λ (i : ℕ). runs k c s i n room) (sym (add-zero m)) ∙ runs-later k c 0 n room

-- ---- a run goes on

onward_still : (c : Conn) (at : ℕ) (why : Stop) (q : Traced) → onward (stopped c at why) q ≡ q
onward_still c at why q = let e : 0 + q.applied ≡ q.applied = omega arith in rw e

onward-wrote : (line : List ℕ) (r q : Traced) → wrote line (onward r q) ≡ onward (wrote line r) q
onward-wrote line r q =
    let e : r.applied + q.applied + 1 ≡ r.applied + 1 + q.applied = omega arith in
    rw (append_assoc line r.lines q.lines, e)

abbrev IsShort : Found → Type 0
IsShort short = Unit {0}
IsShort bad = ⊥
IsShort (call x next) = ⊥

-- a call that is read from a part is read from a longer part
whole_call : {f g : Found} {x : Call} {next : ℕ} → Settles short f g → f ≡ call x next → g ≡ call x next
whole_call (inl e) q = absurd (subst IsShort (sym e ∙ q) tt)
whole_call (inr e) q = e ∙ q

module _ (a b : List ℕ) where
  -- what a run over the first part leaves to be done of the whole
  abbrev Rest : ℕ → ℕ → Traced → Traced
  Rest k n r = onward r (runs (k - r.applied) r.after (a ++ b) r.at (n + r.applied) endless)

  still : (k n : ℕ) (c : Conn) (at : ℕ) (why : Stop) → runs k c (a ++ b) at n endless ≡ Rest k n (stopped c at why)
  still k n c at why =
      let e : k - 0 ≡ k = omega arith in
      sym (rw (add-zero n, e) (onward_still c at why (runs k c (a ++ b) at n endless)))

  turn : (j n : ℕ) (line : List ℕ) (r q : Traced) → q ≡ Rest j (n + 1) r → wrote line q ≡ Rest (suc j) n (wrote line r)
  turn j n line r q e =
      let f : suc j - (r.applied + 1) ≡ j - r.applied = omega arith in
      let g : n + (r.applied + 1) ≡ n + 1 + r.applied = omega arith in
      rw (e, f, g) (onward-wrote line r _)

  -- A run over the first part, with any room and no more allowance than the whole has, is the start of the run over the whole.
  pub goes_on : (i k : ℕ) (c : Conn) (at n : ℕ) (room : Room) → i ≤ k → runs k c (a ++ b) at n endless ≡ Rest k n (runs i c a at n room)
  unfolding runs
  goes_on zero k c at n room h = still k n c at stop.Spent
  goes_on (suc i) zero c at n room h = absurd (omega arith)
  goes_on (suc i) (suc j) c at n room h = go (call_at a at) refl (call-more a b at) (λ d p m r. goes_on i j d p m r (omega arith))
    where
      go : (f : Found) → call_at a at ≡ f → Settles short (call_at a at) (call_at (a ++ b) at)
          → ((d : Conn) (p m : ℕ) (r : Room) → runs j d (a ++ b) p m endless ≡ Rest j m (runs i d a p m r))
          → runs (suc j) c (a ++ b) at n endless ≡ Rest (suc j) n (on_found f c at n room (λ c' at' n' room'. runs i c' a at' n' room'))
      go short q s ih = still (suc j) n c at stop.Short
      go bad q s ih = still (suc j) n c at stop.Bad
      go (call x next) q s ih = full (is_full room)
        where
          line : List ℕ
          line = event_line (n + 1) (step c x).outcome

          full : (t : Bool) → runs (suc j) c (a ++ b) at n endless ≡ Rest (suc j) n (cond t (stopped c at stop.Full) (wrote line (runs i (step c x).after a next (n + 1) (less room (length line)))))
          full true = still (suc j) n c at stop.Full
          full false =
              rw (whole_call s q)
              (turn j n line (runs i (step c x).after a next (n + 1) (less room (length line))) (runs j (step c x).after (a ++ b) next (n + 1) endless)
              (ih (step c x).after next (n + 1) (less room (length line))))

-- ---- a trace in parts

-- what is left of the first part, and the next, go on where the first stopped
one-part : (k : ℕ) (c : Conn) (s more : List ℕ) (n : ℕ) (r : Traced) → r.at ≤ length s
    → runs k c (s ++ more) 0 n endless ≡ onward r (runs (k - r.applied) r.after (s ++ more) r.at (n + r.applied) endless)
    → runs k c (s ++ more) 0 n endless ≡ onward r (shifted r.at (runs (k - r.applied) r.after (drop r.at s ++ more) 0 (n + r.applied) endless))
one-part k c s more n r inside e =
    let whole : r.at ≤ length (s ++ more) = rw length-append (omega arith) in
    let moved = runs-from r.at (s ++ more) whole (k - r.applied) r.after (n + r.applied) endless in
    e ∙ ap (onward r) (moved ∙ ap (λ (l : List ℕ). shifted r.at (runs (k - r.applied) r.after l 0 (n + r.applied) endless)) (drop-append-le r.at s more inside))

one_fed : (k : ℕ) (c : Conn) (s : List ℕ) (n : ℕ) (ps : List Part) (r : Traced) → r.at ≤ length s
    → runs k c (s ++ joined ps) 0 n endless ≡ onward r (runs (k - r.applied) r.after (s ++ joined ps) r.at (n + r.applied) endless)
    → feeds (k - r.applied) r.after (drop r.at s) (n + r.applied) ps ≡ runs (k - r.applied) r.after (drop r.at s ++ joined ps) 0 (n + r.applied) endless
    → onward r (shifted r.at (feeds (k - r.applied) r.after (drop r.at s) (n + r.applied) ps)) ≡ runs k c (s ++ joined ps) 0 n endless
one_fed k c s n ps r inside e ih = ap (λ (q : Traced). onward r (shifted r.at q)) ih ∙ sym (one-part k c s (joined ps) n r inside e)

-- "Feeding a trace in parts, however cut, gives the lines and the state of the whole"
pub in_parts : (k : ℕ) (c : Conn) (rest : List ℕ) (n : ℕ) (ps : List Part) → feeds k c rest n ps ≡ runs k c (rest ++ joined ps) 0 n endless
in_parts k c rest n [] = ap (λ (l : List ℕ). runs k c l 0 n endless) (sym (append-nil rest))
in_parts k c rest n (p ∷ ps) =
    let r = runs k c (rest ++ p.bytes) 0 n p.room in
    one_fed k c (rest ++ p.bytes) n ps (runs k c (rest ++ p.bytes) 0 n p.room) (runs_inside k c (rest ++ p.bytes) 0 n p.room (omega arith))
    (goes_on (rest ++ p.bytes) (joined ps) k k c 0 n p.room (omega arith))
    (in_parts (k - r.applied) r.after (drop r.at (rest ++ p.bytes)) (n + r.applied) ps)
    ∙ ap (λ (l : List ℕ). runs k c l 0 n endless) (append_assoc rest p.bytes (joined ps))
