-- What is still printed: after the settings, after a run over a part of the input, and where a run was the last. Assumes nothing.
use Rattle.std.proofs.Common.{◌≡◌, refl, sym, ap, subst, ◌∙◌, inl, inr, Bool, true, false, cond, List, ◌++◌, append_assoc, append-nil, ℕ, zero, suc, ◌+◌, ◌-◌, ◌≤◌, add-zero, add_assoc, arith, length, drop, length-append, length-drop, Result, Ok, Err}
use Rattle.std.proofs.lemmas.List.{drop-append-le}
use Rattle.rules.specs.Settings.{checked_within}
use Rattle.rules.specs.State.{Conn, initial}
use Rattle.rules.specs.Step.{step}
use Rattle.rules.specs.declared.Settings.{Settings}
use Rattle.rules.specs.declared.Config.{Config}
use Rattle.trace_events.specs.Numbers.{Reading}
use Rattle.trace_events.specs.Format.{settings_at}
use Rattle.trace_events.specs.Calls.{Found, call, short, bad, call_at, Spans, PreambleIn}
use Rattle.trace_events.specs.declared.Preamble.{Preamble}
use Rattle.trace_events.proofs.More.{Settles, call-more}
use Rattle.trace_events.proofs.Settings.{settings_in}
use Rattle.trace.specs.Runs.{Traced, Room, endless, is_full, less, event_line, stopped, wrote, on_found, runs, onward}
use Rattle.trace.specs.Output.{most, sizes_of, judged_as, begun_as, last_line, allowance, printed, output_with, output, printed_on, remaining, IsLast}
use Rattle.trace.specs.declared.Stop.{Stop}
use Rattle.trace.specs.declared.Stop.TheVariants as stop
use Rattle.trace.specs.declared.ends.Sizes.{Sizes}
use Rattle.trace.specs.declared.ends.Begun.{Begun}
use Rattle.trace.proofs.Parts.{runs_inside, runs-from, goes_on}
use Rattle.trace.proofs.Whole.{fine-output}
use Rattle.rules.specs.declared.Setting.{Setting}

-- ---- a run over a part

-- what is left of the input is the same by places of the whole
from_place : (b n : ℕ) (c : Conn) (s : List ℕ) (at : ℕ) → at ≤ length s → remaining (b + at) n c (drop at s) ≡ printed_on b n (runs (allowance - n) c s at n endless) (length s)
from_place b n c s at h =
    let q = runs (allowance - n) c (drop at s) 0 n endless in
    let e : length (drop at s) - q.at ≡ length s - (at + q.at) = rw length-drop (omega arith) in
    rw (runs-from at s h (allowance - n) c n endless, e, add_assoc b at q.at)

-- one run after another
both-printed : (b n : ℕ) (r q : Traced) (size : ℕ) → printed_on b n (onward r q) size ≡ r.lines ++ printed_on b (n + r.applied) q size
both-printed b n r q size = rw (append_assoc r.lines q.lines _, add_assoc n r.applied q.applied)

module _ (b n : ℕ) (c : Conn) (s : List ℕ) (at : ℕ) (room : Room) (h : at ≤ length s) where
  abbrev ran : Traced
  ran = runs (allowance - n) c s at n room

  abbrev after : List ℕ → Traced
  after more = runs (allowance - n - ran.applied) ran.after (s ++ more) ran.at (n + ran.applied) endless

  longer : (more : List ℕ) (p : ℕ) → p ≤ length s → p ≤ length (s ++ more)
  longer more p l = rw length-append (omega arith)

  -- what is printed after the run
  printed-after : (more : List ℕ) → remaining (b + ran.at) (n + ran.applied) ran.after (drop ran.at s ++ more) ≡ printed_on b (n + ran.applied) (after more) (length (s ++ more))
  printed-after more =
      let l = runs_inside (allowance - n) c s at n room h in
      let e : allowance - (n + ran.applied) ≡ allowance - n - ran.applied = omega arith in
      ap (remaining (b + ran.at) (n + ran.applied) ran.after) (sym (drop-append-le ran.at s more l))
      ∙ from_place b (n + ran.applied) ran.after (s ++ more) ran.at (longer more ran.at l)
      ∙ ap (λ (k : ℕ). printed_on b (n + ran.applied) (runs k ran.after (s ++ more) ran.at (n + ran.applied) endless) (length (s ++ more))) e

  -- whatever comes after it: the run's lines, and what is printed after them
  pub run-remains : (more : List ℕ) → remaining (b + at) n c (drop at s ++ more) ≡ ran.lines ++ remaining (b + ran.at) (n + ran.applied) ran.after (drop ran.at s ++ more)
  run-remains more =
      ap (remaining (b + at) n c) (sym (drop-append-le at s more h))
      ∙ from_place b n c (s ++ more) at (longer more at h)
      ∙ ap (λ (r : Traced). printed_on b n r (length (s ++ more))) (goes_on s more (allowance - n) (allowance - n) c at n room (omega arith))
      ∙ both-printed b n ran (after more) (length (s ++ more))
      ∙ ap (λ (l : List ℕ). ran.lines ++ l) (sym (printed-after more))

-- ---- the last run

module _ (s more : List ℕ) where
  abbrev IsBad : Found → Type 0
  IsBad bad = Unit {0}
  IsBad short = ⊥
  IsBad (call x next) = ⊥

  stays-bad : {f g : Found} → Settles short f g → f ≡ bad → g ≡ bad
  stays-bad (inl e) q = absurd (subst IsBad (sym q ∙ e) tt)
  stays-bad (inr e) q = e ∙ q

  abbrev Again : ℕ → ℕ → Traced → Type 0
  Again k n r = IsLast more r.why → runs (k - r.applied) r.after (s ++ more) r.at (n + r.applied) endless ≡ stopped r.after r.at r.why

  again-wrote : (k n : ℕ) (line : List ℕ) (r : Traced) → Again k (n + 1) r → Again (suc k) n (wrote line r)
  again-wrote k n line r ih l =
      let e : suc k - (r.applied + 1) ≡ k - r.applied = omega arith in
      let f : n + (r.applied + 1) ≡ n + 1 + r.applied = omega arith in
      rw (e, f) (ih l)

  -- a run that goes on from where the last run stopped stops there
  stops-again : (k : ℕ) (c : Conn) (at n : ℕ) (room : Room) → Again k n (runs k c s at n room)
  unfolding runs
  stops-again zero c at n room = λ l. refl
  stops-again (suc j) c at n room = go (call_at s at) refl (call-more s more at) (λ d p m r. stops-again j d p m r)
    where
      go : (f : Found) → call_at s at ≡ f → Settles short (call_at s at) (call_at (s ++ more) at) → ((d : Conn) (p m : ℕ) (r : Room) → Again j m (runs j d s p m r))
          → Again (suc j) n (on_found f c at n room (λ c' at' n' room'. runs j c' s at' n' room'))
      go short q t ih l = let e : suc j - 0 ≡ suc j = omega arith in rw (l, append-nil s, e, q)
      go bad q t ih l = let e : suc j - 0 ≡ suc j = omega arith in rw (e, stays-bad t q)
      go (call x next) q t ih l = full (is_full room) l
        where
          line : List ℕ
          line = event_line (n + 1) (step c x).outcome

          full : (b : Bool) → Again (suc j) n (cond b (stopped c at stop.Full) (wrote line (runs j (step c x).after s next (n + 1) (less room (length line)))))
          full true l = absurd l
          full false l =
              again-wrote j n line (runs j (step c x).after s next (n + 1) (less room (length line)))
              (ih (step c x).after next (n + 1) (less room (length line))) l

  -- the last line says nothing of what comes after, but where the input was short and nothing comes
  last-same : (why : Stop) (at byte applied growth : ℕ) → IsLast more why → last_line why (length (s ++ more) - at) byte applied growth ≡ last_line why (length s - at) byte applied growth
  last-same stop.Short at byte applied growth l = rw (l, append-nil s)
  last-same stop.Bad at byte applied growth l = refl
  last-same stop.Spent at byte applied growth l = refl
  last-same stop.Full at byte applied growth l = refl
  last-same (stop.Wrong w) at byte applied growth l = refl
  last-same stop.Size at byte applied growth l = refl

-- after the last run the last line is printed
pub last_remains : (b n : ℕ) (c : Conn) (s : List ℕ) (at : ℕ) (room : Room) → at ≤ length s → (more : List ℕ) → let r = runs (allowance - n) c s at n room in
    IsLast more r.why → remaining (b + r.at) (n + r.applied) r.after (drop r.at s ++ more) ≡ last_line r.why (length s - r.at) (b + r.at) (n + r.applied) r.after.growth
last_remains b n c s at room h more l =
    let r = runs (allowance - n) c s at n room in
    printed-after b n c s at room h more
    ∙ ap (λ (q : Traced). printed_on b (n + r.applied) q (length (s ++ more))) (stops-again s more (allowance - n) c at n room l)
    ∙ ap (λ (m : ℕ). last_line r.why (length (s ++ more) - r.at) (b + r.at) m r.after.growth) (add-zero (n + r.applied))
    ∙ last-same s more r.why r.at (b + r.at) (n + r.applied) r.after.growth l

-- ---- the settings

-- an input with no event
pub none_reached : (s : List ℕ) (why : Stop) → begun_as (settings_at s) ≡ Err why → output s ≡ last_line why 0 0 0 0
none_reached s why e = go (settings_at s) refl e
  where
    the-reason : (a b : Stop) → ◌≡◌ {A = Result Begun Stop} (Err a) (Err b) → last_line a 0 0 0 0 ≡ last_line b 0 0 0 0
    the-reason a b q = let z : a ≡ b = cc in rw z

    judged : (t : Settings) (next : ℕ) (x : Result Config Setting) → judged_as x t next ≡ Err why → output_with x s next ≡ last_line why 0 0 0 0
    judged t next (Err w) f = the-reason (stop.Wrong w) why f
    judged t next (Ok k) f = absurd (let z : ◌≡◌ {A = ℕ} 0 1 = cc in omega arith)

    go : (x : Reading Preamble) → settings_at s ≡ x → begun_as x ≡ Err why → output s ≡ last_line why 0 0 0 0
    go (Ok p) q f = rw q (judged p.settings p.next (checked_within most p.settings) f)
    go (Err e) q f = rw q (the-reason stop.Bad why f)

-- settings that a trace may have: where they end, what they ask for, and what is printed, whatever comes after
pub record Prepared (s : List ℕ) (t : Settings) (z : Sizes) (next : ℕ) : Type 0 where
  pub config : Config
  pub fine : checked_within most t ≡ Ok config
  pub sizes : z ≡ sizes_of config
  pub inside : next ≤ length s
  pub brief : next ≤ 100
  pub prints : (more : List ℕ) → output (s ++ more) ≡ remaining next 0 (initial config) (drop next s ++ more)

pub events_reached : (s : List ℕ) (b : Begun) → begun_as (settings_at s) ≡ Ok b → Prepared s b.settings b.sizes b.next
events_reached s b e = go (settings_at s) refl (settings_in s) e
  where
    first : (r : Traced) (size : ℕ) → printed r size ≡ printed_on 0 0 r size
    first r size =
        let y : r.at ≡ 0 + r.at = omega arith in
        let z : r.applied ≡ 0 + r.applied = omega arith in
        ap (λ (b : ℕ). r.lines ++ last_line r.why (size - r.at) b r.applied r.after.growth) y
        ∙ ap (λ (n : ℕ). r.lines ++ last_line r.why (size - r.at) (0 + r.at) n r.after.growth) z

    made : (t : Settings) (next : ℕ) (k : Config) → settings_at s ≡ Ok (record { settings = t; next = next }) → Spans s 0 100 next → checked_within most t ≡ Ok k → Prepared s t (sizes_of k) next
    made t next k q h f = record {
      config = k;
      fine = f;
      sizes = refl;
      inside = h.1;
      brief = h.2;
      prints = λ more.
          let l : next ≤ length (s ++ more) = rw length-append (omega (arith, h.1)) in
          let y : 0 + next ≡ next = omega arith in
          fine-output s more t next q k f
          ∙ first (runs allowance (initial k) (s ++ more) next 0 endless) (length (s ++ more))
          ∙ sym (from_place 0 0 (initial k) (s ++ more) next l)
          ∙ ap (λ (b : ℕ). remaining b 0 (initial k) (drop next (s ++ more))) y
          ∙ ap (remaining next 0 (initial k)) (drop-append-le next s more h.1);
    }

    judged : (t : Settings) (next : ℕ) (x : Result Config Setting) → checked_within most t ≡ x → settings_at s ≡ Ok (record { settings = t; next = next }) → Spans s 0 100 next → judged_as x t next ≡ Ok b → Prepared s b.settings b.sizes b.next
    judged t next (Err w) f q h i = absurd (let z : ◌≡◌ {A = ℕ} 0 1 = cc in omega arith)
    judged t next (Ok k) f q h i =
        let z : ◌≡◌ {A = Begun} (record { settings = t; sizes = sizes_of k; next = next }) b = cc in
        subst (λ (x : Begun). Prepared s x.settings x.sizes x.next) z (made t next k q h f)

    go : (x : Reading Preamble) → settings_at s ≡ x → PreambleIn s x → begun_as x ≡ Ok b → Prepared s b.settings b.sizes b.next
    go (Ok p) q h i = judged p.settings p.next (checked_within most p.settings) refl q h i
    go (Err e) q h i = absurd (let z : ◌≡◌ {A = ℕ} 0 1 = cc in omega arith)
