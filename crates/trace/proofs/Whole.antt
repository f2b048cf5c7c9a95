-- What is printed for a whole input, from its first part on: the first hundred bytes decide its settings, and whatever parts follow,
-- its lines and its last line are those of the runs over them. Assumes nothing.
use Rattle.std.proofs.Common.{◌≡◌, refl, sym, ap, subst, ◌∙◌, inl, inr, List, [], ◌∷◌, ◌++◌, append-nil, ℕ, zero, suc, ◌+◌, ◌-◌, ◌≤◌, ◌<◌, add-zero, arith, length, drop, length-append, lt-ltb, Ok, Err}
use Rattle.std.proofs.lemmas.List.{drop-append-le}
use Rattle.rules.proofs.Lists.{either}
use Rattle.rules.specs.Settings.{holds, setting_number, checked_within, FirstWrong}
use Rattle.rules.specs.State.{Conn, initial}
use Rattle.rules.specs.Step.{step}
use Rattle.rules.specs.declared.Settings.{Settings}
use Rattle.rules.specs.declared.Config.{Config}
use Rattle.rules.specs.declared.Setting.{Setting}
use Rattle.trace_events.specs.Numbers.{Reading}
use Rattle.trace_events.specs.Format.{settings_at}
use Rattle.trace_events.specs.Calls.{Found, call, short, bad, call_at, PreambleIn}
use Rattle.trace_events.specs.declared.Preamble.{Preamble}
use Rattle.trace_events.specs.declared.Unreadable.TheVariants.{Short, Bad}
use Rattle.trace_events.proofs.More.{Settles}
use Rattle.trace_events.proofs.Settings.{settings-more, settings_in}
use Rattle.trace_lines.specs.Line.{bad_line, config_line}
use Rattle.rules.proofs.Judging.{wrong-named}
use Rattle.trace.specs.Runs.{Traced, Room, endless, is_full, less, event_line, wrote, on_found, runs, lengths, total, Unreadable, shifted, Part, joined, feeds}
use Rattle.trace.specs.Output.{most, last_line, allowance, printed, output}
use Rattle.trace.proofs.Parts.{Ahead, call_in, runs-from, in_parts}

-- ---- the settings

abbrev IsShort : Reading Preamble → Type 0
IsShort (Err Short) = Unit {0}
IsShort (Err Bad) = ⊥
IsShort (Ok p) = ⊥

-- a hundred bytes hold the settings
pub settings_there : (a : List ℕ) → 100 ≤ length a → settings_at a ≡ Err Short → ⊥
settings_there a h e = let l : length a < 100 = subst (PreambleIn a) e (settings_in a) in omega arith

-- settings that are read, or unreadable, are those of the whole
settings_same : (a more : List ℕ) (x : Reading Preamble) → (IsShort x → ⊥) → settings_at a ≡ x → settings_at (a ++ more) ≡ x
settings_same a more x n e = go (settings-more a more)
  where
    go : Settles (Err Short) (settings_at a) (settings_at (a ++ more)) → settings_at (a ++ more) ≡ x
    go (inl s) = absurd (n (subst IsShort (sym s ∙ e) tt))
    go (inr s) = s ∙ e

-- ---- no events

pub cut_output : (a : List ℕ) → settings_at a ≡ Err Short → output a ≡ bad_line 0 0
cut_output a e = rw e

module _ (a more : List ℕ) where
  pub bad-output : settings_at a ≡ Err Bad → output (a ++ more) ≡ bad_line 0 0
  bad-output e = rw (settings_same a more (Err Bad) (λ x. x) e)

  module _ (t : Settings) (next : ℕ) (e : settings_at a ≡ Ok (record { settings = t; next = next })) where
    -- whatever else is wrong, and whatever comes after: the number of the first wrong setting is printed, and nothing else
    pub wrong-output : (w : Setting) → FirstWrong (holds most t) w → output (a ++ more) ≡ config_line (setting_number w)
    wrong-output w f = rw (settings_same a more (Ok (record { settings = t; next = next })) (λ x. x) e, wrong-named most t w f)

    pub fine-output : (k : Config) → checked_within most t ≡ Ok k
        → output (a ++ more) ≡ printed (runs allowance (initial k) (a ++ more) next 0 endless) (length (a ++ more))
    fine-output k f = rw (settings_same a more (Ok (record { settings = t; next = next })) (λ x. x) e, f)

    settings-inside : next ≤ length a
    settings-inside = (subst (PreambleIn a) e (settings_in a)).1

-- ---- events

-- the run over the whole, by its parts
whole-runs : (a : List ℕ) (ps : List Part) (k : Config) (next : ℕ) → next ≤ length a
    → runs allowance (initial k) (a ++ joined ps) next 0 endless ≡ shifted next (feeds allowance (initial k) (drop next a) 0 ps)
whole-runs a ps k next h =
    let w : next ≤ length (a ++ joined ps) = rw length-append (omega arith) in
    runs-from next (a ++ joined ps) w allowance (initial k) 0 endless
    ∙ ap (λ (l : List ℕ). shifted next (runs allowance (initial k) l 0 0 endless)) (drop-append-le next a (joined ps) h)
    ∙ ap (shifted next) (sym (in_parts allowance (initial k) (drop next a) 0 ps))

-- Settings that a trace may have, and then events in parts: all that is printed is the lines of the runs and the last line, with its places
-- counted over the whole input.
pub output_in_parts : (a : List ℕ) (ps : List Part) (t : Settings) (next : ℕ) (k : Config) → settings_at a ≡ Ok (record { settings = t; next = next }) → checked_within most t ≡ Ok k
    → output (a ++ joined ps) ≡ printed (shifted next (feeds allowance (initial k) (drop next a) 0 ps)) (length (a ++ joined ps))
output_in_parts a ps t next k e f =
    fine-output a (joined ps) t next e k f
    ∙ ap (λ (r : Traced). printed r (length (a ++ joined ps))) (whole-runs a ps k next (settings-inside a (joined ps) t next e))

-- ---- the failing event

-- a run stops behind the events that it applied, and so by their lengths after where it started
pub stops_at : (k : ℕ) (c : Conn) (s : List ℕ) (at n : ℕ) (room : Room) → let r = runs k c s at n room in r.at ≡ at + total (lengths r.applied s at)
unfolding runs lengths
stops_at zero c s at n room = sym (add-zero at)
stops_at (suc k) c s at n room = go (call_at s at) refl (call_in s at) (λ d p m r. stops_at k d s p m r)
  where
    Stops : Traced → Type 0
    Stops r = r.at ≡ at + total (lengths r.applied s at)

    go : (f : Found) → call_at s at ≡ f → Ahead s at f → ((d : Conn) (p m : ℕ) (r : Room) → let q = runs k d s p m r in q.at ≡ p + total (lengths q.applied s p))
        → Stops (on_found f c at n room (λ c' at' n' room'. runs k c' s at' n' room'))
    go short q a ih = sym (add-zero at)
    go bad q a ih = sym (add-zero at)
    go (call x next) q a ih = either Stops (is_full room) (sym (add-zero at)) wrote_at
      where
        line : List ℕ
        line = event_line (n + 1) (step c x).outcome

        after : Traced
        after = runs k (step c x).after s next (n + 1) (less room (length line))

        counted : (j : ℕ) → lengths (j + 1) s at ≡ (next - at) ∷ lengths j s next
        counted j = let e : j + 1 ≡ suc j = omega arith in ap (λ (i : ℕ). lengths i s at) e ∙ rw q

        wrote_at : Stops (wrote line after)
        wrote_at = rw (counted after.applied) (omega (arith, ih (step c x).after next (n + 1) (less room (length line)), a.0))

-- The byte that is printed of an unreadable trace: the length of its settings and of all events before the failing one.
pub unreadable_output : (s : List ℕ) (t : Settings) (next : ℕ) (k : Config) → settings_at s ≡ Ok (record { settings = t; next = next }) → checked_within most t ≡ Ok k
    → let r = runs allowance (initial k) s next 0 endless in Unreadable r (length s)
    → output s ≡ r.lines ++ bad_line r.applied (next + total (lengths r.applied s next))
unreadable_output s t next k e f u =
    let r = runs allowance (initial k) s next 0 endless in
    ap output (sym (append-nil s))
    ∙ fine-output s [] t next e k f
    ∙ ap (λ (l : List ℕ). printed (runs allowance (initial k) l next 0 endless) (length l)) (append-nil s)
    ∙ ap (λ (l : List ℕ). r.lines ++ l) (line r u)
    ∙ ap (λ (n : ℕ). r.lines ++ bad_line r.applied n) (stops_at allowance (initial k) s next 0 endless)
  where
    line : (r : Traced) → Unreadable r (length s) → last_line r.why (length s - r.at) r.at r.applied r.after.growth ≡ bad_line r.applied r.at
    line r (inl h) = rw h
    line r (inr h) = rw (h.0, lt-ltb 0 (length s - r.at) (omega (arith, h.1)))
