-- Waits that are cleared are reported, and what is reported was waiting. Assumes nothing.
use Rattle.std.proofs.Common.{Result, Ok, Err, ◌≡◌, refl, sym, ap, ◌∙◌, subst, ◌⊎◌, inl, inr, Bool, true, false, List, ℕ}
use native.Mathlib.Decide.{ℕ_discrete}
use Rattle.frame.specs.Wire.{decoded}
use Rattle.frame.specs.declared.header.HeaderDecodeError.{HeaderDecodeError}
use Rattle.frame.specs.declared.header.HeaderDecodeError.TheVariants as found
use Rattle.stream.specs.declared.Stream.{Stream}
use Rattle.rules.specs.declared.Reply.TheVariants as reply
use Rattle.rules.specs.Lists.{Place, at, nowhere}
use Rattle.rules.specs.State.{Entry, Conn, vacant, entry, find}
use Rattle.rules.specs.Ending.{Effect}
use Rattle.rules.specs.Step.{on_decoded, step}
use Rattle.rules.specs.Step as rules
use Rattle.demands.specs.Handles.{IsAbout, IsAboutDecoded}
use Rattle.demands.specs.Waits.{Clears, woken_decoded, woken, told_for, DropsOutside, Told, Waited, WaitsAreReported, ReportsAreOfWaits, EndingIsReported}
use Rattle.demands.proofs.Lists.{true-not-false}
use Rattle.demands.proofs.Invariant.{Inv}
use Rattle.demands.proofs.Sound.{at_end}
use Rattle.demands.proofs.Steps.{sound, reached}
use Rattle.demands.proofs.Stale.{found_at}
use Rattle.demands.proofs.Marks.{cleared, Reports, Goes, Ends, Waits, refused, timed-ok, live-ok, holding-ok, itself, none, headers}
use Rattle.demands.proofs.OwnMarks.{reads, writes, closes, drops, opens, ticks}
use Rattle.demands.proofs.Woken.{at_is, not_at, end_off}
use Rattle.frame.specs.declared.header.Header.{Header}

-- ---- every call

-- the slots that a call is about, and that keep their marks
abbrev Mine : rules.Call → ℕ → Type 0
Mine (rules.tick now) j = ⊥
Mine (rules.frame now head body) j = ⊥
Mine (rules.open_stream now) j = ⊥
Mine (rules.read now i asked) j = i ≡ j
Mine (rules.write now i given) j = i ≡ j
Mine (rules.close now i) j = i ≡ j
Mine (rules.drop now i) j = ⊥
Mine (rules.gone now) j = ⊥

module _ (c : Conn) (v : Inv c) where
  decodes : (d : Result Header HeaderDecodeError) (body : List ℕ) (now : ℕ) → Waits c (woken_decoded d c) itself none (on_decoded d c body now)
  unfolding on_decoded
  decodes (Err found.Size) body now = inr (refused c itself none nowhere reply.Size)
  decodes (Err (found.Version n)) body now = timed-ok c itself none nowhere now _ (live-ok c itself none nowhere _ (λ l. inl (l, (reply.Version, refl))))
  decodes (Err (found.Type n)) body now = timed-ok c itself none nowhere now _ (live-ok c itself none nowhere _ (λ l. inl (l, (reply.Type, refl))))
  decodes (Ok h) body now = timed-ok c itself none _ now _ (live-ok c itself none _ _ (λ l. headers c v l h body now))

  waits : (k : rules.Call) → Waits c (woken c k) (told_for k) (Mine k) (step c k)
  unfolding step
  waits (rules.tick now) = timed-ok c itself none nowhere now _ (live-ok c itself none nowhere _ (λ l. ticks c l now))
  waits (rules.frame now head body) = decodes (decoded head) body now
  waits (rules.open_stream now) = timed-ok c itself none nowhere now _ (live-ok c itself none nowhere _ (λ l. opens c l now))
  waits (rules.read now i asked) = timed-ok c _ _ nowhere now _ (holding-ok c _ _ nowhere i _ (λ h. reads c i h asked now))
  waits (rules.write now i given) = timed-ok c _ _ nowhere now _ (holding-ok c _ _ nowhere i _ (λ h. writes c i h given))
  waits (rules.close now i) = timed-ok c _ _ nowhere now _ (holding-ok c _ _ nowhere i _ (λ h. closes c i h))
  waits (rules.drop now i) = timed-ok c _ _ _ now _ (holding-ok c _ _ _ i _ (λ h. drops c i h))
  waits (rules.gone now) = timed-ok c itself none nowhere now _ (live-ok c itself none nowhere _ (λ l. inl (l, (reply.Closed, refl))))

-- ---- marks

is_cleared : (r b a : Bool) → r ≡ cleared b a → Clears b a → r ≡ true
is_cleared r b a e k = e ∙ rw (k.0, k.1)

was_cleared : (r b a : Bool) → r ≡ cleared b a → r ≡ true → Clears b a
was_cleared r true true e t = true-not-false t e
was_cleared r true false e t = (refl, refl)
was_cleared r false a e t = true-not-false t e

is_at : (p : Place) (j : ℕ) → Dec (p ≡ at j)
is_at nowhere j = no (λ e. not_at j e)
is_at (at i) j = go (ℕ_discrete i j)
  where
    go : Dec (i ≡ j) → Dec (at i ≡ at j)
    go (yes e) = yes (ap at e)
    go (no n) = no (λ e. n (at_is i j e))

-- ---- a slot whose stream is not woken

about-woken : (d : Result Header HeaderDecodeError) (c : Conn) (j : ℕ) → IsAboutDecoded d c j → woken_decoded d c ≡ at j
about-woken (Err found.Size) c j a = absurd a
about-woken (Err (found.Version n)) c j a = absurd a
about-woken (Err (found.Type n)) c j a = absurd a
about-woken (Ok h) c j a = a

either : {A B : Type 0} → (A → ⊥) → (B → ⊥) → A ⊎ B → ⊥
either f g (inl a) = f a
either f g (inr b) = g b

module _ (c : Conn) (v : Inv c) (j : ℕ) where
  -- the call is not about it, or it keeps its marks, or it is dropped while its stream is outside the table
  abbrev Rest : rules.Call → Type 0
  Rest k = (IsAbout c k j → ⊥) ⊎ (Mine k j ⊎ DropsOutside c k j)

  own-slot : (i : ℕ) → Dec (i ≡ j) → (i ≡ j → ⊥) ⊎ ((i ≡ j) ⊎ ⊥)
  own-slot i (yes e) = inr (inl e)
  own-slot i (no n) = inl n

  outside : (i : ℕ) → i ≡ j → (find c.slots (entry c.slots i).stream.id ≡ at j → ⊥) → (entry c.slots j).listed ≡ false
  outside i e n = go (entry c.slots j).listed refl
    where
      go : (b : Bool) → (entry c.slots j).listed ≡ b → b ≡ false
      go true l = absurd (n (found_at c v (entry c.slots i).stream.id j l (ap (λ (m : ℕ). (entry c.slots m).stream.id) (sym e))))
      go false l = refl

  rest : (k : rules.Call) → (woken c k ≡ at j → ⊥) → Rest k
  rest (rules.tick now) n = inl (λ a. a)
  rest (rules.frame now head body) n = inl (λ a. n (about-woken (decoded head) c j a))
  rest (rules.open_stream now) n = inl (λ a. a)
  rest (rules.read now i asked) n = own-slot i (ℕ_discrete i j)
  rest (rules.write now i given) n = own-slot i (ℕ_discrete i j)
  rest (rules.close now i) n = own-slot i (ℕ_discrete i j)
  rest (rules.drop now i) n = go (ℕ_discrete i j)
    where
      go : Dec (i ≡ j) → Rest (rules.drop now i)
      go (yes e) = inr (inr (e, outside i e n))
      go (no m) = inl (either m n)
  rest (rules.gone now) n = inl (λ a. a)

-- ---- the statements

module _ (c : Conn) (v : Inv c) (k : rules.Call) where
  abbrev r : Effect
  r = step c k

  abbrev before : ℕ → Stream
  before j = (entry c.slots j).stream

  abbrev later : ℕ → Stream
  later j = (entry r.after.slots j).stream

  module _ (g : Goes c (woken c k) (told_for k) (Mine k) r) where
    here : (j : ℕ) → woken c k ≡ at j → Reports (at j) (told_for k) c.slots r
    here j e = subst (λ p. Reports p (told_for k) c.slots r) e g.here

    -- the readers' marks, or the writers'
    module _ (mark : Stream → Bool) (told : Bool) (off : mark vacant.stream ≡ false) (is-told : (j : ℕ) → woken c k ≡ at j → told ≡ cleared (mark (before j)) (mark (later j)))
        (is-kept : (j : ℕ) → Mine k j → false ≡ cleared (mark (before j)) (mark (later j))) (j : ℕ) (m : Clears (mark (before j)) (mark (later j))) where
      -- who waits has a handle
      waiting : (b : Bool) → (entry c.slots j).held ≡ b → b ≡ true
      waiting true h = refl
      waiting false h = true-not-false m.0 (ap (λ (e : Entry). mark e.stream) ((v.good j).free h) ∙ off)

      told-rest : Rest c v j k → Told c k told j
      told-rest (inl n) =
          let same = (sound c v k).beside g.same j (waiting (entry c.slots j).held refl) n in
          true-not-false m.0 (ap (λ (e : Entry). mark e.stream) (sym same) ∙ m.1)
      told-rest (inr (inl o)) = true-not-false (is_cleared false _ _ (is-kept j o) m) refl
      told-rest (inr (inr d)) = inr (inr d)

      told_at : Dec (woken c k ≡ at j) → Told c k told j
      told_at (yes e) = inl (is_cleared told _ _ (is-told j e) m, e)
      told_at (no n) = told-rest (rest c v j k n)

  abbrev Shown : Type 0
  Shown = Waits c (woken c k) (told_for k) (Mine k) r

  opener-told : Shown → Clears c.open_wait r.after.open_wait → (r.outcome.wakes.opener ≡ true) ⊎ (r.outcome.wakes.all ≡ true)
  opener-told (inl e) m = inr (ap (λ (x : Effect). x.outcome.wakes.all) e.1.1)
  opener-told (inr g) m = inl (is_cleared _ _ _ g.opener m)

  reader-told : Shown → (j : ℕ) → Clears (before j).reader (later j).reader → Told c k r.outcome.wakes.reader j
  reader-told (inl e) j m = inr (inl (ap (λ (x : Effect). x.outcome.wakes.all) e.1.1))
  reader-told (inr g) j m = told_at g (λ s. s.reader) r.outcome.wakes.reader refl (λ i e. (here g i e).0.0) (λ i o. (g.kept i o).0) j m (is_at (woken c k) j)

  writer-told : Shown → (j : ℕ) → Clears (before j).writer (later j).writer → Told c k r.outcome.wakes.writer j
  writer-told (inl e) j m = inr (inl (ap (λ (x : Effect). x.outcome.wakes.all) e.1.1))
  writer-told (inr g) j m = told_at g (λ s. s.writer) r.outcome.wakes.writer refl (λ i e. (here g i e).0.1) (λ i o. (g.kept i o).1) j m (is_at (woken c k) j)

  -- ---- what is reported

  opener-waited : Shown → r.outcome.wakes.opener ≡ true → Clears c.open_wait r.after.open_wait
  opener-waited (inl e) t = true-not-false t (ap (λ (x : Effect). x.outcome.wakes.opener) e.1.1)
  opener-waited (inr g) t = was_cleared _ _ _ g.opener t

  reader_at : (p : Place) → woken c k ≡ p → Reports p (told_for k) c.slots r → r.outcome.wakes.reader ≡ true → Waited c k (λ s. s.reader)
  reader_at nowhere q h t = true-not-false t h.0
  reader_at (at j) q h t = (j, q, h.1.0 t, was_cleared _ _ _ h.0.0 t)

  reader-waited : Shown → r.outcome.wakes.reader ≡ true → Waited c k (λ s. s.reader)
  reader-waited (inl e) t = true-not-false t (ap (λ (x : Effect). x.outcome.wakes.reader) e.1.1)
  reader-waited (inr g) t = reader_at (woken c k) refl g.here t

  writer-at : (p : Place) → woken c k ≡ p → Reports p (told_for k) c.slots r → r.outcome.wakes.writer ≡ true → Waited c k (λ s. s.writer)
  writer-at nowhere q h t = true-not-false t h.1
  writer-at (at j) q h t = (j, q, h.1.1 t, was_cleared _ _ _ h.0.1 t)

  writer-waited : Shown → r.outcome.wakes.writer ≡ true → Waited c k (λ s. s.writer)
  writer-waited (inl e) t = true-not-false t (ap (λ (x : Effect). x.outcome.wakes.writer) e.1.1)
  writer-waited (inr g) t = writer-at (woken c k) refl g.here t

  -- ---- ending

  ends-told : Shown → c.ended ≡ false → r.after.ended ≡ true → r.outcome.wakes.all ≡ true
  ends-told (inl e) l t = ap (λ (x : Effect). x.outcome.wakes.all) e.1.1
  ends-told (inr g) l t = true-not-false t (g.same ∙ l)

  -- what reports `all` ends the connection
  told-ends : Shown → r.outcome.wakes.all ≡ true → Ends c r
  told-ends (inl e) t = e
  told-ends (inr g) t = true-not-false t g.all

  ends-off : Ends c r → (j : ℕ) → ((later j).reader ≡ false) × ((later j).writer ≡ false)
  ends-off e j =
      subst (λ (x : Effect). ((entry x.after.slots j).stream.reader ≡ false) × ((entry x.after.slots j).stream.writer ≡ false)) (sym e.1.1)
      (at_end (λ i x. (x.stream.reader ≡ false) × (x.stream.writer ≡ false)) c.slots (λ i. end_off (entry c.slots i).listed (before i)) j)

pub waits_are_reported : WaitsAreReported
waits_are_reported c m k =
    let v = reached m in
    let w = waits c v k in
    (opener-told c v k w, reader-told c v k w, writer-told c v k w)

pub reports_are_of_waits : ReportsAreOfWaits
reports_are_of_waits c m k =
    let v = reached m in
    let w = waits c v k in
    (opener-waited c v k w, reader-waited c v k w, writer-waited c v k w)

pub ending_is_reported : EndingIsReported
ending_is_reported c m k =
    let v = reached m in
    let w = waits c v k in
    let is = told-ends c v k w in (
      ends-told c v k w,
      (λ t.
          let e = (is t).1.1 in (
            (is t).0,
            ap (λ (x : Effect). x.after.ended) e,
            ap (λ (x : Effect). x.outcome.wakes.reader) e,
            ap (λ (x : Effect). x.outcome.wakes.writer) e,
            ap (λ (x : Effect). x.outcome.wakes.opener) e,
          )),
      (λ t. ap (λ (x : Effect). x.after.open_wait) (is t).1.1),
      (λ t. ends-off c v k (is t)),
    )
