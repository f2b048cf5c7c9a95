-- Cutting: what is read from a part of a trace is what is read from a longer part, but for Short. Assumes nothing.
use lib.ListN.{get_or-append}
use lib.Seq.{take-append-le, drop-append-le}
use Rattle.std.proofs.Common.{Ok, Err, ◌≡◌, refl, ap, ◌∙◌, ◌⊎◌, inl, inr, Bool, true, false, cond, List, ◌++◌, ℕ, zero, suc, ◌+◌, ◌-◌, ◌*◌, ◌%◌, ◌^◌, ◌≤◌, ◌<◌, arith, length, get_or, take, drop, length-append, length-drop, eqb, ltb, leb, lt-ltb, le-leb, ltb-true, leb-true}
use Rattle.trace_events.specs.Numbers.{Reading, ◌>>=◌, groups, number_at}
use Rattle.trace_events.specs.Format.{whole, length_at, frame_at, count_at, read_at, write_at, close_at, drop_at, rest_at, event_at}
use Rattle.trace_events.specs.Calls.{short, part, Lies, Within, call_of, found_in, call_at}
use Rattle.trace_events.proofs.Inside.{event_in}
use Rattle.trace_events.specs.declared.Number.{Number}
use Rattle.trace_events.specs.declared.Kind.{Kind}
use Rattle.trace_events.specs.declared.Kind.TheVariants as kinds
use Rattle.trace_events.specs.declared.Event.{Event}
use Rattle.trace_events.specs.declared.Code.{Code}
use Rattle.trace_events.specs.declared.Code.TheVariants as codes
use Rattle.trace_events.specs.declared.Unreadable.TheVariants.{Short, Bad}

-- a reading of a part, and of a longer part: the first is cut short, or they are the same
abbrev pub Settles : {A : Type 0} → A → A → A → Type 0
Settles short-one a b = (a ≡ short-one) ⊎ (b ≡ a)

choice_settles : {A : Type 0} (z : A) (t : Bool) {a b a' b' : A} → Settles z a a' → Settles z b b' → Settles z (cond t a b) (cond t a' b')
choice_settles z true x y = x
choice_settles z false x y = y

pub then_more : {A B : Type 0} (r r' : Reading A) (f g : A → Reading B) → Settles (Err Short) r r'
    → ((x : A) → Settles (Err Short) (f x) (g x)) → Settles (Err Short) (r >>= f) (r' >>= g)
then_more r r' f g (inl e) h = inl (rw e)
then_more {A} r r' f g (inr e) h = rw e (go r)
  where
    go : (x : Reading A) → Settles (Err Short) (x >>= f) (x >>= g)
    go (Ok x) = h x
    go (Err x) = inr refl

module _ (s m : List ℕ) where
  longer : (n : ℕ) → n ≤ length s → n ≤ length (s ++ m)
  longer n h = rw length-append (omega arith)

  pub groups-more : (k at w v : ℕ) → Settles (Err Short) (groups k s at w v) (groups k (s ++ m) at w v)
  unfolding groups
  groups-more zero at w v = inr refl
  groups-more (suc k) at w v = go (ltb at (length s)) refl (groups-more k (at + 1) (w * 128) (v + get_or s at 0 % 128 * w))
    where
      go : (t : Bool) → ltb at (length s) ≡ t
          → Settles (Err Short) (groups k s (at + 1) (w * 128) (v + get_or s at 0 % 128 * w)) (groups k (s ++ m) (at + 1) (w * 128) (v + get_or s at 0 % 128 * w))
          → Settles (Err Short) (groups (suc k) s at w v) (groups (suc k) (s ++ m) at w v)
      go true q ih =
          let h : at < length s = ltb-true _ _ q in
          let e : get_or (s ++ m) at 0 ≡ get_or s at 0 = get_or-append s m 0 at h in
          rw (q, lt-ltb at (length (s ++ m)) (longer (suc at) h), e)
          (choice_settles (Err Short) (ltb (v + get_or s at 0 % 128 * w) (2 ^ 64))
          (choice_settles (Err Short) (ltb (get_or s at 0) 128) (inr refl) ih)
          (inr refl))
      go false q ih = inl (rw q)

  pub number_more : (at : ℕ) → Settles (Err Short) (number_at s at) (number_at (s ++ m) at)
  unfolding number_at
  number_more at = groups-more 10 at 1 0

  -- what follows a number from a longer part
  pub number-then_more : {B : Type 0} (at : ℕ) (f g : Number → Reading B) → ((n : Number) → Settles (Err Short) (f n) (g n))
      → Settles (Err Short) (number_at s at >>= f) (number_at (s ++ m) at >>= g)
  number-then_more at f g h = then_more (number_at s at) (number_at (s ++ m) at) f g (number_more at) h

  whole-more : {A : Type 0} (end : ℕ) (r r' : Reading A) → (end ≤ length s → Settles (Err Short) r r') → Settles (Err Short) (whole s end r) (whole (s ++ m) end r')
  whole-more end r r' g = go (leb end (length s)) refl
    where
      go : (t : Bool) → leb end (length s) ≡ t → Settles (Err Short) (cond t r (Err Short)) (whole (s ++ m) end r')
      go true q = let h : end ≤ length s = leb-true _ _ q in rw (le-leb end (length (s ++ m)) (longer end h)) (g h)
      go false q = inl refl

  at_more : (end i : ℕ) → end ≤ length s → i < end → get_or (s ++ m) i 0 ≡ get_or s i 0
  at_more end i h l = get_or-append s m 0 i (omega arith)

  frame-more : (p : ℕ) → Settles (Err Short) (frame_at s p) (frame_at (s ++ m) p)
  unfolding frame_at
  frame-more p =
      whole-more (p + 12) _ _
      (λ h. rw (at_more (p + 12) (p + 1) h (omega arith), at_more (p + 12) (p + 8) h (omega arith), at_more (p + 12) (p + 9) h (omega arith), at_more (p + 12) (p + 10) h (omega arith), at_more (p + 12) (p + 11) h (omega arith))
      (choice_settles (Err Short) (eqb (get_or s (p + 1) 0) 0)
      (choice_settles (Err Short) (ltb 16384 (length_at s p)) (inr refl) (whole-more (p + 12 + length_at s p) _ _ (λ i. inr refl)))
      (inr refl)))

  count-more : (p : ℕ) → Settles (Err Short) (count_at s p) (count_at (s ++ m) p)
  unfolding count_at
  count-more p = number-then_more p _ _ (λ n. inr refl)

  read-more : (p : ℕ) → Settles (Err Short) (read_at s p) (read_at (s ++ m) p)
  unfolding read_at
  read-more p = number-then_more p _ _ (λ slot. then_more _ _ _ _ (count-more slot.next) (λ n. inr refl))

  write-more : (p : ℕ) → Settles (Err Short) (write_at s p) (write_at (s ++ m) p)
  unfolding write_at
  write-more p =
      number-then_more p _ _ (λ slot. then_more _ _ _ _ (count-more slot.next) (λ n. whole-more (n.next + n.value) _ _ (λ i. inr refl)))

  close-more : (p : ℕ) → Settles (Err Short) (close_at s p) (close_at (s ++ m) p)
  unfolding close_at
  close-more p = number-then_more p _ _ (λ slot. inr refl)

  drop-more : (p : ℕ) → Settles (Err Short) (drop_at s p) (drop_at (s ++ m) p)
  unfolding drop_at
  drop-more p = number-then_more p _ _ (λ slot. inr refl)

  rest_more : (c : Code) (p : ℕ) → Settles (Err Short) (rest_at s c p) (rest_at (s ++ m) c p)
  rest_more codes.Tick p = inr refl
  rest_more codes.Frame p = frame-more p
  rest_more codes.Open p = inr refl
  rest_more codes.Read p = read-more p
  rest_more codes.Write p = write-more p
  rest_more codes.Close p = close-more p
  rest_more codes.Drop p = drop-more p
  rest_more codes.Gone p = inr refl

  -- an event that is read, or unreadable, stays so whatever comes after
  pub event-more : (at : ℕ) → Settles (Err Short) (event_at s at) (event_at (s ++ m) at)
  unfolding event_at
  event-more at =
      number-then_more at _ _
      (λ first. then_more _ _ _ _ (inr refl)
      (λ code. number-then_more first.next _ _ (λ time. then_more _ _ _ _ (rest_more code time.next) (λ rest. inr refl))))

  part-more : (from to : ℕ) → from ≤ to → to ≤ length s → part (s ++ m) from to ≡ part s from to
  part-more from to h l =
      let d : drop from (s ++ m) ≡ drop from s ++ m = drop-append-le from s m (omega arith) in
      let n : to - from ≤ length (drop from s) = rw length-drop (omega arith) in
      ap (take (to - from)) d ∙ take-append-le (to - from) (drop from s) m n

  kind-more : (now next : ℕ) (k : Kind) → next ≤ length s → Lies next k → call_of (s ++ m) now next k ≡ call_of s now next k
  kind-more now next kinds.Tick l h = refl
  kind-more now next (kinds.Frame head body) l h = rw (part-more head body (omega arith) (omega arith), part-more body next (omega arith) l)
  kind-more now next kinds.Open l h = refl
  kind-more now next (kinds.Read slot count) l h = refl
  kind-more now next (kinds.Write slot start) l h = rw (part-more start next h.0 l)
  kind-more now next (kinds.Close slot) l h = refl
  kind-more now next (kinds.Drop slot) l h = refl
  kind-more now next kinds.Gone l h = refl

  found-more : (low top : ℕ) (r : Reading Event) → Within s low top r → found_in (s ++ m) r ≡ found_in s r
  found-more low top (Ok e) h = rw (kind-more e.now e.next e.kind h.0.1 h.1)
  found-more low top (Err Short) h = refl
  found-more low top (Err Bad) h = refl

  -- a longer part has the same call, unless it was too short
  pub call-more : (at : ℕ) → Settles short (call_at s at) (call_at (s ++ m) at)
  unfolding call_at
  call-more at = go (event-more at)
    where
      go : Settles (Err Short) (event_at s at) (event_at (s ++ m) at) → Settles short (found_in s (event_at s at)) (found_in (s ++ m) (event_at (s ++ m) at))
      go (inl e) = inl (rw e)
      go (inr e) = inr (rw e (found-more at _ (event_at s at) (event_in s at)))
