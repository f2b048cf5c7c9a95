-- Moving: what is read of a trace from a place on is what is read there of the trace without its first bytes, as many places
-- further on. Assumes nothing.
use borrow.Author.Tests.{lt-leb}
use Rattle.std.proofs.Common.{Ok, Err, ◌≡◌, refl, sym, ap, ◌∙◌, Bool, true, false, cond, List, ℕ, zero, suc, ◌+◌, ◌-◌, ◌*◌, ◌%◌, ◌^◌, ◌≤◌, ◌<◌, add_assoc, arith, length, get_or, drop, length-drop, get_or-drop, drop-drop, eqb, ltb, leb, lt-ltb, le-ltb, le-leb, ltb-true, ltb-false, leb-true, leb-false}
use Rattle.trace_events.specs.Numbers.{Reading, ◌>>=◌, groups, number_at}
use Rattle.trace_events.specs.Format.{whole, bounded, length_at, frame_at, count_at, read_at, write_at, close_at, drop_at, code_of, rest_at, event_at}
use Rattle.trace_events.specs.Calls.{part, call_of, found_in, call_at, later}
use Rattle.trace_events.specs.declared.Number.{Number}
use Rattle.trace_events.specs.declared.Kind.{Kind}
use Rattle.trace_events.specs.declared.Kind.TheVariants as kinds
use Rattle.trace_events.specs.declared.Event.{Event}
use Rattle.trace_events.specs.declared.Code.{Code}
use Rattle.trace_events.specs.declared.Code.TheVariants as codes
use Rattle.trace_events.specs.declared.Unreadable.TheVariants.{Short, Bad}

-- what is read, moved
abbrev pub moved : {A B : Type 0} → (A → B) → Reading A → Reading B
moved m (Ok x) = Ok (m x)
moved m (Err e) = Err e

abbrev number-later : ℕ → Number → Number
number-later k n = record { value = n.value; next = k + n.next }

abbrev pub kind_later : ℕ → Kind → Kind
kind_later k kinds.Tick = kinds.Tick
kind_later k (kinds.Frame head body) = kinds.Frame (k + head) (k + body)
kind_later k kinds.Open = kinds.Open
kind_later k (kinds.Read slot count) = kinds.Read slot count
kind_later k (kinds.Write slot start) = kinds.Write slot (k + start)
kind_later k (kinds.Close slot) = kinds.Close slot
kind_later k (kinds.Drop slot) = kinds.Drop slot
kind_later k kinds.Gone = kinds.Gone

abbrev rest-later : ℕ → Kind × ℕ → Kind × ℕ
rest-later k r = (kind_later k r.0, k + r.1)

abbrev pub event-later : ℕ → Event → Event
event-later k e = record { now = e.now; next = k + e.next; kind = kind_later k e.kind }

choice_later : {A B : Type 0} (m : A → B) (t : Bool) (a b : Reading A) {a' b' : Reading B} → a' ≡ moved m a → b' ≡ moved m b → cond t a' b' ≡ moved m (cond t a b)
choice_later m true a b x y = x
choice_later m false a b x y = y

then_later : {A B : Type 0} (m : A → A) (n : B → B) (r r' : Reading A) (f g : A → Reading B) → r' ≡ moved m r
    → ((x : A) → g (m x) ≡ moved n (f x)) → r' >>= g ≡ moved n (r >>= f)
then_later m n (Ok x) r' f g e h = rw e (h x)
then_later m n (Err x) r' f g e h = rw e

-- what follows a reading that is the same at both places
then_same : {A B : Type 0} (n : B → B) (r : Reading A) (f g : A → Reading B) → ((x : A) → g x ≡ moved n (f x)) → r >>= g ≡ moved n (r >>= f)
then_same n (Ok x) f g h = h x
then_same n (Err x) f g h = refl

below_later : (k at n : ℕ) → ltb (k + at) n ≡ ltb at (n - k)
below_later k at n = go (ltb (k + at) n) refl
  where
    go : (t : Bool) → ltb (k + at) n ≡ t → t ≡ ltb at (n - k)
    go true q = let h : k + at < n = ltb-true _ _ q in sym (lt-ltb at (n - k) (omega arith))
    go false q = let h : n ≤ k + at = ltb-false _ _ q in sym (le-ltb at (n - k) (omega arith))

module _ (s : List ℕ) (k : ℕ) (fits : k ≤ length s) where
  inside-later : (end : ℕ) → leb (k + end) (length s) ≡ leb end (length (drop k s))
  inside-later end = rw length-drop (go (leb (k + end) (length s)) refl)
    where
      go : (t : Bool) → leb (k + end) (length s) ≡ t → t ≡ leb end (length s - k)
      go true q = let h : k + end ≤ length s = leb-true _ _ q in sym (le-leb end (length s - k) (omega arith))
      go false q = let h : length s < k + end = leb-false _ _ q in sym (lt-leb end (length s - k) (omega arith))

  pub groups-later : (j at w v : ℕ) → groups j s (k + at) w v ≡ moved (number-later k) (groups j (drop k s) at w v)
  unfolding groups
  groups-later zero at w v = refl
  groups-later (suc j) at w v =
      let ih = groups-later j (at + 1) (w * 128) (v + get_or s (k + at) 0 % 128 * w) in
      let n : Number → Number = number-later k in
      rw (get_or-drop, length-drop, ← below_later k at (length s), add_assoc k at 1)
      (choice_later n (ltb (k + at) (length s)) _ (Err Short)
      (choice_later n (ltb (v + get_or s (k + at) 0 % 128 * w) (2 ^ 64)) _ (Err Bad)
      (choice_later n (ltb (get_or s (k + at) 0) 128) (Ok (record { value = v + get_or s (k + at) 0 % 128 * w; next = at + 1 })) _ refl ih)
      refl)
      refl)

  pub number-later-at : (at : ℕ) → number_at s (k + at) ≡ moved (number-later k) (number_at (drop k s) at)
  unfolding number_at
  number-later-at at = groups-later 10 at 1 0

  -- what follows a number further on
  number-then_later : {B : Type 0} (m : B → B) (at : ℕ) (f g : Number → Reading B) → ((n : Number) → g (number-later k n) ≡ moved m (f n))
      → number_at s (k + at) >>= g ≡ moved m (number_at (drop k s) at >>= f)
  number-then_later m at f g h = then_later (number-later k) m (number_at (drop k s) at) (number_at s (k + at)) f g (number-later-at at) h

  whole-later : {A : Type 0} (m : A → A) (end : ℕ) (r r' : Reading A) → r' ≡ moved m r → whole s (k + end) r' ≡ moved m (whole (drop k s) end r)
  whole-later m end r r' h = rw (inside-later end) (choice_later m (leb end (length (drop k s))) r (Err Short) h refl)

  length-later : (p : ℕ) → length_at s (k + p) ≡ length_at (drop k s) p
  length-later p = simp (get_or-drop, add_assoc)

  frame-later : (p : ℕ) → frame_at s (k + p) ≡ moved (rest-later k) (frame_at (drop k s) p)
  unfolding frame_at
  frame-later p =
      let n = length_at (drop k s) p in
      let m : Kind × ℕ → Kind × ℕ = rest-later k in
      let r : Reading (Kind × ℕ) = Ok (kinds.Frame p (p + 12), p + 12 + n) in
      let h : Reading (Kind × ℕ) = Ok (kinds.Frame p (p + 12), p + 12) in
      rw (length-later p, get_or-drop k s (p + 1) 0, add_assoc k p 1, add_assoc k p 12, add_assoc k (p + 12) n)
      (whole-later m (p + 12) _ _
      (choice_later m (eqb (get_or s (k + (p + 1)) 0) 0) (bounded n (whole (drop k s) (p + 12 + n) r)) h
      (choice_later m (ltb 16384 n) (Err Bad) (whole (drop k s) (p + 12 + n) r) refl (whole-later m (p + 12 + n) r _ refl))
      refl))

  count-later : (p : ℕ) → count_at s (k + p) ≡ moved (number-later k) (count_at (drop k s) p)
  unfolding count_at
  count-later p = number-then_later (number-later k) p _ _ (λ n. choice_later (number-later k) (ltb 16384 n.value) (Err Bad) (Ok n) refl refl)

  -- what follows a count further on
  count-then_later : (p : ℕ) (f g : Number → Reading (Kind × ℕ)) → ((n : Number) → g (number-later k n) ≡ moved (rest-later k) (f n))
      → count_at s (k + p) >>= g ≡ moved (rest-later k) (count_at (drop k s) p >>= f)
  count-then_later p f g h = then_later (number-later k) (rest-later k) (count_at (drop k s) p) (count_at s (k + p)) f g (count-later p) h

  read-later : (p : ℕ) → read_at s (k + p) ≡ moved (rest-later k) (read_at (drop k s) p)
  unfolding read_at
  read-later p = number-then_later (rest-later k) p _ _ (λ slot. count-then_later slot.next _ _ (λ n. refl))

  write-later : (p : ℕ) → write_at s (k + p) ≡ moved (rest-later k) (write_at (drop k s) p)
  unfolding write_at
  write-later p =
      number-then_later (rest-later k) p _ _
      (λ slot. count-then_later slot.next _ _
      (λ n. rw (add_assoc k n.next n.value) (whole-later (rest-later k) (n.next + n.value) (Ok (kinds.Write slot.value n.next, n.next + n.value)) _ refl)))

  close-later : (p : ℕ) → close_at s (k + p) ≡ moved (rest-later k) (close_at (drop k s) p)
  unfolding close_at
  close-later p = number-then_later (rest-later k) p _ _ (λ slot. refl)

  drop-later : (p : ℕ) → drop_at s (k + p) ≡ moved (rest-later k) (drop_at (drop k s) p)
  unfolding drop_at
  drop-later p = number-then_later (rest-later k) p _ _ (λ slot. refl)

  rest-later-at : (c : Code) (p : ℕ) → rest_at s c (k + p) ≡ moved (rest-later k) (rest_at (drop k s) c p)
  rest-later-at codes.Tick p = refl
  rest-later-at codes.Frame p = frame-later p
  rest-later-at codes.Open p = refl
  rest-later-at codes.Read p = read-later p
  rest-later-at codes.Write p = write-later p
  rest-later-at codes.Close p = close-later p
  rest-later-at codes.Drop p = drop-later p
  rest-later-at codes.Gone p = refl

  pub event-later-at : (at : ℕ) → event_at s (k + at) ≡ moved (event-later k) (event_at (drop k s) at)
  unfolding event_at
  event-later-at at =
      number-then_later (event-later k) at _ _
      (λ first. then_same (event-later k) (code_of first.value) _ _
      (λ code. number-then_later (event-later k) first.next _ _
      (λ time. then_later (rest-later k) (event-later k) (rest_at (drop k s) code time.next) (rest_at s code (k + time.next)) _ _ (rest-later-at code time.next)
      (λ rest. refl))))

  part-later : (from to : ℕ) → part s (k + from) (k + to) ≡ part (drop k s) from to
  part-later from to =
      let e : k + to - (k + from) ≡ to - from = omega arith in
      rw (e, drop-drop)

  kind-later-at : (now next : ℕ) (x : Kind) → call_of s now (k + next) (kind_later k x) ≡ call_of (drop k s) now next x
  kind-later-at now next kinds.Tick = refl
  kind-later-at now next (kinds.Frame head body) = rw (part-later head body, part-later body next)
  kind-later-at now next kinds.Open = refl
  kind-later-at now next (kinds.Read slot count) = refl
  kind-later-at now next (kinds.Write slot start) = rw (part-later start next)
  kind-later-at now next (kinds.Close slot) = refl
  kind-later-at now next (kinds.Drop slot) = refl
  kind-later-at now next kinds.Gone = refl

  found-later : (r : Reading Event) → found_in s (moved (event-later k) r) ≡ later k (found_in (drop k s) r)
  found-later (Ok e) = rw (kind-later-at e.now e.next e.kind)
  found-later (Err Short) = refl
  found-later (Err Bad) = refl

  -- the call k places further on is the call of what is left without the first k bytes
  pub call-later : (at : ℕ) → call_at s (k + at) ≡ later k (call_at (drop k s) at)
  unfolding call_at
  call-later at = ap (found_in s) (event-later-at at) ∙ found-later (event_at (drop k s) at)
