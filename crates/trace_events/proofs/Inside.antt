-- Where numbers and events lie: an event takes a byte or more and at most 16,424, all of them there. So a caller that holds
-- as many bytes is never told Short. Assumes nothing.
use Rattle.std.proofs.Common.{Ok, Err, ◌≡◌, refl, Bool, true, false, cond, List, ℕ, zero, suc, ◌+◌, ◌*◌, ◌%◌, ◌^◌, ◌≤◌, ◌<◌, arith, length, get_or, eqb, ltb, leb, ltb-true, ltb-false, leb-true, leb-false}
use Rattle.trace_events.specs.Numbers.{Reading, ◌>>=◌, groups, number_at}
use Rattle.trace_events.specs.Format.{whole, bounded, length_at, frame_at, count_at, read_at, write_at, close_at, drop_at, code_of, rest_at, event_at}
use Rattle.trace_events.specs.Calls.{longest, ReadIn, Spans, Lies, Within}
use Rattle.trace_events.specs.declared.Number.{Number}
use Rattle.trace_events.specs.declared.Kind.{Kind}
use Rattle.trace_events.specs.declared.Event.{Event}
use Rattle.trace_events.specs.declared.Code.{Code}
use Rattle.trace_events.specs.declared.Code.TheVariants as codes
use Rattle.trace_events.specs.declared.Unreadable.TheVariants.{Short, Bad}

module _ {A : Type 0} (s : List ℕ) (top : ℕ) (P : A → Type 0) where
  choice-in : (t : Bool) (a b : Reading A) → ReadIn s top P a → ReadIn s top P b → ReadIn s top P (cond t a b)
  choice-in true a b x y = x
  choice-in false a b x y = y

  whole_in : (end : ℕ) (r : Reading A) → end ≤ top → (end ≤ length s → ReadIn s top P r) → ReadIn s top P (whole s end r)
  whole_in end r l g = go (leb end (length s)) refl
    where
      go : (t : Bool) → leb end (length s) ≡ t → ReadIn s top P (cond t r (Err Short))
      go true q = g (leb-true _ _ q)
      go false q = let h : length s < end = leb-false _ _ q in omega arith

  bounded-in : (n : ℕ) (r : Reading A) → (n ≤ 16384 → ReadIn s top P r) → ReadIn s top P (bounded n r)
  bounded-in n r g = go (ltb 16384 n) refl
    where
      go : (t : Bool) → ltb 16384 n ≡ t → ReadIn s top P (cond t (Err Bad) r)
      go true q = tt
      go false q = g (ltb-false _ _ q)

  -- what is read to a lower place, and is as more says
  weaker_in : (low : ℕ) (Q : A → Type 0) (r : Reading A) → low ≤ top → ((x : A) → Q x → P x) → ReadIn s low Q r → ReadIn s top P r
  weaker_in low Q (Ok x) l f h = f x h
  weaker_in low Q (Err Short) l f h = omega arith
  weaker_in low Q (Err Bad) l f h = tt

pub then_in : {A B : Type 0} (s : List ℕ) (top : ℕ) (P : A → Type 0) (Q : B → Type 0) (r : Reading A) (f : A → Reading B)
    → ReadIn s top P r → ((x : A) → P x → ReadIn s top Q (f x)) → ReadIn s top Q (r >>= f)
then_in s top P Q (Ok x) f h g = g x h
then_in s top P Q (Err Short) f h g = h
then_in s top P Q (Err Bad) f h g = tt

-- the place after a number of at most k groups, read at `at`
abbrev pub NextIn : List ℕ → ℕ → ℕ → Number → Type 0
NextIn s at k n = Spans s at (at + k) n.next

abbrev pub NumberIn : List ℕ → ℕ → ℕ → Reading Number → Type 0
NumberIn s at k = ReadIn s (at + k) (NextIn s at k)

pub groups_in : (k : ℕ) (s : List ℕ) (at w v : ℕ) → NumberIn s at k (groups k s at w v)
unfolding groups
groups_in zero s at w v = tt
groups_in (suc k) s at w v = go (ltb at (length s)) refl (groups_in k s (at + 1) (w * 128) (v + get_or s at 0 % 128 * w))
  where
    go : (t : Bool) → ltb at (length s) ≡ t → NumberIn s (at + 1) k (groups k s (at + 1) (w * 128) (v + get_or s at 0 % 128 * w)) → NumberIn s at (suc k) (groups (suc k) s at w v)
    go true q ih =
        let h : at < length s = ltb-true _ _ q in
        rw q
        (choice-in s (at + suc k) (NextIn s at (suc k)) (ltb (v + get_or s at 0 % 128 * w) (2 ^ 64)) _ _
        (choice-in s (at + suc k) (NextIn s at (suc k)) (ltb (get_or s at 0) 128) _ _ (omega arith, omega arith, omega arith) (weaker_in s (at + suc k) (NextIn s at (suc k)) (at + 1 + k) (NextIn s (at + 1) k) _ (omega arith) (λ n i. (omega arith, i.1, omega arith)) ih))
        tt)
    go false q ih = let h : length s ≤ at = ltb-false _ _ q in rw q (omega arith)

pub number_in : (s : List ℕ) (at : ℕ) → NumberIn s at 10 (number_at s at)
unfolding number_at
number_in s at = groups_in 10 s at 1 0

-- what follows a number lies where it does if every number is there
pub number-then : {B : Type 0} (s : List ℕ) (top : ℕ) (Q : B → Type 0) (q : ℕ) (f : Number → Reading B) → q + 10 ≤ top
    → ((n : Number) → NextIn s q 10 n → ReadIn s top Q (f n)) → ReadIn s top Q (number_at s q >>= f)
number-then s top Q q f t g =
    then_in s top (NextIn s q 10) Q (number_at s q) f (weaker_in s top (NextIn s q 10) (q + 10) (NextIn s q 10) (number_at s q) t (λ n h. h) (number_in s q)) g

module _ (s : List ℕ) (low top : ℕ) where
  -- what an event asks for lies before its end
  abbrev RestIn : Kind × ℕ → Type 0
  RestIn r = Spans s low top r.1 × Lies r.1 r.0

  module _ (p : ℕ) (l : low < p) (f : p ≤ length s) (t : p + 16404 ≤ top) where
    frame-in : ReadIn s top RestIn (frame_at s p)
    unfolding frame_at
    frame-in =
        whole_in s top RestIn (p + 12) _ (omega arith)
        (λ h. choice-in s top RestIn (eqb (get_or s (p + 1) 0) 0) _ _
        (bounded-in s top RestIn (length_at s p) _ (λ g. whole_in s top RestIn (p + 12 + length_at s p) _ (omega arith) (λ i. ((omega arith, omega arith, omega arith), (refl, omega arith, omega arith)))))
        ((omega arith, omega arith, omega arith), (refl, omega arith, omega arith)))

    count-then : (q : ℕ) (g : Number → Reading (Kind × ℕ)) → p < q → q ≤ p + 10
        → ((n : Number) → n.value ≤ 16384 → NextIn s q 10 n → ReadIn s top RestIn (g n)) → ReadIn s top RestIn (count_at s q >>= g)
    unfolding count_at
    count-then q g h i k =
        let C : Number → Type 0 = λ n. (n.value ≤ 16384) × NextIn s q 10 n in
        then_in s top C RestIn (count_at s q) g
        (number-then s top C q _ (omega arith) (λ n j. bounded-in s top C n.value (Ok n) (λ b. (b, j))))
        (λ n j. k n j.0 j.1)

    read-in : ReadIn s top RestIn (read_at s p)
    unfolding read_at
    read-in =
        number-then s top RestIn p _ (omega arith)
        (λ slot h. count-then slot.next _ h.0 h.2 (λ n b i. ((omega arith, i.1, omega arith), b)))

    write-in : ReadIn s top RestIn (write_at s p)
    unfolding write_at
    write-in =
        number-then s top RestIn p _ (omega arith)
        (λ slot h. count-then slot.next _ h.0 h.2
        (λ n b i. whole_in s top RestIn (n.next + n.value) _ (omega arith) (λ e. ((omega arith, e, omega arith), (omega arith, omega arith)))))

    close-in : ReadIn s top RestIn (close_at s p)
    unfolding close_at
    close-in = number-then s top RestIn p _ (omega arith) (λ slot h. ((omega arith, h.1, omega arith), tt))

    drop-in : ReadIn s top RestIn (drop_at s p)
    unfolding drop_at
    drop-in = number-then s top RestIn p _ (omega arith) (λ slot h. ((omega arith, h.1, omega arith), tt))

    rest_in : (c : Code) → ReadIn s top RestIn (rest_at s c p)
    rest_in codes.Tick = ((l, f, omega arith), tt)
    rest_in codes.Frame = frame-in
    rest_in codes.Open = ((l, f, omega arith), tt)
    rest_in codes.Read = read-in
    rest_in codes.Write = write-in
    rest_in codes.Close = close-in
    rest_in codes.Drop = drop-in
    rest_in codes.Gone = ((l, f, omega arith), tt)

-- a code is not cut short
code-in : (s : List ℕ) (top n : ℕ) → ReadIn s top (λ (c : Code). Unit) (code_of n)
code-in s top n =
    let U : Code → Type 0 = λ c. Unit in
    choice-in s top U (eqb n 0) _ _ tt
    (choice-in s top U (eqb n 1) _ _ tt
    (choice-in s top U (eqb n 2) _ _ tt
    (choice-in s top U (eqb n 3) _ _ tt
    (choice-in s top U (eqb n 4) _ _ tt
    (choice-in s top U (eqb n 5) _ _ tt (choice-in s top U (eqb n 6) _ _ tt (choice-in s top U (eqb n 7) _ _ tt tt)))))))

-- what is read at a place lies inside the input
pub event_in : (s : List ℕ) (at : ℕ) → Within s at (at + longest) (event_at s at)
unfolding event_at
event_in s at =
    let top : ℕ = at + longest in
    let E : Event → Type 0 = λ e. Spans s at top e.next × Lies e.next e.kind in
    number-then s top E at _ (omega arith)
    (λ first h. then_in s top (λ (c : Code). Unit) E (code_of first.value) _ (code-in s top first.value)
    (λ code u. number-then s top E first.next _ (omega arith)
    (λ time i. then_in s top (RestIn s at top) E (rest_at s code time.next) _ (rest_in s at top time.next (omega arith) i.1 (omega arith) code)
    (λ rest j. j))))

-- where 16,424 bytes are there, an event is whole or unreadable
pub never_short : (s : List ℕ) (at : ℕ) → at + longest ≤ length s → event_at s at ≡ Err Short → ⊥
never_short s at h e = let l : length s < at + longest = rw e at (event_in s at) in omega arith
