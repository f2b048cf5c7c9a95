-- Laws of tests, of one changed element and of sums over a list. Assumes nothing.
use Rattle.std.proofs.Common.{◌≡◌, refl, sym, ◌∙◌, subst, Bool, true, false, cond, List, [], ◌∷◌, map, ℕ, zero, suc, ◌+◌, ◌*◌, ◌≤◌, ◌<◌, arith, le_of_suc-le-suc, not-suc-le-zero, ◌≢◌, T, length, get_or, set, replicate, get_or-set_same, get_or-set_other}
use native.Mathlib.Decide.{ℕ_discrete}
use Rattle.rules.specs.Lists.{sum}
use Rattle.rules.specs.State.{one}

-- ---- tests

pub true-not-false : {P : Type 0} {b : Bool} → b ≡ true → b ≡ false → P
true-not-false t f = absurd (subst T (sym t ∙ f) tt)

-- ---- one element changed

module _ {A : Type 0} where
  -- what holds of the new element at its place, and of the others where they stand, holds at every place
  pub at_set :
      (P : ℕ → A → Type 0) (l : List A) (i : ℕ) (x d : A) → i < length l → P i x → ((j : ℕ) → j ≢ i → P j (get_or l j d)) →
      (j : ℕ) → P j (get_or (set l i x) j d)
  at_set P l i x d h p q j = go (ℕ_discrete j i)
    where
      go : Dec (j ≡ i) → P j (get_or (set l i x) j d)
      go (yes e) = subst (λ k. P k (get_or (set l i x) k d)) (sym e) (subst (P i) (sym (get_or-set_same l i x d h)) p)
      go (no n) = subst (P j) (sym (get_or-set_other l i j x d n)) (q j n)

  pub get_d_map : (f : A → A) (l : List A) (j : ℕ) (d : A) → f d ≡ d → get_or (map f l) j d ≡ f (get_or l j d)
  get_d_map f [] j d e = sym e
  get_d_map f (x ∷ l) zero d e = refl
  get_d_map f (x ∷ l) (suc j) d e = get_d_map f l j d e

  pub getD-same : (n j : ℕ) (d : A) → get_or (replicate n d) j d ≡ d
  getD-same zero j d = refl
  getD-same (suc n) zero d = refl
  getD-same (suc n) (suc j) d = getD-same n j d

-- ---- sums

module _ {A : Type 0} (f : A → ℕ) where
  pub sum-map : (g : A → A) (l : List A) → ((x : A) → f (g x) ≡ f x) → sum f (map g l) ≡ sum f l
  sum-map g [] e = refl
  sum-map g (x ∷ l) e = omega (arith, e x, sum-map g l e)

  pub sum-map-none : (g : A → A) (l : List A) → ((x : A) → f (g x) ≡ 0) → sum f (map g l) ≡ 0
  sum-map-none g [] e = refl
  sum-map-none g (x ∷ l) e = omega (arith, e x, sum-map-none g l e)

  pub sum-none : (n : ℕ) (d : A) → f d ≡ 0 → sum f (replicate n d) ≡ 0
  sum-none zero d e = refl
  sum-none (suc n) d e = omega (arith, e, sum-none n d e)

module _ {A : Type 0} (f g : A → ℕ) where
  pub sum-le : (l : List A) (d : A) → ((j : ℕ) → f (get_or l j d) ≤ g (get_or l j d)) → sum f l ≤ sum g l
  sum-le [] d h = omega arith
  sum-le (x ∷ l) d h = omega (arith, h 0, sum-le l d (λ j. h (suc j)))

  pub sum-eq : (l : List A) (d : A) → ((j : ℕ) → f (get_or l j d) ≡ g (get_or l j d)) → sum f l ≡ sum g l
  sum-eq [] d h = refl
  sum-eq (x ∷ l) d h = omega (arith, h 0, sum-eq l d (λ j. h (suc j)))

  pub sum-add : (l : List A) → sum (λ x. f x + g x) l ≡ sum f l + sum g l
  sum-add [] = refl
  sum-add (x ∷ l) = omega (arith, sum-add l)

module _ {A : Type 0} (f : A → Bool) where
  pub sum-each : (k : ℕ) (l : List A) → sum (λ x. cond (f x) k 0) l ≡ sum (λ x. one (f x)) l * k
  sum-each k [] = omega arith
  sum-each k (x ∷ l) = go (f x) (sum-each k l)
    where
      go : (b : Bool) → sum (λ y. cond (f y) k 0) l ≡ sum (λ y. one (f y)) l * k → cond b k 0 + sum (λ y. cond (f y) k 0) l ≡ (one b + sum (λ y. one (f y)) l) * k
      go true e = omega (arith, e)
      go false e = omega (arith, e)

  one-le : (b : Bool) → one b ≤ 1
  one-le true = omega arith
  one-le false = omega arith

  pub sum-count : (l : List A) → sum (λ x. one (f x)) l ≤ length l
  sum-count [] = omega arith
  sum-count (x ∷ l) = omega (arith, one-le (f x), sum-count l)

  -- one that does not pass leaves the count below the length
  pub sum-spare : (l : List A) (i : ℕ) (d : A) → i < length l → f (get_or l i d) ≡ false → sum (λ x. one (f x)) l < length l
  sum-spare [] i d h e = absurd (not-suc-le-zero h)
  sum-spare (x ∷ l) zero d h e = let z : one (f x) ≡ 0 = rw e in omega (arith, z, sum-count l)
  sum-spare (x ∷ l) (suc i) d h e = omega (arith, one-le (f x), sum-spare l i d (le_of_suc-le-suc h) e)

  -- where all pass the count is the length
  pub sum-full : (l : List A) (d : A) → ((j : ℕ) → j < length l → f (get_or l j d) ≡ true) → sum (λ x. one (f x)) l ≡ length l
  sum-full [] d h = refl
  sum-full (x ∷ l) d h =
      let z : one (f x) ≡ 1 = rw (h 0 (omega arith)) in
      omega (arith, z, sum-full l d (λ j k. h (suc j) (omega (arith, k))))
