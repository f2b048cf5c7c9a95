-- Laws of tests, and of searches and sums over a list, over any element type. Assumes nothing.
use Rattle.std.proofs.Common.{Bool, true, false, cond, List, [], ◌∷◌, ◌≡◌, refl, sym, ap, ℕ, zero, suc, ◌+◌, ◌≤◌, ◌<◌, le_of_suc-le-suc, arith, length, get_or, drop, set, drop-cons}
use Rattle.rules.specs.Lists.{Place, at, nowhere, past, first, sum}

-- a test has one outcome
pub never : {A : Type 0} → true ≡ false → A
never e = absurd (let z : ◌≡◌ {A = ℕ} 0 1 = cc in omega arith)

-- what holds of both branches, each where its test has come out so, holds of the test
pub split : {A : Type 0} (P : A → Type 0) (b : Bool) {x y : A} → (b ≡ true → P x) → (b ≡ false → P y) → P (cond b x y)
split P true f g = f refl
split P false f g = g refl

pub either : {A : Type 0} (P : A → Type 0) (b : Bool) {x y : A} → P x → P y → P (cond b x y)
either P b f g = split P b (λ e. f) (λ e. g)

-- two tests that both pass
pub both : (a b : Bool) → cond a b false ≡ true → (a ≡ true) × (b ≡ true)
both true b e = (refl, e)
both false b e = never (sym e)

module _ {A : Type 0} (f : A → Bool) where
  -- the first that passes: it passes, and none before it
  pub first-at : (l : List A) (i : ℕ) (d : A) → i < length l → ((j : ℕ) → j < i → f (get_or l j d) ≡ false) → f (get_or l i d) ≡ true → first f l ≡ at i
  first-at [] i d h none p = absurd (omega arith)
  first-at (x ∷ l) zero d h none p = rw p
  first-at (x ∷ l) (suc i) d h none p =
      rw (none 0 (omega arith)) (ap past (first-at l i d (le_of_suc-le-suc h) (λ j g. none (suc j) (omega arith)) p))

  pub first-nowhere : (l : List A) (d : A) → ((j : ℕ) → j < length l → f (get_or l j d) ≡ false) → first f l ≡ nowhere
  first-nowhere [] d none = refl
  first-nowhere (x ∷ l) d none = rw (none 0 (omega arith)) (ap past (first-nowhere l d (λ j g. none (suc j) (omega arith))))

  -- what an answer of the search says
  abbrev pub Says : List A → A → Place → Type 0
  Says l d (at i) = (i < length l) × (f (get_or l i d) ≡ true)
  Says l d nowhere = (j : ℕ) → j < length l → f (get_or l j d) ≡ false

  says-more : (x : A) (l : List A) (d : A) (b : Bool) → f x ≡ b → (p : Place) → Says l d p → Says (x ∷ l) d (cond b (at 0) (past p))
  says-more x l d true e p s = (omega arith, e)
  says-more x l d false e (at i) s = (omega arith, s.1)
  says-more x l d false e nowhere s = go
    where
      go : (j : ℕ) → j < length (x ∷ l) → f (get_or (x ∷ l) j d) ≡ false
      go zero h = e
      go (suc j) h = s j (le_of_suc-le-suc h)

  pub first_says : (l : List A) (d : A) → Says l d (first f l)
  first_says [] d = λ j h. absurd (omega arith)
  first_says (x ∷ l) d = says-more x l d (f x) refl (first f l) (first_says l d)

-- two searches that agree place by place
pub first_same : {A B : Type 0} (f : A → Bool) (g : B → Bool) (l : List A) (m : List B) (d : A) (e : B) → length l ≡ length m
    → ((i : ℕ) → i < length l → f (get_or l i d) ≡ g (get_or m i e)) → first f l ≡ first g m
first_same f g [] [] d e h same = refl
first_same f g [] (y ∷ m) d e h same = absurd (omega arith)
first_same f g (x ∷ l) [] d e h same = absurd (omega arith)
first_same f g (x ∷ l) (y ∷ m) d e h same =
    rw (same 0 (omega arith)) (ap (λ (p : Place). cond (g y) (at 0) (past p)) (first_same f g l m d e (omega arith) (λ i p. same (suc i) (omega arith))))

-- two sums that agree place by place
pub sum_same : {A B : Type 0} (f : A → ℕ) (g : B → ℕ) (l : List A) (m : List B) (d : A) (e : B) → length l ≡ length m
    → ((i : ℕ) → i < length l → f (get_or l i d) ≡ g (get_or m i e)) → sum f l ≡ sum g m
sum_same f g [] [] d e h same = refl
sum_same f g [] (y ∷ m) d e h same = absurd (omega arith)
sum_same f g (x ∷ l) [] d e h same = absurd (omega arith)
sum_same f g (x ∷ l) (y ∷ m) d e h same =
    rw (same 0 (omega arith)) (ap (λ (n : ℕ). g y + n) (sum_same f g l m d e (omega arith) (λ i p. same (suc i) (omega arith))))

-- a sum after one element is replaced
pub sum-set : {A : Type 0} (f : A → ℕ) (l : List A) (i : ℕ) (x d : A) → i < length l → sum f (set l i x) + f (get_or l i d) ≡ sum f l + f x
sum-set f [] i x d h = absurd (omega arith)
sum-set f (y ∷ l) zero x d h = omega arith
sum-set f (y ∷ l) (suc i) x d h = let e = sum-set f l i x d (le_of_suc-le-suc h) in omega arith

-- one element of a sum and those after it
pub sum_drop : {A : Type 0} (f : A → ℕ) (l : List A) (i : ℕ) (d : A) → i < length l → sum f (drop i l) ≡ f (get_or l i d) + sum f (drop (suc i) l)
sum_drop f l i d h = ap (sum f) (drop-cons l i d h)

-- each element of a sum is at most the sum
pub sum_at : {A : Type 0} (f : A → ℕ) (l : List A) (i : ℕ) (d : A) → i < length l → f (get_or l i d) ≤ sum f l
sum_at f [] i d h = absurd (omega arith)
sum_at f (y ∷ l) zero d h = omega arith
sum_at f (y ∷ l) (suc i) d h = let e = sum_at f l i d (le_of_suc-le-suc h) in omega arith

-- a sum is the same where the new element counts as the old one did
pub sum_kept : {A : Type 0} (f : A → ℕ) (l : List A) (i : ℕ) (x d : A) → f x ≡ f (get_or l i d) → sum f (set l i x) ≡ sum f l
sum_kept f [] i x d e = refl
sum_kept f (y ∷ l) zero x d e = rw e
sum_kept f (y ∷ l) (suc i) x d e = rw (sum_kept f l i x d e)
