-- Laws of tests and of tabulated lists, over any element type. Assumes nothing.
use Rattle.std.proofs.Common.{Bool, true, false, List, ◌∷◌, ◌≡◌, refl, ap, ℕ, zero, suc, ◌+◌, ◌≤◌, ◌<◌, le_of_suc-le-suc, arith, length, get_or, take, drop, replicate}
use Rattle.table.specs.Table.{tabulate}

pub false_of : (b : Bool) → (b ≡ true → ⊥) → b ≡ false
false_of true h = absurd (h refl)
false_of false h = refl

pub length-tabulate : {A : Type 0} (n : ℕ) (f : ℕ → A) → length (tabulate n f) ≡ n
length-tabulate zero f = refl
length-tabulate (suc n) f = ap suc (length-tabulate n (λ i. f (suc i)))

pub get_d_tabulate : {A : Type 0} (n : ℕ) (f : ℕ → A) (i : ℕ) (d : A) → i < n → get_or (tabulate n f) i d ≡ f i
get_d_tabulate zero f i d h = absurd (omega arith)
get_d_tabulate (suc n) f zero d h = refl
get_d_tabulate (suc n) f (suc i) d h = get_d_tabulate n (λ j. f (suc j)) i d (le_of_suc-le-suc h)

take-replicate : {A : Type 0} (n m : ℕ) (a : A) → n ≤ m → take n (replicate m a) ≡ replicate n a
take-replicate zero m a h = refl
take-replicate (suc n) zero a h = absurd (omega arith)
take-replicate {A} (suc n) (suc m) a h = ap (λ (l : List A). a ∷ l) (take-replicate n m a (le_of_suc-le-suc h))

-- a part of a list of equal elements
pub part-replicate : {A : Type 0} (c n m : ℕ) (a : A) → c + n ≤ m → take n (drop c (replicate m a)) ≡ replicate n a
part-replicate zero n m a h = take-replicate n m a (omega arith)
part-replicate (suc c) n zero a h = absurd (omega arith)
part-replicate (suc c) n (suc m) a h = part-replicate c n m a (omega arith)
