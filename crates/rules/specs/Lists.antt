-- Searches and sums over a list: of slots here, of a table's rows in the code's terms.
use Rattle.std.specs.Prelude.{Bool, cond, List, [], ◌∷◌, ℕ, suc, ◌+◌}

-- where the first element is that passes a test
pub data Place : Type 0 where
  at : ℕ → Place
  nowhere : Place

abbrev pub past : Place → Place
past (at i) = at (suc i)
past nowhere = nowhere

abbrev pub first : {A : Type 0} → (A → Bool) → List A → Place
first f [] = nowhere
first f (x ∷ xs) = cond (f x) (at 0) (past (first f xs))

abbrev pub sum : {A : Type 0} → (A → ℕ) → List A → ℕ
sum f [] = 0
sum f (x ∷ xs) = f x + sum f xs
