-- Two outcomes of a new connection, and what is the same of them: all but the order of the free blocks, and the table's hints.
use Rattle.std.specs.Prelude.{◌≡◌, List, ℕ, Result, Ok, Err}
use Rattle.connection.specs.Unique.{Alike}
use Rattle.connection_open.specs.declared.NotCreated.{NotCreated}
use Rattle.connection.specs.declared.Connection.{Connection}

-- neither is made: cell for cell
pub record Equal (r : Result Connection NotCreated) (t l p : List ℕ) (r' : Result Connection NotCreated) (t' l' p' : List ℕ) : Type 0 where
  pub created : r ≡ r'
  pub table : t ≡ t'
  pub links : l ≡ l'
  pub pool : p ≡ p'

-- both are made: alike
abbrev pub Same : Result Connection NotCreated → List ℕ → List ℕ → List ℕ → Result Connection NotCreated → List ℕ → List ℕ → List ℕ → Type 0
Same (Ok c) t l p (Ok c') t' l' p' = Alike c t l p c' t' l' p'
Same (Ok c) t l p (Err e) t' l' p' = ⊥
Same (Err e) t l p r t' l' p' = Equal (Err e) t l p r t' l' p'
