-- Two answers of one run, and what is the same of them. 01: "Reply, frame, bytes read, wakes, table and pool follow from the input".
-- The exceptions are docs/DECISIONS.md's 28: which blocks a queue has, where in its first block it starts after several calls and so how many
-- blocks are free, and what is lent to work with.
use Rattle.std.specs.Prelude.{◌≡◌, Bool, true, false, List, ℕ}
use Rattle.connection.specs.Abstract.{abs_of, Valid}
use Rattle.connection.specs.declared.Connection.{Connection}
use Rattle.trace.specs.declared.Report.{Report}

-- where the run stands and why it stopped there, all of the room for lines, and the state that connection, table, links and pool stand for
pub record SameRun (r : Report) (t l p o : List ℕ) (r' : Report) (t' l' p' o' : List ℕ) : Type 0 where
  pub place : r.place ≡ r'.place
  pub stop : r.stop ≡ r'.stop
  pub out : o ≡ o'
  pub state : abs_of r.connection t l p ≡ abs_of r'.connection t' l' p'

-- cell for cell
pub record EqualRun (r : Report) (t l p o : List ℕ) (r' : Report) (t' l' p' o' : List ℕ) : Type 0 where
  pub report : r ≡ r'
  pub table : t ≡ t'
  pub links : l ≡ l'
  pub pool : p ≡ p'
  pub out : o ≡ o'

-- From a valid state the answers are the same; at a wrong size cell for cell, from any state.
pub record UniqueRun (sized : Bool) (c : Connection) (t l p : List ℕ) (r : Report) (t₁ l₁ p₁ o₁ : List ℕ) (q : Report) (t₂ l₂ p₂ o₂ : List ℕ) : Type 0 where
  pub steps : sized ≡ true → Valid c t l p → SameRun r t₁ l₁ p₁ o₁ q t₂ l₂ p₂ o₂
  pub wrong : sized ≡ false → EqualRun r t₁ l₁ p₁ o₁ q t₂ l₂ p₂ o₂
