-- Two outcomes of one call, and what is the same of them. 01: "Reply, frame, bytes read, wakes, table and pool follow from the input".
-- The one exception is which blocks a queue has: the block numbers in rows, in links and in the free chain, and the pool's bytes that are not
-- unread. The table's hints, the cells of a free slot's row and what a held slot's cells have beside its numbers are apart from it: no promise
-- speaks of them, and no rule can see them.
use Rattle.std.specs.Prelude.{◌≡◌, Bool, true, false, List, ℕ}
use Rattle.rules.specs.Replies.{leaves_all}
use Rattle.memory.specs.Counts.{counted}
use Rattle.memory.specs.Unique as memory
use Rattle.connection.specs.Abstract.{abs_of, Valid}
use Rattle.connection.specs.Parts.{with_memory}
use Rattle.connection.specs.declared.Connection.{Connection}
use Rattle.connection.specs.declared.Done.{Done}

-- the connection with another first free block
abbrev pub with_head : Connection → ℕ → Connection
with_head c b = with_memory c (counted c.memory (record { head = b; count = c.memory.free.count }) c.memory.listed c.memory.unread)

-- two connections in their lent memory: one state, every field but the first free block, and every held row but its blocks
pub record Alike (c : Connection) (t l p : List ℕ) (c' : Connection) (t' l' p' : List ℕ) : Type 0 where
  pub state : abs_of c t l p ≡ abs_of c' t' l' p'
  pub fields : (b : ℕ) → with_head c b ≡ with_head c' b
  pub memory : memory.Alike c.memory t l p c'.memory t' l' p'

-- the answers too
pub record Same (d : Done) (t l p : List ℕ) (d' : Done) (t' l' p' : List ℕ) : Type 0 where
  pub answer : d.answer ≡ d'.answer
  pub alike : Alike d.connection t l p d'.connection t' l' p'

-- cell for cell
pub record Equal (d : Done) (t l p : List ℕ) (d' : Done) (t' l' p' : List ℕ) : Type 0 where
  pub done : d ≡ d'
  pub table : t ≡ t'
  pub links : l ≡ l'
  pub pool : p ≡ p'

-- From a valid state the outcomes are the same, and a refusal is cell for cell; so is a wrong size, from any state.
pub record Unique (sized : Bool) (c : Connection) (t l p : List ℕ) (d : Done) (t₁ l₁ p₁ : List ℕ) (e : Done) (t₂ l₂ p₂ : List ℕ) : Type 0 where
  pub steps : sized ≡ true → Valid c t l p → Same d t₁ l₁ p₁ e t₂ l₂ p₂
  pub refuses : sized ≡ true → Valid c t l p → leaves_all d.answer.reply ≡ true → Equal d t₁ l₁ p₁ e t₂ l₂ p₂
  pub wrong : sized ≡ false → Equal d t₁ l₁ p₁ e t₂ l₂ p₂
