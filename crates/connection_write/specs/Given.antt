-- The sizes that a call tests, and the body of a write.
use Rattle.std.specs.Prelude.{◌≡◌, Bool, true, ◌&&◌, List, ℕ, eqb}
use Rattle.rules.specs.Step.{step, write}
use Rattle.handlers.specs.Locals.{body_of}
use Rattle.memory.specs.Counts.{table_fits}
use Rattle.connection.specs.Abstract.{abs_of, Valid}
use Rattle.connection.specs.declared.Connection.{Connection}
use Rattle.connection.specs.declared.Done.{Done}

-- whether neither is 01's "a lent table .. or header of the wrong size", where these two are lent
abbrev pub sent_sized : Connection → ℕ → ℕ → Bool
sent_sized c n s = table_fits c.memory.slots n && eqb s 12

-- 01: "a Data frame carries the first n bytes": from a valid state the rule's body is the first bytes of `given`, as many as the
-- header given counts
abbrev pub Carries : Bool → Connection → List ℕ → ℕ → ℕ → List ℕ → Done → Type 0
Carries sized c t now i given d =
    (l p : List ℕ) → sized ≡ true → Valid c t l p
    → (step (abs_of c t l p) (write now i given)).outcome.body ≡ body_of d.answer.sent given
