-- What the parts of the calls do.
use Rattle.std.specs.Prelude.{◌≡◌, true, Bool, List, ℕ, Result, Ok, Err}
use Rattle.rules.specs.Replies.{may_give}
use Rattle.rules.specs.Step.{write}
use Rattle.rules.specs.declared.Reply.{Reply}
use Rattle.table.specs.declared.row.Row.{Row}
use Rattle.handlers.specs.Locals.{perform_step}
use Rattle.handlers.specs.declared.calls.StreamStep.{StreamStep}
use Rattle.connection.specs.Parts.{Holds}
use Rattle.connection.specs.Promises.{Gives, Handles, Promised, refused}
use Rattle.connection.specs.declared.Connection.{Connection}
use Rattle.connection.specs.declared.Done.{Done}
use Rattle.connection_write.specs.Given.{Carries}

-- a step of the stream at slot i that is done or waits, whatever the body of its header
abbrev pub Keeps : Connection → List ℕ → List ℕ → ℕ → Row → StreamStep → Done → List ℕ → List ℕ → Type 0
Keeps c t u i row k d t' u' =
    Holds c t i row → k.stream.id ≡ row.stream.id → may_give k.answer.reply ≡ true
    → ((l p body : List ℕ) → Handles (λ x. perform_step x i body k) c t l p d t' l p) × Gives d u u'

-- a call that a test may refuse: the connection as it was, and the reply that says why
abbrev pub done_of : Connection → Result Done Reply → Done
done_of c (Ok d) = d
done_of c (Err r) = refused c r

-- all that is promised of a write
abbrev pub Writes : Bool → Connection → List ℕ → ℕ → ℕ → List ℕ → Done → List ℕ → List ℕ → List ℕ → Type 0
Writes sized c t now i given d t' u u' =
    ((l p : List ℕ) → Promised sized c t l p (write now i given) d t' l p) × (Gives d u u' × Carries sized c t now i given d)
