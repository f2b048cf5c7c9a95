-- What a call promises, on every input and from a valid state.
use Rattle.std.specs.Prelude.{◌≡◌, Bool, true, false, cond, List, ◌++◌, ℕ, length, drop, eqb, Option, Some, None}
use Rattle.frame.specs.Wire.{written}
use Rattle.rules.specs.declared.Reply.{Reply}
use Rattle.rules.specs.declared.Reply.TheVariants as reply
use Rattle.rules.specs.Replies.{Outcome, leaves_all, may_give}
use Rattle.rules.specs.State.{Conn}
use Rattle.rules.specs.Ending.{Effect, end}
use Rattle.rules.specs.Step.{Call, step}
use Rattle.handlers.specs.declared.Answer.{Answer}
use Rattle.memory.specs.Counts.{fits}
use Rattle.memory.specs.Moves.{Advances}
use Rattle.connection.specs.Abstract.{abs_of, Valid}
use Rattle.connection.specs.Parts.{answered}
use Rattle.connection.specs.declared.Connection.{Connection}
use Rattle.connection.specs.declared.Done.{Done}
use Rattle.frame.specs.declared.header.Header.{Header}

-- the twelve lent bytes: a header that is given, else as they were
abbrev pub sent_after : Option Header → List ℕ → List ℕ
sent_after (Some h) s = written h s
sent_after None s = s

-- an answer of the reply alone; `all` where the connection ended by it
abbrev pub bare_answer : Reply → Bool → Answer
bare_answer r all = record {
  reply = r;
  slot = None;
  value = None;
  sent = None;
  wakes = record { reader = false; writer = false; opener = false; all = all };
}

-- whether nothing is "a lent table, pool or header of the wrong size"
abbrev pub sized : Connection → ℕ → ℕ → ℕ → ℕ → Bool
sized c t l p sent = cond (fits c.memory.slots c.memory.pool t l p) (eqb sent 12) false

-- "nothing changed"
abbrev pub refused : Connection → Reply → Done
refused c r = answered c (bare_answer r false)

-- "Lent output changes only in the bytes read": those, and the rest as it was
abbrev pub out_after : List ℕ → List ℕ → List ℕ
out_after bytes out = bytes ++ drop (length bytes) out

-- "replies but 0, 1 and 2 give neither": no header here; of bytes read the promise of a read speaks
abbrev pub Silent : Done → Type 0
Silent d = may_give d.answer.reply ≡ false → d.answer.sent ≡ None

-- "Lent output changes only in the bytes read and in the 12 of a header given"
pub record Gives (d : Done) (s s' : List ℕ) : Type 0 where
  pub header : s' ≡ sent_after d.answer.sent s
  pub silent : Silent d

-- the answer is the outcome's, but for bytes
pub record Says (a : Answer) (o : Outcome) : Type 0 where
  pub reply : a.reply ≡ o.reply
  pub slot : a.slot ≡ o.slot
  pub value : a.value ≡ o.value
  pub sent : a.sent ≡ o.header
  pub wakes : a.wakes ≡ o.wakes

-- valid again, the state the rule's, each queue past the bytes read of it, and the answer the rule's
pub record Follows (c : Connection) (t l p : List ℕ) (rule : Effect) (d : Done) (t' l' p' : List ℕ) : Type 0 where
  pub valid : Valid d.connection t' l' p'
  pub after : abs_of d.connection t' l' p' ≡ rule.after
  pub advances : Advances c.memory t d.connection.memory t'
  pub says : Says d.answer rule.outcome

-- A rule is handled: from a valid state the result is the rule's; a refusal leaves all as it was; and a header is given only
-- where the reply may give one.
pub record Handles (rule : Conn → Effect) (c : Connection) (t l p : List ℕ) (d : Done) (t' l' p' : List ℕ) : Type 0 where
  pub steps : Valid c t l p → Follows c t l p (rule (abs_of c t l p)) d t' l' p'
  pub refuses : leaves_all d.answer.reply ≡ true → (d.connection ≡ c) × (t' ≡ t) × (l' ≡ l) × (p' ≡ p)
  pub silent : Silent d

-- "connection ended": the rules' `end`, by a reply that is no refusal
abbrev pub Over : Connection → List ℕ → Reply → Done → List ℕ → Type 0
Over c t r d t' = (l p : List ℕ) → leaves_all r ≡ false → Handles (λ x. end x r) c t l p d t' l p

-- What every call promises, `sized` saying whether all that is lent has its size: from a valid state it is the rules' step;
-- a wrong size is 14, before all else; and a refusal leaves connection, table, links and pool as they were.
pub record Promised (sized : Bool) (c : Connection) (t l p : List ℕ) (call : Call) (d : Done) (t' l' p' : List ℕ) : Type 0 where
  pub steps : sized ≡ true → Valid c t l p → Follows c t l p (step (abs_of c t l p) call) d t' l' p'
  pub wrong : sized ≡ false → d ≡ refused c reply.Size
  pub refuses : leaves_all d.answer.reply ≡ true → (d.connection ≡ c) × (t' ≡ t) × (l' ≡ l) × (p' ≡ p)
