-- Two reads that meet the promise give the same bytes and the same header. Assumes nothing.
use Rattle.std.proofs.Common.{◌≡◌, sym, ap, ◌∙◌, Bool, true, false, List, ℕ, length, drop}
use Rattle.rules.specs.Replies.{count_of}
use Rattle.rules.specs.Step.{read}
use Rattle.connection.specs.Abstract.{Valid}
use Rattle.connection.specs.Promises.{Promised}
use Rattle.connection.specs.Unique.{Unique}
use Rattle.connection.proofs.Unique.{unique, header_unique}
use Rattle.connection.specs.declared.Connection.{Connection}
use Rattle.connection.specs.declared.Done.{Done}
use Rattle.connection_read.specs.Promises.{Outputs}

module _ (sized : Bool) (c : Connection) (t l p : List ℕ) (time i : ℕ) (out sent : List ℕ)
    (d : Done) (t₁ l₁ out₁ sent₁ : List ℕ) (e : Done) (t₂ l₂ out₂ sent₂ : List ℕ)
    (x : Promised sized c t l p (read time i (length out)) d t₁ l₁ p) (y : Promised sized c t l p (read time i (length out)) e t₂ l₂ p)
    (a : Outputs sized c t l p time i out sent d out₁ sent₁) (b : Outputs sized c t l p time i out sent e out₂ sent₂) where
  both : Unique sized c t l p d t₁ l₁ p e t₂ l₂ p
  both = unique sized c t l p (read time i (length out)) d t₁ l₁ p e t₂ l₂ p x y

  headers : d.answer ≡ e.answer → sent₁ ≡ sent₂
  headers same = header_unique d e sent sent₁ sent₂ same a.header b.header

  -- from a valid state
  pub outputs-unique : sized ≡ true → Valid c t l p → (out₁ ≡ out₂) × (sent₁ ≡ sent₂)
  outputs-unique s v = (a.bytes s v ∙ sym (b.bytes s v), headers (both.steps s v).answer)

  -- and from any state, of a wrong size: as they were
  pub wrong-unique : sized ≡ false → (out₁ ≡ out₂) × (sent₁ ≡ sent₂)
  wrong-unique w = (
    kept d out₁ a.past (ap counted (x.wrong w)) ∙ sym (kept e out₂ b.past (ap counted (y.wrong w))),
    headers (ap (λ (z : Done). z.answer) (both.wrong w).done),
  )
    where
      counted : Done → ℕ
      counted z = count_of z.answer.value

      kept : (z : Done) (o : List ℕ) → drop (counted z) o ≡ drop (counted z) out → counted z ≡ 0 → o ≡ out
      kept z o past none = rw none at past
