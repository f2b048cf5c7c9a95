-- How a call comes to its promise: by a wrong size, by a refusal, or by a rule that is handled. Assumes nothing.
use Rattle.std.proofs.Common.{◌≡◌, refl, sym, ap, ◌∙◌, Bool, true, false, List, ℕ, length}
use Rattle.rules.specs.State.{Conn}
use Rattle.rules.specs.Ending.{Effect, refuse}
use Rattle.rules.specs.Replies.{leaves_all, may_give, count_of}
use Rattle.rules.specs.Step.{Call, step, read}
use Rattle.rules.specs.declared.Reply.{Reply}
use Rattle.rules.specs.declared.Reply.TheVariants as reply
use Rattle.rules.proofs.Counts.{read_counts}
use Rattle.rules.proofs.Lists.{never}
use Rattle.memory.proofs.Starts.{nothing-advances}
use Rattle.connection.specs.Abstract.{abs_of, Valid}
use Rattle.connection.specs.Promises.{refused, Gives, Follows, Handles, Promised}
use Rattle.connection.specs.declared.Connection.{Connection}
use Rattle.connection.specs.declared.Done.{Done}

-- a reply that may give is no refusal
pub giving_leaves : (r : Reply) → may_give r ≡ true → leaves_all r ≡ false
giving_leaves reply.Done h = refl
giving_leaves reply.Wait h = refl
giving_leaves reply.GoAway h = refl
giving_leaves reply.TooManyStreams h = refl
giving_leaves reply.NoMoreStreamIds h = refl
giving_leaves reply.Closed h = refl
giving_leaves reply.WriteClosed h = never (sym h)
giving_leaves reply.NoSlot h = never (sym h)
giving_leaves reply.NoRoom h = never (sym h)
giving_leaves reply.NotHeld h = never (sym h)
giving_leaves reply.Time h = never (sym h)
giving_leaves reply.Version h = refl
giving_leaves reply.Type h = refl
giving_leaves reply.Body h = never (sym h)
giving_leaves reply.Size h = never (sym h)

-- a read's value counts the bytes of its rule
pub read_counted : (c : Connection) (t l p : List ℕ) (time i asked : ℕ) (d : Done) (t' l' p' : List ℕ) → Follows c t l p (step (abs_of c t l p) (read time i asked)) d t' l' p'
    → count_of d.answer.value ≡ length (step (abs_of c t l p) (read time i asked)).outcome.bytes
read_counted c t l p time i asked d t' l' p' f = ap count_of f.says.value ∙ read_counts (abs_of c t l p) time i asked

-- a refusal gives no header
pub refused-gives : (c : Connection) (r : Reply) (s : List ℕ) → Gives (refused c r) s s
refused-gives c r s = record { header = refl; silent = λ e. refl }

-- a rule that is another from a valid state
pub same_handles : (c : Connection) (t l p : List ℕ) (rule rule' : Conn → Effect) (d : Done) (t' l' p' : List ℕ)
    → (Valid c t l p → rule' (abs_of c t l p) ≡ rule (abs_of c t l p)) → Handles rule c t l p d t' l' p' → Handles rule' c t l p d t' l' p'
same_handles c t l p rule rule' d t' l' p' same h = record {
  steps = λ v. rw (same v) (h.steps v);
  refuses = h.refuses;
  silent = h.silent;
}

-- what is done is no refusal
pub acted : (c : Connection) (t l p : List ℕ) (rule : Conn → Effect) (d : Done) (t' l' p' : List ℕ) → may_give d.answer.reply ≡ true
    → (Valid c t l p → Follows c t l p (rule (abs_of c t l p)) d t' l' p') → Handles rule c t l p d t' l' p'
acted c t l p rule d t' l' p' given f = record {
  steps = f;
  refuses = λ e. never (sym e ∙ giving_leaves d.answer.reply given);
  silent = λ e. never (sym given ∙ e);
}

module _ (c : Connection) (t l p : List ℕ) where
  refuse-follows : (r : Reply) → Valid c t l p → Follows c t l p (refuse (abs_of c t l p) r) (refused c r) t l p
  refuse-follows r v = record {
    valid = v;
    after = refl;
    advances = nothing-advances c.memory t l p v.memory;
    says = record { reply = refl; slot = refl; value = refl; sent = refl; wakes = refl };
  }

  pub refused-handles : (r : Reply) → Handles (λ x. refuse x r) c t l p (refused c r) t l p
  refused-handles r = record { steps = refuse-follows r; refuses = λ e. (refl, refl, refl, refl); silent = λ e. refl }

  module _ (sized : Bool) (call : Call) where
    pub wrong_size : sized ≡ false → Promised sized c t l p call (refused c reply.Size) t l p
    wrong_size e = record {
      steps = λ s v. never (sym s ∙ e);
      wrong = λ w. refl;
      refuses = λ w. (refl, refl, refl, refl);
    }

    -- a rule that is handled, where it is the call's
    pub promised : sized ≡ true → (rule : Conn → Effect) (d : Done) (t' l' p' : List ℕ) → (Valid c t l p → step (abs_of c t l p) call ≡ rule (abs_of c t l p))
        → Handles rule c t l p d t' l' p' → Promised sized c t l p call d t' l' p'
    promised e rule d t' l' p' same h = record {
      steps = λ s v. rw (same v) (h.steps v);
      wrong = λ w. never (sym e ∙ w);
      refuses = h.refuses;
    }

    pub refusing : sized ≡ true → (r : Reply) → (Valid c t l p → step (abs_of c t l p) call ≡ refuse (abs_of c t l p) r) → Promised sized c t l p call (refused c r) t l p
    refusing e r same = promised e (λ x. refuse x r) (refused c r) t l p same (refused-handles r)

-- ---- two clauses by their names
pub named : {A B : Type 0} → A × B → record { by_index : A; gives : B }
named x = record { by_index = x.0; gives = x.1 }
