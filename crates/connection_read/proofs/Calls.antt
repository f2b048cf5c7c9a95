-- How a read comes to its promise: by a refusal, with nothing to read, or by its rule. Assumes nothing.
use Rattle.std.proofs.Common.{Ok, Err, ◌≡◌, refl, Bool, true, List, [], ◌∷◌, ℕ, arith, length}
use Rattle.rules.specs.State.{Conn}
use Rattle.rules.specs.Ending.{Effect}
use Rattle.rules.specs.Step.{step, read}
use Rattle.rules.specs.declared.Reply.{Reply}
use Rattle.table.specs.declared.row.Row.{Row}
use Rattle.handlers.specs.Locals.{is_shut, nothing_read}
use Rattle.connection.specs.Abstract.{abs_of, Valid}
use Rattle.connection.specs.Parts.{answered, handle_of, Holds}
use Rattle.connection.specs.Promises.{refused, sent_after, Promised}
use Rattle.connection.specs.declared.Connection.{Connection}
use Rattle.connection.specs.declared.Done.{Done}
use Rattle.connection.proofs.Promises.{same_handles, acted, promised, read_counted}
use Rattle.connection.proofs.Moving.{answer_follows}
use Rattle.connection.proofs.Tests.{handle-shut, handle-held}
use Rattle.connection_read.specs.Promises.{rule_of, Reads, Outputs}
use Rattle.connection_read.proofs.Rows.{shut_rule}

module _ (c : Connection) (t l p out : List ℕ) where
  -- a rule that is another from a valid state
  pub same_reads : (rule rule' : Conn → Effect) (d : Done) (t' l' out' : List ℕ) → (Valid c t l p → rule' (abs_of c t l p) ≡ rule (abs_of c t l p))
      → Reads rule c t l p out d t' l' out' → Reads rule' c t l p out d t' l' out'
  same_reads rule rule' d t' l' out' same r = record {
    handles = same_handles c t l p rule rule' d t' l' p same r.handles;
    bytes = λ v. rw (same v) (r.bytes v);
    within = r.within;
    past = r.past;
    quiet = r.quiet;
  }

  -- the answer of a read that gives nothing since the connection ended
  pub shut-reads : (i time : ℕ) → is_shut c.ended c.config.read_after_close ≡ true
      → Reads (λ x. rule_of x i (length out) time) c t l p out (answered c (nothing_read (record { 0 = i }))) t l out
  shut-reads i time shut = record {
    handles = acted c t l p (λ x. rule_of x i (length out) time) (answered c (nothing_read (record { 0 = i }))) t l p refl
        (λ v. rw (shut_rule c t l p i (length out) time shut) (answer_follows c t l p c.rtt c.open_wait (nothing_read (record { 0 = i })) v));
    bytes = λ v. rw (shut_rule c t l p i (length out) time shut);
    within = omega arith;
    past = refl;
    quiet = λ e. refl;
  }

-- ---- the call

no_bytes : (b : List ℕ) → 0 ≡ length b → b ≡ []
no_bytes [] e = refl
no_bytes (x ∷ b) e = cc

module _ (c : Connection) (t l p : List ℕ) (i : ℕ) (out : List ℕ) (time : ℕ) (sized : Bool) (sent : List ℕ) where
  pub refused-call : (r : Reply) → handle_of sized c.memory.slots t i time ≡ Err r
      → Promised sized c t l p (read time i (length out)) (refused c r) t l p × Outputs sized c t l p time i out sent (refused c r) out sent
  unfolding step
  refused-call r e =
      let kept = handle-shut c t l p sized (read time i (length out)) time i (rule_of (abs_of c t l p) i (length out) time) r e (λ v. refl) in (
        kept,
        record {
          bytes = λ s v. rw (no_bytes (step (abs_of c t l p) (read time i (length out))).outcome.bytes (read_counted c t l p time i (length out) _ t l p (kept.steps s v)));
          within = omega arith;
          past = refl;
          quiet = λ q. refl;
          header = refl;
          silent = λ q. refl;
        },
      )

  pub held-call : (row : Row) → handle_of sized c.memory.slots t i time ≡ Ok row → (d : Done) (t' l' out' sent' : List ℕ)
      → (Holds c t i row → Reads (λ x. rule_of x i (length out) time) c t l p out d t' l' out') → sent' ≡ sent_after d.answer.sent sent
      → Promised sized c t l p (read time i (length out)) d t' l' p × Outputs sized c t l p time i out sent d out' sent'
  unfolding step
  held-call row e d t' l' out' sent' reads put =
      let h = handle-held c t l p sized (read time i (length out)) time i (rule_of (abs_of c t l p) i (length out) time) row e in
      let r = reads h.1 in (
        promised c t l p sized (read time i (length out)) h.0 (λ x. rule_of x i (length out) time) d t' l' p h.2 r.handles,
        record {
          bytes = λ s v. rw (h.2 v) (r.bytes v);
          within = r.within;
          past = r.past;
          quiet = r.quiet;
          header = put;
          silent = r.handles.silent;
        },
      )
