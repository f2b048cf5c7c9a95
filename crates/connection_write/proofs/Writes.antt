-- What a write leaves of a valid connection, and the body that it gives. Assumes nothing.
use Rattle.std.proofs.Common.{◌≡◌, refl, sym, ap, ◌∙◌, Bool, true, false, cond, List, ℕ, ltb, length, Some, None, Result, Ok, Err}
use Rattle.stream.specs.Streams as stream
use Rattle.stream.specs.declared.Stream.{Stream}
use Rattle.stream.specs.declared.Written.{Written}
use Rattle.stream.specs.declared.Written.TheVariants as written
use Rattle.stream.proofs.Laws.{write-wait, write-frame}
use Rattle.rules.specs.Replies.{may_give}
use Rattle.rules.specs.Settings.{last_time}
use Rattle.rules.specs.State.{Entry, Conn, entry}
use Rattle.rules.specs.Step.{write, step}
use Rattle.rules.specs.Calls.{write_rules}
use Rattle.rules.specs.Ending.{Effect, refuse}
use Rattle.rules.specs.declared.Reply.TheVariants as reply
use Rattle.rules.specs.declared.Slot.{Slot}
use Rattle.table.specs.declared.row.Row.{Row}
use Rattle.handlers.specs.Locals.{perform_step, write_step, on_write, perform_write, body_of, slot_answer}
use Rattle.handlers.specs.declared.calls.StreamStep.{StreamStep}
use Rattle.handlers.proofs.Locals.{write-performs}
use Rattle.connection.specs.Abstract.{abs_of}
use Rattle.connection.specs.Parts.{handle_of, Holds}
use Rattle.connection.specs.Promises.{Gives, Handles, Promised}
use Rattle.connection.specs.declared.Connection.{Connection}
use Rattle.connection.specs.declared.Done.{Done}
use Rattle.connection.proofs.Promises.{promised}
use Rattle.connection.proofs.Tests.{handle-held, handle_holds, held-entry}
use Rattle.connection_write.specs.Parts.{Writes}
use Rattle.rules.specs.declared.Reply.{Reply}

-- ---- the step

-- a write that is not refused leaves the stream its id, and is done or waits
pub kept_step : (ended : Bool) (i : Slot) (s : Stream) (n split : ℕ) (k : StreamStep) → on_write ended i s n split ≡ Ok k
    → (k.stream.id ≡ s.id) × (may_give k.answer.reply ≡ true)
kept_step true i s n split k e = (cc, cc)
kept_step false i s n split k e = go (stream.write s n split) refl e
  where
    go : (w : Written) → stream.write s n split ≡ w → write_step i w ≡ Ok k → (k.stream.id ≡ s.id) × (may_give k.answer.reply ≡ true)
    go written.Closed q x = (cc, cc)
    go (written.Wait t) q x = let z : k ≡ record { stream = t; answer = slot_answer i reply.Wait None None } = cc in rw z (ap (λ (y : Stream). y.id) (write-wait s n split t q).2, refl)
    go (written.Frame t h) q x =
        let z : k ≡ record { stream = t; answer = slot_answer i reply.Done (Some h.length.0) (Some h) } = cc in
        rw z (ap (λ (y : Stream). y.id) (write-frame s n split t h q).2, refl)

-- ---- the body

module _ (c : Conn) (now i : ℕ) (given : List ℕ) where
  abbrev performed : Effect
  performed = perform_write c i given (on_write c.ended (record { 0 = i }) (entry c.slots i).stream (length given) c.config.split)

  body-performed : (w : Result StreamStep Reply) → (perform_write c i given w).outcome.body ≡ body_of (perform_write c i given w).outcome.header given
  unfolding perform_step
  body-performed (Err _) = refl
  body-performed (Ok k) = refl

  -- the rule by its tests: time and handle
  abbrev rule : Bool → Bool → Effect
  rule x y = cond x (refuse c reply.Time) (cond y performed (refuse c reply.NotHeld))

  -- the rule's body is what its header counts of the bytes given
  body_is : (step c (write now i given)).outcome.body ≡ body_of (step c (write now i given)).outcome.header given
  unfolding step
  body_is = rw (write-performs c i given) (go (ltb last_time now) (entry c.slots i).held)
    where
      go : (x y : Bool) → (rule x y).outcome.body ≡ body_of (rule x y).outcome.header given
      go true y = refl
      go false true = body-performed (on_write c.ended (record { 0 = i }) (entry c.slots i).stream (length given) c.config.split)
      go false false = refl

-- ---- the promise

module _ (sized : Bool) (c : Connection) (t : List ℕ) (now i : ℕ) (given : List ℕ) (d : Done) (t' u u' : List ℕ) where
  -- what is promised of the step, header and all, says the body too
  pub with-body : ((l p : List ℕ) → Promised sized c t l p (write now i given) d t' l p) → Gives d u u' → Writes sized c t now i given d t' u u'
  with-body promise gives =
      (promise, (gives, λ l p s v. body_is (abs_of c t l p) now i given ∙ sym (ap (λ h. body_of h given) ((promise l p).steps s v).says.sent)))

  -- a write to a held handle, by what was decided of it
  pub write-promised : (row : Row) → handle_of sized c.memory.slots t i now ≡ Ok row
      → (w : Result StreamStep Reply) → on_write c.ended (record { 0 = i }) row.stream (length given) c.config.split ≡ w
      → (Holds c t i row → ((l p : List ℕ) → Handles (λ x. perform_write x i given w) c t l p d t' l p) × Gives d u u')
      → Writes sized c t now i given d t' u u'
  unfolding step
  write-promised row e w wrote writes =
      let h = handle_holds c t sized i now row e in
      with-body (λ l p.
      let a = abs_of c t l p in
      let o = handle-held c t l p sized (write now i given) now i (write_rules a i (entry a.slots i) given) row e in
      promised c t l p sized (write now i given) o.0 (λ x. perform_write x i given w) d t' l p
      (λ v.
      o.2 v ∙ write-performs a i given
      ∙ ap (λ (x : Entry). perform_write a i given (on_write c.ended (record { 0 = i }) x.stream (length given) c.config.split)) (held-entry c t l p i row h v)
      ∙ ap (λ (x : Result StreamStep Reply). perform_write a i given x) wrote)
      ((writes h).0 l p))
      (writes h).1
