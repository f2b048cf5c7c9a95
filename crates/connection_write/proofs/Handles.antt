-- What a tick, and a step of a handle's stream, leave of a valid connection. Assumes nothing.
use Rattle.std.proofs.Common.{◌≡◌, refl, sym, ap, ◌∙◌, Bool, List, [], ℕ, set, Option, Some, None, Ok}
use Rattle.rtt.specs.Pings.{next_ping}
use Rattle.rules.specs.Calls.{close_rules, tick_rules}
use Rattle.rules.specs.State.{Entry, entry, with_stream}
use Rattle.rules.specs.Step.{step, close}
use Rattle.rules.specs.declared.Reply.TheVariants as reply
use Rattle.rtt.specs.declared.Rtt.{Rtt}
use Rattle.table.specs.declared.row.Row.{Row}
use Rattle.handlers.specs.Locals.{perform_step, on_close, ping_sent, on_tick}
use Rattle.handlers.specs.declared.PingStep.{PingStep}
use Rattle.handlers.specs.declared.calls.StreamStep.{StreamStep}
use Rattle.handlers.proofs.Locals.{close-performs, tick_performs}
use Rattle.memory.specs.Moves.{held, Stores}
use Rattle.memory.specs.Moves as memory
use Rattle.memory.specs.Slots.{slots_of}
use Rattle.memory.specs.declared.Memory.{Memory}
use Rattle.connection.specs.Abstract.{abs_of, Valid}
use Rattle.connection.specs.Parts.{with_memory, answered, pinged, handle_of, Holds}
use Rattle.connection.specs.Promises.{Gives, Follows, Handles, Promised}
use Rattle.connection.specs.declared.Connection.{Connection}
use Rattle.connection.specs.declared.Done.{Done}
use Rattle.connection.proofs.Ids.{below_replaced}
use Rattle.connection.proofs.Moving.{becomes-follows, answer_follows}
use Rattle.connection.proofs.Promises.{acted, promised}
use Rattle.connection.proofs.Tests.{handle-held, handle_holds, held-entry}
use Rattle.frame.specs.declared.header.Header.{Header}

-- ---- tick

tick_done : (r : Rtt) (now : ℕ) → (on_tick r now).answer.reply ≡ reply.Done
unfolding on_tick
tick_done r now = go (next_ping r now).ping
  where
    go : (p : Option Header) → (ping_sent (next_ping r now).rtt p).answer.reply ≡ reply.Done
    go None = refl
    go (Some h) = refl

tick_follows : (c : Connection) (t l p : List ℕ) (now : ℕ) → Valid c t l p
    → Follows c t l p (tick_rules (abs_of c t l p) now) (pinged c (on_tick c.rtt now)) t l p
tick_follows c t l p now v =
    let q = on_tick c.rtt now in
    rw (tick_performs (abs_of c t l p) now) (answer_follows c t l p q.rtt c.open_wait q.answer v)

pub tick_handles : (c : Connection) (t : List ℕ) (now : ℕ) (q : PingStep) → q ≡ on_tick c.rtt now → (l p : List ℕ)
    → Handles (λ x. tick_rules x now) c t l p (pinged c q) t l p
tick_handles c t now q e l p =
    rw e (acted c t l p (λ x. tick_rules x now) (pinged c (on_tick c.rtt now)) t l p (rw (tick_done c.rtt now)) (tick_follows c t l p now))

-- ---- a handle's stream

module _ (c : Connection) (t l p : List ℕ) (i : ℕ) (row : Row) (h : Holds c t i row) where
  abbrev es : List Entry
  es = slots_of c.memory t l p

  -- a stream of the same id is put back
  pub step_follows : (k : StreamStep) (m : Memory) (t' : List ℕ) → k.stream.id ≡ row.stream.id → Stores c.memory t i row k.stream row.listed m t'
      → (body : List ℕ) → Valid c t l p → Follows c t l p (perform_step (abs_of c t l p) i body k) (answered (with_memory c m) k.answer) t' l p
  unfolding perform_step
  step_follows k m t' same stores body v =
      let q = held-entry c t l p i row h v in
      let f : memory.Follows (entry es i) k.stream row.listed =
      record { held = ap (λ (x : Entry). x.held) q; id = same ∙ sym (ap (λ (x : Entry). x.stream.id) q); listed = λ b. ap (λ (x : Entry). x.listed) q ∙ b } in
      let e : with_stream (entry es i) k.stream ≡ held k.stream row.listed (entry es i).bytes =
      λ j. record { held = (q j).held; listed = (q j).listed; stream = k.stream; bytes = (entry es i).bytes } in
      rw e
      (becomes-follows c t l p m (set es i (held k.stream row.listed (entry es i).bytes)) t' l p (stores l p h.loaded v.memory h.below f)
      c.rtt c.ended c.next_id c.open_wait c.growth v.fresh.parity
      (below_replaced c.config.mode c.next_id es i k.stream row.listed (entry es i).bytes f v.fresh.below)
      k.answer _ (record { reply = refl; slot = refl; value = refl; sent = refl; wakes = refl }))

-- a close of a held handle, by its step
pub close_promised : (sized : Bool) (c : Connection) (t : List ℕ) (now i : ℕ) (row : Row) → handle_of sized c.memory.slots t i now ≡ Ok row
    → (d : Done) (t' u u' : List ℕ)
    → (Holds c t i row → ((l p : List ℕ) → Handles (λ x. perform_step x i [] (on_close (record { 0 = i }) row.stream)) c t l p d t' l p) × Gives d u u')
    → ((l p : List ℕ) → Promised sized c t l p (close now i) d t' l p) × Gives d u u'
unfolding step
close_promised sized c t now i row e d t' u u' closes =
    let h = handle_holds c t sized i now row e in (
      λ l p.
          let a = abs_of c t l p in
          let o = handle-held c t l p sized (close now i) now i (close_rules a i (entry a.slots i)) row e in
          promised c t l p sized (close now i) o.0 (λ x. perform_step x i [] (on_close (record { 0 = i }) row.stream)) d t' l p
          (λ v. o.2 v ∙ close-performs a i ∙ ap (λ (x : Entry). perform_step a i [] (on_close (record { 0 = i }) x.stream)) (held-entry c t l p i row h v))
          ((closes h).0 l p),
      (closes h).1,
    )
