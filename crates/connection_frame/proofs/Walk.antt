-- Which actions a frame's handler can give: a property of each kind is a property of the handler's. Assumes nothing.
use Rattle.std.proofs.Common.{Option, Some, None, Result, ◌≡◌, refl, Bool, true, false, ℕ, ◌+◌, eqb, ltb, leb}
use Rattle.frame.specs.Header.{contains, syn, fin, rst, initial_window}
use Rattle.frame.specs.declared.header.Header.{Header}
use Rattle.flow_control.specs.Windows.{top}
use Rattle.stream.specs.Streams.{new_inbound, closed, received, invalid}
use Rattle.stream.specs.declared.Stream.{Stream}
use Rattle.stream.specs.declared.StreamWakes.{StreamWakes}
use Rattle.rules.specs.Frames.{body_length}
use Rattle.rules.specs.Replies.{may_give}
use Rattle.rules.specs.State.{is_remote}
use Rattle.rules.specs.declared.Reply.{Reply}
use Rattle.rules.specs.declared.Slot.{Slot}
use Rattle.rules.proofs.Lists.{split}
use Rattle.handlers.specs.Actions.{is_update, receive, on_reset, new_action, made, first, on_syn, take, on_known, stream_action, known}
use Rattle.handlers.specs.declared.Action.{Action}
use Rattle.handlers.specs.declared.Action.TheVariants as action
use Rattle.handlers.specs.declared.Answer.{Answer}
use Rattle.handlers.specs.declared.Known.{Known}
use Rattle.handlers.specs.declared.Limits.{Limits}
use Rattle.flow_control.specs.declared.InvalidWindowUpdate.{InvalidWindowUpdate}
use Rattle.stream.specs.declared.Woken.{Woken}

-- the frame's body is not longer than the room
abbrev pub Roomy : Limits → Header → Type 0
Roomy l h = ltb l.room (body_length h.tag h.length.0) ≡ false

-- Q holds of every action that the frame can get
pub record Closed (Q : Action → Type 0) (l : Limits) (k : Option Known) (v : Option Slot) (h : Header) : Type 0 where
  pub refuses : (r : Reply) → Q (action.Refuse r)
  pub answers : (o : Answer) → may_give o.reply ≡ true → Q (action.Answer o)
  pub stores : (i : Slot) (s t : Stream) (b : Bool) (o : Answer) → k ≡ known i s → t.id ≡ s.id → may_give o.reply ≡ true → Q (action.Store i t b o)
  pub queues : (i : Slot) (s t : Stream) (b : Bool) (o : Answer) → k ≡ known i s → t.id ≡ s.id → Roomy l h → may_give o.reply ≡ true → Q (action.Queue i t b o)
  pub makes : (i : Slot) (s : Stream) (o : Answer) → v ≡ Some i → k ≡ None → is_remote l.mode h.stream_id ≡ true → s.id ≡ h.stream_id → Roomy l h → may_give o.reply ≡ true → Q (action.New i s o)

-- a stream that takes a frame keeps its id
receives : (h : Header) (s : Stream) (P : Result Woken InvalidWindowUpdate → Type 0) → P invalid → ((t : Stream) (w : StreamWakes) → t.id ≡ s.id → P (received t w)) → P (receive s h)
unfolding receive
receives h s P refused taken =
    split P (is_update h.tag)
    (λ u. split P (leb (s.flow.send_window + h.length.0) top) (λ b. taken _ _ refl) (λ b. refused))
    (λ u. split P (leb h.length.0 s.flow.receive_window) (λ b. taken _ _ refl) (λ b. refused))

module _ (Q : Action → Type 0) (l : Limits) (woke : Bool) (k : Option Known) (v : Option Slot) (h : Header) (now : ℕ) (q : Closed Q l k v h) where
  abbrev n : ℕ
  n = body_length h.tag h.length.0

  resets : (j : Option Known) → k ≡ j → Q (on_reset woke j)
  unfolding on_reset
  resets (Some x) e = q.stores x.slot x.stream (closed x.stream) false _ e refl refl
  resets None e = q.answers _ refl

  news : (u : Option Slot) → v ≡ u → (s : Stream) → k ≡ None → is_remote l.mode h.stream_id ≡ true → s.id ≡ h.stream_id → Q (new_action u l.room woke s n)
  news None e s g r d = q.refuses _
  news (Some i) e s g r d = split Q (ltb l.room n) (λ b. q.refuses _) (λ b. q.makes i s _ e g r d b refl)

  firsts : k ≡ None → is_remote l.mode h.stream_id ≡ true → Q (first l.room woke v h now)
  firsts g r =
      receives h (new_inbound h.stream_id initial_window now) (λ x. Q (made l.room woke v n x)) (q.answers _ refl) (λ s w d. news v refl s g r d)

  syns : (j : Option Known) → k ≡ j → Q (on_syn l woke j v h now)
  unfolding on_syn
  syns (Some x) e =
      split Q (is_remote l.mode h.stream_id) (λ b. q.stores x.slot x.stream x.stream true _ e refl refl) (λ b. q.stores x.slot x.stream x.stream true _ e refl refl)
  syns None e =
      split Q (is_remote l.mode h.stream_id)
      (λ b. split Q (leb l.max_num_streams l.listed) (λ m. q.answers _ refl) (λ m. firsts e b))
      (λ b. q.answers _ refl)

  knows : (j : Option Known) → k ≡ j → Q (on_known l.room woke j h)
  unfolding on_known
  knows None e = q.answers _ refl
  knows (Some x) e =
      receives h x.stream (λ r. Q (take x.slot x.stream l.room woke (contains h.flags fin) n r)) (q.stores x.slot x.stream x.stream true _ e refl refl)
      (λ t w d. split Q (ltb l.room n) (λ b. q.refuses _) (λ b. split Q (eqb n 0) (λ z. q.stores x.slot x.stream t _ _ e d refl) (λ z. q.queues x.slot x.stream t _ _ e d b refl)))

  pub walk : Q (stream_action l woke k v h now)
  unfolding stream_action
  walk =
      split Q (contains h.flags rst) (λ b. resets k refl)
      (λ b. split Q (contains h.flags syn) (λ s. syns k refl) (λ s. knows k refl))
