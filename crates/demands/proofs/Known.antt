-- Frames for a known stream, and those that do nothing or break the protocol, keep the invariant. Assumes nothing.
use Rattle.std.proofs.Common.{Option, Some, None, ◌≡◌, refl, sym, ap, ◌∙◌, inl, Bool, true, false, cond, not, List, [], ◌++◌, append-nil, ℕ, ◌+◌, ◌-◌, ◌≤◌, arith, le_of_eq, length, length-append, get_or-set_other, ltb, leb, leb-true, ltb-false}
use borrow.Author.Tests.{not-false}
use Rattle.frame.specs.Header.{contains, fin, rst, protocol_error}
use Rattle.frame.specs.declared.header.Header.{Header}
use Rattle.frame.specs.declared.header.Credit.{Credit}
use Rattle.frame.specs.declared.header.Tag.{Tag}
use Rattle.frame.specs.declared.header.Tag.TheVariants as tag
use Rattle.flow_control.specs.Windows.{top, with_receive, with_send}
use Rattle.flow_control.specs.declared.FlowController.{FlowController}
use Rattle.stream.specs.States.{is_closed}
use Rattle.stream.specs.Streams.{data_taken, update_taken, received, invalid}
use Rattle.stream.specs.declared.State.{State}
use Rattle.stream.specs.declared.State.TheVariants.{Open, SendClosed, RecvClosed, Closed}
use Rattle.stream.specs.declared.Stream.{Stream}
use Rattle.stream.specs.declared.StreamWakes.{StreamWakes}
use Rattle.rules.specs.declared.Reply.TheVariants as reply
use Rattle.rules.specs.Lists.{Place, at, nowhere}
use Rattle.rules.specs.State.{Entry, vacant, entry, room, with_slot}
use Rattle.rules.specs.Ending.{Effect}
use Rattle.rules.specs.Frames.{Acked, no_action, go_away, on_reset, reset_entry, taken_entry, take_at, known_data, known_update}
use Rattle.demands.specs.History.{Event, nothing, tells, brought, by_tag, put}
use Rattle.rules.proofs.Lists.{split}
use Rattle.demands.proofs.Lists.{true-not-false}
use Rattle.demands.proofs.Invariant.{Flows, Good, Stays, held_good, stays}
use Rattle.demands.proofs.Sound.{Sound, Beside, bytes_of, left, bytes-put, bytes_same, same_put, refused, done}
use Rattle.demands.proofs.Acks.{Acks, is_listed}
use Rattle.rules.specs.declared.Slot.{Slot}

-- ---- small laws

closed-state : (s : State) → is_closed s ≡ true → s ≡ Closed
closed-state (Open a) e = true-not-false e refl
closed-state SendClosed e = true-not-false e refl
closed-state RecvClosed e = true-not-false e refl
closed-state Closed e = refl

-- a known stream that leaves the table with a FIN is Closed
leaves_closed : (b l : Bool) (s : State) → l ≡ true → cond b (not (is_closed s)) l ≡ false → s ≡ Closed
leaves_closed true l s t e = closed-state s (not-false (is_closed s) e)
leaves_closed false l s t e = true-not-false t e

tells_none : (w : Option Slot) (body : List ℕ) (e : Event) → tells w None body e ≡ e
tells_none (Some i) body e = refl
tells_none None body e = refl

flows_received : (f : FlowController) (n m : ℕ) → m ≤ f.receive_window → Flows f n → Flows (with_receive f (f.receive_window - m)) (n + m)
flows_received f n m h g = record { low = g.low; high = g.high; fits = omega (arith, g.fits); sends = g.sends }

flows_more : (f : FlowController) (n k : ℕ) → k ≤ top → Flows f n → Flows (with_send f k) (n + 0)
flows_more f n k h g = record { low = g.low; high = g.high; fits = omega (arith, g.fits); sends = h }

-- ---- the rules

module _ (h : Header) (body : List ℕ) (a : Acked) where
  abbrev pub Keeps : Place → Tag → Effect → Type 0
  Keeps place t r = Sound a.before (λ j. place ≡ at j) (by_tag t h body place r.outcome) r

  pub idle : (place : Place) → Acks a h.stream_id place → (t : Tag) → brought t h body place ≡ nothing → Keeps place t (no_action a)
  idle place k t e =
      done a.before _ _ _ a.conn refl refl k.inv k.config (le_of_eq (sym k.next)) (inl k.growth) (λ j. rw e (k.bytes j)) (λ q j h. k.beside j)

  pub away : (place : Place) → Acks a h.stream_id place → (t : Tag) (code : ℕ) → Keeps place t (go_away a code)
  away place k t code =
      done a.before _ _ _ a.conn refl refl k.inv k.config (le_of_eq (sym k.next)) (inl k.growth) k.bytes (λ q j h. k.beside j)

  -- a slot that was found is the only one to change
  set-beside : (i : ℕ) (x : Entry) → Acks a h.stream_id (at i) → Beside a.before (λ j. at i ≡ at j) (with_slot a.conn i x)
  set-beside i x k q j held n = get_or-set_other a.conn.slots i j x vacant (λ e. n (ap at (sym e))) ∙ k.beside j n

  -- RST
  reset-stays : (i : ℕ) → Acks a h.stream_id (at i) → Stays a.conn i (reset_entry (entry a.conn.slots i)) a.conn.growth
  reset-stays i k =
      let e = entry a.conn.slots i in
      let g = k.inv.good i in
      let held = g.holds (is_listed h.stream_id e k.located.1) in
      record {
        held = held;
        id = refl;
        good = held_good (reset_entry e) held (λ n. refl) g.flows;
        lists = λ m. true-not-false m refl;
        figure = refl;
        bounded = k.inv.bounded;
        room = omega (arith, k.inv.room);
      }

  pub resets : (place : Place) → Acks a h.stream_id place → (t : Tag) → brought t h body place ≡ nothing → Keeps place t (on_reset a place)
  unfolding on_reset
  resets nowhere k t e = idle nowhere k t e
  resets (at i) k t e =
      let x = entry a.conn.slots i in
      done a.before _ _ _ _ refl refl (stays a.conn k.inv i (reset_entry x) a.conn.growth (reset-stays i k)) k.config (le_of_eq (sym k.next)) (inl k.growth)
      (λ j. rw (tells_none _ body (brought t h body (at i)), e) (bytes_same a.conn.slots i (reset_entry x) k.located.0 refl j ∙ k.bytes j))
      (set-beside i (reset_entry x) k)

  -- a known stream takes a frame with so many bytes
  module _ (i : ℕ) (k : Acks a h.stream_id (at i)) (s : Stream) (more : List ℕ) where
    abbrev old : Entry
    old = entry a.conn.slots i

    abbrev taken : Entry
    taken = taken_entry old s (contains h.flags fin) more

    abbrev Takes : Type 0
    Takes =
        (s.id ≡ old.stream.id) × (s.flow.max_receive_window ≡ old.stream.flow.max_receive_window)
        × Flows s.flow (length old.bytes + length more)

    old-held : old.held ≡ true
    old-held = (k.inv.good i).holds (is_listed h.stream_id old k.located.1)

    taken-good : Takes → Good taken
    taken-good t =
        held_good taken old-held
        (leaves_closed (contains h.flags fin) old.listed s.state (is_listed h.stream_id old k.located.1))
        (rw (length-append old.bytes more) t.2)

    taken-stays : Takes → ltb (room a.conn) (length more) ≡ false → Stays a.conn i taken a.conn.growth
    taken-stays t r = record {
      held = old-held;
      id = t.0;
      good = taken-good t;
      lists = λ m. is_listed h.stream_id old k.located.1;
      figure = rw t.1;
      bounded = k.inv.bounded;
      room = rw (length-append old.bytes more) (omega (arith, k.inv.room, ltb-false (room a.conn) (length more) r));
    }

    takes :
        (t : Tag) (w : StreamWakes) → Takes →
        ((j : ℕ) → put i (old.bytes ++ more) (bytes_of a.conn.slots) j ≡ left (brought t h body (at i)) (bytes_of a.before.slots) j) →
        Keeps (at i) t (take_at i a h more (received s w))
    unfolding take_at
    takes t w f b =
        split (Keeps (at i) t) (ltb (room a.conn) (length more))
        (λ r. refused a.before _ _ k.before reply.NoRoom (λ j. refl))
        (λ r.
        done a.before _ _ _ _ refl refl (stays a.conn k.inv i taken a.conn.growth (taken-stays f r)) k.config (le_of_eq (sym k.next)) (inl k.growth)
        (λ j. rw (tells_none _ body (brought t h body (at i))) (bytes-put a.conn.slots i taken k.located.0 j ∙ b j))
        (set-beside i taken k))

  -- an answer to a frame that a stream takes or that breaks the protocol
  answers : (i : ℕ) → Acks a h.stream_id (at i) → (t : Tag) (more : List ℕ) (b : Bool) (s : Stream) (w : StreamWakes) → (b ≡ true → Keeps (at i) t (take_at i a h more (received s w))) → Keeps (at i) t (take_at i a h more (cond b (received s w) invalid))
  unfolding take_at
  answers i k t more true s w f = f refl
  answers i k t more false s w f = away (at i) k t protocol_error

  pub known-data : contains h.flags rst ≡ false → (place : Place) → Acks a h.stream_id place → Keeps place tag.Data (known_data a h body place)
  unfolding known_data
  known-data n nowhere k = idle nowhere k tag.Data (rw n)
  known-data n (at i) k =
      let e = entry a.conn.slots i in
      answers i k tag.Data body (leb (length body) e.stream.flow.receive_window) (data_taken e.stream (length body) (contains h.flags fin)) _
      (λ t.
      takes i k (data_taken e.stream (length body) (contains h.flags fin)) body tag.Data _
      (refl, refl, flows_received e.stream.flow (length e.bytes) (length body) (leb-true _ _ t) (k.inv.good i).flows)
      (λ j. rw (n, k.bytes i, k.bytes j)))

  pub known-update : (place : Place) → Acks a h.stream_id place → Keeps place tag.WindowUpdate (known_update a h place)
  unfolding known_update
  known-update nowhere k = idle nowhere k tag.WindowUpdate refl
  known-update (at i) k =
      let e = entry a.conn.slots i in
      let credit : Credit = record { 0 = h.length.0 } in
      answers i k tag.WindowUpdate [] (leb (e.stream.flow.send_window + h.length.0) top) (update_taken e.stream credit (contains h.flags fin)) _
      (λ t.
      takes i k (update_taken e.stream credit (contains h.flags fin)) [] tag.WindowUpdate _
      (refl, refl, flows_more e.stream.flow (length e.bytes) (e.stream.flow.send_window + h.length.0) (leb-true _ _ t) (k.inv.good i).flows)
      (λ j. rw (append-nil e.bytes) (same_put (bytes_of a.conn.slots) i j ∙ k.bytes j)))
