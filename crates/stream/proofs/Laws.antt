-- What each rule leaves in a stream's id, windows and maximum. Assumes nothing.
use Rattle.std.proofs.Common.{Option, Some, None, ◌≡◌, refl, Bool, true, false, cond, ℕ, ◌+◌, ◌-◌, ◌<◌, eqb, eqb-true, arith}
use borrow.Author.Tests.{eqb-false}
use Rattle.frame.specs.Header.{data_header, window_update_header}
use Rattle.frame.specs.declared.header.Credit.{Credit}
use Rattle.frame.specs.declared.header.Header.{Header}
use Rattle.frame.specs.declared.header.StreamId.{StreamId}
use Rattle.flow_control.specs.Windows.{next_window_update, with_send}
use Rattle.flow_control.specs.declared.Conditions.{Conditions}
use Rattle.flow_control.proofs.Laws.{Steps, credit_of, credited, steps, still}
use Rattle.stream.specs.States.{can_read, can_write, acknowledge}
use Rattle.stream.specs.Streams.{with_waits}
use Rattle.stream.specs.Streams.{update_frame, step_taken, send_window_update}
use Rattle.stream.specs.Streams.{write_count, write, close_in, close, add_flag, owes_ack}
use Rattle.flow_control.specs.declared.Due.{Due}
use Rattle.stream.specs.declared.State.{State}
use Rattle.stream.specs.declared.State.TheVariants.{Open, SendClosed, RecvClosed, Closed}
use Rattle.stream.specs.declared.Flag.{Flag}
use Rattle.stream.specs.declared.Flag.TheVariants as owed
use Rattle.stream.specs.declared.Stream.{Stream}
use Rattle.stream.specs.declared.Updated.{Updated}
use Rattle.stream.specs.declared.Written.TheVariants as written

-- ---- read

-- the bytes that a frame grants
abbrev pub credit_sent : Option Header → ℕ
credit_sent None = 0
credit_sent (Some h) = h.length.0

flagged-credit : (f : Flag) (id : StreamId) (c : Credit) → (add_flag f (window_update_header id c)).length.0 ≡ c.0
flagged-credit owed.None id c = refl
flagged-credit owed.Syn id c = refl
flagged-credit owed.Ack id c = refl

frame_credit : (s : Stream) (u : Option Due) → credit_sent (update_frame s u) ≡ credit_of u
frame_credit s None = refl
frame_credit s (Some d) = flagged-credit s.flag s.id d.credit

-- all but the flag owed and the windows stays, and the laws of the window step hold of the stream's windows
pub record Kept (s : Stream) (c : Conditions) (u : Updated) : Type 0 where
  pub same_id : u.stream.id ≡ s.id
  pub same-state : u.stream.state ≡ s.state
  pub same-reader : u.stream.reader ≡ s.reader
  pub same_writer : u.stream.writer ≡ s.writer
  pub stepped : Steps s.flow c u.stream.flow u.growth

module _ (s : Stream) (c : Conditions) where
  abbrev outcome : Bool → Updated
  outcome b =
      cond b
      (step_taken s (next_window_update s.flow c))
      (record { stream = s; growth = c.growth; step = None; sent = None })

  abbrev taken : Updated
  taken = send_window_update s c.unread c.time c.round_trip c.limit c.max_num_streams c.growth

  outcomes : (b : Bool) → Kept s c (outcome b)
  outcomes true = record { same_id = refl; same-state = refl; same-reader = refl; same_writer = refl; stepped = steps s.flow c }
  outcomes false = record { same_id = refl; same-state = refl; same-reader = refl; same_writer = refl; stepped = still s.flow c }

  pub updated : Kept s c taken
  updated = outcomes (can_read s.state)

  credits : (b : Bool) → (outcome b).stream.flow.receive_window ≡ s.flow.receive_window + credit_sent (outcome b).sent
  credits true = omega (arith, frame_credit s (next_window_update s.flow c).granted.update, credited s.flow c)
  credits false = omega arith

  -- the receive window rises by what the frame that is sent grants
  pub updated-credit : taken.stream.flow.receive_window ≡ s.flow.receive_window + credit_sent taken.sent
  updated-credit = credits (can_read s.state)

-- ---- write

-- the stream after a Data frame of n bytes
abbrev pub frame_taken : Stream → ℕ → Stream
frame_taken s n = record {
  id = s.id;
  flag = owed.None;
  state = cond (owes_ack s.flag) (acknowledge s.state) s.state;
  reader = s.reader;
  writer = s.writer;
  flow = with_send s.flow (s.flow.send_window - n);
}

either_frame :
    (b d : Bool) (w s t : Stream) (h k : Header) →
    cond b (cond d (written.Wait w) (written.Frame s h)) written.Closed ≡ written.Frame t k →
    (b ≡ true) × (d ≡ false) × (t ≡ s) × (k ≡ h)
either_frame true true w s t h k e = (cc, cc, cc, cc)
either_frame true false w s t h k e = (refl, refl, cc, cc)
either_frame false d w s t h k e = (cc, cc, cc, cc)

either_wait :
    (b d : Bool) (w t s : Stream) (h : Header) →
    cond b (cond d (written.Wait w) (written.Frame s h)) written.Closed ≡ written.Wait t →
    (b ≡ true) × (d ≡ true) × (t ≡ w)
either_wait true true w t s h e = (refl, refl, cc)
either_wait true false w t s h e = (cc, cc, cc)
either_wait false d w t s h e = (cc, cc, cc)

module _ (s : Stream) (given split : ℕ) where
  abbrev sent : Header
  sent = add_flag s.flag (data_header s.id (record { 0 = write_count s given split }))

  abbrev after : Stream
  after = frame_taken s (write_count s given split)

  abbrev shut : Bool
  shut = eqb s.flow.send_window 0

  abbrev waits : Stream
  waits = with_waits s s.reader true

  -- a frame goes out where writing is open and the send window is, and takes its bytes from the send window alone
  pub write-frame :
      (t : Stream) (h : Header) → write s given split ≡ written.Frame t h →
      (can_write s.state ≡ true) × (0 < s.flow.send_window) × (t ≡ after) × (h ≡ sent)
  write-frame t h e =
      let r = either_frame (can_write s.state) shut waits after t sent h e in
      (r.0, omega (arith, eqb-false s.flow.send_window 0 r.1), r.2, r.3)

  pub write-wait :
      (t : Stream) → write s given split ≡ written.Wait t →
      (can_write s.state ≡ true) × (s.flow.send_window ≡ 0) × (t ≡ waits)
  write-wait t e =
      let r = either_wait (can_write s.state) shut waits t after sent e in
      (r.0, eqb-true _ _ r.1, r.2)

-- ---- close

-- id and windows stay
abbrev pub Same : Stream → Stream → Type 0
Same s t = (t.id ≡ s.id) × (t.flow ≡ s.flow)

closed_same : (t : State) (s : Stream) → Same s (close_in t s).stream
closed_same (Open a) s = (refl, refl)
closed_same SendClosed s = (refl, refl)
closed_same RecvClosed s = (refl, refl)
closed_same Closed s = (refl, refl)

pub close_same : (s : Stream) → Same s (close s).stream
close_same s = closed_same s.state s
