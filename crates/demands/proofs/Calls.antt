-- Reads, writes and closes keep the invariant. Assumes nothing.
use Rattle.std.proofs.Common.{◌≡◌, refl, sym, ◌∙◌, inl, inr, Bool, true, false, cond, List, ℕ, ◌-◌, ◌≤◌, min, arith, le_refl, length, set, drop, length-drop, length-take-le, get_or-set_other, eqb, eqb-true}
use Rattle.flow_control.specs.Windows.{top, with_send}
use Rattle.flow_control.specs.declared.FlowController.{FlowController}
use Rattle.stream.specs.States.{can_read, can_write, acknowledge}
use Rattle.stream.specs.Streams as stream
use Rattle.stream.specs.declared.State.{State}
use Rattle.stream.specs.declared.State.TheVariants.{Open, SendClosed, RecvClosed, Closed}
use Rattle.stream.specs.declared.Stream.{Stream}
use Rattle.stream.specs.declared.Updated.{Updated}
use Rattle.stream.specs.declared.ReadEnd.TheVariants as reading
use Rattle.stream.specs.declared.Written.TheVariants as written
use Rattle.rules.specs.declared.Reply.TheVariants as reply
use Rattle.rules.specs.State.{Entry, Conn, vacant, entry, with_slot, with_stream, with_growth}
use Rattle.rules.specs.Ending.{Effect}
use Rattle.rules.specs.Calls.{read_entry, read_rest, read_with, window_step, read_rules, write_with, write_rules, close_rules}
use Rattle.demands.specs.History.{nothing, gave_out}
use Rattle.rules.proofs.Lists.{split}
use Rattle.demands.proofs.Invariant.{Flows, Inv, Stays, held_good, in_range, stays}
use Rattle.demands.proofs.Sound.{Sound, bytes_of, bytes-put, bytes_same, same_put, refused, done}
use Rattle.demands.proofs.Windows.{Grows, window}

module _ (c : Conn) (v : Inv c) (i : ℕ) (held : (entry c.slots i).held ≡ true) where
  abbrev old : Entry
  old = entry c.slots i

  -- ---- a handle whose stream changes

  -- the stream keeps its id, and stays Closed where it was
  abbrev Like : Stream → Type 0
  Like s = (s.id ≡ old.stream.id) × (old.stream.state ≡ Closed → s.state ≡ Closed)

  -- the entry with the stream s, of which n bytes are read, and the growth figure g
  module _ (s : Stream) (like : Like s) (n g : ℕ)
      (grows : Grows old.stream.flow (length old.bytes) c.growth c.config.limit c.config.max_num_streams s.flow g) where
    dropped-flows : Flows s.flow (length (drop n old.bytes))
    dropped-flows = record {
      low = grows.flows.low;
      high = grows.flows.high;
      fits = rw (length-drop n old.bytes) (omega (arith, grows.flows.fits));
      sends = grows.flows.sends;
    }

    read_stays : Stays c i (read_entry old s n) g
    read_stays = record {
      held = held;
      id = like.0;
      good = held_good (read_entry old s n) held (λ l. like.1 ((v.good i).closes held l)) dropped-flows;
      lists = λ l. l;
      figure = omega (arith, grows.figure, grows.flows.low, (v.good i).flows.low);
      bounded = grows.bounded;
      room = rw (length-drop n old.bytes) (omega (arith, v.room));
    }

    read_kept : Inv (with_slot (with_growth c g) i (read_entry old s n))
    read_kept = stays c v i (read_entry old s n) g read_stays

  same-windows : (f : FlowController) → f.max_receive_window ≡ old.stream.flow.max_receive_window → f.receive_window ≡ old.stream.flow.receive_window → f.send_window ≤ top →
      Grows old.stream.flow (length old.bytes) c.growth c.config.limit c.config.max_num_streams f c.growth
  same-windows f m r t = record {
    flows = record { low = rw m (v.good i).flows.low; high = rw m (v.good i).flows.high; fits = rw (m, r) (v.good i).flows.fits; sends = t };
    figure = rw m;
    bounded = v.bounded;
  }

  -- no other slot changes
  others : (x : Entry) → c.ended ≡ c.ended → (j : ℕ) → (entry c.slots j).held ≡ true → (i ≡ j → ⊥) → entry (set c.slots i x) j ≡ entry c.slots j
  others x q j h n = get_or-set_other c.slots i j x vacant (λ e. n (sym e))

  abbrev Quiet : Effect → Type 0
  Quiet r = Sound c (λ j. i ≡ j) nothing r

  -- ---- read

  abbrev ReadOk : Effect → Type 0
  ReadOk r = Sound c (λ j. i ≡ j) (gave_out i r.outcome.bytes) r

  -- what a window step leaves of the stream
  abbrev Steps : Updated → Type 0
  Steps u =
      Like u.stream × Grows old.stream.flow (length old.bytes) c.growth c.config.limit c.config.max_num_streams u.stream.flow u.growth

  steps : (now : ℕ) → Steps (window_step c old now)
  unfolding window_step
  steps now =
      split Steps (can_read old.stream.state)
      (λ r. (
        (refl, λ e. e),
        window old.stream.flow
            (record {
              unread = length old.bytes;
              time = now;
              round_trip = c.pings.round_trip;
              limit = c.config.limit;
              max_num_streams = c.config.max_num_streams;
              growth = c.growth;
            })
            (v.good i).flows v.bounded,
      ))
      (λ r. ((refl, λ e. e), same-windows old.stream.flow refl refl (v.good i).flows.sends))

  read_done : (u : Updated) → Steps u → (n : ℕ) → n ≤ length old.bytes → ReadOk (read_rest c i old u n (reading.Done u.stream))
  unfolding read_rest
  read_done u k n l =
      done c _ _ _ _ refl refl (read_kept u.stream k.0 n u.growth k.1) refl (le_refl _) (inr refl)
      (λ j. rw (length-take-le n old.bytes l) (bytes-put c.slots i (read_entry old u.stream n) (in_range c.slots i held) j))
      (others (read_entry old u.stream n))

  read-wait : (u : Updated) → Steps u → (n : ℕ) → n ≡ 0 → (w : Bool) → ReadOk (read_rest c i old u n (reading.Wait (stream.with_waits u.stream true w)))
  unfolding read_rest
  read-wait u k n z w =
      done c _ _ _ _ refl refl (read_kept (stream.with_waits u.stream true w) k.0 n u.growth k.1) refl (le_refl _) (inr refl)
      (λ j. bytes-put c.slots i (read_entry old (stream.with_waits u.stream true w) n) (in_range c.slots i held) j ∙ rw z)
      (others (read_entry old (stream.with_waits u.stream true w) n))

  -- the three ways in which a read ends
  read-ends : (u : Updated) → Steps u → (n : ℕ) → n ≤ length old.bytes → (a b : Bool) → (a ≡ true → n ≡ 0) →
      ReadOk (read_rest c i old u n (cond a (cond b (reading.Wait (stream.with_waits u.stream true u.stream.writer)) (reading.Done u.stream)) (reading.Done u.stream)))
  read-ends u k n l true true z = read-wait u k n (z refl) u.stream.writer
  read-ends u k n l true false z = read_done u k n l
  read-ends u k n l false b z = read_done u k n l

  pub reads : (asked now : ℕ) → ReadOk (read_rules c i old asked now)
  unfolding read_rules read_with
  reads asked now =
      let n = min asked (length old.bytes) in
      let u = window_step c old now in
      split ReadOk (cond c.ended (cond c.config.read_after_close false true) false)
      (λ e. done c _ _ _ _ refl refl v refl (le_refl _) (inl refl) (λ j. sym (same_put (bytes_of c.slots) i j)) (λ q j m n. refl))
      (λ e. read-ends u (steps now) n (omega arith) (eqb n 0) (can_read u.stream.state) (eqb-true n 0))

  -- ---- write and close

  module _ (s : Stream) (like : Like s) (m : s.flow.max_receive_window ≡ old.stream.flow.max_receive_window)
      (r : s.flow.receive_window ≡ old.stream.flow.receive_window) (t : s.flow.send_window ≤ top) where
    stream-kept : Inv (with_slot c i (with_stream old s))
    stream-kept = read_kept s like 0 c.growth (same-windows s.flow m r t)

    stream-bytes : (j : ℕ) → bytes_of (set c.slots i (with_stream old s)) j ≡ bytes_of c.slots j
    stream-bytes = bytes_same c.slots i (with_stream old s) (in_range c.slots i held) refl

  ack-closed : (b : Bool) (s : State) → s ≡ Closed → cond b (acknowledge s) s ≡ Closed
  ack-closed true s e = rw e
  ack-closed false s e = e

  module _ (given : List ℕ) where
    abbrev written-stream : ℕ → Stream
    written-stream n = record {
      id = old.stream.id;
      flag = Rattle.stream.specs.declared.Flag.TheVariants.None;
      state = cond (stream.owes_ack old.stream.flag) (acknowledge old.stream.state) old.stream.state;
      reader = old.stream.reader;
      writer = old.stream.writer;
      flow = with_send old.stream.flow (old.stream.flow.send_window - n);
    }

    write-frame : (n : ℕ) → Quiet (write_with c i old given (stream.write_taken old.stream n))
    unfolding write_with
    write-frame n =
        let like : Like (written-stream n) = (refl, ack-closed (stream.owes_ack old.stream.flag) old.stream.state) in
        let less : old.stream.flow.send_window - n ≤ top = omega (arith, (v.good i).flows.sends) in
        done c _ _ _ _ refl refl (stream-kept (written-stream n) like refl refl less) refl (le_refl _) (inl refl) (stream-bytes (written-stream n) like refl refl less)
        (others (with_stream old (written-stream n)))

    write-wait : Quiet (write_with c i old given (written.Wait (stream.with_waits old.stream old.stream.reader true)))
    unfolding write_with
    write-wait =
        let s = stream.with_waits old.stream old.stream.reader true in
        let like : Like s = (refl, λ e. e) in
        done c _ _ _ _ refl refl (stream-kept s like refl refl (v.good i).flows.sends) refl (le_refl _) (inl refl) (stream-bytes s like refl refl (v.good i).flows.sends)
        (others (with_stream old s))

    write-closed : Quiet (write_with c i old given written.Closed)
    unfolding write_with
    write-closed = refused c _ _ v reply.WriteClosed (λ j. refl)

    pub writes : Quiet (write_rules c i old given)
    unfolding write_rules
    writes =
        split Quiet c.ended (λ e. refused c _ _ v reply.WriteClosed (λ j. refl))
        (λ e.
        split (λ w. Quiet (write_with c i old given w)) (can_write old.stream.state)
        (λ a.
        split (λ w. Quiet (write_with c i old given w)) (eqb old.stream.flow.send_window 0)
        (λ z. write-wait)
        (λ z. write-frame (stream.write_count old.stream (length given) c.config.split)))
        (λ a. write-closed))

  -- closing keeps the id and the windows, and Closed stays
  abbrev CloseOk : State → Type 0
  CloseOk t = let s = (stream.close_in t old.stream).stream in Like s × (s.flow ≡ old.stream.flow)

  close-like : (t : State) → CloseOk t
  close-like (Open a) = ((refl, λ e. rw e), refl)
  close-like SendClosed = ((refl, λ e. rw e), refl)
  close-like RecvClosed = ((refl, λ e. rw e), refl)
  close-like Closed = ((refl, λ e. e), refl)

  pub closes : Quiet (close_rules c i old)
  unfolding close_rules
  closes =
      let s = (stream.close old.stream).stream in
      let k = close-like old.stream.state in
      let m : s.flow.max_receive_window ≡ old.stream.flow.max_receive_window = rw k.1 in
      let r : s.flow.receive_window ≡ old.stream.flow.receive_window = rw k.1 in
      let t : s.flow.send_window ≤ top = rw k.1 (v.good i).flows.sends in
      done c _ _ _ _ refl refl (stream-kept s k.0 m r t) refl (le_refl _) (inl refl) (stream-bytes s k.0 m r t)
      (others (with_stream old s))
