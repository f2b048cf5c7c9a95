-- Accounts that balance with the windows, and the calls on handles that keep them so. Assumes nothing.
use Rattle.std.proofs.Common.{Some, Option, None, ◌≡◌, refl, sym, subst, Bool, true, false, cond, List, map, ℕ, ◌+◌, ◌-◌, ◌<◌, min, arith, length, set, length-set, eqb, ltb, leb, eqb-true}
use Rattle.frame.specs.Header.{initial_window, data_header, window_update_header, close_stream}
use Rattle.frame.specs.declared.header.StreamId.{StreamId}
use Rattle.frame.specs.declared.header.Credit.{Credit}
use Rattle.flow_control.specs.Windows.{top, next_window_update, with_send}
use Rattle.flow_control.specs.declared.FlowController.{FlowController}
use Rattle.flow_control.specs.declared.Conditions.{Conditions}
use Rattle.flow_control.proofs.Laws.{credit_of, steps, credited}
use Rattle.stream.specs.States.{can_read, can_write}
use Rattle.stream.specs.Streams as stream
use Rattle.stream.specs.declared.Flag.{Flag}
use Rattle.stream.specs.declared.Flag.TheVariants as owed
use Rattle.stream.specs.declared.State.{State}
use Rattle.stream.specs.declared.State.TheVariants.{Open, SendClosed, RecvClosed, Closed}
use Rattle.stream.specs.declared.Stream.{Stream}
use Rattle.stream.specs.declared.Updated.{Updated}
use Rattle.stream.specs.declared.ReadEnd.TheVariants as reading
use Rattle.rules.specs.Lists.{Place, at, nowhere}
use Rattle.rules.specs.State.{Entry, Conn, vacant, entry, with_growth, is_free, has_id, find, lowest_free, listed_count, unacknowledged}
use Rattle.rules.specs.Ending.{Effect, end_entry}
use Rattle.rules.specs.Calls.{read_rest, read_with, window_step, read_rules, write_with, write_rules, close_rules, open_at, open_rules, growth_of, removed_entry, drop_at, drop_rules}
use Rattle.rules.proofs.Lists.{Says, first_says}
use Rattle.demands.specs.History.{is_done, put}
use Rattle.demands.specs.Ledger.{Account, blank, went_out, opened}
use Rattle.rules.proofs.Lists.{split}
use Rattle.demands.proofs.Lists.{at_set}
use Rattle.demands.proofs.Invariant.{in_range}
use Rattle.demands.proofs.Sound.{put_same, put_other, end_flow, at_end}
use Rattle.demands.proofs.Acks.{Located}
use Rattle.flow_control.specs.declared.Due.{Due}

-- ---- accounts that balance

abbrev pub Balanced : Account → FlowController → Type 0
Balanced a f =
    (initial_window + a.granted ≡ f.receive_window + a.accepted) × (initial_window + a.credited ≡ f.send_window + a.sent)

abbrev pub Balance : (ℕ → Account) → List Entry → Type 0
Balance b es = (j : ℕ) → Balanced (b j) (entry es j).stream.flow

module _ (b : ℕ → Account) (es : List Entry) (h : Balance b es) (i : ℕ) where
  -- a slot changes with its account
  pub both-change : (a : Account) (x : Entry) → i < length es → Balanced a x.stream.flow → Balance (put i a b) (set es i x)
  both-change a x l p =
      at_set (λ j e. Balanced (put i a b j) e.stream.flow) es i x vacant l (rw (put_same i a b) p) (λ j n. rw (put_other i a b j n) (h j))

  -- a slot changes and keeps its windows
  pub slot-changes : (x : Entry) → i < length es → x.stream.flow ≡ (entry es i).stream.flow → Balance b (set es i x)
  slot-changes x l e =
      at_set (λ j y. Balanced (b j) y.stream.flow) es i x vacant l (subst (Balanced (b i)) (sym e) (h i)) (λ j n. h j)

  -- an account changes and still balances
  pub account-changes : (a : Account) → Balanced a (entry es i).stream.flow → Balance (put i a b) es
  account-changes a p j = go (eqb i j) refl
    where
      go : (t : Bool) → eqb i j ≡ t → Balanced (cond t a (b j)) (entry es j).stream.flow
      go true e = subst (λ k. Balanced a (entry es k).stream.flow) (eqb-true i j e) p
      go false e = h j

pub end_balance : (b : ℕ → Account) (es : List Entry) → Balance b es → Balance b (map end_entry es)
end_balance b es h = at_end (λ j e. Balanced (b j) e.stream.flow) es (λ j. subst (Balanced (b j)) (sym (end_flow (entry es j).listed (entry es j).stream)) (h j))

pub blank_balanced : Balanced blank vacant.stream.flow
blank_balanced = (refl, refl)

-- ---- frames that go out

granted_flag : (f : Flag) (id : StreamId) (n : Credit) (a : Account) (x y : FlowController) → Balanced a x →
    y.receive_window ≡ x.receive_window + n.0 → y.send_window ≡ x.send_window →
    Balanced (went_out (Some (stream.add_flag f (window_update_header id n))) a) y
granted_flag owed.None id n a x y h r s = (omega (arith, h.0, r), omega (arith, h.1, s))
granted_flag owed.Syn id n a x y h r s = (omega (arith, h.0, r), omega (arith, h.1, s))
granted_flag owed.Ack id n a x y h r s = (omega (arith, h.0, r), omega (arith, h.1, s))

-- a window update carries what the receive window rises by
updated : (s : Stream) (u : Option Due) (a : Account) (x y : FlowController) → Balanced a x →
    y.receive_window ≡ x.receive_window + credit_of u → y.send_window ≡ x.send_window → Balanced (went_out (stream.update_frame s u) a) y
updated s None a x y h r e = (omega (arith, h.0, r), omega (arith, h.1, e))
updated s (Some d) a x y h r e = granted_flag s.flag s.id d.credit a x y h r e

-- a Data frame carries what the send window falls by
sent_flag : (f : Flag) (id : StreamId) (n : ℕ) (a : Account) (x y : FlowController) → Balanced a x →
    y.receive_window ≡ x.receive_window → y.send_window + n ≡ x.send_window →
    Balanced (went_out (Some (stream.add_flag f (data_header id (record { 0 = n })))) a) y
sent_flag owed.None id n a x y h r s = (omega (arith, h.0, r), omega (arith, h.1, s))
sent_flag owed.Syn id n a x y h r s = (omega (arith, h.0, r), omega (arith, h.1, s))
sent_flag owed.Ack id n a x y h r s = (omega (arith, h.0, r), omega (arith, h.1, s))

-- a FIN carries nothing
fin-sent : (owes : Bool) (id : StreamId) (a : Account) (x : FlowController) → Balanced a x → Balanced (went_out (Some (close_stream id owes)) a) x
fin-sent true id a x h = (omega (arith, h.0), omega (arith, h.1))
fin-sent false id a x h = (omega (arith, h.0), omega (arith, h.1))

-- ---- calls on a handle

module _ (c : Conn) (b : ℕ → Account) (h : Balance b c.slots) (i : ℕ) (held : (entry c.slots i).held ≡ true) where
  abbrev old : Entry
  old = entry c.slots i

  -- the account is booked by the frame that is given
  abbrev Sends : Effect → Type 0
  Sends r = Balance (put i (went_out r.outcome.header (b i)) b) r.after.slots

  within : i < length c.slots
  within = in_range c.slots i held

  -- what a window step leaves balances with the frame that it gives
  steps-balance : (now : ℕ) → let u = window_step c old now in Balanced (went_out u.sent (b i)) u.stream.flow
  unfolding window_step
  steps-balance now =
      let f = old.stream.flow in
      let k : Conditions = record {
        unread = length old.bytes;
        time = now;
        round_trip = c.pings.round_trip;
        limit = c.config.limit;
        max_num_streams = c.config.max_num_streams;
        growth = c.growth;
      } in
      let next = next_window_update f k in
      split (λ (u : Updated). Balanced (went_out u.sent (b i)) u.stream.flow) (can_read old.stream.state)
      (λ r. updated old.stream next.granted.update (b i) f next.flow (h i) (credited f k) (steps f k).send)
      (λ r. h i)

  read-balances : (u : Updated) → Balanced (went_out u.sent (b i)) u.stream.flow → (n : ℕ) (s t : Bool) →
      Sends (read_rest c i old u n (cond s (cond t (reading.Wait (stream.with_waits u.stream true u.stream.writer)) (reading.Done u.stream)) (reading.Done u.stream)))
  unfolding read_rest
  read-balances u p n true true = both-change b c.slots h i _ _ within p
  read-balances u p n true false = both-change b c.slots h i _ _ within p
  read-balances u p n false t = both-change b c.slots h i _ _ within p

  pub reads-balance : (asked now : ℕ) → Sends (read_rules c i old asked now)
  unfolding read_rules read_with
  reads-balance asked now =
      let n = min asked (length old.bytes) in
      let u = window_step c old now in
      split Sends (cond c.ended (cond c.config.read_after_close false true) false)
      (λ e. account-changes b c.slots h i (b i) (h i))
      (λ e. read-balances u (steps-balance now) n (eqb n 0) (can_read u.stream.state))

  pub writes-balance : (given : List ℕ) → Sends (write_rules c i old given)
  unfolding write_rules write_with
  writes-balance given =
      let s = old.stream in
      let n = stream.write_count s (length given) c.config.split in
      let still = account-changes b c.slots h i (b i) (h i) in
      split Sends c.ended (λ e. still)
      (λ e.
      split (λ w. Sends (write_with c i old given w)) (can_write s.state)
      (λ a.
      split (λ w. Sends (write_with c i old given w)) (eqb s.flow.send_window 0)
      (λ z. both-change b c.slots h i _ _ within (h i))
      (λ z. both-change b c.slots h i _ _ within (sent_flag s.flag s.id n (b i) s.flow (with_send s.flow (s.flow.send_window - n)) (h i) refl (omega arith))))
      (λ a. still))

  close-balances : (t : State) → let k = stream.close_in t old.stream in Balanced (went_out k.sent (b i)) k.stream.flow
  close-balances (Open a) = fin-sent (stream.owes_ack old.stream.flag) old.stream.id (b i) old.stream.flow (h i)
  close-balances SendClosed = fin-sent (stream.owes_ack old.stream.flag) old.stream.id (b i) old.stream.flow (h i)
  close-balances RecvClosed = fin-sent (stream.owes_ack old.stream.flag) old.stream.id (b i) old.stream.flow (h i)
  close-balances Closed = h i

  pub closes-balance : Sends (close_rules c i old)
  unfolding close_rules
  closes-balance = both-change b c.slots h i _ _ within (close-balances old.stream.state)

-- ---- handles that are made and dropped

module _ (c : Conn) (b : ℕ → Account) (h : Balance b c.slots) where
  abbrev Opens : Effect → Type 0
  Opens r = Balance (cond (is_done r.outcome.reply) (opened r.outcome.slot r.outcome.value blank b b) b) r.after.slots

  opens_at : (now : ℕ) (p : Place) → Says is_free c.slots vacant p → Opens (open_at p c now)
  unfolding open_at
  opens_at now nowhere f = h
  opens_at now (at i) f = both-change b c.slots h i blank _ f.0 (refl, refl)

  pub opens-balance : (now : ℕ) → Opens (open_rules c now)
  unfolding open_rules
  opens-balance now =
      split Opens (leb c.config.max_num_streams (listed_count c.slots))
      (λ m. end_balance b c.slots h)
      (λ m.
      split Opens (leb 256 (unacknowledged c.config.mode c.slots))
      (λ u. h)
      (λ u.
      split Opens (ltb top (c.next_id + 2))
      (λ t. end_balance b c.slots h)
      (λ t. opens_at now (lowest_free c.slots) (first_says is_free c.slots vacant))))

  module _ (i : ℕ) (held : (entry c.slots i).held ≡ true) where
    abbrev Drops : Effect → Type 0
    Drops r = Balance (cond (is_done r.outcome.reply) (put i blank b) b) r.after.slots

    drops-at : (g : ℕ) (p : Place) → Located c.slots (entry c.slots i).stream.id p → Drops (drop_at p (with_growth c g) i)
    unfolding drop_at
    drops-at g nowhere l = both-change b c.slots h i blank vacant (in_range c.slots i held) blank_balanced
    drops-at g (at j) l =
        let x = removed_entry (entry c.slots j) in
        both-change b (set c.slots j x) (slot-changes b c.slots h j x l.0 refl) i blank vacant
        (rw (length-set c.slots j x) (in_range c.slots i held))
        blank_balanced

    pub drops-balance : Drops (drop_rules c i (entry c.slots i))
    unfolding drop_rules
    drops-balance =
        let e = entry c.slots i in
        drops-at (c.growth - growth_of e) (find c.slots e.stream.id) (first_says (has_id e.stream.id) c.slots vacant)
