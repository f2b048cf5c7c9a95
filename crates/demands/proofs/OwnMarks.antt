-- What calls on a handle, open and tick do to the marks of those who wait. Assumes nothing.
use Rattle.std.proofs.Common.{Option, Some, None, ◌≡◌, refl, sym, subst, inl, inr, Bool, true, false, cond, List, ℕ, ◌+◌, ◌-◌, ◌<◌, min, length, set, length-set, get_or-set_same, eqb, ltb, leb}
use Rattle.rtt.specs.Pings.{next_ping}
use Rattle.flow_control.specs.Windows.{top}
use Rattle.stream.specs.States.{can_read, can_write}
use Rattle.stream.specs.Streams as stream
use Rattle.stream.specs.declared.State.{State}
use Rattle.stream.specs.declared.State.TheVariants.{Open, SendClosed, RecvClosed, Closed}
use Rattle.stream.specs.declared.Stream.{Stream}
use Rattle.stream.specs.declared.Updated.{Updated}
use Rattle.stream.specs.declared.ReadEnd.TheVariants as reading
use Rattle.rules.specs.declared.Reply.TheVariants as reply
use Rattle.rules.specs.Lists.{Place, at, nowhere}
use Rattle.rules.specs.State.{Entry, Conn, vacant, entry, has_id, find, lowest_free, listed_count, unacknowledged, with_stream, with_growth, with_pings}
use Rattle.rules.specs.Ending.{Effect}
use Rattle.rules.specs.Calls.{growth_of, open_at, open_rules, read_entry, read_rest, read_with, window_step, read_rules, write_with, write_rules, close_rules, removed_entry, drop_at, drop_rules, ping_out, tick_rules}
use Rattle.rules.proofs.Lists.{first_says}
use Rattle.rules.proofs.Lists.{split}
use Rattle.demands.proofs.Lists.{at_set}
use Rattle.demands.proofs.Invariant.{in_range}
use Rattle.demands.proofs.Acks.{Located, SameWaits}
use Rattle.demands.proofs.Marks.{clear_kept, clear_set, clear_off, Marks, Goes, Waits, stay, same_marks, idle, refused, calm, itself, none}
use Rattle.frame.specs.declared.header.Header.{Header}

-- ---- calls on a handle

module _ (c : Conn) (i : ℕ) (held : (entry c.slots i).held ≡ true) where
  abbrev old : Entry
  old = entry c.slots i

  abbrev own : ℕ → ℕ
  own j = i

  abbrev mine : ℕ → Type 0
  mine j = i ≡ j

  abbrev Calm : Effect → Type 0
  Calm r = Goes c nowhere own mine r

  -- the slot's stream keeps its marks, or takes one
  slot-marks : (x : Entry) → Marks false false old.stream x.stream → (j : ℕ) → i ≡ j → Marks false false (entry c.slots j).stream (entry (set c.slots i x) j).stream
  slot-marks x m j e =
      subst (λ n. Marks false false (entry c.slots n).stream (entry (set c.slots i x) n).stream) e
      (rw (get_or-set_same c.slots i x vacant (in_range c.slots i held)) m)

  -- ---- read

  -- the window step leaves the marks
  pub steps : (now : ℕ) → SameWaits (window_step c old now).stream old.stream
  unfolding window_step
  steps now = split (λ (u : Updated). SameWaits u.stream old.stream) (can_read old.stream.state) (λ r. (refl, refl)) (λ r. (refl, refl))

  read_done : (u : Updated) → SameWaits u.stream old.stream → (n : ℕ) → Calm (read_rest c i old u n (reading.Done u.stream))
  unfolding read_rest
  read_done u e n = calm c own mine _ _ refl refl (clear_kept c.open_wait) (slot-marks (read_entry old u.stream n) (same_marks old.stream u.stream e))

  read-wait : (u : Updated) → SameWaits u.stream old.stream → (n : ℕ) → Calm (read_rest c i old u n (reading.Wait (stream.with_waits u.stream true u.stream.writer)))
  unfolding read_rest
  read-wait u e n =
      calm c own mine _ _ refl refl (clear_kept c.open_wait)
      (slot-marks (read_entry old (stream.with_waits u.stream true u.stream.writer) n) (clear_set old.stream.reader, (same_marks old.stream u.stream e).1))

  read-ends : (u : Updated) → SameWaits u.stream old.stream → (n : ℕ) (a b : Bool) →
      Calm (read_rest c i old u n (cond a (cond b (reading.Wait (stream.with_waits u.stream true u.stream.writer)) (reading.Done u.stream)) (reading.Done u.stream)))
  read-ends u e n true true = read-wait u e n
  read-ends u e n true false = read_done u e n
  read-ends u e n false b = read_done u e n

  pub reads : (asked now : ℕ) → Calm (read_rules c i old asked now)
  unfolding read_rules read_with
  reads asked now =
      let u = window_step c old now in
      let n = min asked (length old.bytes) in
      split Calm (cond c.ended (cond c.config.read_after_close false true) false)
      (λ e. idle c own mine nowhere _ c refl refl refl refl)
      (λ e. read-ends u (steps now) n (eqb n 0) (can_read u.stream.state))

  -- ---- write and close

  pub writes : (given : List ℕ) → Calm (write_rules c i old given)
  unfolding write_rules write_with
  writes given =
      let s = old.stream in
      split Calm c.ended (λ e. refused c own mine nowhere reply.WriteClosed) (λ e.
      split (λ w. Calm (write_with c i old given w)) (can_write s.state)
      (λ a.
      split (λ w. Calm (write_with c i old given w)) (eqb s.flow.send_window 0)
      (λ z. calm c own mine _ _ refl refl (clear_kept c.open_wait) (slot-marks (with_stream old (stream.with_waits s s.reader true)) (clear_kept s.reader, clear_set s.writer)))
      (λ z. calm c own mine _ _ refl refl (clear_kept c.open_wait) (slot-marks _ (stay s))))
      (λ a. refused c own mine nowhere reply.WriteClosed))

  pub close_same : (t : State) (s : Stream) → SameWaits (stream.close_in t s).stream s
  close_same (Open a) s = (refl, refl)
  close_same SendClosed s = (refl, refl)
  close_same RecvClosed s = (refl, refl)
  close_same Closed s = (refl, refl)

  pub closes : Calm (close_rules c i old)
  unfolding close_rules
  closes =
      let s = old.stream in
      calm c own mine _ _ refl refl (clear_kept c.open_wait)
      (slot-marks (with_stream old (stream.close s).stream) (same_marks s (stream.close s).stream (close_same s.state s)))

  -- ---- drop

  abbrev DropOk : Place → Effect → Type 0
  DropOk p r = Goes c p own none r

  -- the stream that was removed waits no more, also where it is the handle's own and its slot is free
  drop-quiet : (j : ℕ) → j < length c.slots → let x = removed_entry (entry c.slots j) in
      ((entry (set (set c.slots j x) i vacant) j).stream.reader ≡ false) × ((entry (set (set c.slots j x) i vacant) j).stream.writer ≡ false)
  drop-quiet j l =
      let x = removed_entry (entry c.slots j) in
      let es = set c.slots j x in
      let at_j : ((entry es j).stream.reader ≡ false) × ((entry es j).stream.writer ≡ false) = rw (get_or-set_same c.slots j x vacant l) (refl, refl) in
      at_set (λ k e. k ≡ j → (e.stream.reader ≡ false) × (e.stream.writer ≡ false)) es i vacant vacant (rw (length-set c.slots j x) (in_range c.slots i held))
      (λ q. (refl, refl))
      (λ k n q. subst (λ m. ((entry es m).stream.reader ≡ false) × ((entry es m).stream.writer ≡ false)) (sym q) at_j)
      j refl

  drops-at : (g : ℕ) (p : Place) → Located c.slots old.stream.id p → DropOk p (drop_at p (with_growth c g) i)
  unfolding drop_at
  drops-at g nowhere l = calm c own none _ _ refl refl (clear_kept c.open_wait) (λ j m. absurd m)
  drops-at g (at j) l =
      let s = (entry c.slots j).stream in
      let q = drop-quiet j l.0 in
      record {
        all = refl;
        same = refl;
        opener = clear_kept c.open_wait;
        here = ((rw q.0 (clear_off s.reader), rw q.1 (clear_off s.writer)), ((λ e. refl), (λ e. refl)));
        kept = λ k m. absurd m;
      }

  pub drops : DropOk (find c.slots old.stream.id) (drop_rules c i old)
  unfolding drop_rules
  drops = drops-at (c.growth - growth_of old) (find c.slots old.stream.id) (first_says (has_id old.stream.id) c.slots vacant)

-- ---- open and tick

module _ (c : Conn) (live : c.ended ≡ false) where
  abbrev Free : Effect → Type 0
  Free r = Waits c nowhere itself none r

  open-at : (now : ℕ) (p : Place) → Goes c nowhere itself none (open_at p c now)
  unfolding open_at
  open-at now nowhere = refused c itself none nowhere reply.NoSlot
  open-at now (at i) = calm c itself none _ _ refl refl (clear_kept c.open_wait) (λ j m. absurd m)

  pub opens : (now : ℕ) → Free (open_rules c now)
  unfolding open_rules
  opens now =
      split Free (leb c.config.max_num_streams (listed_count c.slots)) (λ m. inl (live, (reply.TooManyStreams, refl))) (λ m.
      split Free (leb 256 (unacknowledged c.config.mode c.slots))
      (λ u. inr (calm c itself none _ _ refl refl (clear_set c.open_wait) (λ j n. absurd n)))
      (λ u.
      split Free (ltb top (c.next_id + 2)) (λ t. inl (live, (reply.NoMoreStreamIds, refl))) (λ t. inr (open-at now (lowest_free c.slots)))))

  ticks-out : (p : Option Header) (d : Conn) → d.ended ≡ c.ended → d.open_wait ≡ c.open_wait → d.slots ≡ c.slots → Goes c nowhere itself none (ping_out p d)
  unfolding ping_out
  ticks-out None d e w s = idle c itself none nowhere _ d refl e w s
  ticks-out (Some h) d e w s = idle c itself none nowhere _ d refl e w s

  pub ticks : (now : ℕ) → Free (tick_rules c now)
  unfolding tick_rules
  ticks now = inr (ticks-out (next_ping c.pings now).ping (with_pings c (next_ping c.pings now).rtt) refl refl refl)
