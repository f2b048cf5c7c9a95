-- Opening and dropping handles, and the tick, keep the invariant. Assumes nothing.
use Rattle.std.proofs.Common.{Option, Some, None, ◌≡◌, refl, sym, ap, ◌∙◌, ◌⊎◌, inl, inr, true, false, cond, List, [], ℕ, ◌+◌, ◌-◌, ◌%◌, ◌≤◌, ◌<◌, arith, le_refl, set, get_or-set_other, ltb, leb, leb-false, ltb-false, eq-eqb}
use Rattle.frame.specs.declared.header.StreamId.{StreamId}
use Rattle.rtt.specs.Pings.{next_ping}
use Rattle.flow_control.specs.Windows.{top}
use Rattle.stream.specs.Streams as stream
use Rattle.rules.specs.declared.Mode.{Mode}
use Rattle.rules.specs.declared.Mode.TheVariants.{Client, Server}
use Rattle.rules.specs.declared.Reply.TheVariants as reply
use Rattle.rules.specs.Lists.{Place, at, nowhere}
use Rattle.rules.specs.State.{Entry, Conn, vacant, entry, first_own, is_free, is_own, has_id, find, lowest_free, listed_count, unacknowledged, with_slot, with_pings}
use Rattle.rules.specs.Ending.{Effect}
use Rattle.rules.specs.Frames.{new_entry}
use Rattle.rules.specs.Calls.{open_at, open_rules, growth_of, removed_entry, drop_at, drop_rules, ping_out, tick_rules}
use Rattle.rules.proofs.Lists.{Says, first_says, sum_at}
use Rattle.demands.specs.History.{nothing, freed, tells, is_done, put}
use Rattle.rules.proofs.Lists.{split}
use Rattle.demands.proofs.Lists.{true-not-false, at_set}
use Rattle.demands.proofs.Invariant.{Inv, Kept, Fit, Stays, id_at, vacant_good, held_good, in_range, replaced, stays}
use Rattle.demands.proofs.Sound.{Sound, Beside, moves, bytes_of, put_same, put_other, bytes-put, bytes_same, refused, done, ends}
use Rattle.demands.proofs.Acks.{Located, is_listed}
use Rattle.demands.proofs.Opening.{free_held}
use Rattle.frame.specs.declared.header.Header.{Header}

-- ---- open

own : (m : Mode) (id : StreamId) → id.0 % 2 ≡ first_own m % 2 → is_own m id ≡ true
own Client id e = eq-eqb (id.0 % 2) 1 e
own Server id e = eq-eqb (id.0 % 2) 0 e

module _ (c : Conn) (v : Inv c) (live : c.ended ≡ false) (now : ℕ) where
  abbrev opened : Entry
  opened = new_entry (stream.new_outbound (record { 0 = c.next_id }) now) []

  -- ids of our own parity in the table are below the next one
  open-apart : (j : ℕ) → (entry c.slots j).listed ≡ true → id_at c.slots j ≡ c.next_id → ⊥
  open-apart j l e =
      let b = v.below j ((v.good j).holds l) (own c.config.mode (entry c.slots j).stream.id (rw e v.parity)) in
      omega (arith, b, e)

  open-fit : (i : ℕ) → entry c.slots i ≡ vacant → listed_count c.slots < c.config.max_num_streams → c.next_id + 2 ≤ top → Fit c i opened c.growth (c.next_id + 2)
  open-fit i free m t = record {
    good = held_good opened refl (λ n. true-not-false refl n) (record { low = le_refl _; high = omega arith; fits = omega arith; sends = omega arith });
    apart = λ q j ne l e. open-apart j l e;
    count = omega (arith, m);
    figure = rw free;
    bounded = v.bounded;
    room = omega (arith, v.room);
    rises = omega arith;
    last = t;
    parity = omega arith;
    below = λ q o. omega arith;
    quiet = λ e. true-not-false e live;
  }

  abbrev OpenOk : Effect → Type 0
  OpenOk r = Sound c (λ j. ⊥) (cond (is_done r.outcome.reply) (tells r.outcome.slot r.outcome.value [] nothing) nothing) r

  opens_at : (p : Place) → Says is_free c.slots vacant p → listed_count c.slots < c.config.max_num_streams → c.next_id + 2 ≤ top → OpenOk (open_at p c now)
  unfolding open_at
  opens_at nowhere f m t = refused c _ _ v reply.NoSlot (λ j. refl)
  opens_at (at i) f m t =
      let free = (v.good i).free (free_held (entry c.slots i).held f.1) in
      done c _ _ _ _ refl refl (replaced c v i f.0 opened c.growth (c.next_id + 2) (open-fit i free m t)) refl (omega arith) (inl refl) (bytes-put c.slots i opened f.0)
      (λ q j h n. get_or-set_other c.slots i j opened vacant (λ e. true-not-false h (ap (λ (m : ℕ). (entry c.slots m).held) e ∙ ap (λ (x : Entry). x.held) free)))

  pub opens-stream : OpenOk (open_rules c now)
  unfolding open_rules
  opens-stream =
      split OpenOk (leb c.config.max_num_streams (listed_count c.slots))
      (λ m. ends c v live _ _ reply.TooManyStreams refl refl)
      (λ m.
      split OpenOk (leb 256 (unacknowledged c.config.mode c.slots))
      (λ u. done c _ _ _ _ refl refl v refl (le_refl _) (inl refl) (λ j. refl) (λ q j m n. refl))
      (λ u.
      split OpenOk (ltb top (c.next_id + 2))
      (λ t. ends c v live _ _ reply.NoMoreStreamIds refl refl)
      (λ t. opens_at (lowest_free c.slots) (first_says is_free c.slots vacant) (leb-false _ _ m) (ltb-false top (c.next_id + 2) t))))

-- ---- drop

module _ (c : Conn) (v : Inv c) (i : ℕ) (held : (entry c.slots i).held ≡ true) where
  -- a held handle's growth is part of the figure
  pub growth-part : growth_of (entry c.slots i) ≤ c.growth
  growth-part = omega (arith, sum_at growth_of c.slots i vacant (in_range c.slots i held), v.figure)

  free-fit : Fit c i vacant (c.growth - growth_of (entry c.slots i)) c.next_id
  free-fit = record {
    good = vacant_good;
    apart = λ l j ne m e. true-not-false l refl;
    count = omega (arith, v.count);
    figure = omega (arith, growth-part);
    bounded = omega (arith, v.bounded);
    room = omega (arith, v.room);
    rises = le_refl _;
    last = v.last;
    parity = refl;
    below = λ h o. true-not-false h refl;
    quiet = λ e. refl;
  }

  pub freed-kept : Kept c.config c.ended c.next_id (c.growth - growth_of (entry c.slots i)) (set c.slots i vacant)
  freed-kept = replaced c v i (in_range c.slots i held) vacant (c.growth - growth_of (entry c.slots i)) c.next_id free-fit

module _ (c : Conn) (v : Inv c) (i : ℕ) (held : (entry c.slots i).held ≡ true) where
  abbrev dropping : Entry
  dropping = entry c.slots i

  module _ (j : ℕ) (l : Located c.slots dropping.stream.id (at j)) where
    abbrev other : Entry
    other = entry c.slots j

    abbrev without : List Entry
    without = set c.slots j (removed_entry other)

    removed-stays : Stays c j (removed_entry other) c.growth
    removed-stays =
        let h = (v.good j).holds (is_listed dropping.stream.id other l.1) in
        record {
          held = h;
          id = refl;
          good = held_good (removed_entry other) h (λ n. refl) (v.good j).flows;
          lists = λ m. true-not-false m refl;
          figure = refl;
          bounded = v.bounded;
          room = omega (arith, v.room);
        }

    removed-kept : Inv (with_slot c j (removed_entry other))
    removed-kept = stays c v j (removed_entry other) c.growth removed-stays

    -- the dropped handle's own windows and hold are as they were, also where the stream removed is its own
    still-held : (entry without i).held ≡ true
    still-held = at_set (λ k e. e.held ≡ (entry c.slots k).held) c.slots j (removed_entry other) vacant l.0 refl (λ k ne. refl) i ∙ held

    still-grown : growth_of (entry without i) ≡ growth_of dropping
    still-grown = at_set (λ k e. growth_of e ≡ growth_of (entry c.slots k)) c.slots j (removed_entry other) vacant l.0 refl (λ k ne. refl) i

    drop-kept : Kept c.config c.ended c.next_id (c.growth - growth_of dropping) (set without i vacant)
    drop-kept = rw (← still-grown) (freed-kept (with_slot c j (removed_entry other)) removed-kept i still-held)

    drop-bytes : (k : ℕ) → bytes_of (set without i vacant) k ≡ put i [] (bytes_of c.slots) k
    drop-bytes =
        at_set (λ k e. e.bytes ≡ put i [] (bytes_of c.slots) k) without i vacant vacant (in_range without i still-held)
        (sym (put_same i [] (bytes_of c.slots)))
        (λ k ne. bytes_same c.slots j (removed_entry other) l.0 refl k ∙ sym (put_other i [] (bytes_of c.slots) k ne))

  abbrev DropOk : Place → Effect → Type 0
  DropOk p r = Sound c (λ j. (i ≡ j) ⊎ (p ≡ at j)) (cond (is_done r.outcome.reply) (freed i) nothing) r

  drops-at : (p : Place) → Located c.slots dropping.stream.id p → DropOk p (drop_at p (Rattle.rules.specs.State.with_growth c (c.growth - growth_of dropping)) i)
  unfolding drop_at
  drops-at nowhere l =
      done c _ _ _ _ refl refl (freed-kept c v i held) refl (le_refl _) (inr refl) (bytes-put c.slots i vacant (in_range c.slots i held))
      (λ q j h n. get_or-set_other c.slots i j vacant vacant (λ e. n (inl (sym e))))
  drops-at (at j) l =
      done c _ _ _ _ refl refl (drop-kept j l) refl (le_refl _) (inr refl) (drop-bytes j l)
      (λ q k h n.
      get_or-set_other (without j l) i k vacant vacant (λ e. n (inl (sym e)))
      ∙ get_or-set_other c.slots j k (removed_entry (other j l)) vacant (λ e. n (inr (ap at (sym e)))))

  pub drops : DropOk (find c.slots dropping.stream.id) (drop_rules c i dropping)
  unfolding drop_rules
  drops = drops-at (find c.slots dropping.stream.id) (first_says (has_id dropping.stream.id) c.slots vacant)

-- ---- tick

module _ (c : Conn) (v : Inv c) where
  pings-out : (p : Option Header) (d : Conn) → Inv d → d.config ≡ c.config → c.next_id ≤ d.next_id → (d.growth ≡ c.growth) ⊎ (moves nothing ≡ true) → ((j : ℕ) → bytes_of d.slots j ≡ bytes_of c.slots j) → Beside c (λ j. ⊥) d → Sound c (λ j. ⊥) nothing (ping_out p d)
  unfolding ping_out
  pings-out None d w k n g b s = done c _ _ _ _ refl refl w k n g b s
  pings-out (Some h) d w k n g b s = done c _ _ _ _ refl refl w k n g b s

  pub ticks : (now : ℕ) → Sound c (λ j. ⊥) nothing (tick_rules c now)
  unfolding tick_rules
  ticks now = pings-out (next_ping c.pings now).ping (with_pings c (next_ping c.pings now).rtt) v refl (le_refl _) (inl refl) (λ j. refl) (λ q j h n. refl)
