-- A frame that makes a stream keeps the invariant. Assumes nothing.
use Rattle.std.proofs.Common.{◌≡◌, refl, sym, ap, ◌∙◌, inl, Bool, true, false, cond, List, ℕ, ◌%◌, ◌<◌, arith, le_refl, le_of_eq, length, get_or-set_other, ltb, leb, eqb-true, leb-false, ltb-false, eq-eqb}
use Rattle.frame.specs.Header.{initial_window, protocol_error}
use Rattle.frame.specs.declared.header.Header.{Header}
use Rattle.frame.specs.declared.header.StreamId.{StreamId}
use Rattle.frame.specs.declared.header.Tag.{Tag}
use Rattle.stream.specs.declared.Stream.{Stream}
use Rattle.rules.specs.declared.Reply.TheVariants as reply
use Rattle.rules.specs.declared.Mode.{Mode}
use Rattle.rules.specs.declared.Mode.TheVariants.{Client, Server}
use Rattle.rules.specs.Lists.{Place, at, nowhere}
use Rattle.rules.specs.State.{Entry, vacant, entry, is_free, is_own, is_remote, has_id, lowest_free, listed_count, room, with_slot}
use Rattle.rules.specs.Ending.{Effect}
use Rattle.rules.specs.Frames.{Acked, new_entry, make_at, make, syn_rules}
use Rattle.rules.specs.Calls.{growth_of}
use Rattle.rules.proofs.Lists.{Says, first_says}
use Rattle.rules.proofs.Lists.{split}
use Rattle.demands.proofs.Lists.{true-not-false}
use Rattle.demands.proofs.Invariant.{Flows, Good, Fit, id_at, held_good, in_range, replaced}
use Rattle.demands.proofs.Sound.{Beside, bytes-put, refused, done}
use Rattle.demands.proofs.Acks.{Acks}
use Rattle.demands.proofs.Known.{Keeps, away}

-- ---- small laws

not_own : (m : Mode) (id : StreamId) → is_remote m id ≡ true → is_own m id ≡ true → ⊥
not_own Client id r o = omega (arith, eqb-true (id.0 % 2) 0 r, eqb-true (id.0 % 2) 1 o)
not_own Server id r o = omega (arith, eqb-true (id.0 % 2) 1 r, eqb-true (id.0 % 2) 0 o)

pub free_held : (b : Bool) → cond b false true ≡ true → b ≡ false
free_held true e = true-not-false e refl
free_held false e = refl

-- ---- a new stream

module _ (h : Header) (body : List ℕ) (a : Acked) where
  module _ (k : Acks a h.stream_id nowhere) (s : Stream) (same : s.id ≡ h.stream_id) (fresh : s.flow.max_receive_window ≡ initial_window)
      (flows : Flows s.flow (length body)) (remote : is_remote a.conn.config.mode h.stream_id ≡ true)
      (spare : listed_count a.conn.slots < a.conn.config.max_num_streams) where
    abbrev fresher : Entry
    fresher = new_entry s body

    fresh-good : Good fresher
    fresh-good = held_good fresher refl (λ n. true-not-false refl n) flows

    fresh-growth : growth_of fresher ≡ 0
    fresh-growth = rw fresh

    -- no other stream in the table has the id
    fresh-apart : (j : ℕ) → (entry a.conn.slots j).listed ≡ true → id_at a.conn.slots j ≡ s.id.0 → ⊥
    fresh-apart j l e =
        let held = (k.inv.good j).holds l in
        let i : id_at a.conn.slots j ≡ h.stream_id.0 = e ∙ ap (λ (d : StreamId). d.0) same in
        let yes : has_id h.stream_id (entry a.conn.slots j) ≡ true = rw (l, eq-eqb _ _ i) in
        true-not-false yes (k.located j (in_range a.conn.slots j held))

    module _ (i : ℕ) (l : i < length a.conn.slots) (free : entry a.conn.slots i ≡ vacant) where
      fresh-fit : ltb (room a.conn) (length body) ≡ false → Fit a.conn i fresher a.conn.growth a.conn.next_id
      fresh-fit r = record {
        good = fresh-good;
        apart = λ t j ne m e. fresh-apart j m e;
        count = omega (arith, spare);
        figure = rw (free, fresh-growth);
        bounded = k.inv.bounded;
        room = omega (arith, k.inv.room, ltb-false (room a.conn) (length body) r);
        rises = le_refl _;
        last = k.inv.last;
        parity = refl;
        below = λ t o. absurd (not_own a.conn.config.mode s.id (rw same remote) o);
        quiet = λ t. true-not-false t k.live;
      }

    -- the slot that is taken is free, so no held one changes
    fresh-beside : (i : ℕ) → entry a.conn.slots i ≡ vacant → Beside a.before (λ j. nowhere ≡ at j) (with_slot a.conn i fresher)
    fresh-beside i free q j held n =
        let same = k.beside j n in
        get_or-set_other a.conn.slots i j fresher vacant (λ e. true-not-false held (ap (λ (x : Entry). x.held) (sym same ∙ ap (λ (m : ℕ). entry a.conn.slots m) e ∙ free))) ∙ same

    makes-at : (t : Tag) (p : Place) → Says is_free a.conn.slots vacant p → Keeps h body a nowhere t (make_at p a s body)
    unfolding make_at
    makes-at t nowhere f = refused a.before _ _ k.before reply.NoSlot (λ j. refl)
    makes-at t (at i) f =
        let free = (k.inv.good i).free (free_held (entry a.conn.slots i).held f.1) in
        split (Keeps h body a nowhere t) (ltb (room a.conn) (length body))
        (λ r. refused a.before _ _ k.before reply.NoRoom (λ j. refl))
        (λ r.
        done a.before _ _ _ _ refl refl (replaced a.conn k.inv i f.0 fresher a.conn.growth a.conn.next_id (fresh-fit i f.0 free r)) k.config (le_of_eq (sym k.next)) (inl k.growth)
        (λ j. bytes-put a.conn.slots i fresher f.0 j ∙ rw (k.bytes j))
        (fresh-beside i free))

    pub makes : (t : Tag) → Keeps h body a nowhere t (make a s body)
    unfolding make
    makes t = makes-at t (lowest_free a.conn.slots) (first_says is_free a.conn.slots vacant)

  -- the tests of a SYN
  pub syns :
      (t : Tag) (place : Place) → Acks a h.stream_id place → (full : ℕ) (next : Effect) →
      (place ≡ nowhere → is_remote a.conn.config.mode h.stream_id ≡ true → listed_count a.conn.slots < a.conn.config.max_num_streams → Keeps h body a place t next) →
      Keeps h body a place t (syn_rules a h.stream_id place full next)
  unfolding syn_rules
  syns t (at i) k full next f =
      split (Keeps h body a (at i) t) (is_remote a.conn.config.mode h.stream_id) (λ r. away h body a (at i) k t protocol_error) (λ r. away h body a (at i) k t protocol_error)
  syns t nowhere k full next f =
      split (Keeps h body a nowhere t) (is_remote a.conn.config.mode h.stream_id)
      (λ r.
      split (Keeps h body a nowhere t) (leb a.conn.config.max_num_streams (listed_count a.conn.slots))
      (λ m. away h body a nowhere k t full)
      (λ m. f refl r (leb-false _ _ m)))
      (λ r. away h body a nowhere k t protocol_error)
