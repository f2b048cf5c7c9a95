-- Streams that are found, and the ACK step. Assumes nothing.
use Rattle.std.proofs.Common.{◌≡◌, refl, sym, ap, Bool, true, false, List, ℕ, arith, length, length-set, get_or-set_same, get_or-set_other, eqb-true}
use Rattle.frame.specs.Header.{contains, ack}
use Rattle.frame.specs.declared.header.Header.{Header}
use Rattle.frame.specs.declared.header.StreamId.{StreamId}
use Rattle.stream.specs.Streams.{acknowledged}
use Rattle.stream.specs.declared.Stream.{Stream}
use Rattle.rules.specs.Lists.{Place, at, nowhere}
use Rattle.rules.specs.State.{Entry, Conn, vacant, entry, one, has_id, listed_count, unread_total, with_stream, with_slot, with_open_wait}
use Rattle.rules.specs.Frames.{Acked, is_known, ack_step, acknowledge_at}
use Rattle.rules.proofs.Lists.{Says, sum-set, both}
use Rattle.demands.specs.Demands.{held_count}
use Rattle.rules.proofs.Lists.{split}
use Rattle.demands.proofs.Lists.{true-not-false, at_set}
use Rattle.demands.proofs.Invariant.{Inv, Stays, held_good, stays}
use Rattle.demands.proofs.Sound.{bytes_of, bytes_same}

-- ---- a stream that was found

abbrev pub Located : List Entry → StreamId → Place → Type 0
Located es id place = Says (has_id id) es vacant place

pub is_listed : (id : StreamId) (e : Entry) → has_id id e ≡ true → e.listed ≡ true
is_listed id e h = (both e.listed _ h).0

pub is_id : (id : StreamId) (e : Entry) → has_id id e ≡ true → e.stream.id.0 ≡ id.0
is_id id e h = eqb-true _ _ (both e.listed _ h).1

-- ---- the ACK step

-- the same marks
abbrev pub SameWaits : Stream → Stream → Type 0
SameWaits s t = (s.reader ≡ t.reader) × (s.writer ≡ t.writer)

-- the step leaves handles, ids, figures, marks and bytes
pub record Acks (a : Acked) (id : StreamId) (place : Place) : Type 0 where
  pub inv : Inv a.conn
  pub before : Inv a.before
  pub alive : a.before.ended ≡ false
  pub live : a.conn.ended ≡ false
  pub config : a.conn.config ≡ a.before.config
  pub next : a.conn.next_id ≡ a.before.next_id
  pub growth : a.conn.growth ≡ a.before.growth
  pub bytes : (j : ℕ) → bytes_of a.conn.slots j ≡ bytes_of a.before.slots j
  pub handles : (j : ℕ) → (entry a.conn.slots j).held ≡ (entry a.before.slots j).held
  pub helds : held_count a.conn.slots ≡ held_count a.before.slots
  pub listeds : listed_count a.conn.slots ≡ listed_count a.before.slots
  pub flows : (j : ℕ) → (entry a.conn.slots j).stream.flow ≡ (entry a.before.slots j).stream.flow
  pub waits : (j : ℕ) → SameWaits (entry a.conn.slots j).stream (entry a.before.slots j).stream
  pub unread : unread_total a.conn.slots ≡ unread_total a.before.slots
  pub beside : (j : ℕ) → (place ≡ at j → ⊥) → entry a.conn.slots j ≡ entry a.before.slots j
  pub unknown : place ≡ nowhere → a.conn.slots ≡ a.before.slots
  pub located : Located a.conn.slots id place

module _ (c : Conn) (v : Inv c) (live : c.ended ≡ false) (id : StreamId) where
  pub unmoved : (b w : Bool) (place : Place) → Located c.slots id place → Acks (record { before = c; conn = with_open_wait c b; woke = w }) id place
  unmoved b w place l = record {
    inv = v;
    before = v;
    alive = live;
    live = live;
    config = refl;
    next = refl;
    growth = refl;
    bytes = λ j. refl;
    handles = λ j. refl;
    helds = refl;
    listeds = refl;
    flows = λ j. refl;
    waits = λ j. (refl, refl);
    unread = refl;
    beside = λ j n. refl;
    unknown = λ e. refl;
    located = l;
  }

  abbrev known : ℕ → Entry
  known i = with_stream (entry c.slots i) (acknowledged (entry c.slots i).stream)

  known-stays : (i : ℕ) → Located c.slots id (at i) → Stays c i (known i) c.growth
  known-stays i l =
      let e = entry c.slots i in
      let listed = is_listed id e l.1 in
      record {
        held = (v.good i).holds listed;
        id = refl;
        good = held_good (known i) ((v.good i).holds listed) (λ n. true-not-false listed n) (v.good i).flows;
        lists = λ m. m;
        figure = refl;
        bounded = v.bounded;
        room = omega (arith, v.room);
      }

  acked : (i : ℕ) → Located c.slots id (at i) → Acks (record { before = c; conn = with_open_wait (with_slot c i (known i)) false; woke = c.open_wait }) id (at i)
  acked i l = record {
    inv = stays c v i (known i) c.growth (known-stays i l);
    before = v;
    alive = live;
    live = live;
    config = refl;
    next = refl;
    growth = refl;
    bytes = bytes_same c.slots i (known i) l.0 refl;
    handles = at_set (λ j e. e.held ≡ (entry c.slots j).held) c.slots i (known i) vacant l.0 refl (λ j n. refl);
    helds = omega (arith, sum-set (λ (e : Entry). one e.held) c.slots i (known i) vacant l.0);
    listeds = omega (arith, sum-set (λ (e : Entry). one e.listed) c.slots i (known i) vacant l.0);
    flows = at_set (λ j e. e.stream.flow ≡ (entry c.slots j).stream.flow) c.slots i (known i) vacant l.0 refl (λ j n. refl);
    waits = at_set (λ j e. SameWaits e.stream (entry c.slots j).stream) c.slots i (known i) vacant l.0 (refl, refl) (λ j n. (refl, refl));
    unread = omega (arith, sum-set (λ (e : Entry). length e.bytes) c.slots i (known i) vacant l.0);
    beside = λ j n. get_or-set_other c.slots i j (known i) vacant (λ e. n (ap at (sym e)));
    unknown = λ e. true-not-false refl (ap is_known e);
    located = (rw (length-set c.slots i (known i)) l.0, rw (get_or-set_same c.slots i (known i) vacant l.0) l.1);
  }

  pub acknowledges : (place : Place) → Located c.slots id place → Acks (record { before = c; conn = with_open_wait (acknowledge_at place c) false; woke = c.open_wait }) id place
  acknowledges (at i) l = acked i l
  acknowledges nowhere l = unmoved false c.open_wait nowhere l

-- what holds after an ACK step, whatever that was, holds after this one
pub after-ack :
    (c : Conn) → Inv c → c.ended ≡ false → (h : Header) (place : Place) → Located c.slots h.stream_id place → (P : Acked → Type 0) →
    ((b w : Bool) → P (record { before = c; conn = with_open_wait c b; woke = w })) →
    P (record { before = c; conn = with_open_wait (acknowledge_at place c) false; woke = c.open_wait }) → P (ack_step c h place)
unfolding ack_step
after-ack c v live h place l P f g = split P (contains h.flags ack) (λ e. g) (λ e. f c.open_wait false)
