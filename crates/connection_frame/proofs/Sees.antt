-- What a handler is shown is what the rules look at, and what it decides to do a valid state allows. Assumes nothing.
use Rattle.std.proofs.Common.{Option, Some, None, ◌≡◌, refl, sym, ap, ◌∙◌, Bool, true, false, cond, List, ℕ, ◌+◌, ◌-◌, ◌%◌, ◌≤◌, ◌<◌, arith, ltb-false, eqb-true, ne_eqb}
use Rattle.frame.specs.Header.{contains, ack, syn}
use Rattle.frame.specs.declared.header.Header.{Header}
use Rattle.frame.specs.declared.header.StreamId.{StreamId}
use Rattle.stream.specs.Streams.{acknowledged}
use Rattle.stream.specs.declared.Stream.{Stream}
use Rattle.rules.specs.Frames.{body_length}
use Rattle.rules.specs.Lists.{Place, at, nowhere}
use Rattle.rules.specs.State.{Entry, entry, find, lowest_free, listed_count, is_own, is_remote, found_of}
use Rattle.rules.specs.declared.Mode.{Mode}
use Rattle.rules.specs.declared.Mode.TheVariants.{Client, Server}
use Rattle.rules.specs.declared.Slot.{Slot}
use Rattle.table.specs.Table as table
use Rattle.table.specs.Table.{row_at, Finds}
use Rattle.handlers.specs.Actions.{acked, stream_action, known}
use Rattle.handlers.specs.Perform.{known_at, limits_of, wakes_open}
use Rattle.handlers.specs.declared.Known.{Known}
use Rattle.handlers.specs.declared.Limits.{Limits}
use Rattle.handlers.proofs.Rules.{without_syn}
use Rattle.memory.specs.Moves.{Follows}
use Rattle.memory.specs.Slots.{slots_of}
use Rattle.memory.proofs.Laws.{find-slots, find_at, free-slots, free-at, entry-held, entry-of-held, listed-count, room-slots}
use Rattle.connection.specs.Abstract.{abs_of, Valid}
use Rattle.connection.specs.declared.Connection.{Connection}
use Rattle.connection_frame.specs.Shown.{seen_at, vacancy_for, limits_in, decided}
use Rattle.connection_frame.proofs.Walk.{Roomy}

abbrev limited : Mode → ℕ → ℕ → ℕ → Limits
limited m k listed room = record { mode = m; max_num_streams = k; listed = listed; room = room }

same_limits : (m : Mode) (k a b x y : ℕ) → a ≡ b → x ≡ y → limited m k a x ≡ limited m k b y
same_limits m k a b x y e f = rw (e, f)

acked_id : (h : Header) (s : Stream) → (acked h s).id ≡ s.id
acked_id h s = go (contains h.flags ack)
  where
    go : (b : Bool) → (cond b (acknowledged s) s).id ≡ s.id
    go true = refl
    go false = refl

-- an id of the remote's parity is not of ours
pub remote_not_own : (m : Mode) (id : StreamId) → is_remote m id ≡ true → is_own m id ≡ false
remote_not_own Client id e = let z : id.0 % 2 ≡ 0 = eqb-true (id.0 % 2) 0 e in ne_eqb (id.0 % 2) 1 (λ q. omega arith)
remote_not_own Server id e = let z : id.0 % 2 ≡ 1 = eqb-true (id.0 % 2) 1 e in ne_eqb (id.0 % 2) 0 (λ q. omega arith)

-- what the test of a vacancy leaves, where it is a slot
looked : (b : Bool) (u : Option Slot) (i : Slot) → cond b u None ≡ Some i → u ≡ Some i
looked true u i e = e
looked false u i e = cc

slot_of : (q : Place) (i : Slot) → found_of q ≡ Some i → q ≡ at i.0
slot_of (at j) i e = let z : record { 0 = j } ≡ i = cc in ap (λ (x : Slot). at x.0) z
slot_of nowhere i e = cc

same_known : (i j : Slot) (s u : Stream) → known i s ≡ known j u → (i ≡ j) × (s ≡ u)
same_known i j s u e =
    let z : record { slot = i; stream = s } ≡ record { slot = j; stream = u } = cc in
    (ap (λ (x : Known). x.slot) z, ap (λ (x : Known). x.stream) z)

module _ (c : Connection) (t l p : List ℕ) (v : Valid c t l p) where
  abbrev S : List Entry
  S = slots_of c.memory t l p

  abbrev K : ℕ
  K = c.memory.slots

  sees-limits : limits_in c ≡ limits_of (abs_of c t l p)
  sees-limits =
      same_limits c.config.mode c.config.max_num_streams c.memory.listed (listed_count S) _ _
      (listed-count c.memory t l p v.memory) (room-slots c.memory t l p v.memory)

  row-stream : (id : StreamId) (i : ℕ) → find S id ≡ at i → (entry S i).stream ≡ (row_at t K i).stream
  row-stream id i e =
      let a = find_at c.memory t l p v.memory id i e in
      let h = sym (entry-held c.memory t l p v.memory i a.0) ∙ a.2 in
      ap (λ (x : Entry). x.stream) (entry-of-held c.memory t l p v.memory i a.0 h)

  module _ (h : Header) (f : Option Slot) (finds : Finds t c.memory.slots h.stream_id f) where
    abbrev place : Place
    place = find S h.stream_id

    is-place : f ≡ found_of place
    is-place = find-slots c.memory t l p v.memory h.stream_id f finds

    sees_known : (seen_at t K f h).known ≡ known_at (abs_of c t l p) h place
    sees_known = rw is-place (go place refl)
      where
        go : (q : Place) → place ≡ q → (seen_at t K (found_of q) h).known ≡ known_at (abs_of c t l p) h q
        go (at i) e = ap (λ (s : Stream). known (record { 0 = i }) (acked h s)) (sym (row-stream h.stream_id i e))
        go nowhere e = refl

    -- the action is what the rules' state decides: the vacancy matters only with SYN
    pub sees : (now : ℕ) → (decided c t f h now).action
        ≡ stream_action (limits_of (abs_of c t l p)) (wakes_open c.open_wait h) (known_at (abs_of c t l p) h (find (slots_of c.memory t l p) h.stream_id)) (found_of (lowest_free (slots_of c.memory t l p))) h now
    sees now =
        ap (λ (x : Limits). stream_action x woke (seen_at t K f h).known (vacancy_for t K h) h now) sees-limits
        ∙ ap (λ (x : Option Known). stream_action (limits_of (abs_of c t l p)) woke x (vacancy_for t K h) h now) sees_known
        ∙ go (contains h.flags syn) refl
      where
        woke : Bool
        woke = wakes_open c.open_wait h

        go : (b : Bool) → contains h.flags syn ≡ b
            → stream_action (limits_of (abs_of c t l p)) woke (known_at (abs_of c t l p) h place) (cond b (table.lowest_free t K) None) h now
            ≡ stream_action (limits_of (abs_of c t l p)) woke (known_at (abs_of c t l p) h place) (found_of (lowest_free S)) h now
        go true e = ap (λ (x : Option Slot). stream_action (limits_of (abs_of c t l p)) woke (known_at (abs_of c t l p) h place) x h now) (free-slots c.memory t l p v.memory)
        go false e = without_syn (limits_of (abs_of c t l p)) woke (known_at (abs_of c t l p) h place) None (found_of (lowest_free S)) h now e

    -- the stream may take the place of the one that was found
    pub replaces : (i : Slot) (s u : Stream) (b : Bool) → (seen_at t c.memory.slots f h).known ≡ known i s → u.id ≡ s.id
        → ((seen_at t c.memory.slots f h).row ≡ row_at t c.memory.slots i.0) × (i.0 < c.memory.slots) × Follows (entry (slots_of c.memory t l p) i.0) u b
    replaces i s u b e d = rw is-place (go place refl (rw is-place at e))
      where
        go : (q : Place) → place ≡ q → (seen_at t K (found_of q) h).known ≡ known i s
            → ((seen_at t K (found_of q) h).row ≡ row_at t K i.0) × (i.0 < K) × Follows (entry S i.0) u b
        go (at j) w g =
            let a = find_at c.memory t l p v.memory h.stream_id j w in
            let y = same_known (record { 0 = j }) i (acked h (row_at t K j).stream) s g in
            rw (← y.0) (
              refl,
              a.0,
              record {
                held = a.2;
                id = d ∙ ap (λ (x : Stream). x.id) (sym y.1) ∙ acked_id h (row_at t K j).stream ∙ ap (λ (x : Stream). x.id) (sym (row-stream h.stream_id j w));
                listed = λ k. a.1;
              },
            )
        go nowhere w g = cc

    pub has_room : Roomy (limits_in c) h → c.memory.unread + body_length h.tag h.length.0 ≤ c.memory.pool
    has_room e = omega (arith, ltb-false (c.memory.pool - c.memory.unread) (body_length h.tag h.length.0) e, v.memory.within)

    unknown : (seen_at t K f h).known ≡ None → place ≡ nowhere
    unknown e = go place (rw is-place at e)
      where
        go : (q : Place) → (seen_at t K (found_of q) h).known ≡ None → q ≡ nowhere
        go (at j) g = cc
        go nowhere g = refl

    -- the stream may be made in the slot: the slot is free, and no stream in the table has the id
    pub makes : (i : Slot) → vacancy_for t c.memory.slots h ≡ Some i → (seen_at t c.memory.slots f h).known ≡ None
        → (i.0 < c.memory.slots) × ((entry (slots_of c.memory t l p) i.0).held ≡ false) × (find (slots_of c.memory t l p) h.stream_id ≡ nowhere)
    makes i e g =
        let o = looked (contains h.flags syn) (table.lowest_free t K) i e in
        let a = free-at c.memory t l p v.memory i.0 (slot_of (lowest_free S) i (sym (free-slots c.memory t l p v.memory) ∙ o)) in
        (a.0, a.1, unknown g)
