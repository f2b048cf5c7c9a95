-- Frames keep the accounts balanced. Assumes nothing.
use Rattle.std.proofs.Common.{Option, Some, None, Result, Ok, Err, ◌≡◌, refl, sym, subst, Bool, true, false, cond, List, [], ℕ, ◌+◌, arith, length, eqb, ltb, leb, eqb-true, leb-true, ltb-false}
use Rattle.frame.specs.Header.{contains, syn, ack, fin, rst, initial_window, protocol_error, internal_error}
use Rattle.frame.specs.declared.header.Header.{Header}
use Rattle.frame.specs.declared.header.Credit.{Credit}
use Rattle.frame.specs.declared.header.Tag.{Tag}
use Rattle.frame.specs.declared.header.Tag.TheVariants as tag
use Rattle.rtt.specs.Pings.{handle_pong}
use Rattle.flow_control.specs.Windows.{top}
use Rattle.flow_control.specs.declared.FlowController.{FlowController}
use Rattle.stream.specs.Streams.{data_taken, update_taken, new_inbound, received, invalid}
use Rattle.stream.specs.declared.Stream.{Stream}
use Rattle.stream.specs.declared.StreamWakes.{StreamWakes}
use Rattle.rules.specs.Lists.{Place, at, nowhere}
use Rattle.rules.specs.State.{Conn, vacant, entry, is_free, is_remote, has_id, find, lowest_free, listed_count, room}
use Rattle.rules.specs.Ending.{Effect}
use Rattle.rules.specs.Frames.{Acked, ack_step, is_known, on_reset, reset_entry, make_at, make, syn_rules, opened_by, syn_data, syn_update, take_at, known_data, known_update, data_rules, update_rules, pong_rules, ping_rules, answers_ping, frame_rules, body_length, on_header}
use Rattle.rules.proofs.Lists.{Says, first_says}
use Rattle.demands.specs.Ledger.{Account, blank, credit_in, came_in, opened, booked_at, booked_frame}
use Rattle.rules.proofs.Lists.{split}
use Rattle.demands.proofs.Invariant.{Inv}
use Rattle.demands.proofs.Acks.{Acks, Located, after-ack, unmoved, acknowledges}
use Rattle.demands.proofs.Ledger.{Balanced, Balance, both-change, slot-changes, account-changes, end_balance, blank_balanced}
use Rattle.rules.specs.declared.Slot.{Slot}
use Rattle.rtt.specs.declared.UnexpectedPong.{UnexpectedPong}
use Rattle.rtt.specs.declared.Rtt.{Rtt}

-- ---- a frame that comes in

opened-none : (w : Option Slot) (a : Account) (b e : ℕ → Account) → opened w None a b e ≡ e
opened-none (Some i) a b e = refl
opened-none None a b e = refl

-- its bytes fall from the receive window, and its credit goes to the send window
came-in : (h : Header) (body : List ℕ) (t : Tag) → h.tag ≡ t → (a : Account) (x y : FlowController) → Balanced a x →
    y.receive_window + length body ≡ x.receive_window → y.send_window ≡ x.send_window + credit_in t h.length.0 → Balanced (came_in h body a) y
came-in h body t e a x y p r s = rw e (omega (arith, p.0, r), omega (arith, p.1, s))

module _ (h : Header) (body : List ℕ) (b : ℕ → Account) where
  abbrev Good : Place → Effect → Type 0
  Good place r = Balance (booked_frame h body place r.outcome b) r.after.slots

  -- ---- Data and WindowUpdate, after an ACK step

  module _ (a : Acked) (before : Balance b a.before.slots) where
    -- the step leaves all windows
    after : (place : Place) → Acks a h.stream_id place → Balance b a.conn.slots
    after place k j = subst (Balanced (b j)) (sym (k.flows j)) (before j)

    resets : contains h.flags rst ≡ true → (place : Place) → Acks a h.stream_id place → Good place (on_reset a place)
    unfolding on_reset
    resets r nowhere k = rw r (after nowhere k)
    resets r (at i) k = rw r (slot-changes b a.conn.slots (after (at i) k) i (reset_entry (entry a.conn.slots i)) k.located.0 refl)

    -- a new stream whose windows balance with the frame
    makes-at : contains h.flags rst ≡ false → (place : Place) → Acks a h.stream_id place → (s : Stream) → Balanced (came_in h body blank) s.flow → (more : List ℕ) (p : Place) → Says is_free a.conn.slots vacant p →
        Good place (make_at p a s more)
    unfolding make_at
    makes-at n place k s q more nowhere f = before
    makes-at n place k s q more (at i) f =
        split (Good place) (ltb (room a.conn) (length more)) (λ r. before)
        (λ r. rw n (both-change b a.conn.slots (after place k) i (came_in h body blank) _ f.0 q))

    makes : contains h.flags rst ≡ false → (place : Place) → Acks a h.stream_id place → (s : Stream) → Balanced (came_in h body blank) s.flow → (more : List ℕ) → Good place (make a s more)
    unfolding make
    makes n place k s q more = makes-at n place k s q more (lowest_free a.conn.slots) (first_says is_free a.conn.slots vacant)

    syns : (place : Place) → Acks a h.stream_id place → (full : ℕ) (next : Effect) → Good place next → Good place (syn_rules a h.stream_id place full next)
    unfolding syn_rules
    syns place k full next f =
        let still = after place k in
        split (Good place) (is_remote a.conn.config.mode h.stream_id)
        (λ r.
        split (Good place) (is_known place)
        (λ i. still)
        (λ i. split (Good place) (leb a.conn.config.max_num_streams (listed_count a.conn.slots)) (λ m. still) (λ m. f)))
        (λ r. still)

    -- a known stream whose windows balance with the frame
    takes : contains h.flags rst ≡ false → (i : ℕ) → Acks a h.stream_id (at i) → (more : List ℕ) (t : Bool) (s : Stream) (w : StreamWakes) → (t ≡ true → Balanced (came_in h body (b i)) s.flow) →
        Good (at i) (take_at i a h more (cond t (received s w) invalid))
    unfolding take_at
    takes n i k more true s w q =
        split (Good (at i)) (ltb (room a.conn) (length more)) (λ r. before)
        (λ r. rw (n, opened-none _ (came_in h body blank) b _) (both-change b a.conn.slots (after (at i) k) i (came_in h body (b i)) _ k.located.0 (q refl)))
    takes n i k more false s w q = after (at i) k

    syn-data : h.tag ≡ tag.Data → contains h.flags rst ≡ false → (place : Place) → Acks a h.stream_id place → (now : ℕ) → Good place (syn_data a h body place now)
    unfolding syn_data
    syn-data e n place k now =
        let s = data_taken (new_inbound h.stream_id initial_window now) (length body) (contains h.flags fin) in
        syns place k internal_error _
        (split (Good place) (ltb initial_window (length body)) (λ g. after place k)
        (λ g. makes n place k s (came-in h body tag.Data e blank vacant.stream.flow s.flow blank_balanced (omega (arith, ltb-false initial_window (length body) g)) refl) body))

    syn-update : h.tag ≡ tag.WindowUpdate → length body ≡ 0 → contains h.flags rst ≡ false → (place : Place) → Acks a h.stream_id place → (now : ℕ) → Good place (syn_update a h place now)
    unfolding syn_update
    syn-update e l n place k now =
        let s = opened_by h now in
        syns place k protocol_error _
        (split (Good place) (ltb top (h.length.0 + initial_window)) (λ g. after place k)
        (λ g. makes n place k s (came-in h body tag.WindowUpdate e blank vacant.stream.flow s.flow blank_balanced (omega (arith, l)) (omega arith)) []))

    known-data : h.tag ≡ tag.Data → contains h.flags rst ≡ false → (place : Place) → Acks a h.stream_id place → Good place (known_data a h body place)
    unfolding known_data
    known-data e n nowhere k = rw n (after nowhere k)
    known-data e n (at i) k =
        let s = (entry a.conn.slots i).stream in
        let t = data_taken s (length body) (contains h.flags fin) in
        takes n i k body (leb (length body) s.flow.receive_window) t _
        (λ g. came-in h body tag.Data e (b i) s.flow t.flow (after (at i) k i) (omega (arith, leb-true (length body) s.flow.receive_window g)) (omega arith))

    known-update : h.tag ≡ tag.WindowUpdate → length body ≡ 0 → contains h.flags rst ≡ false → (place : Place) → Acks a h.stream_id place → Good place (known_update a h place)
    unfolding known_update
    known-update e l n nowhere k = rw n (after nowhere k)
    known-update e l n (at i) k =
        let s = (entry a.conn.slots i).stream in
        let credit : Credit = record { 0 = h.length.0 } in
        let t = update_taken s credit (contains h.flags fin) in
        takes n i k [] (leb (s.flow.send_window + h.length.0) top) t _
        (λ g. came-in h body tag.WindowUpdate e (b i) s.flow t.flow (after (at i) k i) (omega (arith, l)) refl)

    data-rules : h.tag ≡ tag.Data → (place : Place) → Acks a h.stream_id place → (now : ℕ) → Good place (data_rules a h body place now)
    unfolding data_rules
    data-rules e place k now =
        split (Good place) (contains h.flags rst) (λ r. resets r place k)
        (λ r. split (Good place) (contains h.flags syn) (λ s. syn-data e r place k now) (λ s. known-data e r place k))

    update-rules : h.tag ≡ tag.WindowUpdate → length body ≡ 0 → (place : Place) → Acks a h.stream_id place → (now : ℕ) → Good place (update_rules a h place now)
    unfolding update_rules
    update-rules e l place k now =
        split (Good place) (contains h.flags rst) (λ r. resets r place k)
        (λ r. split (Good place) (contains h.flags syn) (λ s. syn-update e l r place k now) (λ s. known-update e l r place k))

  -- ---- each type

  module _ (c : Conn) (v : Inv c) (live : c.ended ≡ false) (w : Balance b c.slots) (now : ℕ) where
    abbrev place : Place
    place = find c.slots h.stream_id

    located : Located c.slots h.stream_id place
    located = first_says (has_id h.stream_id) c.slots vacant

    -- what holds after an ACK step of the frame
    acked : (f : Acked → Effect) → ((a : Acked) → Balance b a.before.slots → Acks a h.stream_id place → Good place (f a)) → Good place (f (ack_step c h place))
    acked f g =
        after-ack c v live h place located (λ a. Good place (f a))
        (λ t u. g _ w (unmoved c v live h.stream_id t u place located))
        (g _ w (acknowledges c v live h.stream_id place located))

    -- a Ping carries neither, whether its id is in the table or not
    came-ping : h.tag ≡ tag.Ping → length body ≡ 0 → (p : Place) → Balance (booked_at p h body b) c.slots
    came-ping e l nowhere = w
    came-ping e l (at i) =
        let f = (entry c.slots i).stream.flow in
        account-changes b c.slots w i (came_in h body (b i)) (came-in h body tag.Ping e (b i) f f (w i) (omega (arith, l)) (omega arith))

    pinged : h.tag ≡ tag.Ping → length body ≡ 0 → Balance (cond (contains h.flags rst) b (booked_at place h body b)) c.slots
    pinged e l = split (λ (x : ℕ → Account). Balance x c.slots) (contains h.flags rst) (λ r. w) (λ r. came-ping e l place)

    pongs : h.tag ≡ tag.Ping → length body ≡ 0 → (p : Result Rtt UnexpectedPong) → Good place (pong_rules c p)
    unfolding pong_rules
    pongs e l (Err _) = w
    pongs e l (Ok p) = pinged e l

    pings : h.tag ≡ tag.Ping → length body ≡ 0 → Good place (ping_rules c h now)
    unfolding ping_rules
    pings e l =
        split (Good place) (contains h.flags ack)
        (λ t. pongs e l (handle_pong c.pings h.length.0 now c.config.interval))
        (λ t. split (Good place) (answers_ping c h.stream_id) (λ s. pinged e l) (λ s. pinged e l))

    frames : (t : Tag) → h.tag ≡ t → eqb (length body) (body_length t h.length.0) ≡ true → Good place (frame_rules t c h body place now)
    unfolding frame_rules
    frames tag.Data e l = acked (λ a. data_rules a h body place now) (λ a q k. data-rules a q e place k now)
    frames tag.WindowUpdate e l = acked (λ a. update_rules a h place now) (λ a q k. update-rules a q e (eqb-true _ _ l) place k now)
    frames tag.Ping e l = pings e (eqb-true _ _ l)
    frames tag.GoAway e l = end_balance b c.slots w

    pub headers-balance : Good place (on_header c h body now)
    unfolding on_header
    headers-balance =
        split (Good place) (eqb (length body) (body_length h.tag h.length.0))
        (λ l. frames h.tag refl l)
        (λ l. w)
