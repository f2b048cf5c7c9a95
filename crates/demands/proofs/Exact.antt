-- When a frame gets 7 or 8, and when it makes a stream: its rules, after any ACK step, do what the words of `specs/Demands.antt` say.
-- Assumes nothing.
use Rattle.std.proofs.Common.{Some, Result, Ok, Err, ◌≡◌, refl, sym, ap, ◌∙◌, subst, ◌≢◌, Bool, true, false, cond, not, List, [], ℕ, ◌+◌, ◌<◌, arith, length, get_or-set_same, eqb, ltb, leb, ltb-true, ltb-false, leb-true, leb-false, lt-ltb, le-ltb, le-leb}
use borrow.Author.Tests.{lt-leb}
use Rattle.frame.specs.Header.{contains, syn, ack, rst, fin, session_id, initial_window, protocol_error, internal_error}
use Rattle.frame.specs.declared.header.Header.{Header}
use Rattle.frame.specs.declared.header.StreamId.{StreamId}
use Rattle.frame.specs.declared.header.Tag.{Tag}
use Rattle.frame.specs.declared.header.Tag.TheVariants as tag
use Rattle.frame.specs.declared.header.HeaderDecodeError.{HeaderDecodeError}
use Rattle.frame.specs.declared.header.HeaderDecodeError.TheVariants as found
use Rattle.rtt.specs.Pings.{handle_pong}
use Rattle.flow_control.specs.Windows.{top}
use Rattle.stream.specs.declared.Stream.{Stream}
use Rattle.stream.specs.declared.StreamWakes.{StreamWakes}
use Rattle.rules.specs.declared.Reply.{Reply}
use Rattle.rules.specs.declared.Reply.TheVariants as reply
use Rattle.rules.specs.Replies.{Outcome, number}
use Rattle.rules.specs.Settings.{last_time}
use Rattle.rules.specs.Lists.{Place, at, nowhere}
use Rattle.rules.specs.State.{Entry, Conn, vacant, entry, one, is_free, find, lowest_free, listed_count, room, is_remote, with_slot}
use Rattle.rules.specs.Ending.{Effect, gives, refuse, end, ended}
use Rattle.rules.specs.Frames.{Acked, new_entry, go_away, reset_entry, on_reset, make_at, make, is_known, syn_rules, syn_data, syn_update, taken_entry, take_at, known_data, known_update, data_rules, update_rules, pong_rules, ping_rules, answers_ping, frame_rules, body_length, on_header}
use Rattle.rules.specs.Step.{on_decoded}
use Rattle.rules.specs.Step as rules
use Rattle.rules.proofs.Lists.{Says, first_says, sum-set}
use Rattle.demands.specs.Demands.{held_count, and, ruled, opens, opens_by_credit, opens_as, queues, queues_as}
use Rattle.demands.specs.Theorems.{Exactly, SameHeld, Opened}
use Rattle.rules.proofs.Lists.{split}
use Rattle.demands.proofs.Lists.{true-not-false, at_set, sum-spare}
use Rattle.demands.proofs.Invariant.{Inv}
use Rattle.demands.proofs.Sound.{at_end}
use Rattle.demands.proofs.Acks.{Acks, Located}
use Rattle.demands.proofs.Opening.{free_held}
use Rattle.demands.proofs.Framed.{acked_as, all_held}
use Rattle.rtt.specs.declared.UnexpectedPong.{UnexpectedPong}
use Rattle.rtt.specs.declared.Rtt.{Rtt}
use Rattle.stream.specs.Streams.{received, invalid}

-- ---- 7 and 8

pub record Limits (full over : Type 0) (q : Reply) : Type 0 where
  pub seven : Exactly (q ≡ reply.NoSlot) full
  pub eight : Exactly (q ≡ reply.NoRoom) (over × (q ≢ reply.NoSlot))

abbrev pub Neither : Reply → Type 0
Neither q = (eqb (number q) 7 ≡ false) × (eqb (number q) 8 ≡ false)

not_seven : {P : Type 0} (q : Reply) → eqb (number q) 7 ≡ false → q ≡ reply.NoSlot → P
not_seven q n e = true-not-false (ap (λ (x : Reply). eqb (number x) 7) e) n

not_eight : {P : Type 0} (q : Reply) → eqb (number q) 8 ≡ false → q ≡ reply.NoRoom → P
not_eight q n e = true-not-false (ap (λ (x : Reply). eqb (number x) 8) e) n

pub neither : {full over : Type 0} → (full → ⊥) → (over → ⊥) → (q : Reply) → Neither q → Limits full over q
neither f o q n = record {
  seven = ((λ e. not_seven q n.0 e), (λ x. absurd (f x)));
  eight = ((λ e. not_eight q n.1 e), (λ x. absurd (o x.0)));
}

pub seven_is : {full over : Type 0} → full → Limits full over reply.NoSlot
seven_is f = record { seven = ((λ e. f), (λ x. refl)); eight = ((λ e. not_eight reply.NoSlot refl e), (λ x. absurd (x.1 refl))) }

eight_is : {full over : Type 0} → (full → ⊥) → over → Limits full over reply.NoRoom
eight_is f o = record {
  seven = ((λ e. not_seven reply.NoRoom refl e), (λ x. absurd (f x)));
  eight = ((λ e. (o, (λ q. not_seven reply.NoRoom refl q))), (λ x. refl));
}

-- ---- what is shown of a frame

-- "all K slots are in use"
abbrev pub AllInUse : Conn → Type 0
AllInUse c = held_count c.slots ≡ c.config.slots

-- of a frame on c that names the id: whether the rules would make a stream, and whether its body would be queued and is too long
pub record Exact (c : Conn) (id : StreamId) (opening over : Bool) (r : Effect) : Type 0 where
  pub limits : Limits ((opening ≡ true) × AllInUse c) (over ≡ true) r.outcome.reply
  pub same : opening ≡ false → SameHeld c r.after
  pub opened : opening ≡ true → held_count c.slots < c.config.slots → over ≡ false → Opened c id r

-- a frame that makes no stream and has no body that is too long
still : (c : Conn) (id : StreamId) (opening over : Bool) → opening ≡ false → over ≡ false → (o : Outcome) (d : Conn) → Neither o.reply → SameHeld c d → Exact c id opening over (gives o d)
still c id opening over shut fits o d n s = record {
  limits = neither (λ x. true-not-false x.0 shut) (λ x. true-not-false x fits) o.reply n;
  same = λ e. s;
  opened = λ e. true-not-false e shut;
}

-- ---- Data and WindowUpdate, after an ACK step

module _ (id : StreamId) (a : Acked) (opening over : Bool) where
  abbrev Good : Effect → Type 0
  Good r = Exact a.before id opening over r

  away : (place : Place) → Acks a id place → opening ≡ false → over ≡ false → (code : ℕ) → Good (go_away a code)
  away place k shut fits code = still a.before id opening over shut fits _ a.conn (refl, refl) k.handles

  -- a slot that keeps its handle
  keeps : (i : ℕ) → Acks a id (at i) → (x : Entry) → x.held ≡ (entry a.conn.slots i).held → SameHeld a.before (with_slot a.conn i x)
  keeps i k x e = at_set (λ j y. y.held ≡ (entry a.before.slots j).held) a.conn.slots i x vacant k.located.0 (e ∙ k.handles i) (λ j n. k.handles j)

  resets : (place : Place) → Acks a id place → opening ≡ false → over ≡ false → Good (on_reset a place)
  unfolding on_reset
  resets nowhere k shut fits = still a.before id opening over shut fits _ a.conn (refl, refl) k.handles
  resets (at i) k shut fits = still a.before id opening over shut fits _ _ (refl, refl) (keeps i k (reset_entry (entry a.conn.slots i)) refl)

  -- no room, with a slot left where one is needed
  no_room : over ≡ true → (opening ≡ true → AllInUse a.before → ⊥) → Good (refuse a.before reply.NoRoom)
  no_room o l = record { limits = eight_is (λ x. l x.0 x.1) o; same = λ e i. refl; opened = λ e s n. true-not-false o n }

  -- a stream in the table, which takes the frame where b says so
  takes : (i : ℕ) → Acks a id (at i) → (h : Header) (body : List ℕ) (b : Bool) → opening ≡ false → over ≡ and b (ltb (room a.conn) (length body)) → (s : Stream) (w : StreamWakes) →
      Good (take_at i a h body (cond b (received s w) invalid))
  unfolding take_at
  takes i k h body false shut e s w = away (at i) k shut e protocol_error
  takes i k h body true shut e s w =
      split Good (ltb (room a.conn) (length body))
      (λ r. no_room (e ∙ r) (λ o. true-not-false o shut))
      (λ r. still a.before id opening over shut (e ∙ r) _ _ (refl, refl) (keeps i k (taken_entry (entry a.conn.slots i) s (contains h.flags fin) body) refl))

  module _ (k : Acks a id nowhere) (s : Stream) (names : s.id ≡ id) (body : List ℕ) (does : opening ≡ true) (e : over ≡ ltb (room a.conn) (length body)) where
    same-slots : a.conn.config.slots ≡ a.before.config.slots
    same-slots = rw k.config

    makes-at : (p : Place) → Says is_free a.conn.slots vacant p → Good (make_at p a s body)
    unfolding make_at
    makes-at nowhere f =
        let full : AllInUse a.before = omega (arith, all_held a.conn.slots f, k.helds, k.inv.size, same-slots) in
        record {
          limits = seven_is (does, full);
          same = λ n. true-not-false does n;
          opened = λ o l. absurd (omega (arith, full, l));
        }
    makes-at (at i) f =
        let free : (entry a.conn.slots i).held ≡ false = free_held (entry a.conn.slots i).held f.1 in
        let left = sum-spare (λ (x : Entry). x.held) a.conn.slots i vacant f.0 free in
        let spare : AllInUse a.before → ⊥ = λ full. omega (arith, full, left, k.helds, k.inv.size, same-slots) in
        let more = sum-set (λ (x : Entry). one x.held) a.conn.slots i (new_entry s body) vacant f.0 in
        let vacates : one (entry a.conn.slots i).held ≡ 0 = rw free in
        let x = get_or-set_same a.conn.slots i (new_entry s body) vacant f.0 in
        split Good (ltb (room a.conn) (length body))
        (λ r. no_room (e ∙ r) (λ o full. spare full))
        (λ r.
        record {
          limits = neither (λ q. spare q.1) (λ q. true-not-false q (e ∙ r)) reply.Done (refl, refl);
          same = λ n. true-not-false does n;
          opened = λ o l n. (
            omega (arith, more, vacates, k.helds),
            (refl, ap (λ (d : StreamId). Some d.0) names),
            (i, refl, sym (k.handles i) ∙ free, (ap (λ (y : Entry). y.held) x, ap (λ (y : Entry). y.listed) x, ap (λ (y : Entry). y.stream.id) x ∙ names)),
          );
        })

    makes : Good (make a s body)
    unfolding make
    makes = makes-at (lowest_free a.conn.slots) (first_says is_free a.conn.slots vacant)

  -- the tests of a SYN
  abbrev tests : Place → Bool → Bool
  tests place last =
      and (is_remote a.before.config.mode id)
      (and (not (is_known place))
      (and (ltb (listed_count a.before.slots) a.before.config.max_num_streams) last))

  syns : (place : Place) → Acks a id place → (last : Bool) → opening ≡ tests place last → (opening ≡ false → over ≡ false) → (full : ℕ) (next : Effect) →
      (place ≡ nowhere → opening ≡ last → Good next) → Good (syn_rules a id place full next)
  unfolding syn_rules
  syns (at i) k last e n full next f =
      split Good (is_remote a.conn.config.mode id)
      (λ r. let shut : opening ≡ false = e ∙ rw (← k.config, r) in away (at i) k shut (n shut) protocol_error)
      (λ r. let shut : opening ≡ false = e ∙ rw (← k.config, r) in away (at i) k shut (n shut) protocol_error)
  syns nowhere k last e n full next f =
      split Good (is_remote a.conn.config.mode id)
      (λ r.
      split Good (leb a.conn.config.max_num_streams (listed_count a.conn.slots))
      (λ m.
      let crowded = le-ltb (listed_count a.conn.slots) a.conn.config.max_num_streams (leb-true _ _ m) in
      let shut : opening ≡ false = e ∙ rw (← k.config, ← k.listeds, r, crowded) in
      away nowhere k shut (n shut) full)
      (λ m.
      let few = lt-ltb (listed_count a.conn.slots) a.conn.config.max_num_streams (leb-false _ _ m) in
      f refl (e ∙ rw (← k.config, ← k.listeds, r, few))))
      (λ r. let shut : opening ≡ false = e ∙ rw (← k.config, r) in away nowhere k shut (n shut) protocol_error)

-- a body that is queued and too long
abbrev pub too_long : Conn → List ℕ → Bool → Bool
too_long c body queued = and queued (ltb (room c) (length body))

module _ (h : Header) (now : ℕ) (a : Acked) (place : Place) (k : Acks a h.stream_id place) (here : place ≡ find a.before.slots h.stream_id) where
  module _ (body : List ℕ) where
    abbrev DataOk : Effect → Type 0
    DataOk r = Exact a.before h.stream_id (opens a.before h body) (too_long a.before body (queues a.before h body)) r

    same-room : ltb (room a.conn) (length body) ≡ ltb (room a.before) (length body)
    same-room = rw (k.config, k.unread)

    syn-data : contains h.flags rst ≡ false → contains h.flags syn ≡ true → DataOk (syn_data a h body place now)
    unfolding syn_data
    syn-data r s =
        let q : queues a.before h body ≡ opens a.before h body = rw (r, s) in
        let fits : opens a.before h body ≡ false → too_long a.before body (queues a.before h body) ≡ false = λ n. ap (too_long a.before body) (q ∙ n) in
        syns h.stream_id a _ _ place k (leb (length body) initial_window) (rw (r, s, here)) fits internal_error _ (λ e o.
        split DataOk (ltb initial_window (length body))
        (λ b.
        let shut = o ∙ lt-leb (length body) initial_window (ltb-true initial_window (length body) b) in
        away h.stream_id a _ _ place k shut (fits shut) protocol_error)
        (λ b.
        let does = o ∙ le-leb (length body) initial_window (ltb-false initial_window (length body) b) in
        makes h.stream_id a _ _ (subst (Acks a h.stream_id) e k) _ refl body does (ap (too_long a.before body) (q ∙ does) ∙ sym same-room)))

    known-data : contains h.flags rst ≡ false → contains h.flags syn ≡ false → (p : Place) → p ≡ place → DataOk (known_data a h body p)
    unfolding known_data
    known-data r s nowhere e = still a.before h.stream_id _ _ (rw (r, s)) (rw (r, s, ← here, ← e)) _ a.conn (refl, refl) k.handles
    known-data r s (at i) e =
        takes h.stream_id a _ _ i (subst (Acks a h.stream_id) (sym e) k) h body (leb (length body) (entry a.conn.slots i).stream.flow.receive_window) (rw (r, s))
        (rw (r, s, ← here, ← e, k.flows i, same-room)) _ _

    pub data-rules : DataOk (data_rules a h body place now)
    unfolding data_rules
    data-rules =
        split DataOk (contains h.flags rst)
        (λ r. resets h.stream_id a _ _ place k (rw r) (rw r))
        (λ r. split DataOk (contains h.flags syn) (λ s. syn-data r s) (λ s. known-data r s place refl))

  abbrev UpdateOk : Effect → Type 0
  UpdateOk r = Exact a.before h.stream_id (opens_by_credit a.before h) false r

  -- no bytes are never too many
  bare-fits : ltb (room a.conn) 0 ≡ false
  bare-fits = le-ltb (room a.conn) 0 (omega arith)

  known-update : contains h.flags rst ≡ false → contains h.flags syn ≡ false → (p : Place) → p ≡ place → UpdateOk (known_update a h p)
  unfolding known_update
  known-update r s nowhere e = still a.before h.stream_id _ _ (rw (r, s)) refl _ a.conn (refl, refl) k.handles
  known-update r s (at i) e =
      let b = leb ((entry a.conn.slots i).stream.flow.send_window + h.length.0) top in
      takes h.stream_id a _ _ i (subst (Acks a h.stream_id) (sym e) k) h [] b (rw (r, s)) (rw bare-fits (split (λ x. false ≡ x) b (λ t. refl) (λ t. refl))) _ _

  pub update-rules : UpdateOk (update_rules a h place now)
  unfolding update_rules syn_update
  update-rules =
      split UpdateOk (contains h.flags rst)
      (λ r. resets h.stream_id a _ _ place k (rw r) refl)
      (λ r.
      split UpdateOk (contains h.flags syn)
      (λ s.
      syns h.stream_id a _ _ place k (leb (h.length.0 + initial_window) top) (rw (r, s, here)) (λ n. refl) protocol_error _ (λ e o.
      split UpdateOk (ltb top (h.length.0 + initial_window))
      (λ b. away h.stream_id a _ _ place k (o ∙ lt-leb (h.length.0 + initial_window) top (ltb-true top (h.length.0 + initial_window) b)) refl protocol_error)
      (λ b.
      let does = o ∙ le-leb (h.length.0 + initial_window) top (ltb-false top (h.length.0 + initial_window) b) in
      makes h.stream_id a _ _ (subst (Acks a h.stream_id) e k) _ refl [] does (sym bare-fits))))
      (λ s. known-update r s place refl))

-- ---- every frame

ended_held : (c : Conn) → SameHeld c (ended c)
ended_held c = at_end (λ j e. e.held ≡ (entry c.slots j).held) c.slots (λ j. refl)

-- the id that a frame names
abbrev pub named : Result Header HeaderDecodeError → StreamId
named (Err found.Size) = session_id
named (Err (found.Version v)) = session_id
named (Err (found.Type t)) = session_id
named (Ok h) = h.stream_id

module _ (c : Conn) (v : Inv c) (body : List ℕ) (now : ℕ) where
  module _ (h : Header) (live : c.ended ≡ false) where
    abbrev place : Place
    place = find c.slots h.stream_id

    abbrev FrameOk : Tag → Effect → Type 0
    FrameOk t r = Exact c h.stream_id (opens_as t c h body) (too_long c body (queues_as t c h body)) r

    located : Located c.slots h.stream_id place
    located = first_says _ c.slots vacant

    pongs : (p : Result Rtt UnexpectedPong) → FrameOk tag.Ping (pong_rules c p)
    unfolding pong_rules
    pongs (Err _) = still c _ _ _ refl refl _ _ (refl, refl) (λ i. refl)
    pongs (Ok p) = still c _ _ _ refl refl _ _ (refl, refl) (λ i. refl)

    pings : FrameOk tag.Ping (ping_rules c h now)
    unfolding ping_rules
    pings =
        split (FrameOk tag.Ping) (contains h.flags ack)
        (λ e. pongs (handle_pong c.pings h.length.0 now c.config.interval))
        (λ e.
        split (FrameOk tag.Ping) (answers_ping c h.stream_id)
        (λ s. still c _ _ _ refl refl _ _ (refl, refl) (λ i. refl))
        (λ s. still c _ _ _ refl refl _ _ (refl, refl) (λ i. refl)))

    frames : (t : Tag) → FrameOk t (frame_rules t c h body place now)
    unfolding frame_rules
    frames tag.Data =
        acked_as c v live h place located
        (λ d a. place ≡ find d.slots h.stream_id → Exact d h.stream_id (opens d h body) (too_long d body (queues d h body)) (data_rules a h body place now))
        (λ a k here. data-rules h now a place k here body) refl
    frames tag.WindowUpdate =
        acked_as c v live h place located
        (λ d a. place ≡ find d.slots h.stream_id → Exact d h.stream_id (opens_by_credit d h) false (update_rules a h place now))
        (λ a k here. update-rules h now a place k here) refl
    frames tag.Ping = pings
    frames tag.GoAway = still c _ _ _ refl refl _ _ (refl, refl) (ended_held c)

  abbrev pub DecodedOk : Result Header HeaderDecodeError → Effect → Type 0
  DecodedOk d r = Exact c (named d) (ruled d c now body (λ h. opens_as h.tag c h body)) (too_long c body (ruled d c now body (λ h. queues_as h.tag c h body))) r

  module _ (d : Result Header HeaderDecodeError) (makes_none : ruled d c now body (λ h. opens_as h.tag c h body) ≡ false) (queues-none : ruled d c now body (λ h. queues_as h.tag c h body) ≡ false) where
    refuses : (q : Reply) → Neither q → DecodedOk d (refuse c q)
    refuses q n = still c _ _ _ makes_none (rw queues-none) _ _ n (λ i. refl)

    ends : (q : Reply) → Neither q → DecodedOk d (rules.timed c now (rules.live c (end c q)))
    ends q n =
        split (DecodedOk d) (ltb last_time now) (λ t. refuses reply.Time (refl, refl)) (λ t.
        split (DecodedOk d) c.ended (λ e. refuses reply.Closed (refl, refl)) (λ e.
        still c _ _ _ makes_none (rw queues-none) _ _ n (ended_held c)))

  pub exact : (d : Result Header HeaderDecodeError) → DecodedOk d (on_decoded d c body now)
  unfolding on_decoded on_header
  exact (Err found.Size) = refuses (Err found.Size) refl refl reply.Size (refl, refl)
  exact (Err (found.Version n)) = ends (Err (found.Version n)) refl refl reply.Version (refl, refl)
  exact (Err (found.Type n)) = ends (Err (found.Type n)) refl refl reply.Type (refl, refl)
  exact (Ok h) =
      let d : Result Header HeaderDecodeError = Ok h in
      split (DecodedOk d) (ltb last_time now)
      (λ t. let late = lt-leb now last_time (ltb-true last_time now t) in refuses d (rw late) (rw late) reply.Time (refl, refl))
      (λ t.
      let timely = le-leb now last_time (ltb-false last_time now t) in
      split (DecodedOk d) c.ended
      (λ e. refuses d (rw (timely, e)) (rw (timely, e)) reply.Closed (refl, refl))
      (λ live.
      let goes_on : not c.ended ≡ true = rw live in
      split (DecodedOk d) (eqb (length body) (body_length h.tag h.length.0))
      (λ n. rw (timely, goes_on, n) (frames h live h.tag))
      (λ n. refuses d (rw (timely, goes_on, n)) (rw (timely, goes_on, n)) reply.Body (refl, refl))))
