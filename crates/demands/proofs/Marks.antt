-- What each frame does to the marks of those who wait, and what it reports of it. Assumes nothing.
use Rattle.std.proofs.Common.{Option, Some, Result, Ok, Err, ◌≡◌, refl, sym, ◌∙◌, ◌⊎◌, inl, inr, Bool, true, false, cond, not, List, [], ℕ, ◌+◌, length, get_or-set_same, eqb, ltb, leb}
use Rattle.frame.specs.Header.{contains, syn, ack, fin, rst, initial_window, protocol_error, internal_error}
use Rattle.frame.specs.declared.header.Header.{Header}
use Rattle.frame.specs.declared.header.Tag.{Tag}
use Rattle.frame.specs.declared.header.Tag.TheVariants as tag
use Rattle.rtt.specs.Pings.{handle_pong}
use Rattle.flow_control.specs.Windows.{top}
use Rattle.stream.specs.Streams as stream
use Rattle.stream.specs.declared.Stream.{Stream}
use Rattle.stream.specs.declared.StreamWakes.{StreamWakes}
use Rattle.rules.specs.declared.Reply.{Reply}
use Rattle.rules.specs.declared.Reply.TheVariants as reply
use Rattle.rules.specs.Settings.{last_time}
use Rattle.rules.specs.Replies.{Outcome, no_wakes}
use Rattle.rules.specs.Lists.{Place, at, nowhere}
use Rattle.rules.specs.State.{Entry, Conn, vacant, entry, has_id, find, lowest_free, is_remote, listed_count, room, with_slot}
use Rattle.rules.specs.Ending.{Effect, gives, refuse, end}
use Rattle.rules.specs.Frames.{Acked, ack_step, frame_wakes, quiet, answer, whose, go_away, on_reset, reset_entry, make_at, make, syn_rules, syn_data, opened_by, syn_update, taken_entry, take_at, known_data, known_update, data_rules, update_rules, pong_rules, ping_rules, answers_ping, frame_rules, body_length, on_header}
use Rattle.rules.specs.Step as rules
use Rattle.rules.proofs.Lists.{first_says}
use Rattle.demands.specs.Demands.{and}
use Rattle.rules.proofs.Lists.{split}
use Rattle.demands.proofs.Lists.{true-not-false}
use Rattle.demands.proofs.Invariant.{Inv}
use Rattle.demands.proofs.Acks.{Acks, Located, SameWaits, after-ack, unmoved, acknowledges}
use Rattle.rules.specs.declared.Slot.{Slot}
use Rattle.rtt.specs.declared.UnexpectedPong.{UnexpectedPong}
use Rattle.rtt.specs.declared.Rtt.{Rtt}
use Rattle.stream.specs.Streams.{received, invalid}

-- ---- a mark before and after

-- on before, and off after
abbrev pub cleared : Bool → Bool → Bool
cleared before after = and before (not after)

pub clear_kept : (b : Bool) → false ≡ cleared b b
clear_kept true = refl
clear_kept false = refl

pub clear_set : (b : Bool) → false ≡ cleared b true
clear_set true = refl
clear_set false = refl

pub clear_off : (b : Bool) → b ≡ cleared b false
clear_off true = refl
clear_off false = refl

-- ---- what is shown of a call on c

-- the marks of a stream that is s before and t after are those that were kept, but for what is told
abbrev pub Marks : Bool → Bool → Stream → Stream → Type 0
Marks reader writer s t = (reader ≡ cleared s.reader t.reader) × (writer ≡ cleared s.writer t.writer)

-- the answer tells slot i where it reports a reader or a writer
abbrev Tells : Outcome → ℕ → Type 0
Tells o i =
    (o.wakes.reader ≡ true → o.slot ≡ Some (record { 0 = i }))
    × (o.wakes.writer ≡ true → o.slot ≡ Some (record { 0 = i }))

-- of the stream at a place what is reported is what was cleared; with none, nothing is reported
abbrev pub Reports : Place → (ℕ → ℕ) → List Entry → Effect → Type 0
Reports nowhere told es r = (r.outcome.wakes.reader ≡ false) × (r.outcome.wakes.writer ≡ false)
Reports (at j) told es r =
    Marks r.outcome.wakes.reader r.outcome.wakes.writer (entry es j).stream (entry r.after.slots j).stream
    × Tells r.outcome (told j)

-- a call that does not end the connection; it wakes the stream at `place`, and the slots that are `mine` keep their marks
pub record Goes (c : Conn) (place : Place) (told : ℕ → ℕ) (mine : ℕ → Type 0) (r : Effect) : Type 0 where
  pub all : r.outcome.wakes.all ≡ false
  pub same : r.after.ended ≡ c.ended
  pub opener : r.outcome.wakes.opener ≡ cleared c.open_wait r.after.open_wait
  pub here : Reports place told c.slots r
  pub kept : (j : ℕ) → mine j → Marks false false (entry c.slots j).stream (entry r.after.slots j).stream

abbrev pub Ends : Conn → Effect → Type 0
Ends c r = (c.ended ≡ false) × ((q : Reply) × (r ≡ end c q))

abbrev pub Waits : Conn → Place → (ℕ → ℕ) → (ℕ → Type 0) → Effect → Type 0
Waits c place told mine r = Ends c r ⊎ Goes c place told mine r

pub stay : (s : Stream) → Marks false false s s
stay s = (clear_kept s.reader, clear_kept s.writer)

pub same_marks : (s t : Stream) → SameWaits t s → Marks false false s t
same_marks s t e = rw (e.0, e.1) (stay s)

-- ---- calls that report nobody

module _ (c : Conn) (told : ℕ → ℕ) (mine : ℕ → Type 0) where
  nobody : (place : Place) (r : Effect) → r.outcome.wakes ≡ no_wakes → r.after.slots ≡ c.slots → Reports place told c.slots r
  nobody nowhere r e s = (rw e, rw e)
  nobody (at j) r e s = (rw (e, s) (stay (entry c.slots j).stream), ((λ q. true-not-false q (rw e)), (λ q. true-not-false q (rw e))))

  -- all slots as they were
  pub idle : (place : Place) (o : Outcome) (d : Conn) → o.wakes ≡ no_wakes → d.ended ≡ c.ended → d.open_wait ≡ c.open_wait → d.slots ≡ c.slots → Goes c place told mine (gives o d)
  idle place o d e n w s = record {
    all = rw e;
    same = n;
    opener = rw (e, w) (clear_kept c.open_wait);
    here = nobody place (gives o d) e s;
    kept = λ j m. rw s (stay (entry c.slots j).stream);
  }

  pub refused : (place : Place) (q : Reply) → Goes c place told mine (refuse c q)
  refused place q = idle place _ c refl refl refl refl

  -- a slot that is its own changes
  pub calm : (o : Outcome) (d : Conn) → o.wakes ≡ no_wakes → d.ended ≡ c.ended → false ≡ cleared c.open_wait d.open_wait →
      ((j : ℕ) → mine j → Marks false false (entry c.slots j).stream (entry d.slots j).stream) → Goes c nowhere told mine (gives o d)
  calm o d e n w m = record { all = rw e; same = n; opener = rw e w; here = (rw e, rw e); kept = m }

  -- ---- the tests of a call

  pub timed-ok : (place : Place) (now : ℕ) (next : Effect) → Waits c place told mine next → Waits c place told mine (rules.timed c now next)
  timed-ok place now next s = split (Waits c place told mine) (ltb last_time now) (λ t. inr (refused place reply.Time)) (λ t. s)

  pub live-ok : (place : Place) (next : Effect) → (c.ended ≡ false → Waits c place told mine next) → Waits c place told mine (rules.live c next)
  live-ok place next s = split (Waits c place told mine) c.ended (λ t. inr (refused place reply.Closed)) s

  pub holding-ok : (place : Place) (i : ℕ) (next : Effect) → ((entry c.slots i).held ≡ true → Goes c place told mine next) → Waits c place told mine (rules.holding c i next)
  holding-ok place i next s = split (Waits c place told mine) (entry c.slots i).held (λ h. inr (s h)) (λ h. inr (refused place reply.NotHeld))

-- ---- frames, after an ACK step

-- an open is woken where its wait was cleared
abbrev Opened : Acked → Type 0
Opened a = a.woke ≡ cleared a.before.open_wait a.conn.open_wait

opened : (c : Conn) (h : Header) (place : Place) → Opened (ack_step c h place)
unfolding ack_step
opened c h nowhere = split Opened (contains h.flags ack) (λ e. clear_off c.open_wait) (λ e. clear_kept c.open_wait)
opened c h (at i) = split Opened (contains h.flags ack) (λ e. clear_off c.open_wait) (λ e. clear_kept c.open_wait)

tells-whose : (reader writer : Bool) (i : ℕ) →
    let w : StreamWakes = record { reader = reader; writer = writer } in
    (reader ≡ true → whose w i ≡ Some (record { 0 = i })) × (writer ≡ true → whose w i ≡ Some (record { 0 = i }))
tells-whose true writer i = ((λ e. refl), (λ e. refl))
tells-whose false true i = ((λ e. refl), (λ e. refl))
tells-whose false false i = ((λ e. true-not-false e refl), (λ e. true-not-false e refl))

abbrev pub itself : ℕ → ℕ
itself j = j

abbrev pub none : ℕ → Type 0
none j = ⊥

module _ (h : Header) (a : Acked) (o : Opened a) where
  abbrev Good : Place → Effect → Type 0
  Good place r = Goes a.before place itself none r

  -- an answer that leaves what the ACK step left
  plain : (place : Place) → Acks a h.stream_id place → (q : Reply) (s : Option Slot) (v : Option ℕ) (n : Option Header) →
      Reports place itself a.before.slots (gives (record { reply = q; slot = s; value = v; header = n; body = []; wakes = frame_wakes a quiet; bytes = [] }) a.conn)
  plain nowhere k q s v n = (refl, refl)
  plain (at j) k q s v n = (same_marks (entry a.before.slots j).stream (entry a.conn.slots j).stream (k.waits j), ((λ e. true-not-false e refl), (λ e. true-not-false e refl)))

  answers : (place : Place) → Acks a h.stream_id place → (q : Reply) (s : Option Slot) (v : Option ℕ) (n : Option Header) →
      Good place (gives (record { reply = q; slot = s; value = v; header = n; body = []; wakes = frame_wakes a quiet; bytes = [] }) a.conn)
  answers place k q s v n = record { all = refl; same = k.live ∙ sym k.alive; opener = o; here = plain place k q s v n; kept = λ j m. absurd m }

  -- a stream in the table that changes
  wakes : (i : ℕ) → Acks a h.stream_id (at i) → (w : StreamWakes) (x : Entry) → Marks w.reader w.writer (entry a.conn.slots i).stream x.stream → (v : Option ℕ) (n : Option Header) →
      Good (at i) (gives (answer a (whose w i) v n w) (with_slot a.conn i x))
  wakes i k w x m v n = record {
    all = refl;
    same = k.live ∙ sym k.alive;
    opener = o;
    here = (rw (get_or-set_same a.conn.slots i x vacant k.located.0, ← (k.waits i).0, ← (k.waits i).1) m, tells-whose w.reader w.writer i);
    kept = λ j q. absurd q;
  }

  resets : (place : Place) → Acks a h.stream_id place → Good place (on_reset a place)
  unfolding on_reset
  resets nowhere k = answers nowhere k _ _ _ _
  resets (at i) k =
      let e = entry a.conn.slots i in
      wakes i k (stream.reset e.stream).wakes (reset_entry e) (clear_off e.stream.reader, clear_off e.stream.writer) _ _

  -- ---- SYN

  makes-at : Acks a h.stream_id nowhere → (p : Place) (s : Stream) (body : List ℕ) → Good nowhere (make_at p a s body)
  unfolding make_at
  makes-at k nowhere s body = refused a.before itself none nowhere reply.NoSlot
  makes-at k (at i) s body =
      split (Good nowhere) (ltb (room a.conn) (length body))
      (λ r. refused a.before itself none nowhere reply.NoRoom)
      (λ r. record { all = refl; same = k.live ∙ sym k.alive; opener = o; here = (refl, refl); kept = λ j q. absurd q })

  makes : Acks a h.stream_id nowhere → (s : Stream) (body : List ℕ) → Good nowhere (make a s body)
  unfolding make
  makes k s body = makes-at k (lowest_free a.conn.slots) s body

  syns : (place : Place) → Acks a h.stream_id place → (full : ℕ) (b : Bool) (s : Stream) (body : List ℕ) →
      Good place (syn_rules a h.stream_id place full (cond b (go_away a protocol_error) (make a s body)))
  unfolding syn_rules
  syns (at i) k full b s body =
      split (Good (at i)) (is_remote a.conn.config.mode h.stream_id) (λ r. answers (at i) k _ _ _ _) (λ r. answers (at i) k _ _ _ _)
  syns nowhere k full b s body =
      split (Good nowhere) (is_remote a.conn.config.mode h.stream_id)
      (λ r.
      split (Good nowhere) (leb a.conn.config.max_num_streams (listed_count a.conn.slots))
      (λ m. answers nowhere k _ _ _ _)
      (λ m. split (Good nowhere) b (λ e. answers nowhere k _ _ _ _) (λ e. makes k s body)))
      (λ r. answers nowhere k _ _ _ _)

  -- ---- a known stream

  takes : (i : ℕ) → Acks a h.stream_id (at i) → (body : List ℕ) (b : Bool) (s : Stream) (w : StreamWakes) → Marks w.reader w.writer (entry a.conn.slots i).stream s →
      Good (at i) (take_at i a h body (cond b (received s w) invalid))
  unfolding take_at
  takes i k body false s w m = answers (at i) k _ _ _ _
  takes i k body true s w m =
      split (Good (at i)) (ltb (room a.conn) (length body))
      (λ r. refused a.before itself none (at i) reply.NoRoom)
      (λ r. wakes i k w (taken_entry (entry a.conn.slots i) s (contains h.flags fin) body) m _ _)

  known-data : (place : Place) → Acks a h.stream_id place → (body : List ℕ) → Good place (known_data a h body place)
  unfolding known_data
  known-data nowhere k body = answers nowhere k _ _ _ _
  known-data (at i) k body =
      let s = (entry a.conn.slots i).stream in
      takes i k body (leb (length body) s.flow.receive_window) _ _ (clear_off s.reader, clear_kept s.writer)

  -- a FIN wakes the reader, and without it the reader keeps its mark
  fin-marks : (b r : Bool) → cond b r false ≡ cleared r (cond b false r)
  fin-marks true r = clear_off r
  fin-marks false r = clear_kept r

  known-update : (place : Place) → Acks a h.stream_id place → Good place (known_update a h place)
  unfolding known_update
  known-update nowhere k = answers nowhere k _ _ _ _
  known-update (at i) k =
      let s = (entry a.conn.slots i).stream in
      takes i k [] (leb (s.flow.send_window + h.length.0) top) _ _ (fin-marks (contains h.flags fin) s.reader, clear_off s.writer)

  data-rules : (place : Place) → Acks a h.stream_id place → (body : List ℕ) (now : ℕ) → Good place (data_rules a h body place now)
  unfolding data_rules syn_data
  data-rules place k body now =
      split (Good place) (contains h.flags rst) (λ r. resets place k) (λ r.
      split (Good place) (contains h.flags syn) (λ s. syns place k internal_error (ltb initial_window (length body)) (stream.data_taken (stream.new_inbound h.stream_id initial_window now) (length body) (contains h.flags fin)) body) (λ s. known-data place k body))

  update-rules : (place : Place) → Acks a h.stream_id place → (now : ℕ) → Good place (update_rules a h place now)
  unfolding update_rules syn_update
  update-rules place k now =
      split (Good place) (contains h.flags rst) (λ r. resets place k) (λ r.
      split (Good place) (contains h.flags syn) (λ s. syns place k protocol_error (ltb top (h.length.0 + initial_window)) (opened_by h now) []) (λ s. known-update place k))

-- ---- each type of frame

module _ (c : Conn) (v : Inv c) (live : c.ended ≡ false) (h : Header) (body : List ℕ) (now : ℕ) where
  abbrev place : Place
  place = find c.slots h.stream_id

  abbrev FrameOk : Effect → Type 0
  FrameOk r = Goes c place itself none r

  located : Located c.slots h.stream_id place
  located = first_says (has_id h.stream_id) c.slots vacant

  -- what is so after an ACK step is so after this one
  acked : (rest : Acked → Effect) → ((a : Acked) → Opened a → Acks a h.stream_id place → Goes a.before place itself none (rest a)) → FrameOk (rest (ack_step c h place))
  acked rest f =
      after-ack c v live h place located (λ a. Opened a → FrameOk (rest a))
      (λ b w o. f _ o (unmoved c v live h.stream_id b w place located))
      (λ o. f _ o (acknowledges c v live h.stream_id place located))
      (opened c h place)

  pongs : (p : Result Rtt UnexpectedPong) → FrameOk (pong_rules c p)
  unfolding pong_rules
  pongs (Err _) = idle c itself none place _ _ refl refl refl refl
  pongs (Ok p) = idle c itself none place _ _ refl refl refl refl

  pings : FrameOk (ping_rules c h now)
  unfolding ping_rules
  pings =
      split FrameOk (contains h.flags ack)
      (λ e. pongs (handle_pong c.pings h.length.0 now c.config.interval))
      (λ e. split FrameOk (answers_ping c h.stream_id) (λ s. idle c itself none place _ _ refl refl refl refl) (λ s. idle c itself none place _ _ refl refl refl refl))

  frames : (t : Tag) → Waits c place itself none (frame_rules t c h body place now)
  unfolding frame_rules
  frames tag.Data = inr (acked (λ a. data_rules a h body place now) (λ a o k. data-rules h a o place k body now))
  frames tag.WindowUpdate = inr (acked (λ a. update_rules a h place now) (λ a o k. update-rules h a o place k now))
  frames tag.Ping = inr pings
  frames tag.GoAway = inl (live, (reply.Closed, refl))

  pub headers : Waits c place itself none (on_header c h body now)
  unfolding on_header
  headers =
      split (Waits c place itself none) (eqb (length body) (body_length h.tag h.length.0))
      (λ e. frames h.tag)
      (λ e. inr (refused c itself none place reply.Body))
