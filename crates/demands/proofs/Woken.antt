-- Whom a frame wakes, that it makes nobody wait, and that it leaves the next id. Assumes nothing.
use Rattle.std.proofs.Common.{None, Result, Ok, Err, ◌≡◌, refl, sym, ap, ◌∙◌, subst, ◌⊎◌, inl, inr, ◌≢◌, Bool, true, false, cond, List, [], ℕ, ◌+◌, ◌<◌, length, set, get_or-set_same, eqb, ltb, leb}
use Rattle.frame.specs.Header.{contains, syn, ack, fin, rst, initial_window, protocol_error, internal_error}
use Rattle.frame.specs.declared.header.Header.{Header}
use Rattle.frame.specs.declared.header.Tag.{Tag}
use Rattle.frame.specs.declared.header.Tag.TheVariants as tag
use Rattle.rtt.specs.Pings.{handle_pong}
use Rattle.flow_control.specs.Windows.{top}
use Rattle.stream.specs.Streams as stream
use Rattle.stream.specs.declared.Stream.{Stream}
use Rattle.stream.specs.declared.StreamWakes.{StreamWakes}
use Rattle.rules.specs.declared.Reply.{Reply}
use Rattle.rules.specs.declared.Reply.TheVariants as reply
use Rattle.rules.specs.Replies.{Outcome, number, leaves_all}
use Rattle.rules.specs.Lists.{Place, at, nowhere}
use Rattle.rules.specs.State.{Entry, Conn, vacant, entry, is_free, has_id, find, lowest_free, is_remote, listed_count, room, with_slot, with_open_wait}
use Rattle.rules.specs.Ending.{Effect, gives, refuse, end_entry, ended}
use Rattle.rules.specs.Frames.{Acked, ack_step, answer, whose, frame_wakes, quiet, go_away, on_reset, reset_entry, new_entry, make_at, make, is_known, syn_rules, syn_data, opened_by, syn_update, taken_entry, take_at, known_data, known_update, data_rules, update_rules, unacked, pong_rules, ping_rules, answers_ping, frame_rules, body_length, on_header}
use Rattle.rules.proofs.Lists.{Says, first_says}
use Rattle.demands.specs.History.{is_done}
use Rattle.demands.specs.Waits.{IsWoken, Fares, has_ack_step, wakes_reader, wakes_writer, Unreported}
use Rattle.rules.proofs.Lists.{split}
use Rattle.demands.proofs.Lists.{true-not-false, at_set}
use Rattle.demands.proofs.Invariant.{Inv}
use Rattle.demands.proofs.Sound.{at_end}
use Rattle.demands.proofs.Acks.{Acks, SameWaits, after-ack, unmoved, acknowledges}
use Rattle.rtt.specs.declared.UnexpectedPong.{UnexpectedPong}
use Rattle.rtt.specs.declared.Rtt.{Rtt}
use Rattle.stream.specs.Streams.{received, invalid}

-- ---- replies and places

abbrev pub is_wait : Reply → Bool
is_wait q = eqb (number q) 1

pub not_done : {P : Type 0} (q : Reply) → is_done q ≡ false → q ≡ reply.Done → P
not_done q n e = true-not-false (ap is_done e) n

pub at_is : (i j : ℕ) → at i ≡ at j → i ≡ j
at_is i j e = cc

pub not_at : {P : Type 0} (i : ℕ) → nowhere ≡ at i → P
not_at i e = true-not-false refl (sym (ap is_known e))

-- ---- marks that are not set

-- of a stream that is s before and t after, no mark is on that was off
abbrev pub Fewer : Stream → Stream → Type 0
Fewer s t = (t.reader ≡ true → s.reader ≡ true) × (t.writer ≡ true → s.writer ≡ true)

abbrev pub NoneSet : List Entry → List Entry → Type 0
NoneSet es fs = (j : ℕ) → Fewer (entry es j).stream (entry fs j).stream

-- nobody waits
abbrev pub Off : Stream → Type 0
Off s = (s.reader ≡ false) × (s.writer ≡ false)

pub off_fewer : (s t : Stream) → Off t → Fewer s t
off_fewer s t o = ((λ e. true-not-false e o.0), (λ e. true-not-false e o.1))

pub same_fewer : (s t : Stream) → SameWaits t s → Fewer s t
same_fewer s t e = ((λ q. sym e.0 ∙ q), (λ q. sym e.1 ∙ q))

pub none-set : (es : List Entry) → NoneSet es es
none-set es j = ((λ e. e), (λ e. e))

-- one slot that is changed
pub slot_set : (es fs : List Entry) (i : ℕ) (x : Entry) → i < length fs → NoneSet es fs → Fewer (entry es i).stream x.stream → NoneSet es (set fs i x)
slot_set es fs i x l n f = at_set (λ j e. Fewer (entry es j).stream e.stream) fs i x vacant l f (λ j m. n j)

pub end_off : (b : Bool) (s : Stream) → Off (cond b (stream.closed s) (stream.with_waits s false false))
end_off true s = (refl, refl)
end_off false s = (refl, refl)

pub end-set : (c : Conn) → NoneSet c.slots (ended c).slots
end-set c =
    at_end (λ j x. Fewer (entry c.slots j).stream x.stream) c.slots
    (λ j. let e = entry c.slots j in off_fewer e.stream (end_entry e).stream (end_off e.listed e.stream))

-- ---- what is shown of a frame

-- of a stream that is s before and t after, the reader and the writer are woken where they are to be, and else left
abbrev pub Woken : Bool → Bool → Stream → Stream → Bool → Bool → Type 0
Woken reader writer s t r w = Fares reader s.reader t.reader r × Fares writer s.writer t.writer w

-- a mark that is to be woken and is, and one that is to be left and is
fares_woken : (b mark : Bool) → b ≡ true → Fares b mark false mark
fares_woken b mark e = ((λ t. (refl, refl)), (λ f. true-not-false e f))

fares_left : (b mark : Bool) → b ≡ false → Fares b mark mark false
fares_left b mark e = ((λ t. true-not-false t e), (λ f. (refl, refl)))

-- of a frame on c for the stream at a place, whose ACK step is a: only replies that change nothing undo that step
pub record Passes (c : Conn) (a : Acked) (place : Place) (reader writer : Bool) (r : Effect) : Type 0 where
  pub prompt : is_wait r.outcome.reply ≡ false
  pub next : r.after.next_id ≡ c.next_id
  pub unset : NoneSet c.slots r.after.slots
  pub mark : (r.after.open_wait ≡ c.open_wait) ⊎ (r.after.open_wait ≡ a.conn.open_wait)
  pub opener : leaves_all r.outcome.reply ≡ false → (r.after.open_wait ≡ a.conn.open_wait) × (r.outcome.wakes.opener ≡ a.woke)
  pub woken : (i : ℕ) → place ≡ at i → r.outcome.reply ≡ reply.Done →
      Woken reader writer (entry c.slots i).stream (entry r.after.slots i).stream r.outcome.wakes.reader r.outcome.wakes.writer
  pub unwoken : r.outcome.reply ≢ reply.Done → Unreported r.outcome.wakes

module _ (c : Conn) (a : Acked) (place : Place) where
  undone : (reader writer : Bool) (q : Reply) → is_wait q ≡ false → is_done q ≡ false → leaves_all q ≡ true → Passes c a place reader writer (refuse c q)
  undone reader writer q w d l = record { prompt = w; next = refl; unset = none-set c.slots; mark = inl refl; opener = λ n. true-not-false l n; woken = λ i e n. not_done q d n; unwoken = λ n. (refl, refl) }

  -- a frame that is to wake nobody, and leaves all slots
  still : (o : Outcome) (d : Conn) → is_wait o.reply ≡ false → d.next_id ≡ c.next_id → d.slots ≡ c.slots → d.open_wait ≡ a.conn.open_wait → o.wakes ≡ frame_wakes a quiet → Passes c a place false false (gives o d)
  still o d p n s e w = record {
    prompt = p;
    next = n;
    unset = rw s (none-set c.slots);
    mark = inr e;
    opener = λ l. (e, rw w);
    woken = λ i q r. let t = (entry c.slots i).stream in rw (s, w) (fares_left false t.reader refl, fares_left false t.writer refl);
    unwoken = λ n. rw w (refl, refl);
  }

-- ---- Data and WindowUpdate, after an ACK step

module _ (h : Header) (a : Acked) where
  -- the step leaves the next id, and sets no mark
  abbrev Same : Type 0
  Same = (a.conn.next_id ≡ a.before.next_id) × NoneSet a.before.slots a.conn.slots

  same : {place : Place} → Acks a h.stream_id place → Same
  same k = (k.next, (λ j. same_fewer (entry a.before.slots j).stream (entry a.conn.slots j).stream (k.waits j)))

module _ (h : Header) (a : Acked) (reader writer : Bool) where
  abbrev Good : Place → Effect → Type 0
  Good place r = Passes a.before a place reader writer r

  away : (place : Place) → Same h a → (code : ℕ) → Good place (go_away a code)
  away place n code = record { prompt = refl; next = n.0; unset = n.1; mark = inr refl; opener = λ l. (refl, refl); woken = λ i e d. not_done _ refl d; unwoken = λ n. (refl, refl) }

  unknown : (o : Outcome) (d : Conn) → o.reply ≡ reply.Done → d.next_id ≡ a.before.next_id → NoneSet a.before.slots d.slots → d.open_wait ≡ a.conn.open_wait → o.wakes.opener ≡ a.woke → Good nowhere (gives o d)
  unknown o d p n u e w = record { prompt = rw p; next = n; unset = u; mark = inr e; opener = λ l. (e, w); woken = λ i q r. not_at i q; unwoken = λ f. absurd (f p) }

  -- a stream in the table that changes
  changes : (i : ℕ) → Acks a h.stream_id (at i) → (w : StreamWakes) (x : Entry) → Woken reader writer (entry a.conn.slots i).stream x.stream w.reader w.writer →
      Fewer (entry a.conn.slots i).stream x.stream → Good (at i) (gives (answer a (whose w i) None None w) (with_slot a.conn i x))
  changes i k w x m f = record {
    prompt = refl;
    next = k.next;
    unset =
        let n = (same h a k).1 in
        slot_set a.before.slots a.conn.slots i x k.located.0 n ((λ e. (n i).0 (f.0 e)), (λ e. (n i).1 (f.1 e)));
    mark = inr refl;
    opener = λ l. (refl, refl);
    woken = λ j e d.
        subst (λ n. Woken reader writer (entry a.before.slots n).stream (entry (set a.conn.slots i x) n).stream w.reader w.writer) (at_is i j e)
        (rw (get_or-set_same a.conn.slots i x vacant k.located.0, ← (k.waits i).0, ← (k.waits i).1) m);
    unwoken = λ n. absurd (n refl);
  }

  -- a reset wakes both
  resets : reader ≡ true → writer ≡ true → (place : Place) → Acks a h.stream_id place → Good place (on_reset a place)
  unfolding on_reset
  resets r w nowhere k = unknown _ _ refl k.next (same h a k).1 refl refl
  resets r w (at i) k =
      let e = entry a.conn.slots i in
      let s = e.stream in
      changes i k _ (reset_entry e) (fares_woken reader s.reader r, fares_woken writer s.writer w) (off_fewer s (reset_entry e).stream (refl, refl))

  makes-at : Same h a → (p : Place) → Says is_free a.conn.slots vacant p → (s : Stream) → Off s → (body : List ℕ) → Good nowhere (make_at p a s body)
  unfolding make_at
  makes-at n nowhere l s q body = undone a.before a nowhere reader writer reply.NoSlot refl refl refl
  makes-at n (at i) l s q body =
      split (Good nowhere) (ltb (room a.conn) (length body)) (λ r. undone a.before a nowhere reader writer reply.NoRoom refl refl refl) (λ r. unknown _ _ refl n.0 (slot_set a.before.slots a.conn.slots i (new_entry s body) l.0 n.1 (off_fewer (entry a.before.slots i).stream s q)) refl refl)

  makes : Same h a → (s : Stream) → Off s → (body : List ℕ) → Good nowhere (make a s body)
  unfolding make
  makes n s q body = makes-at n (lowest_free a.conn.slots) (first_says is_free a.conn.slots vacant) s q body

  syns : (place : Place) → Same h a → (full : ℕ) (b : Bool) (s : Stream) → Off s → (body : List ℕ) →
      Good place (syn_rules a h.stream_id place full (cond b (go_away a protocol_error) (make a s body)))
  unfolding syn_rules
  syns (at i) n full b s q body = split (Good (at i)) (is_remote a.conn.config.mode h.stream_id) (λ r. away (at i) n _) (λ r. away (at i) n _)
  syns nowhere n full b s q body =
      split (Good nowhere) (is_remote a.conn.config.mode h.stream_id)
      (λ r.
      split (Good nowhere) (leb a.conn.config.max_num_streams (listed_count a.conn.slots))
      (λ m. away nowhere n _)
      (λ m. split (Good nowhere) b (λ e. away nowhere n _) (λ e. makes n s q body)))
      (λ r. away nowhere n _)

  takes : (i : ℕ) → Acks a h.stream_id (at i) → (body : List ℕ) (b : Bool) (s : Stream) (w : StreamWakes) → Woken reader writer (entry a.conn.slots i).stream s w.reader w.writer →
      Fewer (entry a.conn.slots i).stream s → Good (at i) (take_at i a h body (cond b (received s w) invalid))
  unfolding take_at
  takes i k body false s w m f = away (at i) (same h a k) protocol_error
  takes i k body true s w m f =
      split (Good (at i)) (ltb (room a.conn) (length body))
      (λ r. undone a.before a (at i) reader writer reply.NoRoom refl refl refl)
      (λ r. changes i k w (taken_entry (entry a.conn.slots i) s (contains h.flags fin) body) m f)

-- without RST a WindowUpdate wakes the reader where it has FIN, and only there
fin-wakes : (r f mark : Bool) → r ≡ false → Fares (cond r true f) mark (cond f false mark) (cond f mark false)
fin-wakes true f mark n = true-not-false refl n
fin-wakes false true mark n = fares_woken true mark refl
fin-wakes false false mark n = fares_left false mark refl

fin_keeps : (f mark : Bool) → cond f false mark ≡ true → mark ≡ true
fin_keeps true mark e = true-not-false e refl
fin_keeps false mark e = e

module _ (h : Header) (a : Acked) (now : ℕ) where
  abbrev After : Tag → Place → Effect → Type 0
  After t place r = Passes a.before a place (wakes_reader t h) (wakes_writer t h) r

  known-data : contains h.flags rst ≡ false → (place : Place) → Acks a h.stream_id place → (body : List ℕ) → After tag.Data place (known_data a h body place)
  unfolding known_data
  known-data r nowhere k body = unknown h a _ _ _ _ refl k.next (same h a k).1 refl refl
  known-data r (at i) k body =
      let s = (entry a.conn.slots i).stream in
      takes h a _ _ i k body (leb (length body) s.flow.receive_window) _ _ (fares_woken true s.reader refl, fares_left (contains h.flags rst) s.writer r) ((λ e. true-not-false e refl), (λ e. e))

  known-update : contains h.flags rst ≡ false → (place : Place) → Acks a h.stream_id place → After tag.WindowUpdate place (known_update a h place)
  unfolding known_update
  known-update r nowhere k = unknown h a _ _ _ _ refl k.next (same h a k).1 refl refl
  known-update r (at i) k =
      let s = (entry a.conn.slots i).stream in
      takes h a _ _ i k [] (leb (s.flow.send_window + h.length.0) top) _ _ (fin-wakes (contains h.flags rst) (contains h.flags fin) s.reader r, fares_woken true s.writer refl) (fin_keeps (contains h.flags fin) s.reader, (λ e. true-not-false e refl))

  data-rules : (place : Place) → Acks a h.stream_id place → (body : List ℕ) → After tag.Data place (data_rules a h body place now)
  unfolding data_rules syn_data
  data-rules place k body =
      split (After tag.Data place) (contains h.flags rst) (λ r. resets h a _ _ refl r place k) (λ r.
      split (After tag.Data place) (contains h.flags syn)
      (λ s. syns h a _ _ place (same h a k) internal_error (ltb initial_window (length body)) (stream.data_taken (stream.new_inbound h.stream_id initial_window now) (length body) (contains h.flags fin)) (refl, refl) body)
      (λ s. known-data r place k body))

  update-rules : (place : Place) → Acks a h.stream_id place → After tag.WindowUpdate place (update_rules a h place now)
  unfolding update_rules syn_update
  update-rules place k =
      split (After tag.WindowUpdate place) (contains h.flags rst) (λ r. resets h a _ _ (rw r) refl place k) (λ r.
      split (After tag.WindowUpdate place) (contains h.flags syn)
      (λ s. syns h a _ _ place (same h a k) protocol_error (ltb top (h.length.0 + initial_window)) (opened_by h now) (refl, refl) [])
      (λ s. known-update r place k))

-- ---- each type of frame

-- the ACK step of a frame; a Ping has none, and a GoAway clears the open's wait by ending
abbrev pub acked : Tag → Conn → Header → Place → Acked
acked tag.Data c h place = ack_step c h place
acked tag.WindowUpdate c h place = ack_step c h place
acked tag.Ping c h place = unacked c
acked tag.GoAway c h place = record { before = c; conn = with_open_wait c false; woke = false }

-- with ACK it wakes the open
ack-wakes : (c : Conn) (h : Header) (place : Place) → contains h.flags ack ≡ true → let a = ack_step c h place in IsWoken c.open_wait a.conn.open_wait a.woke
unfolding ack_step
ack-wakes c h place e = split (λ (a : Acked). IsWoken c.open_wait a.conn.open_wait a.woke) (contains h.flags ack) (λ t. (refl, refl)) (λ n. true-not-false e n)

pub acked-wakes : (t : Tag) (c : Conn) (h : Header) (place : Place) → has_ack_step t ≡ true → contains h.flags ack ≡ true → let a = acked t c h place in IsWoken c.open_wait a.conn.open_wait a.woke
acked-wakes tag.Data c h place s e = ack-wakes c h place e
acked-wakes tag.WindowUpdate c h place s e = ack-wakes c h place e
acked-wakes tag.Ping c h place s e = true-not-false s refl
acked-wakes tag.GoAway c h place s e = true-not-false s refl

-- and sets no wait of an open
ack_keeps : (c : Conn) (h : Header) (place : Place) → (ack_step c h place).conn.open_wait ≡ true → c.open_wait ≡ true
unfolding ack_step
ack_keeps c h place = split (λ (a : Acked). a.conn.open_wait ≡ true → c.open_wait ≡ true) (contains h.flags ack) (λ t e. true-not-false e refl) (λ n e. e)

pub acked_keeps : (t : Tag) (c : Conn) (h : Header) (place : Place) → (acked t c h place).conn.open_wait ≡ true → c.open_wait ≡ true
acked_keeps tag.Data c h place = ack_keeps c h place
acked_keeps tag.WindowUpdate c h place = ack_keeps c h place
acked_keeps tag.Ping c h place = λ e. e
acked_keeps tag.GoAway c h place = λ e. true-not-false e refl

module _ (c : Conn) (v : Inv c) (live : c.ended ≡ false) (h : Header) (body : List ℕ) (now : ℕ) where
  abbrev place : Place
  place = find c.slots h.stream_id

  abbrev FrameOk : Acked → Tag → Effect → Type 0
  FrameOk a t r = Passes c a place (wakes_reader t h) (wakes_writer t h) r

  -- what is so after any ACK step is so after this one
  after : (t : Tag) (rest : Acked → Effect) → ((a : Acked) → Acks a h.stream_id place → After h a now t place (rest a)) → FrameOk (ack_step c h place) t (rest (ack_step c h place))
  after t rest f =
      let l = first_says (has_id h.stream_id) c.slots vacant in
      after-ack c v live h place l (λ a. FrameOk a t (rest a)) (λ b w. f _ (unmoved c v live h.stream_id b w place l)) (f _ (acknowledges c v live h.stream_id place l))

  pongs : (p : Result Rtt UnexpectedPong) → FrameOk (unacked c) tag.Ping (pong_rules c p)
  unfolding pong_rules
  pongs (Err _) = still c (unacked c) place _ _ refl refl refl refl refl
  pongs (Ok p) = still c (unacked c) place _ _ refl refl refl refl refl

  pings : FrameOk (unacked c) tag.Ping (ping_rules c h now)
  unfolding ping_rules
  pings =
      split (FrameOk (unacked c) tag.Ping) (contains h.flags ack)
      (λ e. pongs (handle_pong c.pings h.length.0 now c.config.interval))
      (λ e.
      split (FrameOk (unacked c) tag.Ping) (answers_ping c h.stream_id)
      (λ s. still c (unacked c) place _ _ refl refl refl refl refl)
      (λ s. still c (unacked c) place _ _ refl refl refl refl refl))

  frames : (t : Tag) → FrameOk (acked t c h place) t (frame_rules t c h body place now)
  unfolding frame_rules
  frames tag.Data = after tag.Data (λ a. data_rules a h body place now) (λ a k. data-rules h a now place k body)
  frames tag.WindowUpdate = after tag.WindowUpdate (λ a. update_rules a h place now) (λ a k. update-rules h a now place k)
  frames tag.Ping = pings
  frames tag.GoAway = record { prompt = refl; next = refl; unset = end-set c; mark = inr refl; opener = λ l. (refl, refl); woken = λ i e d. not_done _ refl d; unwoken = λ n. (refl, refl) }

  pub headers : FrameOk (acked h.tag c h place) h.tag (on_header c h body now)
  unfolding on_header
  headers =
      split (FrameOk (acked h.tag c h place) h.tag) (eqb (length body) (body_length h.tag h.length.0))
      (λ e. frames h.tag)
      (λ e. undone c _ place _ _ reply.Body refl refl refl)
