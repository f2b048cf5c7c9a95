-- Performing the handlers' actions is what the rules of frames say. Assumes nothing.
use Rattle.std.proofs.Common.{Option, Result, Ok, Err, Some, None, ◌≡◌, refl, ap, sym, ◌∙◌, Bool, true, false, cond, not, List, [], ◌∷◌, append-nil, ℕ, ◌+◌, ◌<◌, length, drop_of_length-le, get_or-set_same, set-set, eqb, ltb, leb, arith, eqb-true}
use lib.Seq.{set-get_or}
use Rattle.frame.specs.Header.{contains, ack, syn, fin, rst, session, protocol_error, initial_window}
use Rattle.frame.specs.declared.header.Header.{Header}
use Rattle.frame.specs.declared.header.StreamId.{StreamId}
use Rattle.frame.specs.declared.header.Tag.{Tag}
use Rattle.frame.specs.declared.header.Tag.TheVariants as tag
use Rattle.rtt.specs.Pings.{handle_pong}
use Rattle.flow_control.specs.Windows.{top}
use Rattle.stream.specs.Streams.{new_inbound, data_taken, on_data, on_window_update, acknowledged, received, invalid}
use Rattle.stream.specs.declared.Stream.{Stream}
use Rattle.stream.specs.declared.StreamWakes.{StreamWakes}
use Rattle.rules.specs.Lists.{Place, at, nowhere}
use Rattle.rules.specs.State.{Entry, Conn, entry, vacant, has_id, find, with_slot, with_slots, with_stream, with_open_wait, with_pings, lowest_free, room, is_remote, found_of}
use Rattle.rules.specs.Ending.{Effect, gives}
use Rattle.rules.specs.Frames as rules
use Rattle.rules.specs.Frames.{Acked, opened_by, ack_step, make_at, make, syn_rules, syn_data, syn_update, take_at, known_data, known_update, data_rules, update_rules, pong_rules, ping_rules, is_known, body_length, frame_rules}
use Rattle.rules.specs.declared.Slot.{Slot}
use Rattle.rules.proofs.Lists.{Says, first_says, sum_kept}
use Rattle.handlers.specs.Actions as actions
use Rattle.handlers.specs.Actions.{receive, violated, full_code, new_action, made, first, on_syn, queued_if, take, on_known, stream_action, pong_heard, on_ping, known}
use Rattle.handlers.specs.Perform.{outcome_of, heard, changed, perform, known_at, limits_of, wakes_open, of_stream}
use Rattle.handlers.specs.declared.Known.{Known}
use Rattle.handlers.specs.declared.Limits.{Limits}
use Rattle.handlers.specs.declared.Answer.{Answer}
use Rattle.handlers.specs.declared.Action.{Action}
use Rattle.handlers.specs.declared.Action.TheVariants as action
use Rattle.handlers.specs.declared.PingStep.{PingStep}
use Rattle.handlers.proofs.Firsts.{over, opened}
use Rattle.rtt.specs.declared.UnexpectedPong.{UnexpectedPong}
use Rattle.rtt.specs.declared.Rtt.{Rtt}
use Rattle.flow_control.specs.declared.InvalidWindowUpdate.{InvalidWindowUpdate}
use Rattle.stream.specs.declared.Woken.{Woken}

-- every stream in the table has its handle held
abbrev pub ListedHeld : Conn → Type 0
ListedHeld c = (i : ℕ) → (entry c.slots i).listed ≡ true → (entry c.slots i).held ≡ true

-- a test is made alike on both sides
pub both : {A : Type 0} (f : A → Effect) (b : Bool) {x y : Effect} {p q : A} → x ≡ f p → y ≡ f q → cond b x y ≡ f (cond b p q)
both f true e g = e
both f false e g = g

-- the slot is inside, held and listed
abbrev pub Lives : Conn → ℕ → Type 0
Lives c i = (i < length c.slots) × ((entry c.slots i).held ≡ true) × ((entry c.slots i).listed ≡ true)

abbrev LivesAt : Conn → Option Known → Type 0
LivesAt c (Some k) = Lives c k.slot.0
LivesAt c None = Unit {0}

-- the connection and the place that the ACK step leaves, for a known stream
abbrev conn_of : Conn → Option Known → Conn
conn_of a (Some k) = with_slot a k.slot.0 (with_stream (entry a.slots k.slot.0) k.stream)
conn_of a None = a

abbrev place_of : Option Known → Place
place_of (Some k) = at k.slot.0
place_of None = nowhere

abbrev stepped : Conn → Bool → Option Known → Acked
stepped c woke k = record { before = c; conn = conn_of (with_open_wait c (cond woke false c.open_wait)) k; woke = woke }

abbrev free : Conn → Option Slot
free c = found_of (lowest_free c.slots)

module _ (c : Conn) (woke : Bool) (h : Header) (body : List ℕ) where
  abbrev does : Action → Effect
  does x = perform c body x

  violates : (k : Option Known) → LivesAt c k → rules.go_away (stepped c woke k) protocol_error ≡ does (violated woke k)
  unfolding perform
  violates (Some k) l = rw (l.1, l.2, append-nil)
  violates None l = refl

  -- a body of no bytes is stored as one that is queued
  keeps : (i : Slot) (t : Stream) (listed : Bool) (n : ℕ) (o : Answer) → length body ≡ n → (r : Effect) → r ≡ does (action.Queue i t listed o) → r ≡ does (queued_if i t listed n o)
  unfolding perform
  keeps i t listed n o e r q = go (eqb n 0) refl
    where
      go : (b : Bool) → eqb n 0 ≡ b → r ≡ does (cond b (action.Store i t listed o) (action.Queue i t listed o))
      go true z =
          q ∙ ap (λ (x : List ℕ). gives (outcome_of o) (with_slot (heard c o) i.0 (changed (entry c.slots i.0) t listed x))) (drop_of_length-le body {i = 0} (omega (arith, e, eqb-true n 0 z)))
      go false z = q

  module _ (i : Slot) (s : Stream) (lives : Lives c i.0) where
    same : entry (stepped c woke (known i s)).conn.slots i.0 ≡ with_stream (entry c.slots i.0) s
    same = get_or-set_same c.slots i.0 (with_stream (entry c.slots i.0) s) vacant lives.0

    reset-at : rules.on_reset (stepped c woke (known i s)) (at i.0) ≡ does (actions.on_reset woke (known i s))
    unfolding perform rules.on_reset actions.on_reset
    reset-at = rw (same, set-set, lives.1, append-nil)

    room-kept : room (stepped c woke (known i s)).conn ≡ room c
    room-kept = rw (sum_kept (λ e. length e.bytes) c.slots i.0 (with_stream (entry c.slots i.0) s) vacant refl)

    take_at_lem : (n : ℕ) (r : Result Woken InvalidWindowUpdate) → length body ≡ n →
        take_at i.0 (stepped c woke (known i s)) h body r ≡ does (take i s (room c) woke (contains h.flags fin) n r)
    unfolding perform take_at
    take_at_lem n (Err _) e = violates (known i s) lives
    take_at_lem n (Ok k) e =
        rw (room-kept, e) (both does (ltb (room c) n) refl (keeps i k.stream _ n _ e _ (rw (same, set-set, lives.1, lives.2))))

  resets : (k : Option Known) → LivesAt c k → rules.on_reset (stepped c woke k) (place_of k) ≡ does (actions.on_reset woke k)
  unfolding perform rules.on_reset actions.on_reset
  resets (Some k) l = reset-at k.slot k.stream l
  resets None l = refl

  make-at : (p : Place) (s : Stream) (n : ℕ) → length body ≡ n → make_at p (stepped c woke None) s body ≡ does (new_action (found_of p) (room c) woke s n)
  unfolding perform make_at
  make-at nowhere s n e = refl
  make-at (at j) s n e = rw e (both does (ltb (room c) n) refl refl)

  makes : (b : Bool) (s : Stream) (w : StreamWakes) (n : ℕ) → length body ≡ n
      → cond (not b) (rules.go_away (stepped c woke None) protocol_error) (make (stepped c woke None) s body)
      ≡ does (made (room c) woke (free c) n (cond b (received s w) invalid))
  unfolding make perform
  makes true s w n e = make-at (lowest_free c.slots) s n e
  makes false s w n e = refl

  -- the tests of SYN before `next`
  syns : (now : ℕ) (next : Acked → Effect) → next (stepped c woke None) ≡ does (first (room c) woke (free c) h now) → (k : Option Known) → LivesAt c k →
      syn_rules (stepped c woke k) h.stream_id (place_of k) (full_code h.tag) (next (stepped c woke k)) ≡ does (on_syn (limits_of c) woke k (free c) h now)
  unfolding syn_rules on_syn perform
  syns now next e (Some k) l =
      both does (is_remote c.config.mode h.stream_id) (violates (Some k) l) (violates (Some k) l)
  syns now next e None l =
      both does (is_remote c.config.mode h.stream_id) (both does (leb (limits_of c).max_num_streams (limits_of c).listed) refl e) refl

-- ---- each type

abbrev typed : Tag → Header → Header
typed k h = record { tag = k; flags = h.flags; stream_id = h.stream_id; length = h.length }

module _ (c : Conn) (woke : Bool) (header : Header) (now : ℕ) where
  abbrev d : Header
  d = typed tag.Data header

  module _ (body : List ℕ) (e : length body ≡ header.length.0) where
    syn-data : (k : Option Known) → LivesAt c k → syn_data (stepped c woke k) d body (place_of k) now ≡ perform c body (on_syn (limits_of c) woke k (free c) d now)
    unfolding syn_data receive
    syn-data =
        syns c woke d body now
        (λ a. cond (ltb initial_window (length body)) (rules.go_away a protocol_error) (make a (data_taken (new_inbound d.stream_id initial_window now) (length body) (contains d.flags fin)) body))
        (rw (e, over d.length.0 initial_window) (makes c woke d body (leb d.length.0 initial_window) _ _ d.length.0 e))

    known-data : (k : Option Known) → LivesAt c k → known_data (stepped c woke k) d body (place_of k) ≡ perform c body (on_known (room c) woke k d)
    unfolding perform known_data on_known receive
    known-data (Some k) l = rw (same c woke d body k.slot k.stream l, e) (take_at_lem c woke d body k.slot k.stream l d.length.0 (on_data k.stream d.length.0 (contains d.flags fin)) e)
    known-data None l = refl

    data-stepped : (k : Option Known) → LivesAt c k → data_rules (stepped c woke k) d body (place_of k) now ≡ perform c body (stream_action (limits_of c) woke k (free c) d now)
    unfolding data_rules stream_action
    data-stepped k l =
        both (perform c body) (contains d.flags rst) (resets c woke d body k l) (both (perform c body) (contains d.flags syn) (syn-data k l) (known-data k l))

  abbrev u : Header
  u = typed tag.WindowUpdate header

  syn-update : (k : Option Known) → LivesAt c k → syn_update (stepped c woke k) u (place_of k) now ≡ perform c [] (on_syn (limits_of c) woke k (free c) u now)
  unfolding syn_update receive
  syn-update =
      syns c woke u [] now (λ a. cond (ltb top (u.length.0 + initial_window)) (rules.go_away a protocol_error) (make a (opened_by u now) []))
      (rw (over (u.length.0 + initial_window) top, sum, ← opened u now) (makes c woke u [] (leb (initial_window + u.length.0) top) _ _ 0 refl))
    where
      sum : leb (u.length.0 + initial_window) top ≡ leb (initial_window + u.length.0) top
      sum = let e : u.length.0 + initial_window ≡ initial_window + u.length.0 = omega arith in rw e

  known-update : (k : Option Known) → LivesAt c k → known_update (stepped c woke k) u (place_of k) ≡ perform c [] (on_known (room c) woke k u)
  unfolding perform known_update on_known receive
  known-update (Some k) l =
      rw (same c woke u [] k.slot k.stream l) (take_at_lem c woke u [] k.slot k.stream l 0 (on_window_update k.stream (record { 0 = u.length.0 }) (contains u.flags fin)) refl)
  known-update None l = refl

  update-stepped : (k : Option Known) → LivesAt c k → update_rules (stepped c woke k) u (place_of k) now ≡ perform c [] (stream_action (limits_of c) woke k (free c) u now)
  unfolding update_rules stream_action
  update-stepped k l =
      both (perform c []) (contains u.flags rst) (resets c woke u [] k l) (both (perform c []) (contains u.flags syn) (syn-update k l) (known-update k l))

-- ---- the ACK step

abbrev pub IsAliveAt : Conn → Place → Type 0
IsAliveAt c (at i) = Lives c i
IsAliveAt c nowhere = Unit {0}

-- rules that agree with the action after any ACK step agree after the frame's own
module _
    (c : Conn) (h : Header) (body : List ℕ) (now : ℕ) (r : Acked → Place → Effect)
    (agree : (woke : Bool) (k : Option Known) → LivesAt c k → r (stepped c woke k) (place_of k) ≡ perform c body (stream_action (limits_of c) woke k (free c) h now))
  where
    abbrev act : Bool → Option Known → Effect
    act woke k = perform c body (stream_action (limits_of c) woke k (free c) h now)

    -- after an ACK no open waits, whether one did or not
    cleared : (w : Bool) → with_open_wait c false ≡ with_open_wait c (cond w false w)
    cleared true = refl
    cleared false = refl

    at_slot : (b : Bool) (i : ℕ) → Lives c i →
        r (cond b (record { before = c; conn = with_open_wait (rules.acknowledge_at (at i) c) false; woke = c.open_wait }) (record { before = c; conn = c; woke = false })) (at i)
        ≡ act (cond b c.open_wait false) (known (record { 0 = i }) (cond b (acknowledged (entry c.slots i).stream) (entry c.slots i).stream))
    at_slot true i l =
        let k = known (record { 0 = i }) (acknowledged (entry c.slots i).stream) in
        ap (λ (x : Conn). r (record { before = c; conn = conn_of x k; woke = c.open_wait }) (at i)) (cleared c.open_wait) ∙ agree c.open_wait k l
    at_slot false i l =
        ap (λ (x : List Entry). r (record { before = c; conn = with_slots c x; woke = false }) (at i)) (sym (set-get_or c.slots i vacant))
        ∙ agree false (known (record { 0 = i }) (entry c.slots i).stream) l

    not_known : (b : Bool) →
        r (cond b (record { before = c; conn = with_open_wait c false; woke = c.open_wait }) (record { before = c; conn = c; woke = false })) nowhere
        ≡ act (cond b c.open_wait false) None
    not_known true = ap (λ (x : Conn). r (record { before = c; conn = x; woke = c.open_wait }) nowhere) (cleared c.open_wait) ∙ agree c.open_wait None tt
    not_known false = agree false None tt

    acked-agree : (place : Place) → IsAliveAt c place → r (ack_step c h place) place ≡ act (wakes_open c.open_wait h) (known_at c h place)
    unfolding ack_step
    acked-agree (at i) l = at_slot (contains h.flags ack) i l
    acked-agree nowhere l = not_known (contains h.flags ack)

-- ---- what a search finds is inside, held and in the table

and_first : (b x : Bool) → cond b x false ≡ true → b ≡ true
and_first true x g = refl
and_first false x g = g

has_listed : (id : StreamId) (e : Entry) → has_id id e ≡ true → e.listed ≡ true
has_listed id e h = and_first e.listed (eqb e.stream.id.0 id.0) h

found_lives : (c : Conn) (id : StreamId) (place : Place) → ListedHeld c → Says (has_id id) c.slots vacant place → IsAliveAt c place
found_lives c id (at i) held p = let l = has_listed id (entry c.slots i) p.1 in (p.0, held i l, l)
found_lives c id nowhere held p = tt

pub find-lives : (c : Conn) (id : StreamId) → ListedHeld c → IsAliveAt c (find c.slots id)
find-lives c id held = found_lives c id (find c.slots id) held (first_says (has_id id) c.slots vacant)

-- ---- the laws

no_bytes : (b : List ℕ) → length b ≡ 0 → b ≡ []
no_bytes [] e = refl
no_bytes (x ∷ b) e = cc

module _ (c : Conn) (h : Header) (body : List ℕ) (now : ℕ) (held : ListedHeld c) where
  abbrev place : Place
  place = find c.slots h.stream_id

  by_type : (k : Tag) → of_stream k ≡ true → length body ≡ body_length k h.length.0 →
      frame_rules k c (typed k h) body place now
      ≡ perform c body (stream_action (limits_of c) (wakes_open c.open_wait (typed k h)) (known_at c (typed k h) place) (free c) (typed k h) now)
  unfolding frame_rules
  by_type tag.Data y e =
      acked-agree c (typed tag.Data h) body now (λ a p. data_rules a (typed tag.Data h) body p now) (λ w k l. data-stepped c w h now body e k l) place (find-lives c h.stream_id held)
  by_type tag.WindowUpdate y e =
      rw (no_bytes body e)
      (acked-agree c (typed tag.WindowUpdate h) [] now (λ a p. update_rules a (typed tag.WindowUpdate h) p now) (λ w k l. update-stepped c w h now k l) place (find-lives c h.stream_id held))
  by_type tag.Ping y e = cc
  by_type tag.GoAway y e = cc

  -- the rules of a Data frame and of a WindowUpdate are the action, performed
  pub stream-performs : of_stream h.tag ≡ true → length body ≡ body_length h.tag h.length.0 →
      frame_rules h.tag c h body (find c.slots h.stream_id) now
      ≡ perform c body (stream_action (limits_of c) (wakes_open c.open_wait h) (known_at c h (find c.slots h.stream_id)) (found_of (lowest_free c.slots)) h now)
  stream-performs y e = by_type h.tag y e

-- the pings after a Ping frame, and its answer
abbrev pub heard_by : Conn → PingStep → Effect
heard_by c p = gives (outcome_of p.answer) (with_pings c p.rtt)

pong_performs : (c : Conn) (p : Result Rtt UnexpectedPong) → pong_rules c p ≡ heard_by c (pong_heard c.pings p)
unfolding pong_rules
pong_performs c (Err _) = refl
pong_performs c (Ok r) = refl

pub ping_performs : (c : Conn) (h : Header) (now : ℕ) →
    ping_rules c h now ≡ heard_by c (on_ping c.pings (is_known (find c.slots h.stream_id)) h now c.config.interval)
unfolding ping_rules on_ping
ping_performs c h now =
    both (heard_by c) (contains h.flags ack)
    (pong_performs c (handle_pong c.pings h.length.0 now c.config.interval))
    (both (heard_by c) (cond (session h.stream_id) true (is_known (find c.slots h.stream_id))) refl refl)

-- without SYN the vacancy does not matter
pub without_syn : (l : Limits) (woke : Bool) (k : Option Known) (v u : Option Slot) (h : Header) (now : ℕ) → contains h.flags syn ≡ false → stream_action l woke k v h now ≡ stream_action l woke k u h now
unfolding stream_action
without_syn l woke k v u h now e = rw e
