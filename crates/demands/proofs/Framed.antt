-- A frame's way to its rules, and what they do with a stream in the table and with a new one. Assumes nothing.
use Rattle.std.proofs.Common.{None, Ok, ◌≡◌, refl, sym, ap, ◌∙◌, subst, Bool, true, false, cond, not, List, ℕ, ◌≤◌, ◌<◌, arith, length, get_or-set_same, ltb, leb, ltb-true, le-ltb, eq-eqb}
use borrow.Author.Tests.{not-true, lt-leb}
use Rattle.frame.specs.Header.{contains, syn, ack, rst, fin}
use Rattle.frame.specs.Wire.{decoded}
use Rattle.frame.specs.declared.header.Header.{Header}
use Rattle.frame.specs.declared.header.StreamId.{StreamId}
use Rattle.frame.specs.declared.header.Tag.{Tag}
use Rattle.stream.specs.declared.Stream.{Stream}
use Rattle.stream.specs.declared.StreamWakes.{StreamWakes}
use Rattle.rules.specs.Replies.{Outcome}
use Rattle.rules.specs.Settings.{last_time}
use Rattle.rules.specs.Lists.{Place, at, nowhere}
use Rattle.rules.specs.State.{Entry, Conn, vacant, entry, is_free, find, lowest_free, room, listed_count, is_remote}
use Rattle.rules.specs.Ending.{Effect}
use Rattle.rules.specs.Frames.{Acked, ack_step, answer, whose, new_entry, make_at, make, is_known, syn_rules, taken_entry, take_at, body_length, frame_rules, on_header}
use Rattle.rules.specs.Step.{on_decoded, step}
use Rattle.rules.specs.Step as rules
use Rattle.rules.proofs.Lists.{Says, first_says, both}
use Rattle.demands.specs.Demands.{Reach, held_count, admits}
use Rattle.demands.specs.Theorems.{Gave}
use Rattle.demands.specs.Progress.{FrameFor, ack_taken, InLowest}
use Rattle.rules.proofs.Lists.{split}
use Rattle.demands.proofs.Lists.{true-not-false, sum-full}
use Rattle.demands.proofs.Invariant.{Inv}
use Rattle.demands.proofs.Acks.{Acks, Located, after-ack, unmoved, acknowledges}
use Rattle.demands.proofs.Steps.{reached}
use Rattle.demands.proofs.Answers.{timely, alive}
use Rattle.demands.proofs.Stale.{listed_live, found_at}
use Rattle.stream.specs.Streams.{received}

-- ---- the way to the rules

-- a frame that passes the tests before them is its type's rules
pub framed :
    (c : Conn) (now : ℕ) (head body : List ℕ) (h : Header) (t : Tag) → decoded head ≡ Ok h → h.tag ≡ t →
    length body ≡ body_length t h.length.0 → now ≤ last_time → c.ended ≡ false →
    step c (rules.frame now head body) ≡ frame_rules t c h body (find c.slots h.stream_id) now
unfolding step on_decoded on_header
framed c now head body h t d e n m live =
    rw (d, timely c now _ m, alive c _ live, e, eq-eqb (length body) (body_length t h.length.0) n)

-- what holds after any ACK step, of the state before it, holds after this one
pub acked_as :
    (c : Conn) → Inv c → c.ended ≡ false → (h : Header) (place : Place) → Located c.slots h.stream_id place → (P : Conn → Acked → Type 0) →
    ((a : Acked) → Acks a h.stream_id place → P a.before a) → P c (ack_step c h place)
acked_as c v live h place l P f =
    after-ack c v live h place l (P c)
    (λ b w. f _ (unmoved c v live h.stream_id b w place l))
    (f _ (acknowledges c v live h.stream_id place l))

-- the room is what it was before the step
enough : (id : StreamId) (place : Place) (a : Acked) (body : List ℕ) → Acks a id place → length body ≤ room a.before → ltb (room a.conn) (length body) ≡ false
enough id place a body k p = le-ltb (room a.conn) (length body) (rw (k.config, k.unread) p)

-- ---- a stream in the table

-- what a call does to the slot i
abbrev pub Does : (Entry → Outcome → Entry → Type 0) → Conn → ℕ → Effect → Type 0
Does P c i r = P (entry c.slots i) r.outcome (entry r.after.slots i)

-- the state of the stream in slot i after the ACK step
abbrev pub AckTaken : Header → ℕ → Conn → Acked → Type 0
AckTaken h i d a = (entry a.conn.slots i).stream.state ≡ ack_taken (contains h.flags ack) (entry d.slots i).stream.state

ack-taken : (c : Conn) (h : Header) (i : ℕ) → i < length c.slots → AckTaken h i c (ack_step c h (at i))
unfolding ack_step
ack-taken c h i l =
    split (AckTaken h i c) (contains h.flags ack)
    (λ e. rw e (ap (λ (y : Entry). y.stream.state) (get_or-set_same c.slots i _ vacant l)))
    (λ e. rw e)

-- a frame for it does what its rules R do after any ACK step; N is what they need of the state before
pub known :
    (c : Conn) → Reach c → (now i : ℕ) (head body : List ℕ) (t : Tag) (f : FrameFor t c i head body) → now ≤ last_time → (entry c.slots i).listed ≡ true →
    (P : Entry → Outcome → Entry → Type 0) (N : Conn → Type 0) (R : Acked → Effect) →
    frame_rules t c f.header body (at i) now ≡ R (ack_step c f.header (at i)) →
    ((a : Acked) → Acks a f.header.stream_id (at i) → AckTaken f.header i a.before a → N a.before → Does P a.before i (R a)) →
    N c → Does P c i (step c (rules.frame now head body))
known c m now i head body t f time l P N R e does n =
    let v = reached m in
    let h = f.header in
    let here = found_at c v h.stream_id i l (sym f.names) in
    let live = listed_live c v i l in
    let located : Located c.slots h.stream_id (at i) = subst (Located c.slots h.stream_id) here (first_says _ c.slots vacant) in
    let done = framed c now head body h t f.decodes f.is_of f.long time live in
    subst (Does P c i) (sym (done ∙ ap (λ (q : Place). frame_rules t c h body q now) here ∙ e))
    (acked_as c v live h (at i) located (λ d a. AckTaken h i d a → N d → Does P d i (R a)) does (ack-taken c h i located.0) n)

-- what is taken stands in the slot, where there is room for the body
pub stores :
    (h : Header) (body : List ℕ) (i : ℕ) (a : Acked) → Acks a h.stream_id (at i) → length body ≤ room a.before →
    (P : Entry → Outcome → Entry → Type 0) (s : Stream) (w : StreamWakes) →
    P (entry a.before.slots i) (answer a (whose w i) None None w) (taken_entry (entry a.conn.slots i) s (contains h.flags fin) body) →
    Does P a.before i (take_at i a h body (received s w))
unfolding take_at
stores h body i a k p P s w x =
    rw (enough h.stream_id (at i) a body k p) (subst (P (entry a.before.slots i) _) (sym (get_or-set_same a.conn.slots i _ vacant k.located.0)) x)

-- ---- a new stream

-- the id and the lowest free slot are told, and that holds the stream
abbrev pub Makes : Conn → Stream → List ℕ → Effect → Type 0
Makes c s body r = Gave r s.id.0 × InLowest c r (new_entry s body)

-- the id may be opened, and there is a slot for it and room for the body
pub record Ready (c : Conn) (id : StreamId) (body : List ℕ) : Type 0 where
  pub remote : is_remote c.config.mode id ≡ true
  pub few : listed_count c.slots < c.config.max_num_streams
  pub fits : length body ≤ room c
  pub left : held_count c.slots < c.config.slots

not_free : (b : Bool) → cond b false true ≡ false → b ≡ true
not_free true e = refl
not_free false e = true-not-false refl e

-- with no slot free all are held
pub all_held : (es : List Entry) → Says is_free es vacant nowhere → held_count es ≡ length es
all_held es f = sum-full (λ (e : Entry). e.held) es vacant (λ j l. not_free (entry es j).held (f j l))

pub some_free : (es : List Entry) → held_count es < length es → Says is_free es vacant nowhere → ⊥
some_free es s f = omega (arith, s, all_held es f)

module _ (id : StreamId) (body : List ℕ) (a : Acked) (k : Acks a id nowhere) (y : Ready a.before id body) where
  made_at : (s : Stream) (q : Place) → Says is_free a.conn.slots vacant q → lowest_free a.before.slots ≡ q → Makes a.before s body (make_at q a s body)
  unfolding make_at
  made_at s nowhere f l =
      let z : a.conn.config.slots ≡ a.before.config.slots = rw k.config in
      absurd (some_free a.conn.slots (omega (arith, y.left, k.helds, k.inv.size, z)) f)
  made_at s (at i) f l =
      rw (enough id nowhere a body k y.fits) ((refl, refl), (i, l, refl, get_or-set_same a.conn.slots i _ vacant f.0))

  pub makes : (s : Stream) → Makes a.before s body (make a s body)
  unfolding make
  makes s = made_at s (lowest_free a.conn.slots) (first_says is_free a.conn.slots vacant) (ap lowest_free (sym (k.unknown refl)))

  -- the tests that both types have are passed
  pub admitted : (P : Effect → Type 0) (full : ℕ) {next : Effect} → P next → P (syn_rules a id nowhere full next)
  unfolding syn_rules
  admitted P full p =
      let there : is_remote a.conn.config.mode id ≡ true = rw k.config y.remote in
      let fewer : leb a.conn.config.max_num_streams (listed_count a.conn.slots) ≡ false = lt-leb a.conn.config.max_num_streams (listed_count a.conn.slots) (rw (k.config, k.listeds) y.few) in
      rw (there, fewer) p

-- a place that no stream is known at
unknown : (p : Place) → not (is_known p) ≡ true → p ≡ nowhere
unknown (at i) e = true-not-false e refl
unknown nowhere e = refl

-- the tests that a frame passes which is admitted
pub record Admitted (c : Conn) (h : Header) (last : Bool) : Type 0 where
  pub unreset : contains h.flags rst ≡ false
  pub syns : contains h.flags syn ≡ true
  pub remote : is_remote c.config.mode h.stream_id ≡ true
  pub new : find c.slots h.stream_id ≡ nowhere
  pub few : listed_count c.slots < c.config.max_num_streams
  pub passed : last ≡ true

pub admitted_by : (c : Conn) (h : Header) (last : Bool) → admits c h last ≡ true → Admitted c h last
admitted_by c h last o =
    let resets = both _ _ o in
    let syns = both _ _ resets.1 in
    let remotes = both _ _ syns.1 in
    let unknowns = both _ _ remotes.1 in
    let fews = both _ _ unknowns.1 in
    record {
      unreset = not-true (contains h.flags rst) resets.0;
      syns = syns.0;
      remote = remotes.0;
      new = unknown (find c.slots h.stream_id) unknowns.0;
      few = ltb-true (listed_count c.slots) c.config.max_num_streams fews.0;
      passed = fews.1;
    }

-- a frame that is admitted makes what its rules R make after any ACK step
pub opened :
    (c : Conn) → Inv c → c.ended ≡ false → (h : Header) (body : List ℕ) (last : Bool) → admits c h last ≡ true →
    length body ≤ room c → held_count c.slots < c.config.slots → (s : Stream) (R : Acked → Place → Effect) →
    (contains h.flags syn ≡ true → contains h.flags rst ≡ false → last ≡ true →
    (a : Acked) → Acks a h.stream_id nowhere → Ready a.before h.stream_id body → Makes a.before s body (R a nowhere)) →
    let place = find c.slots h.stream_id in
    Makes c s body (R (ack_step c h place) place)
opened c v live h body last o p left s R f =
    let t = admitted_by c h last o in
    let l : Located c.slots h.stream_id nowhere = subst (Located c.slots h.stream_id) t.new (first_says _ c.slots vacant) in
    let y : Ready c h.stream_id body = record { remote = t.remote; few = t.few; fits = p; left = left } in
    subst (λ (q : Place). Makes c s body (R (ack_step c h q) q)) (sym t.new)
    (acked_as c v live h nowhere l (λ d a. Ready d h.stream_id body → Makes d s body (R a nowhere)) (f t.syns t.unreset t.passed) y)
