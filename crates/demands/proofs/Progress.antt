-- What the rules allow is done. Assumes nothing.
use Rattle.std.proofs.Common.{Some, ◌≡◌, refl, sym, ap, ◌∙◌, subst, ◌≢◌, ◌⊎◌, inl, inr, Bool, true, false, cond, not, List, [], ◌++◌, append-nil, ℕ, ◌+◌, ◌≤◌, ◌<◌, arith, length, get_or-set_same, eqb, leb-true, le-leb, le-ltb, ne_eqb}
use borrow.Author.Tests.{lt-leb}
use Rattle.frame.specs.Header.{initial_window, data_header, contains, syn, rst, fin, protocol_error, internal_error}
use Rattle.frame.specs.declared.header.Header.{Header}
use Rattle.frame.specs.declared.header.StreamId.{StreamId}
use Rattle.frame.specs.declared.header.Tag.{Tag}
use Rattle.frame.specs.declared.header.Tag.TheVariants as tag
use Rattle.flow_control.specs.Windows.{top}
use Rattle.flow_control.specs.declared.FlowController.{FlowController}
use Rattle.stream.specs.States.{change, is_closed, finish}
use Rattle.stream.specs.Streams as stream
use Rattle.stream.specs.declared.Stream.{Stream}
use Rattle.stream.specs.declared.State.{State}
use Rattle.stream.specs.declared.State.TheVariants.{Open, SendClosed, RecvClosed, Closed}
use Rattle.stream.specs.declared.Flag.{Flag}
use Rattle.stream.specs.declared.Flag.TheVariants as owed
use Rattle.rules.specs.Replies.{Outcome}
use Rattle.rules.specs.Lists.{Place, at, nowhere}
use Rattle.rules.specs.State.{Entry, Conn, vacant, entry, is_free, lowest_free, room}
use Rattle.rules.specs.Ending.{Effect}
use Rattle.rules.specs.Frames.{Acked, ack_step, whose, reset_entry, on_reset, taken_entry, opened_by, syn_data, syn_update, known_data, known_update, data_rules, update_rules, frame_rules}
use Rattle.rules.specs.Calls.{open_at, open_rules, write_with, write_rules, close_rules}
use Rattle.rules.specs.Step.{step}
use Rattle.rules.proofs.Lists.{Says, first_says}
use Rattle.demands.specs.Demands.{held_count}
use Rattle.demands.specs.Progress.{Goes, Takes, Credits, Resets, Sends, fin_sent, DataIsTaken, CreditIsAdded, ResetIsTaken, SynIsOpened, UpdateIsOpened, OpenIsGiven, WriteIsSent, CloseIsSent, DropIsSent}
use Rattle.rules.proofs.Lists.{split}
use Rattle.demands.proofs.Lists.{true-not-false}
use Rattle.demands.proofs.Invariant.{in_range}
use Rattle.demands.proofs.Acks.{Acks, is_listed}
use Rattle.demands.proofs.Steps.{reached}
use Rattle.demands.proofs.Answers.{timely, holds, alive}
use Rattle.demands.proofs.Stale.{drops_own}
use Rattle.demands.proofs.Framed.{framed, Does, AckTaken, known, stores, Makes, Ready, some_free, makes, admitted, opened}

-- ---- a frame for a stream in the table

module _ (h : Header) (i : ℕ) (a : Acked) (k : Acks a h.stream_id (at i)) (s : contains h.flags syn ≡ false) (r : contains h.flags rst ≡ false) (q : AckTaken h i a.before a) (now : ℕ) where
  abbrev now-there : Stream
  now-there = (entry a.conn.slots i).stream

  -- a FIN after the ACK step
  goes : (t : Stream) (body : List ℕ) → t.state ≡ finish (contains h.flags fin) now-there.state →
      Goes h (entry a.before.slots i) (taken_entry (entry a.conn.slots i) t (contains h.flags fin) body)
  goes t body e = (
    e ∙ ap (finish (contains h.flags fin)) q,
    ap (cond (contains h.flags fin) (not (is_closed t.state))) (is_listed h.stream_id (entry a.conn.slots i) k.located.1),
  )

  takes-data : (body : List ℕ) → length body ≤ (entry a.before.slots i).stream.flow.receive_window → length body ≤ room a.before →
      Does (Takes h body) a.before i (data_rules a h body (at i) now)
  unfolding data_rules known_data
  takes-data body w p =
      let o : length body ≤ now-there.flow.receive_window = rw (k.flows i) w in
      rw (r, s, le-leb _ _ o) (stores h body i a k p (Takes h body) _ _ (
        refl,
        ap (λ (l : List ℕ). l ++ body) (k.bytes i),
        omega (arith, o) ∙ ap (λ (f : FlowController). f.receive_window) (k.flows i),
        goes (stream.data_taken now-there (length body) (contains h.flags fin)) body refl,
      ))

  -- a writer that is woken has its slot told
  told : (reader writer : Bool) → writer ≡ true → whose (stream.wakes reader writer) i ≡ Some (record { 0 = i })
  told true writer e = refl
  told false writer e = rw e

  takes-update : (entry a.before.slots i).stream.flow.send_window + h.length.0 ≤ top →
      Does (Credits i h) a.before i (update_rules a h (at i) now)
  unfolding update_rules known_update
  takes-update w =
      let o : now-there.flow.send_window + h.length.0 ≤ top = rw (k.flows i) w in
      rw (r, s, le-leb _ _ o) (stores h [] i a k (omega arith) (Credits i h) _ _ (
        refl,
        ap (λ (f : FlowController). f.send_window + h.length.0) (k.flows i),
        append-nil (entry a.conn.slots i).bytes ∙ k.bytes i,
        (k.waits i).1,
        (λ e. told (cond (contains h.flags fin) now-there.reader false) now-there.writer ((k.waits i).1 ∙ e)),
        refl,
        goes (stream.update_taken now-there (record { 0 = h.length.0 }) (contains h.flags fin)) [] refl,
      ))

pub data_is_taken : DataIsTaken
unfolding frame_rules
data_is_taken c m now i head body f q t l w p =
    known c m now i head body tag.Data f t l (Takes f.header body)
    (λ d. (length body ≤ (entry d.slots i).stream.flow.receive_window) × (length body ≤ room d))
    (λ a. data_rules a f.header body (at i) now) refl
    (λ a k s n. takes-data f.header i a k q.0 q.1 s now body n.0 n.1)
    (w, p)

pub credit_is_added : CreditIsAdded
unfolding frame_rules
credit_is_added c m now i head f q t l w =
    known c m now i head [] tag.WindowUpdate f t l (Credits i f.header)
    (λ d. (entry d.slots i).stream.flow.send_window + f.header.length.0 ≤ top)
    (λ a. update_rules a f.header (at i) now) refl
    (λ a k s n. takes-update f.header i a k q.0 q.1 s now n)
    w

resets : (id : StreamId) (i : ℕ) (a : Acked) → Acks a id (at i) → (entry a.before.slots i).listed ≡ true → Does Resets a.before i (on_reset a (at i))
unfolding on_reset
resets id i a k l =
    let e = entry a.conn.slots i in
    let held = (k.inv.good i).holds (is_listed id e k.located.1) in
    let x = get_or-set_same a.conn.slots i (reset_entry e) vacant k.located.0 in (
      refl,
      ap (λ (y : Entry). y.stream.state) x,
      ap (λ (y : Entry). y.listed) x,
      ap (λ (y : Entry). y.bytes) x ∙ k.bytes i,
      ap (λ (y : Entry). y.held) x ∙ held ∙ sym ((k.before.good i).holds l),
    )

-- both types come to the same rule
to_reset :
    (c : Conn) (h : Header) (body : List ℕ) (place : Place) (now : ℕ) (t : Tag) → (t ≡ tag.Data) ⊎ (t ≡ tag.WindowUpdate) → contains h.flags rst ≡ true →
    frame_rules t c h body place now ≡ on_reset (ack_step c h place) place
unfolding frame_rules data_rules update_rules
to_reset c h body place now t (inl e) r = rw (e, r)
to_reset c h body place now t (inr e) r = rw (e, r)

pub reset_is_taken : ResetIsTaken
reset_is_taken c m now i head body t e f r time l =
    known c m now i head body t f time l Resets
    (λ d. (entry d.slots i).listed ≡ true)
    (λ a. on_reset a (at i)) (to_reset c f.header body (at i) now t e r)
    (λ a k s n. resets f.header.stream_id i a k n)
    l

-- ---- a frame that makes a stream

-- the stream that Data with the body opens
abbrev opened_with : Header → List ℕ → ℕ → Stream
opened_with h body now = stream.data_taken (stream.new_inbound h.stream_id initial_window now) (length body) (contains h.flags fin)

module _ (h : Header) (now : ℕ) (a : Acked) (k : Acks a h.stream_id nowhere) (s : contains h.flags syn ≡ true) (r : contains h.flags rst ≡ false) where
  makes-data : (body : List ℕ) → Ready a.before h.stream_id body → length body ≤ initial_window → Makes a.before (opened_with h body now) body (data_rules a h body nowhere now)
  unfolding data_rules syn_data
  makes-data body y small =
      rw (r, s) (admitted h.stream_id body a k y (Makes a.before (opened_with h body now) body) internal_error
      (rw (le-ltb initial_window (length body) small) (makes h.stream_id body a k y (opened_with h body now))))

  makes-update : Ready a.before h.stream_id [] → h.length.0 + initial_window ≤ top → Makes a.before (opened_by h now) [] (update_rules a h nowhere now)
  unfolding update_rules syn_update
  makes-update y small =
      rw (r, s) (admitted h.stream_id [] a k y (Makes a.before (opened_by h now) []) protocol_error
      (rw (le-ltb top (h.length.0 + initial_window) small) (makes h.stream_id [] a k y (opened_by h now))))

pub syn_is_opened : SynIsOpened
unfolding frame_rules
syn_is_opened c m now head body h d e n t live o p left =
    subst (Makes c (opened_with h body now) body) (sym (framed c now head body h tag.Data d e (sym n) t live))
    (opened c (reached m) live h body _ o p left (opened_with h body now) (λ a q. data_rules a h body q now)
    (λ s r last a k y. makes-data h now a k s r body y (leb-true (length body) initial_window last)))

pub update_is_opened : UpdateIsOpened
unfolding frame_rules
update_is_opened c m now head h d e t live o left =
    subst (Makes c (opened_by h now) []) (sym (framed c now head [] h tag.WindowUpdate d e refl t live))
    (opened c (reached m) live h [] _ o (omega arith) left (opened_by h now) (λ a q. update_rules a h q now)
    (λ s r last a k y. makes-update h now a k s r y (leb-true (h.length.0 + initial_window) top last)))

-- ---- an open

abbrev Given : Conn → ℕ → Effect → Type 0
Given c now = Makes c (stream.new_outbound (record { 0 = c.next_id }) now) []

given_at : (c : Conn) (now : ℕ) → held_count c.slots < length c.slots → (p : Place) → Says is_free c.slots vacant p → lowest_free c.slots ≡ p → Given c now (open_at p c now)
unfolding open_at
given_at c now s (at i) f l = ((refl, refl), (i, l, refl, get_or-set_same c.slots i _ vacant f.0))
given_at c now s nowhere f l = absurd (some_free c.slots s f)

pub open_is_given : OpenIsGiven
unfolding step open_rules
open_is_given c m now t live few young left space =
    let v = reached m in
    subst (Given c now) (sym (timely c now _ t ∙ alive c _ live))
    (rw (lt-leb _ _ few, lt-leb _ _ young, le-ltb _ _ left) (given_at c now (omega (arith, space, v.size)) (lowest_free c.slots) (first_says is_free c.slots vacant) refl))

-- ---- a write

flag_length : (f : Flag) (id : StreamId) (n : ℕ) → (stream.add_flag f (data_header id (record { 0 = n }))).length.0 ≡ n
flag_length owed.None id n = refl
flag_length owed.Syn id n = refl
flag_length owed.Ack id n = refl

sends : (c : Conn) (i : ℕ) (given : List ℕ) (n : ℕ) → (entry c.slots i).held ≡ true → n ≤ (entry c.slots i).stream.flow.send_window →
    Sends c i given n (write_with c i (entry c.slots i) given (stream.write_taken (entry c.slots i).stream n))
unfolding write_with
sends c i given n h l =
    let e = entry c.slots i in
    let k = flag_length e.stream.flag e.stream.id n in
    let x = get_or-set_same c.slots i _ vacant (in_range c.slots i h) in (
      rw k,
      ap (λ (y : Entry). y.stream.flow.send_window + n) x ∙ omega (arith, l),
      ap (λ (y : Entry). y.stream.flag) x,
      ap (λ (y : Entry). y.stream.state) x,
    )

pub write_is_sent : WriteIsSent
unfolding step write_rules
write_is_sent c now i given t live h w s =
    let e = entry c.slots i in
    let n = stream.write_count e.stream (length given) c.config.split in
    let z : eqb e.stream.flow.send_window 0 ≡ false = ne_eqb e.stream.flow.send_window 0 (λ q. omega (arith, s, q)) in
    rw (timely c now _ t, holds c i _ h)
    (split (Sends c i given n) c.ended
    (λ q. true-not-false q live)
    (λ q. rw (w, z) (sends c i given n h (omega arith))))

-- ---- a close

close_takes : (q : State) (s : Stream) → q ≢ Closed → stream.close_in q s ≡ stream.close_taken s
close_takes (Open a) s n = refl
close_takes SendClosed s n = refl
close_takes RecvClosed s n = refl
close_takes Closed s n = absurd (n refl)

fin_changes : (q : State) → change q SendClosed ≡ fin_sent q
fin_changes (Open a) = refl
fin_changes SendClosed = refl
fin_changes RecvClosed = refl
fin_changes Closed = refl

pub close_is_sent : CloseIsSent
unfolding step close_rules
close_is_sent c now i t h n =
    let s = (entry c.slots i).stream in
    let x = get_or-set_same c.slots i _ vacant (in_range c.slots i h) in
    rw (timely c now _ t, holds c i _ h, close_takes s.state s n) (
      refl,
      ap (λ (y : Entry). y.stream.state) x ∙ fin_changes s.state,
      ap (λ (y : Entry). y.stream.flag) x,
    )

-- ---- a drop

pub drop_is_sent : DropIsSent
drop_is_sent c m now i t l =
    let s = (entry c.slots i).stream in
    let d = drops_own c (reached m) now i t l in
    let said = ap (λ (o : Outcome). o.header) d.0 in (
      d,
      (λ a e. said ∙ ap (λ (q : State). stream.farewell q s.id) e),
      (λ e. said ∙ ap (λ (q : State). stream.farewell q s.id) e),
    )
