-- How a frame's call comes to its promise: the Ping, and the order of the replies. Assumes nothing.
use Rattle.std.proofs.Common.{Option, Ok, Err, Result, is_some, ◌≡◌, refl, ap, ◌∙◌, Bool, true, false, cond, List, ℕ, eqb, eq-eqb, ne_eqb, length, get_or}
use Rattle.frame.specs.Header.{contains, ack, session}
use Rattle.frame.specs.Wire.{decoded, type_of, typed_as}
use Rattle.frame.specs.declared.header.HeaderDecodeError.{HeaderDecodeError}
use Rattle.frame.specs.declared.header.HeaderDecodeError.TheVariants as found
use Rattle.frame.specs.declared.header.Header.{Header}
use Rattle.frame.specs.declared.header.Tag.{Tag}
use Rattle.rtt.specs.Pings.{handle_pong}
use Rattle.rtt.specs.declared.Rtt.{Rtt}
use Rattle.rules.specs.Lists.{Place, at, nowhere}
use Rattle.rules.specs.Replies.{may_give}
use Rattle.rules.specs.State.{Conn, find, found_of}
use Rattle.rules.specs.Ending.{Effect, refuse}
use Rattle.rules.specs.Frames.{ping_rules, is_known, frame_rules, body_length, on_header}
use Rattle.rules.specs.Step.{step, frame, timed, live, on_decoded}
use Rattle.rules.specs.declared.Reply.{Reply}
use Rattle.rules.specs.declared.Reply.TheVariants as reply
use Rattle.rules.proofs.Lists.{both}
use Rattle.table.specs.Table.{Finds}
use Rattle.handlers.specs.Actions.{pong_heard, ping_heard, no_action, on_ping}
use Rattle.handlers.proofs.Rules.{ping_performs}
use Rattle.memory.specs.Slots.{slots_of}
use Rattle.memory.proofs.Laws.{find-slots}
use Rattle.connection.specs.Abstract.{abs_of, Valid}
use Rattle.connection.specs.Parts.{pinged, gate_of, goes_on}
use Rattle.connection.specs.Promises as connection
use Rattle.connection.specs.Promises.{refused, Follows, Handles, Promised}
use Rattle.connection.specs.declared.Connection.{Connection}
use Rattle.connection.specs.declared.Done.{Done}
use Rattle.connection.proofs.Moving.{answer_follows}
use Rattle.connection.proofs.Promises.{same_handles, acted, refused-handles, wrong_size, promised}
use Rattle.connection.proofs.Tests.{gate-shut, gate_open}
use Rattle.connection_frame.specs.Handles.{found_rules, HandlesDecoded, sized}
use Rattle.rules.specs.declared.Slot.{Slot}
use Rattle.rtt.specs.declared.UnexpectedPong.{UnexpectedPong}
use Rattle.frame.specs.declared.header.UnknownType.{UnknownType}

-- ---- Ping

pong-gives : (r : Rtt) (q : Result Rtt UnexpectedPong) → may_give (pong_heard r q).answer.reply ≡ true
pong-gives r (Err _) = refl
pong-gives r (Ok s) = refl

-- a Ping is answered with 0 or 2
ping_gives : (r : Rtt) (known : Bool) (h : Header) (now interval : ℕ) → may_give (on_ping r known h now interval).answer.reply ≡ true
unfolding on_ping
ping_gives r known h now interval = go (contains h.flags ack) (cond (session h.stream_id) true known)
  where
    go : (a b : Bool) → may_give (cond a (pong_heard r (handle_pong r h.length.0 now interval)) (cond b (ping_heard r h.length.0) (record { rtt = r; answer = no_action false }))).answer.reply ≡ true
    go true b = pong-gives r (handle_pong r h.length.0 now interval)
    go false true = refl
    go false false = refl

found_known : (q : Place) → is_some (found_of q) ≡ is_known q
found_known (at i) = refl
found_known nowhere = refl

pub ping_handles : (c : Connection) (t : List ℕ) (h : Header) (now : ℕ) (f : Option Slot) → Finds t c.memory.slots h.stream_id f → (l p : List ℕ)
    → Handles (λ x. ping_rules x h now) c t l p (pinged c (on_ping c.rtt (is_some f) h now c.config.interval)) t l p
ping_handles c t h now f finds l p =
    acted c t l p (λ x. ping_rules x h now) (pinged c (on_ping c.rtt (is_some f) h now c.config.interval)) t l p (ping_gives c.rtt (is_some f) h now c.config.interval) follows
  where
    known : Valid c t l p → is_some f ≡ is_known (find (slots_of c.memory t l p) h.stream_id)
    known v = ap is_some (find-slots c.memory t l p v.memory h.stream_id f finds) ∙ found_known (find (slots_of c.memory t l p) h.stream_id)

    follows : Valid c t l p → Follows c t l p (ping_rules (abs_of c t l p) h now) (pinged c (on_ping c.rtt (is_some f) h now c.config.interval)) t l p
    follows v =
        let q = on_ping c.rtt (is_some f) h now c.config.interval in
        rw (ping_performs (abs_of c t l p) h now, ← known v) (answer_follows c t l p q.rtt c.open_wait q.answer v)

-- ---- the body's length

module _ (c : Connection) (t l p : List ℕ) (h : Header) (body : List ℕ) (now : ℕ) where
  pub header-handles : length body ≡ body_length h.tag h.length.0 → (d : Done) (t' l' p' : List ℕ)
      → Handles (λ x. frame_rules h.tag x h body (find x.slots h.stream_id) now) c t l p d t' l' p' → Handles (λ x. on_header x h body now) c t l p d t' l' p'
  unfolding on_header
  header-handles e d t' l' p' = same_handles c t l p _ (λ x. on_header x h body now) d t' l' p' (λ v. rw (eq-eqb _ _ e))

  pub header_refused : (length body ≡ body_length h.tag h.length.0 → ⊥) → Handles (λ x. on_header x h body now) c t l p (refused c reply.Body) t l p
  unfolding on_header
  header_refused e =
      same_handles c t l p (λ x. refuse x reply.Body) (λ x. on_header x h body now) (refused c reply.Body) t l p (λ v. rw (ne_eqb _ _ e)) (refused-handles c t l p reply.Body)

-- ---- the call

-- twelve bytes are never found of the wrong size
twelve : (head : List ℕ) → eqb (length head) 12 ≡ true → decoded head ≡ (Err found.Size) → ⊥
twelve head e q = go (type_of (get_or head 1 0)) (eqb (get_or head 0 0) 0) (rw e at q)
  where
    go : (k : Result Tag UnknownType) (b : Bool) → cond b (typed_as k head) (Err (found.Version (get_or head 0 0))) ≡ (Err found.Size) → ⊥
    go (Ok k) true z = cc
    go (Err _) true z = cc
    go k false z = cc

-- the rules' order, said of what was found
ordered : (f : Result Header HeaderDecodeError) (x : Conn) (body : List ℕ) (now : ℕ) → (f ≡ (Err found.Size) → ⊥) → on_decoded f x body now ≡ timed x now (live x (found_rules f x body now))
unfolding on_decoded
ordered (Err found.Size) x body now e = absurd (e refl)
ordered (Err (found.Version n)) x body now e = refl
ordered (Err (found.Type n)) x body now e = refl
ordered (Ok h) x body now e = refl

module _ (c : Connection) (t l p head body : List ℕ) (now sent : ℕ) where
  abbrev right : Bool
  right = sized c (length t) (length l) (length p) sent (length head)

  abbrev next : Conn → Effect
  next x = found_rules (decoded head) x body now

  in_order : right ≡ true → step (abs_of c t l p) (frame now head body) ≡ timed (abs_of c t l p) now (live (abs_of c t l p) (next (abs_of c t l p)))
  unfolding step
  in_order e = ordered (decoded head) (abs_of c t l p) body now (twelve head (both (connection.sized c (length t) (length l) (length p) sent) (eqb (length head) 12) e).1)

  pub shut : (r : Reply) → gate_of right c.ended now ≡ Err r → Promised right c t l p (frame now head body) (refused c r) t l p
  shut r e = go right refl e
    where
      go : (b : Bool) → right ≡ b → gate_of b c.ended now ≡ Err r → Promised right c t l p (frame now head body) (refused c r) t l p
      go true s g = gate-shut c t l p right (frame now head body) now (next (abs_of c t l p)) c.ended r e (λ v. in_order s)
      go false s g = let z : reply.Size ≡ r = cc in rw (← z) (wrong_size c t l p right (frame now head body) s)

  pub passed : gate_of right c.ended now ≡ goes_on → (d : Done) (t' l' p' : List ℕ) → HandlesDecoded c t l p (decoded head) body now d t' l' p'
      → Promised right c t l p (frame now head body) d t' l' p'
  passed e d t' l' p' =
      let o = gate_open right c.ended now e in
      promised c t l p right (frame now head body) o.0 next d t' l' p' (λ v. in_order o.0 ∙ o.1 (abs_of c t l p) (next (abs_of c t l p)))
