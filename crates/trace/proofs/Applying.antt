-- How each call comes to the promise of its event: the sizes are right in a valid state, a slot above every K is not held, and
-- only a read gives bytes. Assumes nothing.
use Rattle.std.proofs.Common.{Option, ◌≡◌, refl, sym, ap, subst, ◌∙◌, Bool, true, false, cond, List, ◌++◌, append_assoc, ℕ, ◌+◌, ◌-◌, ◌≤◌, ◌<◌, arith, ltb, length, take, drop, length-drop, length-take-le, eq-eqb, ltb-true}
use lib.Seq.{take-append_seam}
use Rattle.rules.specs.State.{Conn, entry, vacant}
use Rattle.rules.specs.Ending.{Effect, refuse}
use Rattle.rules.specs.Step.{Call, step, timed, holding}
use Rattle.rules.specs.Step as rules
use Rattle.rules.specs.declared.Reply.TheVariants as reply
use Rattle.connection.proofs.Promises.{read_counted}
use Rattle.memory.proofs.Laws.{sized_table, sized_links, sized-fits, entry-beyond}
use Rattle.memory.specs.Counts.{table_fits, fits}
use Rattle.connection.specs.Abstract.{abs_of, Valid}
use Rattle.connection.specs.Promises as connection
use Rattle.connection.specs.Promises.{Promised, Follows, sent_after, out_after}
use Rattle.connection.specs.declared.Connection.{Connection}
use Rattle.connection.specs.declared.Done.{Done}
use Rattle.connection_write.specs.Given.{sent_sized}
use Rattle.connection_drop.specs.Given as dropping
use Rattle.connection_frame.specs.Handles as frames
use Rattle.rules.specs.Calls.{read_rules, write_rules, close_rules, drop_rules}
use Rattle.connection_read.specs.Promises as reading
use Rattle.trace_events.specs.Calls.{part, call_of}
use Rattle.trace_events.specs.declared.Event.{Event}
use Rattle.trace_events.specs.declared.Kind.{Kind}
use Rattle.trace_events.specs.declared.Kind.TheVariants as kinds
use Rattle.trace.specs.Applies.{slot_of, bytes_read, Applied, Applies, sized}
use Rattle.trace.proofs.Silent.{Silent, Headless, tick-silent, frame-silent, open-silent, open-headless, gone-silent, gone-headless, write-silent, close-silent, drop-silent}
use Rattle.frame.specs.declared.header.Header.{Header}

-- ---- a slot above every K

out_of_range : (x : Conn) (i now : ℕ) (r : Effect) → entry x.slots i ≡ vacant → timed x now (holding x i r) ≡ timed x now (refuse x reply.NotHeld)
out_of_range x i now r e = rw e

module _ (x : Conn) (now n : ℕ) (rule : ℕ → Effect) where
  -- the rule behind the handle's tests is the same at the slot's number and at the slot that the call is given
  slot_same : (4294967295 < n → entry x.slots n ≡ vacant) → entry x.slots 4294967295 ≡ vacant
      → timed x now (holding x (slot_of n) (rule (slot_of n))) ≡ timed x now (holding x n (rule n))
  slot_same far top = go (ltb 4294967295 n) refl
    where
      go : (t : Bool) → ltb 4294967295 n ≡ t
          → timed x now (holding x (cond t 4294967295 n) (rule (cond t 4294967295 n))) ≡ timed x now (holding x n (rule n))
      go true q = out_of_range x 4294967295 now (rule 4294967295) top ∙ sym (out_of_range x n now (rule n) (far (ltb-true _ _ q)))
      go false q = refl

module _ (c : Connection) (t l p sent : List ℕ) where
  module _ (x : Call) (d : Done) (t' l' p' sent' bytes' : List ℕ) where
    -- a call that reads no bytes
    quiet : Follows c t l p (step (abs_of c t l p) x) d t' l' p' → sent' ≡ sent_after d.answer.sent sent → Silent (step (abs_of c t l p) x)
        → Applied c t l p sent x 0 d t' l' p' sent' bytes'
    quiet f h n = record {
      follows = f;
      header = h;
      bytes = sym n.none;
      all = sym (ap length n.none);
    }

    -- a call that gives no header leaves the twelve bytes
    headless : Headless (step (abs_of c t l p) x) → Follows c t l p (step (abs_of c t l p) x) d t' l' p' → sent ≡ sent_after d.answer.sent sent
    headless n f = sym (ap (λ (h : Option Header). sent_after h sent) (f.says.sent ∙ n.bare))

  module _ (v : Valid c t l p) where
    table-right : table_fits c.memory.slots (length t) ≡ true
    table-right = sized_table c.memory t l p v.memory.sized

    module _ (w : length sent ≡ 12) where
      sent-right : sent_sized c (length t) (length sent) ≡ true
      sent-right = rw table-right (eq-eqb _ _ w)

      drop-right : dropping.sized c (length t) (length l) (length sent) ≡ true
      drop-right = rw (sized_links c.memory t l p v.memory.sized) (eq-eqb _ _ w)

      all_right : connection.sized c (length t) (length l) (length p) (length sent) ≡ true
      all_right = rw (sized-fits c.memory t l p v.memory.sized) (eq-eqb _ _ w)

      frame_right : (head : ℕ) → head ≡ 12 → frames.sized c (length t) (length l) (length p) (length sent) head ≡ true
      frame_right head h = rw all_right (eq-eqb _ _ h)

    far : (i : ℕ) → 1024 ≤ i → entry (abs_of c t l p).slots i ≡ vacant
    far i h = entry-beyond c.memory t l p v.memory i (omega (arith, v.memory.sized.most))

    slots_same : (now n : ℕ) (rule : ℕ → Effect)
        → timed (abs_of c t l p) now (holding (abs_of c t l p) (slot_of n) (rule (slot_of n))) ≡ timed (abs_of c t l p) now (holding (abs_of c t l p) n (rule n))
    slots_same now n rule = slot_same (abs_of c t l p) now n rule (λ h. far n (omega arith)) (far 4294967295 (omega arith))

  -- ---- each event

  module _ (s : List ℕ) (e : Event) (d : Done) (t' l' p' sent' bytes' : List ℕ) where
    -- the call of an event of this kind, which reads no bytes and is made as y: another name of its slot at most
    made_as : (kind : Kind) (y : Call) (right : Bool) → e.kind ≡ kind → bytes_read kind d.answer.value ≡ 0
        → (Valid c t l p → step (abs_of c t l p) y ≡ step (abs_of c t l p) (call_of s e.now e.next kind))
        → (Valid c t l p → length sent ≡ 12 → right ≡ true)
        → Silent (step (abs_of c t l p) (call_of s e.now e.next kind))
        → (Follows c t l p (step (abs_of c t l p) (call_of s e.now e.next kind)) d t' l' p' → sent' ≡ sent_after d.answer.sent sent)
        → Promised right c t l p y d t' l' p' → Applies c t l p sent s e d t' l' p' sent' bytes'
    made_as kind y right q none same fit n h k v w =
        let f = subst (λ (r : Effect). Follows c t l p r d t' l' p') (same v) (k.steps (fit v w) v) in
        rw (q, none) (quiet (call_of s e.now e.next kind) d t' l' p' sent' bytes' f (h f) n)

    pub tick-applies : e.kind ≡ kinds.Tick → Promised (sent_sized c (length t) (length sent)) c t l p (rules.tick e.now) d t' l' p'
        → sent' ≡ sent_after d.answer.sent sent → Applies c t l p sent s e d t' l' p' sent' bytes'
    tick-applies q k h =
        made_as kinds.Tick _ _ q refl (λ v. refl) sent-right (tick-silent (abs_of c t l p) e.now) (λ f. h) k

    pub frame-applies : (head body : ℕ) → e.kind ≡ kinds.Frame head body → head + 12 ≡ body → body ≤ length s
        → Promised (frames.sized c (length t) (length l) (length p) (length sent) (length (part s head body))) c t l p (rules.frame e.now (part s head body) (part s body e.next)) d t' l' p'
        → sent' ≡ sent_after d.answer.sent sent → Applies c t l p sent s e d t' l' p' sent' bytes'
    frame-applies head body q a b k h =
        let n : length (part s head body) ≡ 12 = length-take-le (body - head) (drop head s) (rw length-drop (omega arith)) ∙ omega arith in
        made_as (kinds.Frame head body) _ _ q refl (λ v. refl) (λ v w. frame_right v w _ n) (frame-silent (abs_of c t l p) e.now _ _) (λ f. h) k

    pub write-applies : (slot start : ℕ) → e.kind ≡ kinds.Write slot start
        → Promised (sent_sized c (length t) (length sent)) c t l p (rules.write e.now (slot_of slot) (part s start e.next)) d t' l' p'
        → sent' ≡ sent_after d.answer.sent sent → Applies c t l p sent s e d t' l' p' sent' bytes'
    unfolding step
    write-applies slot start q k h =
        made_as (kinds.Write slot start) _ _ q refl
        (λ v. slots_same v e.now slot (λ i. write_rules (abs_of c t l p) i (entry (abs_of c t l p).slots i) (part s start e.next)))
        sent-right (write-silent (abs_of c t l p) e.now slot _) (λ f. h) k

    pub close-applies : (slot : ℕ) → e.kind ≡ kinds.Close slot
        → Promised (sent_sized c (length t) (length sent)) c t l p (rules.close e.now (slot_of slot)) d t' l' p'
        → sent' ≡ sent_after d.answer.sent sent → Applies c t l p sent s e d t' l' p' sent' bytes'
    unfolding step
    close-applies slot q k h =
        made_as (kinds.Close slot) _ _ q refl
        (λ v. slots_same v e.now slot (λ i. close_rules (abs_of c t l p) i (entry (abs_of c t l p).slots i)))
        sent-right (close-silent (abs_of c t l p) e.now slot) (λ f. h) k

    pub drop-applies : (slot : ℕ) → e.kind ≡ kinds.Drop slot
        → Promised (dropping.sized c (length t) (length l) (length sent)) c t l p (rules.drop e.now (slot_of slot)) d t' l' p'
        → sent' ≡ sent_after d.answer.sent sent → Applies c t l p sent s e d t' l' p' sent' bytes'
    unfolding step
    drop-applies slot q k h =
        made_as (kinds.Drop slot) _ _ q refl
        (λ v. slots_same v e.now slot (λ i. drop_rules (abs_of c t l p) i (entry (abs_of c t l p).slots i)))
        drop-right (drop-silent (abs_of c t l p) e.now slot) (λ f. h) k

  module _ (s : List ℕ) (e : Event) (d : Done) (t' l' p' bytes' : List ℕ) where
    pub open-applies : e.kind ≡ kinds.Open
        → Promised (fits c.memory.slots c.memory.pool (length t) (length l) (length p)) c t l p (rules.open_stream e.now) d t' l' p' → Applies c t l p sent s e d t' l' p' sent bytes'
    open-applies q k =
        let x = rules.open_stream e.now in
        made_as s e d t' l' p' sent bytes' kinds.Open x _ q refl (λ v. refl) (λ v w. sized-fits c.memory t l p v.memory.sized)
        (open-silent (abs_of c t l p) e.now) (headless x d t' l' p' sent bytes' (open-headless (abs_of c t l p) e.now)) k

    pub gone-applies : e.kind ≡ kinds.Gone
        → Promised (table_fits c.memory.slots (length t)) c t l p (rules.gone e.now) d t' l' p' → Applies c t l p sent s e d t' l' p' sent bytes'
    gone-applies q k =
        let x = rules.gone e.now in
        made_as s e d t' l' p' sent bytes' kinds.Gone x _ q refl (λ v. refl) (λ v w. table-right v)
        (gone-silent (abs_of c t l p) e.now) (headless x d t' l' p' sent bytes' (gone-headless (abs_of c t l p) e.now)) k

  module _ (s : List ℕ) (e : Event) (d : Done) (t' l' bytes out' sent' : List ℕ) where
    -- bytes at the start of the lent part stand at the start of the whole
    front : (given out rest : List ℕ) → out' ≡ out_after given out → take (length given) (out' ++ rest) ≡ given
    front given out rest h = rw (h, append_assoc given (drop (length given) out) rest) (take-append_seam given (drop (length given) out ++ rest))

    asked-same : (now slot count : ℕ) → count ≤ length bytes → Valid c t l p
        → step (abs_of c t l p) (rules.read now (slot_of slot) (length (take count bytes))) ≡ step (abs_of c t l p) (rules.read now slot count)
    unfolding step
    asked-same now slot count room v =
        ap (λ (n : ℕ). step (abs_of c t l p) (rules.read now (slot_of slot) n)) (length-take-le count bytes room)
        ∙ slots_same v now slot (λ i. read_rules (abs_of c t l p) i (entry (abs_of c t l p).slots i) count now)

    pub read-applies : (slot count : ℕ) → e.kind ≡ kinds.Read slot count → count ≤ 16384 → length bytes ≡ 16384
        → Promised (connection.sized c (length t) (length l) (length p) (length sent)) c t l p (rules.read e.now (slot_of slot) (length (take count bytes))) d t' l' p
        → reading.Outputs (connection.sized c (length t) (length l) (length p) (length sent)) c t l p e.now (slot_of slot) (take count bytes) sent d out' sent'
        → Applies c t l p sent s e d t' l' p sent' (out' ++ drop count bytes)
    read-applies slot count q b z k o v w =
        let room : count ≤ length bytes = omega arith in
        let f = k.steps (all_right v w) v in
        let same = asked-same e.now slot count room v in
        let counted = read_counted c t l p e.now (slot_of slot) (length (take count bytes)) d t' l' p f in
        rw q (record {
          follows = subst (λ (r : Effect). Follows c t l p r d t' l' p) same f;
          header = o.header;
          bytes =
              ap (λ (n : ℕ). take n (out' ++ drop count bytes)) counted
              ∙ front _ (take count bytes) (drop count bytes) (o.bytes (all_right v w) v)
              ∙ ap (λ (r : Effect). r.outcome.bytes) same;
          all = counted ∙ ap (λ (r : Effect). length r.outcome.bytes) same;
        })

-- in a valid state all that is lent has its size
pub run-sized : (c : Connection) (t l p sent bytes : List ℕ) → Valid c t l p → length sent ≡ 12 → length bytes ≡ 16384
    → sized c (length t) (length l) (length p) (length sent) (length bytes) ≡ true
run-sized c t l p sent bytes v w z = rw (all_right c t l p sent v w) (eq-eqb _ _ z)
