-- When a call gets 7 or 8, and how large a pool refuses no body. Assumes nothing.
use Rattle.std.proofs.Common.{Option, Some, None, Result, Ok, Err, ◌≡◌, refl, ◌∙◌, ◌⊎◌, inl, inr, Bool, true, false, cond, not, List, ℕ, ◌+◌, ◌*◌, ◌≤◌, ◌<◌, arith, length, eqb, ltb, leb, ltb-true, ltb-false, leb-true, leb-false, lt-ltb, le-ltb, le-leb}
use borrow.Author.Tests.{lt-leb}
use Rattle.frame.specs.Header.{contains, syn, rst, initial_window}
use Rattle.frame.specs.Wire.{decoded}
use Rattle.frame.specs.declared.header.Header.{Header}
use Rattle.frame.specs.declared.header.Tag.{Tag}
use Rattle.frame.specs.declared.header.Tag.TheVariants as tag
use Rattle.frame.specs.declared.header.HeaderDecodeError.{HeaderDecodeError}
use Rattle.frame.specs.declared.header.HeaderDecodeError.TheVariants as found
use Rattle.flow_control.specs.Windows.{top}
use Rattle.stream.specs.declared.Updated.{Updated}
use Rattle.stream.specs.declared.ReadEnd.{ReadEnd}
use Rattle.stream.specs.declared.ReadEnd.TheVariants as reading
use Rattle.stream.specs.declared.Written.{Written}
use Rattle.stream.specs.declared.Written.TheVariants as written
use Rattle.rules.specs.declared.Reply.{Reply}
use Rattle.rules.specs.declared.Reply.TheVariants as reply
use Rattle.rules.specs.Settings.{last_time}
use Rattle.rules.specs.Lists.{Place, at, nowhere}
use Rattle.rules.specs.State.{Entry, Conn, vacant, entry, is_free, has_id, find, lowest_free, listed_count, unacknowledged, room}
use Rattle.rules.specs.Ending.{Effect, refuse}
use Rattle.rules.specs.Frames.{body_length}
use Rattle.rules.specs.Calls.{open_at, open_rules, read_rest, read_with, read_rules, write_with, write_rules, close_rules, drop_at, drop_rules, ping_out, tick_rules}
use Rattle.rules.specs.Step.{step}
use Rattle.rules.specs.Step as rules
use Rattle.rules.proofs.Lists.{Says, first_says, both, sum_at}
use Rattle.demands.specs.Demands.{held_count, ruled, opens, opens_as, takes_at, queues_as, would_queue, open_passes, would_make, Overflows}
use Rattle.demands.specs.Theorems.{ended_for_reads}
use Rattle.rules.proofs.Lists.{split}
use Rattle.demands.proofs.Lists.{true-not-false, sum-spare}
use Rattle.demands.proofs.Invariant.{Inv, in_range}
use Rattle.demands.proofs.Sound.{open_window, capacity}
use Rattle.demands.proofs.Acks.{Located, is_listed}
use Rattle.demands.proofs.Opening.{free_held}
use Rattle.demands.proofs.Framed.{all_held, admitted_by}
use Rattle.demands.proofs.Exact.{Limits, Neither, AllInUse, neither, seven_is, exact}

-- ---- calls that get neither

abbrev Plain : Effect → Type 0
Plain r = Neither r.outcome.reply

module _ (c : Conn) where
  timed-plain : (now : ℕ) (next : Effect) → Plain next → Plain (rules.timed c now next)
  timed-plain now next p = split Plain (ltb last_time now) (λ t. (refl, refl)) (λ t. p)

  live-plain : (next : Effect) → Plain next → Plain (rules.live c next)
  live-plain next p = split Plain c.ended (λ t. (refl, refl)) (λ t. p)

  holding-plain : (i : ℕ) (next : Effect) → Plain next → Plain (rules.holding c i next)
  holding-plain i next p = split Plain (entry c.slots i).held (λ t. p) (λ t. (refl, refl))

  read_plain : (i : ℕ) (e : Entry) (u : Updated) (n : ℕ) (r : ReadEnd) → Plain (read_rest c i e u n r)
  unfolding read_rest
  read_plain i e u n (reading.Done s) = (refl, refl)
  read_plain i e u n (reading.Wait s) = (refl, refl)

  write-plain : (i : ℕ) (e : Entry) (given : List ℕ) (w : Written) → Plain (write_with c i e given w)
  unfolding write_with
  write-plain i e given written.Closed = (refl, refl)
  write-plain i e given (written.Wait s) = (refl, refl)
  write-plain i e given (written.Frame s h) = (refl, refl)

drop-plain : (c : Conn) (i : ℕ) (p : Place) → Plain (drop_at p c i)
unfolding drop_at
drop-plain c i nowhere = (refl, refl)
drop-plain c i (at j) = (refl, refl)

tick_plain : (c : Conn) (p : Option Header) → Plain (ping_out p c)
unfolding ping_out
tick_plain c None = (refl, refl)
tick_plain c (Some h) = (refl, refl)

plain : {full : Type 0} (q : Reply) → Neither q → Limits ((false ≡ true) × full) ⊥ q
plain q n = neither (λ x. true-not-false x.0 refl) (λ x. x) q n

-- ---- an open

module _ (c : Conn) (v : Inv c) (now : ℕ) where
  abbrev OpenOk : Effect → Type 0
  OpenOk r = Limits ((open_passes c now ≡ true) × AllInUse c) ⊥ r.outcome.reply

  -- an open that does not pass
  stops : (q : Reply) → Neither q → open_passes c now ≡ false → OpenOk (refuse c q)
  stops q n e = neither (λ x. true-not-false x.0 e) (λ x. x) q n

  opens_at : open_passes c now ≡ true → (p : Place) → Says is_free c.slots vacant p → OpenOk (open_at p c now)
  unfolding open_at
  opens_at does nowhere f = seven_is (does, all_held c.slots f ∙ v.size)
  opens_at does (at i) f =
      let left = sum-spare (λ (x : Entry). x.held) c.slots i vacant f.0 (free_held (entry c.slots i).held f.1) in
      neither (λ x. omega (arith, x.1, left, v.size)) (λ x. x) reply.Done (refl, refl)

  opens-limits : OpenOk (step c (rules.open_stream now))
  unfolding step open_rules
  opens-limits =
      split OpenOk (ltb last_time now)
      (λ t. let late = lt-leb now last_time (ltb-true last_time now t) in stops reply.Time (refl, refl) (rw late))
      (λ t.
      let timely = le-leb now last_time (ltb-false last_time now t) in
      split OpenOk c.ended (λ e. stops reply.Closed (refl, refl) (rw (timely, e))) (λ e.
      split OpenOk (leb c.config.max_num_streams (listed_count c.slots))
      (λ m. let many = le-ltb (listed_count c.slots) c.config.max_num_streams (leb-true _ _ m) in stops reply.TooManyStreams (refl, refl) (rw (timely, e, many)))
      (λ m.
      let few = lt-ltb (listed_count c.slots) c.config.max_num_streams (leb-false _ _ m) in
      split OpenOk (leb 256 (unacknowledged c.config.mode c.slots))
      (λ u. let old = le-ltb (unacknowledged c.config.mode c.slots) 256 (leb-true _ _ u) in stops reply.Wait (refl, refl) (rw (timely, e, few, old)))
      (λ u.
      let young = lt-ltb (unacknowledged c.config.mode c.slots) 256 (leb-false _ _ u) in
      split OpenOk (ltb top (c.next_id + 2))
      (λ n. let last = lt-leb (c.next_id + 2) top (ltb-true top (c.next_id + 2) n) in stops reply.NoMoreStreamIds (refl, refl) (rw (timely, e, few, young, last)))
      (λ n.
      let next = le-leb (c.next_id + 2) top (ltb-false top (c.next_id + 2) n) in
      opens_at (rw (timely, e, few, young, next)) (lowest_free c.slots) (first_says is_free c.slots vacant))))))

-- ---- every call

-- a body that is queued and too long, as a test and as facts
over_as : {full over other : Type 0} {q : Reply} → (over → other) → (other → over) → Limits full over q → Limits full other q
over_as f g l = record { seven = l.seven; eight = ((λ e. let o = l.eight.0 e in (f o.0, o.1)), (λ x. l.eight.1 (g x.0, x.1))) }

module _ (c : Conn) (v : Inv c) where
  pub limits : (k : rules.Call) → Limits ((would_make c k ≡ true) × AllInUse c) (Overflows c k) (step c k).outcome.reply
  unfolding step read_rules read_with write_rules close_rules drop_rules tick_rules
  limits (rules.tick now) = plain _ (timed-plain c now _ (live-plain c _ (tick_plain _ _)))
  limits (rules.frame now head body) =
      over_as (λ e. let b = both (would_queue c now head body) _ e in (b.0, ltb-true (room c) (length body) b.1))
      (λ x. rw x.0 (lt-ltb (room c) (length body) x.1))
      (exact c v body now (decoded head)).limits
  limits (rules.open_stream now) = opens-limits c v now
  limits (rules.read now i asked) =
      plain _ (timed-plain c now _ (holding-plain c i _ (split Plain (ended_for_reads c) (λ e. (refl, refl)) (λ e. read_plain c i _ _ _ _))))
  limits (rules.write now i given) =
      plain _ (timed-plain c now _ (holding-plain c i _ (split Plain c.ended (λ e. (refl, refl)) (λ e. write-plain c i _ given _))))
  limits (rules.close now i) = plain _ (timed-plain c now _ (holding-plain c i _ (refl, refl)))
  limits (rules.drop now i) = plain _ (timed-plain c now _ (holding-plain c i _ (drop-plain _ i _)))
  limits (rules.gone now) = plain _ (timed-plain c now _ (live-plain c _ (refl, refl)))

-- ---- room

-- with n handles at the most, the bytes are within the pool
no_crowd : (pool limit n m held growth : ℕ) → held ≤ n → growth + m * initial_window ≤ limit → limit + n * initial_window ≤ pool + m * initial_window → pool < held * initial_window + growth → ⊥
no_crowd pool limit n m held growth h b p q = omega arith

-- A body is queued for a stream that it opens, which takes 262,144 at the most, or within the window of one that is held.
abbrev pub For : Conn → List ℕ → Bool → Type 0
For c body opening =
    ((opening ≡ true) × (length body ≤ initial_window))
    ⊎ ((i : ℕ) × ((entry c.slots i).held ≡ true) × (length body ≤ (entry c.slots i).stream.flow.receive_window))

module _ (c : Conn) (v : Inv c) (body : List ℕ) where
  known-for : (opening : Bool) (h : Header) (p : Place) → Located c.slots h.stream_id p → takes_at p c body ≡ true → For c body opening
  known-for opening h nowhere l e = true-not-false e refl
  known-for opening h (at i) l e = inr (i, (v.good i).holds (is_listed h.stream_id (entry c.slots i) l.1), leb-true (length body) _ e)

  tag-for : (h : Header) (t : Tag) → queues_as t c h body ≡ true → For c body (opens_as t c h body)
  tag-for h tag.Data e = go (contains h.flags syn) (both (not (contains h.flags rst)) _ e).1
    where
      go : (b : Bool) → cond b (opens c h body) (takes_at (find c.slots h.stream_id) c body) ≡ true → For c body (opens c h body)
      go true o = inl (o, leb-true (length body) initial_window (admitted_by c h _ o).passed)
      go false o = known-for (opens c h body) h (find c.slots h.stream_id) (first_says (has_id h.stream_id) c.slots vacant) o
  tag-for h tag.WindowUpdate e = true-not-false e refl
  tag-for h tag.Ping e = true-not-false e refl
  tag-for h tag.GoAway e = true-not-false e refl

  pub queued-for : (now : ℕ) (d : Result Header HeaderDecodeError) → ruled d c now body (λ h. queues_as h.tag c h body) ≡ true → For c body (ruled d c now body (λ h. opens_as h.tag c h body))
  queued-for now (Err found.Size) e = true-not-false e refl
  queued-for now (Err (found.Version n)) e = true-not-false e refl
  queued-for now (Err (found.Type n)) e = true-not-false e refl
  queued-for now (Ok h) e =
      let timely = both (leb now last_time) _ e in
      let lives = both (not c.ended) _ timely.1 in
      let long = both (eqb (length body) (body_length h.tag h.length.0)) _ lives.1 in
      rw (timely.0, lives.0, long.0) (tag-for h h.tag long.1)

  -- no body finds too little room, with n handles at the most and a pool made for them
  pub roomy : (n : ℕ) (opening : Bool) → room c < length body → For c body opening →
      c.config.limit + n * initial_window ≤ c.config.pool + c.config.max_num_streams * initial_window →
      held_count c.slots ≤ n → (opening ≡ true → held_count c.slots + 1 ≤ n) → ⊥
  roomy n opening over (inl x) p h o =
      no_crowd c.config.pool c.config.limit n c.config.max_num_streams (held_count c.slots + 1) c.growth (o x.0) v.bounded p
      (omega (arith, over, v.room, v.figure, x.1, capacity c.slots v.good))
  roomy n opening over (inr (i, held, less)) p h o =
      let whole : open_window (entry c.slots i) ≡ (entry c.slots i).stream.flow.receive_window = rw held in
      no_crowd c.config.pool c.config.limit n c.config.max_num_streams (held_count c.slots) c.growth h v.bounded p
      (omega (arith, over, v.room, v.figure, less, whole, sum_at open_window c.slots i vacant (in_range c.slots i held), capacity c.slots v.good))
