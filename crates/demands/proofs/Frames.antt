-- Each type of frame keeps the invariant. Assumes nothing.
use Rattle.std.proofs.Common.{Result, Ok, Err, ◌≡◌, refl, sym, subst, inl, true, false, List, [], ◌∷◌, ℕ, ◌+◌, ◌-◌, ◌≤◌, arith, le_refl, suc-ne-zero, length, ltb, eqb, eqb-true, ltb-false}
use Rattle.frame.specs.Header.{contains, syn, ack, rst, initial_window, protocol_error, internal_error}
use Rattle.frame.specs.declared.header.Header.{Header}
use Rattle.frame.specs.declared.header.Tag.{Tag}
use Rattle.frame.specs.declared.header.Tag.TheVariants as tag
use Rattle.rtt.specs.Pings.{handle_pong}
use Rattle.flow_control.specs.Windows.{top, fresh, with_receive}
use Rattle.rules.specs.declared.Reply.TheVariants as reply
use Rattle.rules.specs.Lists.{Place, at, nowhere}
use Rattle.rules.specs.State.{Conn, vacant, has_id, find}
use Rattle.rules.specs.Ending.{Effect}
use Rattle.rules.specs.Frames.{Acked, ack_step, syn_data, syn_update, data_rules, update_rules, pong_rules, ping_rules, answers_ping, frame_rules, body_length, on_header}
use Rattle.rules.proofs.Lists.{first_says}
use Rattle.demands.specs.History.{by_tag}
use Rattle.rules.proofs.Lists.{split}
use Rattle.demands.proofs.Invariant.{Flows, Inv}
use Rattle.demands.proofs.Sound.{Sound, refused, done, ends}
use Rattle.demands.proofs.Acks.{Acks, Located, after-ack, unmoved, acknowledges}
use Rattle.demands.proofs.Known.{Keeps, away, resets, known-data, known-update}
use Rattle.demands.proofs.Opening.{makes, syns}
use Rattle.rtt.specs.declared.UnexpectedPong.{UnexpectedPong}
use Rattle.rtt.specs.declared.Rtt.{Rtt}

-- ---- Data and WindowUpdate, after an ACK step

flows_fresh : (n send now : ℕ) → n ≤ initial_window → send ≤ top → Flows (with_receive (fresh send now) (initial_window - n)) n
flows_fresh n send now h g = record { low = le_refl _; high = omega arith; fits = omega (arith, h); sends = g }

module _ (h : Header) (body : List ℕ) (now : ℕ) (a : Acked) (place : Place) (k : Acks a h.stream_id place) where
  -- a frame with SYN that passes the tests
  at-nowhere : (t : Tag) (r : Effect) → place ≡ nowhere → (Acks a h.stream_id nowhere → Keeps h body a nowhere t r) → Keeps h body a place t r
  at-nowhere t r e f = subst (λ p. Keeps h body a p t r) (sym e) (f (subst (Acks a h.stream_id) e k))

  syn-data : Keeps h body a place tag.Data (syn_data a h body place now)
  unfolding syn_data
  syn-data =
      syns h body a tag.Data place k internal_error _ (λ e m l.
      split (Keeps h body a place tag.Data) (ltb initial_window (length body))
      (λ b. away h body a place k tag.Data protocol_error)
      (λ b.
      let small = ltb-false initial_window (length body) b in
      at-nowhere tag.Data _ e (λ q.
      makes h body a q _ refl refl (flows_fresh (length body) initial_window now small (omega arith)) m l tag.Data)))

  data-rules : Keeps h body a place tag.Data (data_rules a h body place now)
  unfolding data_rules
  data-rules =
      split (Keeps h body a place tag.Data) (contains h.flags rst)
      (λ r. resets h body a place k tag.Data (rw r))
      (λ r.
      split (Keeps h body a place tag.Data) (contains h.flags syn)
      (λ s. syn-data)
      (λ s. known-data h body a r place k))

module _ (h : Header) (now : ℕ) (a : Acked) (place : Place) (k : Acks a h.stream_id place) where
  syn-update : Keeps h [] a place tag.WindowUpdate (syn_update a h place now)
  unfolding syn_update
  syn-update =
      syns h [] a tag.WindowUpdate place k protocol_error _ (λ e m l.
      split (Keeps h [] a place tag.WindowUpdate) (ltb top (h.length.0 + initial_window))
      (λ b. away h [] a place k tag.WindowUpdate protocol_error)
      (λ b.
      at-nowhere h [] now a place k tag.WindowUpdate _ e (λ q.
      makes h [] a q _ refl refl (flows_fresh 0 (h.length.0 + initial_window) now (omega arith) (ltb-false top (h.length.0 + initial_window) b)) m l tag.WindowUpdate)))

  update-rules : Keeps h [] a place tag.WindowUpdate (update_rules a h place now)
  unfolding update_rules
  update-rules =
      split (Keeps h [] a place tag.WindowUpdate) (contains h.flags rst)
      (λ r. resets h [] a place k tag.WindowUpdate refl)
      (λ r.
      split (Keeps h [] a place tag.WindowUpdate) (contains h.flags syn)
      (λ s. syn-update)
      (λ s. known-update h [] a place k))

-- ---- each type

none_left : (l : List ℕ) → length l ≡ 0 → l ≡ []
none_left [] e = refl
none_left (x ∷ l) e = absurd (suc-ne-zero _ e)

module _ (c : Conn) (v : Inv c) (live : c.ended ≡ false) (h : Header) (body : List ℕ) (now : ℕ) where
  abbrev place : Place
  place = find c.slots h.stream_id

  located : Located c.slots h.stream_id place
  located = first_says (has_id h.stream_id) c.slots vacant

  data_frame_lem : Sound c (λ j. place ≡ at j) (by_tag tag.Data h body place (data_rules (ack_step c h place) h body place now).outcome) (data_rules (ack_step c h place) h body place now)
  data_frame_lem =
      after-ack c v live h place located
      (λ a. Sound c (λ j. place ≡ at j) (by_tag tag.Data h body place (data_rules a h body place now).outcome) (data_rules a h body place now))
      (λ b w. data-rules h body now _ place (unmoved c v live h.stream_id b w place located))
      (data-rules h body now _ place (acknowledges c v live h.stream_id place located))

  update-frame : Sound c (λ j. place ≡ at j) (by_tag tag.WindowUpdate h [] place (update_rules (ack_step c h place) h place now).outcome) (update_rules (ack_step c h place) h place now)
  update-frame =
      after-ack c v live h place located
      (λ a. Sound c (λ j. place ≡ at j) (by_tag tag.WindowUpdate h [] place (update_rules a h place now).outcome) (update_rules a h place now))
      (λ b w. update-rules h now _ place (unmoved c v live h.stream_id b w place located))
      (update-rules h now _ place (acknowledges c v live h.stream_id place located))

  abbrev PingOk : Effect → Type 0
  PingOk r = Sound c (λ j. place ≡ at j) (by_tag tag.Ping h body place r.outcome) r

  pongs : (p : Result Rtt UnexpectedPong) → PingOk (pong_rules c p)
  unfolding pong_rules
  pongs (Err _) = done c _ _ _ _ refl refl v refl (le_refl _) (inl refl) (λ j. refl) (λ q j m n. refl)
  pongs (Ok p) = done c _ _ _ _ refl refl v refl (le_refl _) (inl refl) (λ j. refl) (λ q j m n. refl)

  pings : PingOk (ping_rules c h now)
  unfolding ping_rules
  pings =
      split PingOk (contains h.flags ack)
      (λ e. pongs (handle_pong c.pings h.length.0 now c.config.interval))
      (λ e.
      split PingOk (answers_ping c h.stream_id)
      (λ s. done c _ _ _ _ refl refl v refl (le_refl _) (inl refl) (λ j. refl) (λ q j m n. refl))
      (λ s. done c _ _ _ _ refl refl v refl (le_refl _) (inl refl) (λ j. refl) (λ q j m n. refl)))

  abbrev FrameOk : Tag → Effect → Type 0
  FrameOk t r = Sound c (λ j. place ≡ at j) (by_tag t h body place r.outcome) r

  frames : (t : Tag) → eqb (length body) (body_length t h.length.0) ≡ true → FrameOk t (frame_rules t c h body place now)
  unfolding frame_rules
  frames tag.Data e = data_frame_lem
  frames tag.WindowUpdate e =
      subst (λ (b : List ℕ). Sound c (λ j. place ≡ at j) (by_tag tag.WindowUpdate h b place (update_rules (ack_step c h place) h place now).outcome) (update_rules (ack_step c h place) h place now))
      (sym (none_left body (eqb-true (length body) 0 e))) update-frame
  frames tag.Ping e = pings
  frames tag.GoAway e = ends c v live _ _ reply.Closed refl refl

  pub headers : FrameOk h.tag (on_header c h body now)
  unfolding on_header
  headers =
      split (FrameOk h.tag) (eqb (length body) (body_length h.tag h.length.0))
      (λ e. frames h.tag e)
      (λ e. refused c _ _ v reply.Body (λ j. refl))
