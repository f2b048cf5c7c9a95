-- A call that waits leaves its mark and gives no value, no other sets one, a frame wakes whom it should, and the next id goes by 2
-- where an open gives one. Assumes nothing.
use Rattle.std.proofs.Common.{Option, Some, None, Result, Ok, Err, ◌≡◌, refl, sym, ap, ◌∙◌, subst, ◌⊎◌, inl, inr, ◌≢◌, Bool, true, false, cond, List, [], ◌∷◌, ◌++◌, ℕ, ◌+◌, ◌-◌, ◌≤◌, min, suc-ne-zero, length, set, length-set, get_or-set_same, eqb, ltb, leb, ltb-false}
use Rattle.frame.specs.Wire.{decoded}
use Rattle.frame.specs.declared.header.Header.{Header}
use Rattle.frame.specs.declared.header.HeaderDecodeError.{HeaderDecodeError}
use Rattle.frame.specs.declared.header.HeaderDecodeError.TheVariants as found
use Rattle.rtt.specs.Pings.{next_ping}
use Rattle.flow_control.specs.Windows.{top}
use Rattle.stream.specs.States.{can_read, can_write}
use Rattle.stream.specs.Streams as stream
use Rattle.stream.specs.declared.Stream.{Stream}
use Rattle.stream.specs.declared.Updated.{Updated}
use Rattle.stream.specs.declared.ReadEnd.TheVariants as reading
use Rattle.stream.specs.declared.Written.TheVariants as written
use Rattle.rules.specs.declared.Reply.{Reply}
use Rattle.rules.specs.declared.Reply.TheVariants as reply
use Rattle.rules.specs.Replies.{bare, leaves_all}
use Rattle.rules.specs.Settings.{last_time}
use Rattle.rules.specs.Lists.{Place, at, nowhere}
use Rattle.rules.specs.State.{Entry, Conn, vacant, entry, is_free, has_id, find, lowest_free, listed_count, unacknowledged, with_stream, with_slot, with_open_wait, with_growth, with_pings}
use Rattle.rules.specs.Ending.{Effect, gives, refuse, ended}
use Rattle.rules.specs.Frames.{new_entry, on_header}
use Rattle.rules.specs.Calls.{growth_of, open_at, open_rules, read_entry, read_rest, read_with, window_step, read_rules, write_with, write_rules, close_rules, removed_entry, drop_at, drop_rules, ping_out, tick_rules}
use Rattle.rules.specs.Step.{on_decoded, step}
use Rattle.rules.specs.Step as rules
use Rattle.rules.proofs.Lists.{Says, first_says}
use Rattle.demands.specs.Demands.{and}
use Rattle.demands.specs.History.{is_done}
use Rattle.demands.specs.Theorems.{Gave, ended_for_reads, is_open, id_of, ids, by_two}
use Rattle.demands.specs.Waits.{Sets, Waiting, Opens, Reads, Writes, IsWoken, WaitsAreSet, OnlyWaitsSet, AcksWakeTheOpen, wakes_reader, wakes_writer, TakenWakes, Unreported, OnlyTakenWakes}
use Rattle.rules.proofs.Lists.{split}
use Rattle.demands.proofs.Lists.{true-not-false, at_set}
use Rattle.demands.proofs.Invariant.{Inv, in_range}
use Rattle.demands.proofs.Steps.{sound, reached}
use Rattle.demands.proofs.Answers.{alive}
use Rattle.demands.proofs.Acks.{Located, SameWaits}
use Rattle.demands.proofs.OwnMarks.{steps, close_same}
use Rattle.demands.proofs.Woken.{is_wait, not_done, Fewer, NoneSet, off_fewer, same_fewer, none-set, slot_set, end-set, Woken, acked, acked-wakes, acked_keeps, headers}

-- ---- what is shown of a call

-- no id is given and the next one stays; or the next one is given, and goes by 2, which does not pass 2^32-1
abbrev pub Next : Conn → List ℕ → Conn → Type 0
Next c given d = ((given ≡ []) × (d.next_id ≡ c.next_id)) ⊎ ((given ≡ c.next_id ∷ []) × (d.next_id ≡ c.next_id + 2) × (c.next_id + 2 ≤ top))

-- a mark that is set is set by such a call, and it waits
abbrev By : Type 0 → Bool → Bool → Reply → Type 0
By who before after q = Sets before after → who × (q ≡ reply.Wait)

abbrev SetBy : Conn → rules.Call → Effect → Type 0
SetBy c k r =
    By (Opens k) c.open_wait r.after.open_wait r.outcome.reply
    × ((j : ℕ) → By (Reads k j) (entry c.slots j).stream.reader (entry r.after.slots j).stream.reader r.outcome.reply)
    × ((j : ℕ) → By (Writes k j) (entry c.slots j).stream.writer (entry r.after.slots j).stream.writer r.outcome.reply)

-- no mark is on that was off
abbrev Unset : Conn → Conn → Type 0
Unset c d = (d.open_wait ≡ true → c.open_wait ≡ true) × NoneSet c.slots d.slots

not_set : {P : Type 0} {b a : Bool} → (a ≡ true → b ≡ true) → Sets b a → P
not_set f s = true-not-false (f s.1) s.0

all_unset : (c : Conn) → Unset c c
all_unset c = ((λ e. e), none-set c.slots)

end_unset : (c : Conn) → Unset c (ended c)
end_unset c = ((λ e. true-not-false e refl), end-set c)

pub record Turn (c : Conn) (k : rules.Call) (r : Effect) : Type 0 where
  pub waits : r.outcome.reply ≡ reply.Wait → Waiting k r.after × (r.outcome.value ≡ None)
  pub sets : SetBy c k r
  pub next : Next c (id_of k r.outcome) r.after

module _ (c : Conn) (k : rules.Call) where
  -- a call that does not wait and gives no id
  prompt : (r : Effect) → is_wait r.outcome.reply ≡ false → id_of k r.outcome ≡ [] → r.after.next_id ≡ c.next_id → Unset c r.after → Turn c k r
  prompt r w e n u = record {
    waits = λ q. true-not-false (ap is_wait q) w;
    sets = ((λ s. not_set u.0 s), (λ j s. not_set (u.1 j).0 s), (λ j s. not_set (u.1 j).1 s));
    next = inl (e, n);
  }

  refused : (q : Reply) → is_wait q ≡ false → Turn c k (refuse c q)
  refused q w = prompt _ w (split (λ (l : List ℕ). l ≡ []) (and (is_open k) (is_done q)) (λ t. refl) (λ t. refl)) refl (all_unset c)

  timed-ok : (now : ℕ) (next : Effect) → Turn c k next → Turn c k (rules.timed c now next)
  timed-ok now next s = split (Turn c k) (ltb last_time now) (λ t. refused reply.Time refl) (λ t. s)

  live-ok : (next : Effect) → (c.ended ≡ false → Turn c k next) → Turn c k (rules.live c next)
  live-ok next s = split (Turn c k) c.ended (λ t. refused reply.Closed refl) s

  holding-ok : (i : ℕ) (next : Effect) → ((entry c.slots i).held ≡ true → Turn c k next) → Turn c k (rules.holding c i next)
  holding-ok i next s = split (Turn c k) (entry c.slots i).held s (λ t. refused reply.NotHeld refl)

-- ---- calls on a handle

module _ (c : Conn) (now i : ℕ) (held : (entry c.slots i).held ≡ true) where
  abbrev old : Entry
  old = entry c.slots i

  -- the slot has what is put in it
  at_slot : (x : Entry) → entry (with_slot c i x).slots i ≡ x
  at_slot x = get_or-set_same c.slots i x vacant (in_range c.slots i held)

  slot-unset : (x : Entry) → Fewer old.stream x.stream → NoneSet c.slots (with_slot c i x).slots
  slot-unset x f = slot_set c.slots c.slots i x (in_range c.slots i held) (none-set c.slots) f

  -- the readers' marks, or the writers'
  slot-by : (mark : Stream → Bool) (who : ℕ → Type 0) (q : Reply) (x : Entry) → By (who i) (mark old.stream) (mark x.stream) q →
      (j : ℕ) → By (who j) (mark (entry c.slots j).stream) (mark (entry (with_slot c i x).slots j).stream) q
  slot-by mark who q x b =
      at_set (λ j e. By (who j) (mark (entry c.slots j).stream) (mark e.stream) q) c.slots i x vacant (in_range c.slots i held) b
      (λ j m s. not_set (λ e. e) s)

  module _ (asked : ℕ) where
    abbrev ReadOk : Effect → Type 0
    ReadOk r = Turn c (rules.read now i asked) r

    read_done : (u : Updated) → SameWaits u.stream old.stream → (n : ℕ) → ReadOk (read_rest c i old u n (reading.Done u.stream))
    unfolding read_rest
    read_done u e n = prompt c _ _ refl refl refl ((λ q. q), slot-unset (read_entry old u.stream n) (same_fewer old.stream u.stream e))

    read-ends : (u : Updated) → SameWaits u.stream old.stream → (n : ℕ) (a b : Bool) →
        ReadOk (read_rest c i old u n (cond a (cond b (reading.Wait (stream.with_waits u.stream true u.stream.writer)) (reading.Done u.stream)) (reading.Done u.stream)))
    unfolding read_rest
    read-ends u e n true true =
        let x = read_entry old (stream.with_waits u.stream true u.stream.writer) n in
        record {
          waits = λ w. (ap (λ (y : Entry). y.stream.reader) (at_slot _), refl);
          sets = (
            (λ s. not_set (λ q. q) s),
            slot-by (λ s. s.reader) (λ j. Reads (rules.read now i asked) j) reply.Wait x (λ s. ((now, asked, refl), refl)),
            slot-by (λ s. s.writer) (λ j. Writes (rules.read now i asked) j) reply.Wait x (λ s. not_set (λ q. sym e.1 ∙ q) s),
          );
          next = inl (refl, refl);
        }
    read-ends u e n true false = read_done u e n
    read-ends u e n false b = read_done u e n

    reads : ReadOk (read_rules c i old asked now)
    unfolding read_rules read_with
    reads =
        let u = window_step c old now in
        let n = min asked (length old.bytes) in
        split ReadOk (ended_for_reads c) (λ e. prompt c _ _ refl refl refl (all_unset c)) (λ e. read-ends u (steps c i held now) n (eqb n 0) (can_read u.stream.state))

  module _ (given : List ℕ) where
    abbrev WriteOk : Effect → Type 0
    WriteOk r = Turn c (rules.write now i given) r

    write-waits : WriteOk (write_with c i old given (written.Wait (stream.with_waits old.stream old.stream.reader true)))
    unfolding write_with
    write-waits =
        let x = with_stream old (stream.with_waits old.stream old.stream.reader true) in
        record {
          waits = λ w. (ap (λ (y : Entry). y.stream.writer) (at_slot _), refl);
          sets = (
            (λ s. not_set (λ q. q) s),
            slot-by (λ s. s.reader) (λ j. Reads (rules.write now i given) j) reply.Wait x (λ s. not_set (λ q. q) s),
            slot-by (λ s. s.writer) (λ j. Writes (rules.write now i given) j) reply.Wait x (λ s. ((now, given, refl), refl)),
          );
          next = inl (refl, refl);
        }

    writes : WriteOk (write_rules c i old given)
    unfolding write_rules write_with
    writes =
        split WriteOk c.ended (λ e. prompt c _ _ refl refl refl (all_unset c)) (λ e.
        split (λ w. WriteOk (write_with c i old given w)) (can_write old.stream.state)
        (λ a.
        split (λ w. WriteOk (write_with c i old given w)) (eqb old.stream.flow.send_window 0)
        (λ z. write-waits)
        (λ z. prompt c _ _ refl refl refl ((λ q. q), slot-unset _ ((λ q. q), (λ q. q)))))
        (λ a. prompt c _ _ refl refl refl (all_unset c)))

  closes : Turn c (rules.close now i) (close_rules c i old)
  unfolding close_rules
  closes =
      let s = old.stream in
      prompt c _ _ refl refl refl ((λ q. q), slot-unset (with_stream old (stream.close s).stream) (same_fewer s (stream.close s).stream (close_same c i held s.state s)))

  drops-at : (g : ℕ) (p : Place) → Located c.slots old.stream.id p → Turn c (rules.drop now i) (drop_at p (with_growth c g) i)
  unfolding drop_at
  drops-at g nowhere l = prompt c _ _ refl refl refl ((λ q. q), slot-unset vacant (off_fewer old.stream vacant.stream (refl, refl)))
  drops-at g (at j) l =
      let e = entry c.slots j in
      let x = removed_entry e in
      prompt c _ _ refl refl refl (
        (λ q. q),
        slot_set c.slots (set c.slots j x) i vacant (rw (length-set c.slots j x) (in_range c.slots i held))
            (slot_set c.slots c.slots j x l.0 (none-set c.slots) (off_fewer e.stream x.stream (refl, refl)))
            (off_fewer old.stream vacant.stream (refl, refl)),
      )

  drops : Turn c (rules.drop now i) (drop_rules c i old)
  unfolding drop_rules
  drops = drops-at (c.growth - growth_of old) (find c.slots old.stream.id) (first_says (has_id old.stream.id) c.slots vacant)

-- ---- open and tick

module _ (c : Conn) (now : ℕ) where
  abbrev OpenOk : Effect → Type 0
  OpenOk r = Turn c (rules.open_stream now) r

  opens_at : c.next_id + 2 ≤ top → (p : Place) → Says is_free c.slots vacant p → OpenOk (open_at p c now)
  unfolding open_at
  opens_at t nowhere f = prompt c _ _ refl refl refl (all_unset c)
  opens_at t (at i) f =
      let x = new_entry (stream.new_outbound (record { 0 = c.next_id }) now) [] in
      let u = slot_set c.slots c.slots i x f.0 (none-set c.slots) (off_fewer (entry c.slots i).stream x.stream (refl, refl)) in
      record {
        waits = λ q. true-not-false (ap is_wait q) refl;
        sets = ((λ s. not_set (λ q. q) s), (λ j s. not_set (u j).0 s), (λ j s. not_set (u j).1 s));
        next = inr (refl, refl, t);
      }

  open-waits : OpenOk (gives (bare reply.Wait) (with_open_wait c true))
  open-waits = record {
    waits = λ w. (refl, refl);
    sets = ((λ s. ((now, refl), refl)), (λ j s. not_set (λ q. q) s), (λ j s. not_set (λ q. q) s));
    next = inl (refl, refl);
  }

  opens : OpenOk (open_rules c now)
  unfolding open_rules
  opens =
      split OpenOk (leb c.config.max_num_streams (listed_count c.slots)) (λ m. prompt c _ _ refl refl refl (end_unset c)) (λ m.
      split OpenOk (leb 256 (unacknowledged c.config.mode c.slots)) (λ u. open-waits) (λ u.
      split OpenOk (ltb top (c.next_id + 2)) (λ n. prompt c _ _ refl refl refl (end_unset c)) (λ n.
      opens_at (ltb-false top (c.next_id + 2) n) (lowest_free c.slots) (first_says is_free c.slots vacant))))

  ticks-out : (p : Option Header) (d : Conn) → d.next_id ≡ c.next_id → Unset c d → Turn c (rules.tick now) (ping_out p d)
  unfolding ping_out
  ticks-out None d n u = prompt c _ _ refl refl n u
  ticks-out (Some h) d n u = prompt c _ _ refl refl n u

  ticks : Turn c (rules.tick now) (tick_rules c now)
  unfolding tick_rules
  ticks = ticks-out (next_ping c.pings now).ping (with_pings c (next_ping c.pings now).rtt) refl (all_unset c)

-- ---- every call

module _ (c : Conn) (v : Inv c) where
  -- a frame sets no wait of an open: it leaves that, or what its ACK step left
  open_kept : (h : Header) (b : Bool) → let a = acked h.tag c h (find c.slots h.stream_id) in (b ≡ c.open_wait) ⊎ (b ≡ a.conn.open_wait) → b ≡ true → c.open_wait ≡ true
  open_kept h b (inl e) q = sym e ∙ q
  open_kept h b (inr e) q = acked_keeps h.tag c h (find c.slots h.stream_id) (sym e ∙ q)

  header-turns : c.ended ≡ false → (h : Header) (head body : List ℕ) (now : ℕ) → Turn c (rules.frame now head body) (on_header c h body now)
  header-turns l h head body now = let p = headers c v l h body now in prompt c _ _ p.prompt refl p.next (open_kept h _ p.mark, p.unset)

  decodes : (d : Result Header HeaderDecodeError) (head body : List ℕ) (now : ℕ) → Turn c (rules.frame now head body) (on_decoded d c body now)
  unfolding on_decoded
  decodes (Err found.Size) head body now = prompt c _ _ refl refl refl (all_unset c)
  decodes (Err (found.Version n)) head body now = timed-ok c _ now _ (live-ok c _ _ (λ l. prompt c _ _ refl refl refl (end_unset c)))
  decodes (Err (found.Type n)) head body now = timed-ok c _ now _ (live-ok c _ _ (λ l. prompt c _ _ refl refl refl (end_unset c)))
  decodes (Ok h) head body now = timed-ok c _ now _ (live-ok c _ _ (λ l. header-turns l h head body now))

  pub turns : (k : rules.Call) → Turn c k (step c k)
  unfolding step
  turns (rules.tick now) = timed-ok c _ now _ (live-ok c _ _ (λ l. ticks c now))
  turns (rules.frame now head body) = decodes (decoded head) head body now
  turns (rules.open_stream now) = timed-ok c _ now _ (live-ok c _ _ (λ l. opens c now))
  turns (rules.read now i asked) = timed-ok c _ now _ (holding-ok c _ i _ (λ h. reads c now i h asked))
  turns (rules.write now i given) = timed-ok c _ now _ (holding-ok c _ i _ (λ h. writes c now i h given))
  turns (rules.close now i) = timed-ok c _ now _ (holding-ok c _ i _ (λ h. closes c now i h))
  turns (rules.drop now i) = timed-ok c _ now _ (holding-ok c _ i _ (λ h. drops c now i h))
  turns (rules.gone now) = timed-ok c _ now _ (live-ok c _ _ (λ l. prompt c _ _ refl refl refl (end_unset c)))

-- ---- waits

pub waits_are_set : WaitsAreSet
waits_are_set c m k = (turns c (reached m) k).waits

pub only_waits_set : OnlyWaitsSet
only_waits_set c m k = (turns c (reached m) k).sets

abbrev OpenWoken : Conn → Effect → Type 0
OpenWoken c r = leaves_all r.outcome.reply ≡ false → IsWoken c.open_wait r.after.open_wait r.outcome.wakes.opener

pub acks_wake_the_open : AcksWakeTheOpen
unfolding step on_decoded
acks_wake_the_open c m now head body h d s e live =
    subst (λ q. OpenWoken c (on_decoded q c body now)) (sym d)
    (split (OpenWoken c) (ltb last_time now)
    (λ t n. true-not-false refl n)
    (λ t. subst (OpenWoken c) (sym (alive c _ live)) (λ n.
    let o = (headers c (reached m) live h body now).opener n in
    let w = acked-wakes h.tag c h (find c.slots h.stream_id) s e in
    (o.0 ∙ w.0, o.1 ∙ w.1))))

-- what is so of every refusal, and of what comes behind the tests of time and ending
tested : (P : Effect → Type 0) (c : Conn) (now : ℕ) (r : Effect) → ((q : Reply) → is_done q ≡ false → P (refuse c q)) → (c.ended ≡ false → P r)
    → P (rules.timed c now (rules.live c r))
tested P c now r f g = split P (ltb last_time now) (λ t. f reply.Time refl) (λ t. split P c.ended (λ e. f reply.Closed refl) g)

abbrev StreamWoken : Conn → Header → ℕ → Effect → Type 0
StreamWoken c h i r =
    r.outcome.reply ≡ reply.Done →
    Woken (wakes_reader h.tag h) (wakes_writer h.tag h) (entry c.slots i).stream (entry r.after.slots i).stream r.outcome.wakes.reader r.outcome.wakes.writer

pub taken_wakes : TakenWakes
unfolding step on_decoded
taken_wakes c m now i head body h d f =
    subst (λ q. StreamWoken c h i (on_decoded q c body now)) (sym d)
    (tested (StreamWoken c h i) c now _ (λ q e n. not_done q e n) (λ live. (headers c (reached m) live h body now).woken i f))

abbrev Unwoken : Effect → Type 0
Unwoken r = r.outcome.reply ≢ reply.Done → Unreported r.outcome.wakes

pub only_taken_wakes : OnlyTakenWakes
unfolding step on_decoded
only_taken_wakes c m now head body = go (decoded head)
  where
    go : (q : Result Header HeaderDecodeError) → Unwoken (on_decoded q c body now)
    go (Err found.Size) = λ n. (refl, refl)
    go (Err (found.Version v)) = tested Unwoken c now _ (λ q e n. (refl, refl)) (λ l n. (refl, refl))
    go (Err (found.Type t)) = tested Unwoken c now _ (λ q e n. (refl, refl)) (λ l n. (refl, refl))
    go (Ok h) = tested Unwoken c now _ (λ q e n. (refl, refl)) (λ l. (headers c (reached m) l h body now).unwoken)

-- ---- ids

-- an id that is given is the next one
abbrev Given : Conn → ℕ → Conn → Type 0
Given c id d = (id ≡ c.next_id) × (d.next_id ≡ c.next_id + 2) × (c.next_id + 2 ≤ top)

head_is : (a b : ℕ) → a ∷ [] ≡ b ∷ [] → a ≡ b
head_is a b e = cc

given-next : (c d : Conn) (id : ℕ) → Next c (id ∷ []) d → Given c id d
given-next c d id (inl e) = absurd (suc-ne-zero _ (ap length e.0))
given-next c d id (inr e) = (head_is id c.next_id e.0, e.1, e.2)

pub gave : (c : Conn) → Inv c → (now id : ℕ) → let r = step c (rules.open_stream now) in Gave r id → Given c id r.after
gave c v now id g =
    let r = step c (rules.open_stream now) in
    let is : id_of (rules.open_stream now) r.outcome ≡ id ∷ [] = rw (g.0, g.1) in
    given-next c r.after id (subst (λ (l : List ℕ). Next c l r.after) is (turns c v (rules.open_stream now)).next)

-- ids by 2 before ids by 2
joined : (c d : Conn) (given rest : List ℕ) → Next c given d → rest ≡ by_two (length rest) d.next_id → given ++ rest ≡ by_two (length (given ++ rest)) c.next_id
joined c d given rest (inl e) r = rw e.0 (subst (λ n. rest ≡ by_two (length rest) n) e.1 r)
joined c d given rest (inr e) r = rw e.0 (ap {B = List ℕ} (λ l. c.next_id ∷ l) (subst (λ n. rest ≡ by_two (length rest) n) e.1 r))

pub by_two_lem : (c : Conn) → Inv c → (ks : List rules.Call) → ids c ks ≡ by_two (length (ids c ks)) c.next_id
by_two_lem c v [] = refl
by_two_lem c v (k ∷ ks) = joined c (step c k).after _ _ (turns c v k).next (by_two_lem (step c k).after (sound c v k).inv ks)
