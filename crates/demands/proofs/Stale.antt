-- A stale handle and the newer stream of its number. Assumes nothing.
use Rattle.std.proofs.Common.{Some, None, Result, Ok, Err, ◌≡◌, refl, sym, ap, ◌∙◌, subst, ◌≢◌, Bool, true, false, cond, List, [], ℕ, ◌-◌, ◌≤◌, ◌<◌, min, arith, length, set, length-set, take, get_or-set_same, get_or-set_other, eqb, eq-eqb}
use lib.Seq.{set-get_or}
use Rattle.frame.specs.declared.header.StreamId.{StreamId}
use Rattle.frame.specs.Wire.{decoded}
use Rattle.frame.specs.declared.header.HeaderDecodeError.{HeaderDecodeError}
use Rattle.frame.specs.declared.header.HeaderDecodeError.TheVariants as found
use Rattle.stream.specs.States.{can_read, can_write}
use Rattle.stream.specs.Streams as stream
use Rattle.stream.specs.declared.State.{State}
use Rattle.stream.specs.declared.State.TheVariants.{Closed}
use Rattle.stream.specs.declared.Updated.{Updated}
use Rattle.stream.specs.declared.ReadEnd.{ReadEnd}
use Rattle.stream.specs.declared.Written.{Written}
use Rattle.rules.specs.declared.Reply.TheVariants as reply
use Rattle.rules.specs.Settings.{last_time}
use Rattle.rules.specs.Lists.{Place, at, nowhere}
use Rattle.rules.specs.State.{Entry, Conn, vacant, entry, has_id, find, with_slot, with_slots, with_stream, with_growth}
use Rattle.rules.specs.Ending.{Effect, gives, refuse}
use Rattle.rules.specs.Calls.{growth_of, on_slot, read_entry, read_rest, read_with, window_step, read_rules, write_with, write_rules, close_rules, removed_entry, drop_at, drop_rules}
use Rattle.rules.specs.Step.{step}
use Rattle.rules.specs.Step as rules
use Rattle.rules.proofs.Lists.{Says, first_says}
use Rattle.demands.specs.Handles.{Stale, Drops, StaleRead, StaleWrite, StaleClose, StaleDrop, StaleDropThenNew, NewDrop, IsAboutDecoded, OthersStay, FramesPassStale}
use Rattle.rules.proofs.Lists.{split}
use Rattle.demands.proofs.Lists.{true-not-false, at_set}
use Rattle.demands.proofs.Invariant.{Inv, in_range}
use Rattle.demands.proofs.Acks.{is_listed, is_id}
use Rattle.demands.proofs.Steps.{sound, reached}
use Rattle.demands.proofs.Answers.{timely, holds}
use Rattle.frame.specs.declared.header.Header.{Header}

-- with a stream in the table the connection goes on
pub listed_live : (c : Conn) → Inv c → (i : ℕ) → (entry c.slots i).listed ≡ true → c.ended ≡ false
listed_live c v i l = go c.ended refl
  where
    go : (b : Bool) → c.ended ≡ b → b ≡ false
    go true e = true-not-false l (v.quiet e i)
    go false e = refl

-- ---- where a number is found

module _ (c : Conn) (v : Inv c) (id : StreamId) where
  -- the one stream in the table that has the number
  pub found_at : (i : ℕ) → (entry c.slots i).listed ≡ true → (entry c.slots i).stream.id ≡ id → find c.slots id ≡ at i
  found_at i l e = go (find c.slots id) (first_says (has_id id) c.slots vacant)
    where
      n : (entry c.slots i).stream.id.0 ≡ id.0
      n = ap (λ (d : StreamId). d.0) e

      has : has_id id (entry c.slots i) ≡ true
      has = rw (l, eq-eqb _ _ n)

      go : (p : Place) → Says (has_id id) c.slots vacant p → p ≡ at i
      go (at j) f = ap at (v.unique j i (is_listed id (entry c.slots j) f.1) l (is_id id (entry c.slots j) f.1 ∙ sym n))
      go nowhere f = true-not-false has (f i (in_range c.slots i ((v.good i).holds l)))

  -- a number that no stream in the table has
  pub found_nowhere : ((j : ℕ) → (entry c.slots j).listed ≡ true → (entry c.slots j).stream.id.0 ≡ id.0 → ⊥) → find c.slots id ≡ nowhere
  found_nowhere n = go (find c.slots id) (first_says (has_id id) c.slots vacant)
    where
      go : (p : Place) → Says (has_id id) c.slots vacant p → p ≡ nowhere
      go (at j) f = absurd (n j (is_listed id (entry c.slots j) f.1) (is_id id (entry c.slots j) f.1))
      go nowhere f = refl

-- ---- a drop, by where the number is found

pub drop_is : (c : Conn) (now i : ℕ) (p : Place) → now ≤ last_time → (entry c.slots i).held ≡ true → find c.slots (entry c.slots i).stream.id ≡ p →
    step c (rules.drop now i) ≡ drop_at p (with_growth c (c.growth - growth_of (entry c.slots i))) i
unfolding step drop_rules
drop_is c now i p t h f = timely c now _ t ∙ holds c i _ h ∙ ap (λ (q : Place). drop_at q (with_growth c (c.growth - growth_of (entry c.slots i))) i) f

-- the slot's own stream is the one that its number names
pub drops_own : (c : Conn) → Inv c → (now i : ℕ) → now ≤ last_time → (entry c.slots i).listed ≡ true → Drops c i (step c (rules.drop now i))
unfolding drop_at
drops_own c v now i t l =
    let e = entry c.slots i in
    let x = removed_entry e in
    let h = (v.good i).holds l in
    let r = in_range c.slots i h in
    rw (drop_is c now i (at i) t h (found_at c v e.stream.id i l refl)) (
      refl,
      refl,
      refl,
      get_or-set_same (set c.slots i x) i vacant vacant (rw (length-set c.slots i x) r),
      (λ j n. get_or-set_other (set c.slots i x) i j vacant vacant n ∙ get_or-set_other c.slots i j x vacant n),
    )

-- ---- the old handle

module _ (c : Conn) (old new : ℕ) (s : Stale c old new) where
  abbrev v : Inv c
  v = reached s.reached

  abbrev older : Entry
  older = entry c.slots old

  abbrev newer : Entry
  newer = entry c.slots new

  closed : older.stream.state ≡ Closed
  closed = (v.good old).closes s.held s.gone

  new-held : newer.held ≡ true
  new-held = (v.good new).holds s.listed

  apart : new ≢ old
  apart e = true-not-false s.listed (ap (λ (i : ℕ). (entry c.slots i).listed) e ∙ s.gone)

  unreadable : can_read older.stream.state ≡ false
  unreadable = ap can_read closed

  no-window : (now : ℕ) → window_step c older now ≡ record { stream = older.stream; growth = c.growth; step = None; sent = None }
  unfolding window_step
  no-window now = rw unreadable

  ends-done : (a b : Bool) (w d : ReadEnd) → b ≡ false → cond a (cond b w d) d ≡ d
  ends-done true b w d e = rw e
  ends-done false b w d e = refl

  stale-rest : (n : ℕ) (u : Updated) → u ≡ record { stream = older.stream; growth = c.growth; step = None; sent = None } →
      read_rest c old older u n (stream.read_end u.stream n) ≡ gives (on_slot old reply.Done (Some n) None (take n older.bytes)) (with_slot c old (read_entry older older.stream n))
  unfolding read_rest
  stale-rest n u e =
      rw e (ap (λ (r : ReadEnd). read_rest c old older (record { stream = older.stream; growth = c.growth; step = None; sent = None }) n r)
      (ends-done (eqb n 0) (can_read older.stream.state) _ _ unreadable))

  read-goes-on : cond c.ended (cond c.config.read_after_close false true) false ≡ false
  read-goes-on = ap (λ (b : Bool). cond b (cond c.config.read_after_close false true) false) (listed_live c v new s.listed)

  pub stale-reads : (now asked : ℕ) → now ≤ last_time →
      let n = min asked (length older.bytes) in
      step c (rules.read now old asked) ≡ gives (on_slot old reply.Done (Some n) None (take n older.bytes)) (with_slot c old (read_entry older older.stream n))
  unfolding step read_rules read_with
  stale-reads now asked t =
      let n = min asked (length older.bytes) in
      timely c now _ t ∙ holds c old _ s.held
      ∙ split (λ (r : Effect). r ≡ gives (on_slot old reply.Done (Some n) None (take n older.bytes)) (with_slot c old (read_entry older older.stream n)))
      (cond c.ended (cond c.config.read_after_close false true) false)
      (λ d. true-not-false d read-goes-on)
      (λ d. stale-rest n (window_step c older now) (no-window now))

  pub stale-writes : (now : ℕ) (given : List ℕ) → now ≤ last_time → step c (rules.write now old given) ≡ refuse c reply.WriteClosed
  unfolding step write_rules write_with
  stale-writes now given t =
      timely c now _ t ∙ holds c old _ s.held
      ∙ split (λ (r : Effect). r ≡ refuse c reply.WriteClosed) c.ended (λ e. refl)
      (λ e.
      split (λ (w : Written). write_with c old older given w ≡ refuse c reply.WriteClosed) (can_write older.stream.state)
      (λ w. true-not-false w (ap can_write closed))
      (λ w. refl))

  pub stale-closes : (now : ℕ) → now ≤ last_time → step c (rules.close now old) ≡ gives (on_slot old reply.Done None None []) c
  unfolding step close_rules
  stale-closes now t =
      timely c now _ t ∙ holds c old _ s.held
      ∙ ap (λ (q : State). let k = stream.close_in q older.stream in gives (on_slot old reply.Done None k.sent []) (with_slot c old (with_stream older k.stream))) closed
      ∙ ap (λ (es : List Entry). gives (on_slot old reply.Done None None []) (with_slots c es)) (set-get_or c.slots old vacant)

  -- ---- dropped

  abbrev without : List Entry
  without = set c.slots new (removed_entry newer)

  new_in : new < length c.slots
  new_in = in_range c.slots new new-held

  old-in : old < length without
  old-in = rw (length-set c.slots new (removed_entry newer)) (in_range c.slots old s.held)

  at_new : entry (set without old vacant) new ≡ removed_entry newer
  at_new = get_or-set_other without old new vacant vacant apart ∙ get_or-set_same c.slots new (removed_entry newer) vacant new_in

  at_others : (j : ℕ) → j ≢ old → j ≢ new → entry (set without old vacant) j ≡ entry c.slots j
  at_others j o n = get_or-set_other without old j vacant vacant o ∙ get_or-set_other c.slots new j (removed_entry newer) vacant n

  pub stale-drop-is : (now : ℕ) → now ≤ last_time → step c (rules.drop now old) ≡ drop_at (at new) (with_growth c (c.growth - growth_of older)) old
  stale-drop-is now t = drop_is c now old (at new) t s.held (found_at c v older.stream.id new s.listed (sym s.same))

  abbrev dropped-conn : Conn
  dropped-conn = with_slots (with_growth c (c.growth - growth_of older)) (set without old vacant)

  pub stale-after : (now : ℕ) → now ≤ last_time → (step c (rules.drop now old)).after ≡ dropped-conn
  unfolding drop_at
  stale-after now t = ap (λ (r : Effect). r.after) (stale-drop-is now t)

  dropped-kept : Inv dropped-conn
  dropped-kept = subst Inv (stale-after 0 (omega arith)) (sound c v (rules.drop 0 old)).inv

  -- with the newer stream out of the table no other has the number
  none_has : (j : ℕ) → (entry (set without old vacant) j).listed ≡ true → (entry (set without old vacant) j).stream.id.0 ≡ newer.stream.id.0 → ⊥
  none_has =
      at_set (λ j e. e.listed ≡ true → e.stream.id.0 ≡ newer.stream.id.0 → ⊥) without old vacant vacant old-in (λ l e. true-not-false l refl)
      (λ j o.
      at_set (λ k e. e.listed ≡ true → e.stream.id.0 ≡ newer.stream.id.0 → ⊥) c.slots new (removed_entry newer) vacant new_in
      (λ l e. true-not-false l refl)
      (λ k n l e. n (v.unique k new l s.listed e)) j)

  pub then-new : (later : ℕ) → later ≤ last_time → step dropped-conn (rules.drop later new) ≡ drop_at nowhere (with_growth dropped-conn (c.growth - growth_of older - growth_of newer)) new
  then-new later t =
      let e = entry (set without old vacant) new in
      let held : e.held ≡ true = ap (λ (x : Entry). x.held) at_new ∙ new-held in
      let id : e.stream.id.0 ≡ newer.stream.id.0 = ap (λ (x : Entry). x.stream.id.0) at_new in
      drop_is dropped-conn later new nowhere t held (found_nowhere dropped-conn dropped-kept e.stream.id (λ j l q. none_has j l (q ∙ id)))
      ∙ ap (λ (x : Entry). drop_at nowhere (with_growth dropped-conn (c.growth - growth_of older - growth_of x)) new) at_new

-- ---- the statements

pub stale_read : StaleRead
stale_read c old new s now asked t = stale-reads c old new s now asked t

pub stale_write : StaleWrite
stale_write c old new s now given t = stale-writes c old new s now given t

pub stale_close : StaleClose
stale_close c old new s now t = stale-closes c old new s now t

pub stale_drop : StaleDrop
unfolding drop_at
stale_drop c old new s now t =
    rw (stale-drop-is c old new s now t)
    (refl, refl, refl, get_or-set_same (without c old new s) old vacant vacant (old-in c old new s), at_new c old new s, at_others c old new s)

pub stale_drop_then_new : StaleDropThenNew
unfolding drop_at
stale_drop_then_new c old new s now later t u =
    let es = set (without c old new s) old vacant in
    let l : new < length es = rw (length-set (without c old new s) old vacant, length-set c.slots new (removed_entry (entry c.slots new))) (new_in c old new s) in
    rw (stale-after c old new s now t, then-new c old new s later u) (
      refl,
      refl,
      refl,
      get_or-set_other es new old vacant vacant (λ e. apart c old new s (sym e)) ∙ get_or-set_same (without c old new s) old vacant vacant (old-in c old new s),
      get_or-set_same es new vacant vacant l,
      (λ j o n. get_or-set_other es new j vacant vacant n ∙ at_others c old new s j o n),
    )

pub new_drop : NewDrop
new_drop c old new s now t = drops_own c (reached s.reached) now new t s.listed

-- ---- other slots

pub others_stay : OthersStay
others_stay c r k e = (sound c (reached r) k).beside e

not-about : (c : Conn) (d : Result Header HeaderDecodeError) (j : ℕ) → (entry c.slots j).listed ≡ false → IsAboutDecoded d c j → ⊥
not-about c (Err found.Size) j l a = a
not-about c (Err (found.Version n)) j l a = a
not-about c (Err (found.Type n)) j l a = a
not-about c (Ok h) j l a =
    let f = subst (Says (has_id h.stream_id) c.slots vacant) a (first_says (has_id h.stream_id) c.slots vacant) in
    true-not-false (is_listed h.stream_id (entry c.slots j) f.1) l

pub frames_pass_stale : FramesPassStale
frames_pass_stale c old new s now head body e =
    others_stay c s.reached (rules.frame now head body) e old s.held (not-about c (decoded head) old s.gone)
