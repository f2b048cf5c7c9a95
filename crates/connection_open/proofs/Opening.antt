-- How an open comes to its promise: what is decided fits a valid state, and what is done is the rules'. Assumes nothing.
use Rattle.std.proofs.Common.{Option, Some, None, Err, ◌≡◌, refl, sym, ap, ◌∙◌, Bool, true, false, cond, List, [], ℕ, ◌+◌, ◌%◌, arith, eqb-true, eq-eqb, eqb, ltb, leb, set}
use Rattle.frame.specs.declared.header.StreamId.{StreamId}
use Rattle.flow_control.specs.Windows.{top}
use Rattle.stream.specs.declared.Stream.{Stream}
use Rattle.rules.specs.Lists.{Place, at, nowhere}
use Rattle.rules.specs.State.{Entry, Conn, entry, vacant, is_own, has_id, find, found_of}
use Rattle.rules.specs.State as rules
use Rattle.rules.specs.Frames.{new_entry}
use Rattle.rules.specs.Calls.{open_rules}
use Rattle.rules.specs.Step.{step, open_stream}
use Rattle.rules.specs.declared.Mode.{Mode}
use Rattle.rules.specs.declared.Mode.TheVariants.{Client, Server}
use Rattle.rules.specs.declared.Reply.{Reply}
use Rattle.rules.specs.declared.Reply.TheVariants as reply
use Rattle.rules.specs.declared.Slot.{Slot}
use Rattle.table.specs.Table.{lowest_free, unacknowledged}
use Rattle.rules.proofs.Lists.{first-nowhere}
use Rattle.table.proofs.Lists.{false_of}
use Rattle.handlers.specs.Locals.{open_with, open_action, perform_open}
use Rattle.handlers.specs.declared.Opening.TheVariants as opening
use Rattle.handlers.proofs.Locals.{open_performs}
use Rattle.memory.specs.Moves.{Makes}
use Rattle.memory.specs.Slots.{slots_of}
use Rattle.memory.specs.declared.Memory.{Memory}
use Rattle.memory.proofs.Laws.{free-at, free-slots, listed-count, backlog}
use Rattle.connection.specs.Abstract.{abs_of, Valid, Fresh}
use Rattle.connection.specs.Parts.{rebuilt, answered, gate_of, goes_on}
use Rattle.connection.specs.Promises.{bare_answer, refused, Over, Promised}
use Rattle.connection.specs.declared.Connection.{Connection}
use Rattle.connection.specs.declared.Done.{Done}
use Rattle.connection.proofs.Promises.{refused-handles, acted, promised}
use Rattle.connection.proofs.Moving.{becomes-follows, answer_follows}
use Rattle.connection.proofs.Tests.{gate-shut, gate_open}
use Rattle.connection.proofs.Ids.{Below, below_set}
use Rattle.connection_open.specs.Open.{decided, opened, Opens, Fits, Sound, Acts}

-- ---- the next id

-- parity is kept by two more
mod_two : (n b : ℕ) → n % 2 ≡ b → (n + 2) % 2 ≡ b
mod_two n b e = omega arith

own_next : (mode : Mode) (n : ℕ) → is_own mode (record { 0 = n }) ≡ true → is_own mode (record { 0 = n + 2 }) ≡ true
own_next Client n e = eq-eqb _ _ (mod_two n 1 (eqb-true (n % 2) 1 e))
own_next Server n e = eq-eqb _ _ (mod_two n 0 (eqb-true (n % 2) 0 e))

-- no stream in the table has the next id: the own ones there are below it
next_new : (c : Conn) → Fresh c → find c.slots (record { 0 = c.next_id }) ≡ nowhere
next_new c f = first-nowhere (has_id (record { 0 = c.next_id })) c.slots vacant (λ j h. go j (entry c.slots j).listed refl)
  where
    other : (j : ℕ) → (entry c.slots j).listed ≡ true → eqb (entry c.slots j).stream.id.0 c.next_id ≡ true → ⊥
    other j h e =
        let same : (entry c.slots j).stream.id.0 ≡ c.next_id = eqb-true _ _ e in
        let ids : (entry c.slots j).stream.id ≡ record { 0 = c.next_id } = ap (λ (n : ℕ). record { 0 = n }) same in
        let less = f.below j h (rw ids f.parity) in
        omega arith

    go : (j : ℕ) (b : Bool) → (entry c.slots j).listed ≡ b → has_id (record { 0 = c.next_id }) (entry c.slots j) ≡ false
    go j true e = rw e (false_of _ (other j e))
    go j false e = rw e

-- ---- what is done

module _ (c : Connection) (t l p : List ℕ) where
  pub refusing : (r : Reply) → Acts c t l p (opening.Refuse r) (refused c r) t l p
  unfolding perform_open
  refusing r s f = refused-handles c t l p r

  pub ending : (r : Reply) (d : Done) (t' : List ℕ) → Over c t r d t' → Acts c t l p (opening.End r) d t' l p
  unfolding perform_open
  ending r d t' o s f = o l p s

  pub waiting : Acts c t l p opening.Wait
      (answered (rebuilt c c.rtt c.ended c.next_id true c.growth c.memory) (bare_answer reply.Wait false)) t l p
  unfolding perform_open
  waiting s f = acted c t l p (λ x. perform_open x opening.Wait) _ t l p refl (answer_follows c t l p c.rtt true (bare_answer reply.Wait false))

  module _ (i : Slot) (s : Stream) (after : ℕ) (m' : Memory) (t' l' p' : List ℕ) where
    abbrev es : List Entry
    es = slots_of c.memory t l p

    abbrev e : Entry
    e = new_entry s []

    -- the own ids are below the next one, the new stream's among them
    below : Valid c t l p → Opens c t l p i.0 s after → Below c.config.mode after (set es i.0 e)
    below v f =
        let number : s.id.0 ≡ c.next_id = ap (λ (x : StreamId). x.0) f.id in
        below_set c.config.mode after es i.0 e (λ h o. omega (arith, number, f.next)) (λ j h o. omega (arith, v.fresh.below j h o, f.next))

    pub making : Makes c.memory t l p i.0 s [] m' t' l' p'
        → Acts c t l p (opening.New i s after) (answered (rebuilt c c.rtt c.ended after c.open_wait c.growth m') (opened i s.id.0)) t' l' p'
    unfolding perform_open
    making make o fits = acted c t l p (λ x. perform_open x (opening.New i s after)) _ t' l' p' refl (λ v.
        let f = fits v in
        becomes-follows c t l p m' (set es i.0 e) t' l' p'
        (make v.memory f.below f.free (rw f.id (next_new (abs_of c t l p) v.fresh)) (omega (arith, v.memory.within)))
        c.rtt c.ended after c.open_wait c.growth
        (rw f.next (own_next c.config.mode c.next_id v.fresh.parity)) (below v f) (opened i s.id.0) _
        (record { reply = refl; slot = refl; value = refl; sent = refl; wakes = refl }))

-- ---- what is decided

module _ (c : Connection) (t l p : List ℕ) (now : ℕ) where
  abbrev a : Conn
  a = abs_of c t l p

  decided-rules : Valid c t l p
      → decided c t now ≡ open_action (rules.listed_count a.slots) c.config.max_num_streams (rules.unacknowledged c.config.mode a.slots) c.next_id (found_of (rules.lowest_free a.slots)) now
  decided-rules v =
      let m = c.memory in
      rw (sym (listed-count m t l p v.memory), backlog m t l p v.memory c.config.mode, free-slots m t l p v.memory)

  pub sound : Sound (decided c t now)
  unfolding open_action
  sound = go (leb c.config.max_num_streams c.memory.listed) (leb 256 (unacknowledged t c.memory.slots c.config.mode)) (ltb top (c.next_id + 2)) (lowest_free t c.memory.slots)
    where
      go : (x y z : Bool) (q : Option Slot)
          → Sound (cond x (opening.End reply.TooManyStreams) (cond y opening.Wait (open_with (cond z None (Some (record { id = record { 0 = c.next_id }; after = c.next_id + 2 }))) q now)))
      go true y z q = refl
      go false true z q = tt
      go false false true q = refl
      go false false false None = tt
      go false false false (Some i) = tt

  fits-rules : (v : Valid c t l p) (q : Place) → rules.lowest_free a.slots ≡ q → (x y z : Bool)
      → Fits c t l p (cond x (opening.End reply.TooManyStreams) (cond y opening.Wait (open_with (cond z None (Some (record { id = record { 0 = c.next_id }; after = c.next_id + 2 }))) (found_of q) now)))
  fits-rules v q e true y z = tt
  fits-rules v q e false true z = tt
  fits-rules v q e false false true = tt
  fits-rules v nowhere e false false false = tt
  fits-rules v (at i) e false false false =
      let f = free-at c.memory t l p v.memory i e in
      record { below = f.0; free = f.1; id = refl; next = refl }

  pub fitting : Valid c t l p → Fits c t l p (decided c t now)
  unfolding open_action
  fitting v = rw (decided-rules v) (fits-rules v (rules.lowest_free a.slots) refl (leb c.config.max_num_streams (rules.listed_count a.slots)) (leb 256 (rules.unacknowledged c.config.mode a.slots)) (ltb top (c.next_id + 2)))

  -- ---- the gate

  pub shut : (sized : Bool) (r : Reply) → gate_of sized c.ended now ≡ Err r → Promised sized c t l p (open_stream now) (refused c r) t l p
  unfolding step
  shut sized r e = gate-shut c t l p sized (open_stream now) now (open_rules a now) c.ended r e (λ v. refl)

  pub entered : (sized : Bool) → gate_of sized c.ended now ≡ goes_on → (d : Done) (t' l' p' : List ℕ)
      → Acts c t l p (decided c t now) d t' l' p' → Promised sized c t l p (open_stream now) d t' l' p'
  unfolding step
  entered sized e d t' l' p' acts =
      let o = gate_open sized c.ended now e in
      promised c t l p sized (open_stream now) o.0 (λ x. perform_open x (decided c t now)) d t' l' p'
      (λ v. o.1 a (open_rules a now) ∙ open_performs a now ∙ ap (perform_open a) (sym (decided-rules v)))
      (acts sound fitting)
