-- What a call tests before its rules is what the rules test: the sizes, the time, whether the connection has ended, and the handle. Assumes nothing.
use Rattle.std.specs.Prelude.{Result, Ok, Err, ⊤}
use Rattle.std.proofs.Common.{◌≡◌, refl, sym, ap, ◌∙◌, Bool, true, false, cond, List, [], ℕ, arith, leb-true, leb-false, ltb, leb}
use Rattle.chunks.specs.Store.{content}
use Rattle.rules.specs.Settings.{last_time}
use Rattle.rules.specs.State.{Entry, Conn, entry}
use Rattle.rules.specs.Step.{Call, tick, step, timed, holding}
use Rattle.rules.specs.Ending.{Effect, refuse}
use Rattle.rules.specs.declared.Reply.{Reply}
use Rattle.rules.specs.declared.Reply.TheVariants as reply
use Rattle.table.specs.Table.{row_at}
use Rattle.table.specs.declared.row.Row.{Row}
use Rattle.memory.specs.Moves as memory
use Rattle.memory.specs.Slots.{slots_of}
use Rattle.memory.proofs.Laws.{entry-held, entry-of-held, entry-beyond}
use Rattle.connection.specs.Abstract.{abs_of, Valid}
use Rattle.connection.specs.Parts.{gate_of, held_in, behind, handle_of, Holds, goes_on}
use Rattle.connection.specs.Promises.{refused, Promised}
use Rattle.connection.specs.declared.Connection.{Connection}
use Rattle.connection.proofs.Promises.{wrong_size, refusing}

-- ---- the gate, of a call that an ended connection refuses (`ended` is the connection's), or does not (`ended` is false)

pub gate_open : (sized ended : Bool) (now : ℕ) → gate_of sized ended now ≡ goes_on
    → (sized ≡ true) × ((a : Conn) (next : Effect) → timed a now (cond ended (refuse a reply.Closed) next) ≡ next)
gate_open sized ended now e = go sized (ltb last_time now) ended refl e
  where
    go : (s x y : Bool) → sized ≡ s → cond s (cond x (Err reply.Time) (cond y (Err reply.Closed) goes_on)) (Err reply.Size) ≡ goes_on
        → (sized ≡ true) × ((a : Conn) (next : Effect) → cond x (refuse a reply.Time) (cond y (refuse a reply.Closed) next) ≡ next)
    go false x y s h = absurd (let z : ◌≡◌ {A = ℕ} 0 1 = cc in omega arith)
    go true true y s h = absurd (let z : ◌≡◌ {A = ℕ} 0 1 = cc in omega arith)
    go true false true s h = absurd (let z : ◌≡◌ {A = ℕ} 0 1 = cc in omega arith)
    go true false false s h = (s, λ a next. refl)

module _ (c : Connection) (t l p : List ℕ) (sized : Bool) (call : Call) (now : ℕ) (next : Effect) where
  abbrev a : Conn
  a = abs_of c t l p

  -- a call that the gate refuses
  pub gate-shut : (ended : Bool) (r : Reply) → gate_of sized ended now ≡ Err r
      → (Valid c t l p → step (abs_of c t l p) call ≡ timed (abs_of c t l p) now (cond ended (refuse (abs_of c t l p) reply.Closed) next))
      → Promised sized c t l p call (refused c r) t l p
  gate-shut ended r e same = go sized (ltb last_time now) ended refl e same
    where
      go : (s x y : Bool) → sized ≡ s → cond s (cond x (Err reply.Time) (cond y (Err reply.Closed) goes_on)) (Err reply.Size) ≡ Err r
          → (Valid c t l p → step a call ≡ cond x (refuse a reply.Time) (cond y (refuse a reply.Closed) next)) → Promised sized c t l p call (refused c r) t l p
      go false x y s h q = let z : reply.Size ≡ r = cc in rw (← z) (wrong_size c t l p sized call s)
      go true true y s h q = let z : reply.Time ≡ r = cc in rw (← z) (refusing c t l p sized call s reply.Time q)
      go true false true s h q = let z : reply.Closed ≡ r = cc in rw (← z) (refusing c t l p sized call s reply.Closed q)
      go true false false s h q = absurd (let z : ◌≡◌ {A = ℕ} 0 1 = cc in omega arith)

-- ---- the handle

module _ (c : Connection) (t l p : List ℕ) (sized : Bool) (call : Call) (now i : ℕ) (next : Effect) where
  abbrev b : Conn
  b = abs_of c t l p

  abbrev k : ℕ
  k = c.memory.slots

  held-is : Valid c t l p → (b : Bool) → leb k i ≡ b → (entry (slots_of c.memory t l p) i).held ≡ cond b false (row_at t k i).held
  held-is v true e = ap (λ (x : Entry). x.held) (entry-beyond c.memory t l p v.memory i (leb-true _ _ e))
  held-is v false e = entry-held c.memory t l p v.memory i (leb-false _ _ e)

  not-held : (r : Reply) → held_in k t i ≡ Err r → Valid c t l p → holding b i next ≡ refuse b r
  not-held r e v = rw (held-is v _ refl) (go (leb k i) (row_at t k i).held e)
    where
      go : (y h : Bool) → cond y (Err reply.NotHeld) (cond h (Ok (row_at t k i)) (Err reply.NotHeld)) ≡ Err r
          → cond (cond y false h) next (refuse b reply.NotHeld) ≡ refuse b r
      go true h q = let z : reply.NotHeld ≡ r = cc in rw z
      go false true q = cc
      go false false q = let z : reply.NotHeld ≡ r = cc in rw z

  is_held : (row : Row) → held_in k t i ≡ Ok row → Holds c t i row × (Valid c t l p → holding b i next ≡ next)
  is_held row e = go (leb k i) (row_at t k i).held refl refl e
    where
      go : (y h : Bool) → leb k i ≡ y → (row_at t k i).held ≡ h → cond y (Err reply.NotHeld) (cond h (Ok (row_at t k i)) (Err reply.NotHeld)) ≡ Ok row
          → Holds c t i row × (Valid c t l p → holding b i next ≡ next)
      go true h ye he q = absurd (let z : ◌≡◌ {A = ℕ} 0 1 = cc in omega arith)
      go false true ye he q =
          let z : row ≡ row_at t k i = cc in
          (record { loaded = z; below = leb-false _ _ ye; held = rw z he }, λ v. rw (held-is v false ye, he))
      go false false ye he q = absurd (let z : ◌≡◌ {A = ℕ} 0 1 = cc in omega arith)

  -- a call on a handle that is refused before its rule
  pub handle-shut : (r : Reply) → handle_of sized c.memory.slots t i now ≡ Err r
      → (Valid c t l p → step (abs_of c t l p) call ≡ timed (abs_of c t l p) now (holding (abs_of c t l p) i next)) → Promised sized c t l p call (refused c r) t l p
  handle-shut r e same = go (gate_of sized false now) refl e
    where
      go : (g : Result ⊤ Reply) → gate_of sized false now ≡ g → behind g (held_in k t i) ≡ Err r → Promised sized c t l p call (refused c r) t l p
      go (Err q) eg h = let z : q ≡ r = cc in rw (← z) (gate-shut c t l p sized call now (holding b i next) false q eg same)
      go (Ok _) eg h =
          let o = gate_open sized false now eg in
          refusing c t l p sized call o.0 r (λ v. same v ∙ o.1 b (holding b i next) ∙ not-held r h v)

  pub handle-held : (row : Row) → handle_of sized c.memory.slots t i now ≡ Ok row
      → (sized ≡ true) × Holds c t i row × (Valid c t l p → timed (abs_of c t l p) now (holding (abs_of c t l p) i next) ≡ next)
  handle-held row e = go (gate_of sized false now) refl e
    where
      go : (g : Result ⊤ Reply) → gate_of sized false now ≡ g → behind g (held_in k t i) ≡ Ok row
          → (sized ≡ true) × Holds c t i row × (Valid c t l p → timed b now (holding b i next) ≡ next)
      go (Err q) eg h = absurd (let z : ◌≡◌ {A = ℕ} 0 1 = cc in omega arith)
      go (Ok _) eg h =
          let o = gate_open sized false now eg in
          let w = is_held row h in
          (o.0, w.0, λ v. o.1 b (holding b i next) ∙ w.1 v)

-- a handle that is given stands for a held slot
pub handle_holds : (c : Connection) (t : List ℕ) (sized : Bool) (i now : ℕ) (row : Row) → handle_of sized c.memory.slots t i now ≡ Ok row → Holds c t i row
handle_holds c t sized i now row e = (handle-held c t [] [] sized (tick now) now i (refuse (abs_of c t [] []) reply.Size) row e).1

-- what a held slot holds
pub held-entry : (c : Connection) (t l p : List ℕ) (i : ℕ) (row : Row) → Holds c t i row → Valid c t l p
    → entry (slots_of c.memory t l p) i ≡ memory.held row.stream row.listed (content l p row.queue)
held-entry c t l p i row h v =
    rw h.loaded (entry-of-held c.memory t l p v.memory i h.below (sym (ap (λ (r : Row). r.held) h.loaded) ∙ h.held))
