-- What a drop leaves of a valid connection. Assumes nothing.
use Rattle.std.proofs.Common.{◌≡◌, refl, sym, ap, ◌∙◌, Bool, true, false, List, [], ℕ, arith, set, Option, Some, None, Ok}
use Rattle.flow_control.specs.Windows.{growth_returned}
use Rattle.stream.specs.declared.Stream.{Stream}
use Rattle.rules.specs.Replies.{may_give}
use Rattle.rules.specs.Lists.{Place, at, nowhere}
use Rattle.rules.specs.State.{Entry, entry, vacant, find, with_slots, with_growth, found_of}
use Rattle.rules.specs.Ending.{gives}
use Rattle.rules.specs.Calls.{drop_at, drop_rules}
use Rattle.rules.specs.Step.{step, drop}
use Rattle.rules.specs.declared.Slot.{Slot}
use Rattle.table.specs.Table.{row_at, Finds}
use Rattle.table.specs.declared.row.Row.{Row}
use Rattle.handlers.specs.Perform.{outcome_of}
use Rattle.handlers.specs.Locals.{on_drop}
use Rattle.handlers.specs.declared.Answer.{Answer}
use Rattle.memory.specs.Moves.{Becomes, Frees}
use Rattle.memory.specs.Moves as memory
use Rattle.memory.specs.Slots.{slots_of}
use Rattle.memory.specs.declared.Memory.{Memory}
use Rattle.rules.proofs.Lists.{never}
use Rattle.memory.proofs.Laws.{entry-held, find-slots, find_at}
use Rattle.memory.proofs.Starts.{part-kept, then-becomes}
use Rattle.connection.specs.Abstract.{abs_of, Valid}
use Rattle.connection.specs.Parts.{rebuilt, answered, handle_of, Holds}
use Rattle.connection.specs.Promises.{sent_after, Gives, Follows, Promised}
use Rattle.connection.specs.declared.Connection.{Connection}
use Rattle.connection.specs.declared.Done.{Done}
use Rattle.connection.proofs.Ids.{Below, below_out}
use Rattle.connection.proofs.Moving.{becomes-follows, told}
use Rattle.connection.proofs.Promises.{acted, promised}
use Rattle.connection.proofs.Tests.{handle-held, handle_holds, held-entry}
use Rattle.connection_drop.specs.Parts.{Removes, Releases}
use Rattle.connection.specs.declared.Applied.{Applied}

-- the answer is done, on any contents
removed_gives : (m : Memory) (t : List ℕ) (i : Slot) (f : Option Slot) (r : Applied) (t' : List ℕ) → Removes m t i f r t' → may_give r.answer.reply ≡ true
removed_gives m t i (Some j) r t' w = ap (λ (o : Answer). may_give o.reply) w.0
removed_gives m t i None r t' w = ap (λ (x : Applied). may_give x.answer.reply) w.0

-- ---- the rules of a drop

module _ (c : Connection) (t l : List ℕ) (i : Slot) (row : Row) (r : Applied) (t₁ : List ℕ) (m₂ : Memory) (t₂ l₂ : List ℕ)
    (frees : Frees r.memory t₁ l i.0 (row_at t₁ r.memory.slots i.0) m₂ t₂ l₂)
  where
    abbrev growth : ℕ
    growth = growth_returned c.growth row.stream.flow

    -- the growth given back, the stream removed and the slot freed
    abbrev result : Answer → Done
    result o = answered (rebuilt c c.rtt c.ended c.next_id c.open_wait growth m₂) o

    module _ (h : Holds c t i.0 row) (p : List ℕ) (v : Valid c t l p) where
      abbrev es : List Entry
      es = slots_of c.memory t l p

      abbrev Low : List Entry → Type 0
      Low after = Below c.config.mode c.next_id after

      without : (j : ℕ) (e : Entry) (before : List Entry) → e.listed ≡ false → Low before → Low (set before j e)
      without j e before out = below_out c.config.mode c.next_id before j e out

      still-held : (entry es i.0).held ≡ true
      still-held = ap (λ (x : Entry). x.held) (held-entry c t l p i.0 row h v)

      leaves : (o : Answer) (after : List Entry) → Becomes c.memory t after m₂ t₂ l₂ p → Low after
          → Follows c t l p (gives (outcome_of o) (with_slots (with_growth (abs_of c t l p) growth) after)) (result o) t₂ l₂ p
      leaves o after b low =
          becomes-follows c t l p m₂ after t₂ l₂ p b c.rtt c.ended c.next_id c.open_wait growth v.fresh.parity low o (outcome_of o) (told o)

      place-follows : (q : Place) → find es row.stream.id ≡ q → Removes c.memory t i (found_of q) r t₁
          → Follows c t l p (drop_at q (with_growth (abs_of c t l p) growth) i.0) (result r.answer) t₂ l₂ p
      unfolding drop_at
      place-follows nowhere q w =
          let f : Frees c.memory t l i.0 (row_at t c.memory.slots i.0) m₂ t₂ l₂ =
          rw (ap (λ (x : Applied). x.memory) w.0, w.1) at frees in
          rw w.0 (leaves _ (set es i.0 vacant) (f p refl v.memory h.below still-held) (without i.0 vacant es refl v.fresh.below))
      place-follows (at j) q w =
          let x = find_at c.memory t l p v.memory row.stream.id j q in
          let found = row_at t c.memory.slots j in
          let s : (entry es j).stream ≡ found.stream =
          ap (λ (y : Entry). y.stream) (held-entry c t l p j found (record { loaded = refl; below = x.0; held = sym (entry-held c.memory t l p v.memory j x.0) ∙ x.2 }) v) in
          let e = memory.held (on_drop i found.stream).stream false (entry es j).bytes in
          let a = w.1 l p refl v.memory x.0 (record { held = x.2; id = ap (λ (y : Stream). y.id) (sym s); listed = λ z. never (sym z) }) in
          let held : (entry (slots_of r.memory t₁ l p) i.0).held ≡ true =
          ap (λ (y : List Entry). (entry y i.0).held) a.slots ∙ part-kept (λ (y : Entry). y.held) es j e (sym x.2) i.0 ∙ still-held in
          let b = then-becomes c.memory t l p v.memory j e r.memory t₁ a refl m₂ _ t₂ l₂ p (frees p refl a.valid (omega (arith, a.same.0, h.below)) held) in
          rw (w.0, s, x.2)
          (leaves _ (set (set es j e) i.0 vacant) (rw a.slots at b) (without i.0 vacant (set es j e) refl (without j e es refl v.fresh.below)))

      released-follows : (f : Option Slot) → Finds t c.memory.slots row.stream.id f → Removes c.memory t i f r t₁
          → Follows c t l p (drop_rules (abs_of c t l p) i.0 (entry es i.0)) (result r.answer) t₂ l₂ p
      unfolding drop_rules
      released-follows f finds w =
          let e = find-slots c.memory t l p v.memory row.stream.id f finds in
          let s : (entry es i.0).stream ≡ row.stream = ap (λ (x : Entry). x.stream) (held-entry c t l p i.0 row h v) in
          rw s (place-follows (find es row.stream.id) refl (rw e at w))

    pub release-handles : (g : ℕ) → g ≡ growth_returned c.growth row.stream.flow → (f : Option Slot) → Finds t c.memory.slots row.stream.id f → Removes c.memory t i f r t₁
        → Releases c t l i row (answered (rebuilt c c.rtt c.ended c.next_id c.open_wait g m₂) r.answer) t₂ l₂
    release-handles g back f finds w h p =
        rw back
        (acted c t l p (λ x. drop_rules x i.0 (entry x.slots i.0)) (result r.answer) t₂ l₂ p (removed_gives c.memory t i f r t₁ w)
        (λ v. released-follows h p v f finds w))

-- ---- the promise

-- a drop of a held handle, by its rules
pub drop_promised : (sized : Bool) (c : Connection) (t l : List ℕ) (now : ℕ) (i : Slot) (row : Row) → handle_of sized c.memory.slots t i.0 now ≡ Ok row
    → (d : Done) (t' l' u u' : List ℕ) → Releases c t l i row d t' l' → u' ≡ sent_after d.answer.sent u
    → ((p : List ℕ) → Promised sized c t l p (drop now i.0) d t' l' p) × Gives d u u'
unfolding step
drop_promised sized c t l now i row e d t' l' u u' releases header =
    let h = releases (handle_holds c t sized i.0 now row e) in (
      λ p.
          let a = abs_of c t l p in
          let o = handle-held c t l p sized (drop now i.0) now i.0 (drop_rules a i.0 (entry a.slots i.0)) row e in
          promised c t l p sized (drop now i.0) o.0 (λ x. drop_rules x i.0 (entry x.slots i.0)) d t' l' p o.2 (h p),
      record { header = header; silent = (h []).silent },
    )
