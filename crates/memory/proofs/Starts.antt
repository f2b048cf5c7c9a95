-- Where in its first block a queue starts. Assumes nothing.
use Rattle.std.proofs.Common.{Bool, true, false, cond, List, [], ◌∷◌, ◌≡◌, refl, sym, ap, ◌∙◌, ℕ, zero, suc, ◌+◌, ◌-◌, ◌%◌, ◌≤◌, ◌<◌, arith, eqb-true, eqb, length, set}
use borrow.Author.Tests.{eqb-false}
use Rattle.chunks.specs.Blocks.{BLOCK}
use Rattle.chunks.specs.Many as many
use Rattle.chunks.specs.declared.Queue.{Queue}
use Rattle.rules.specs.State.{Entry, entry}
use Rattle.table.specs.Table.{row_at, view}
use Rattle.table.specs.declared.row.Row.{Row}
use Rattle.table.proofs.Laws.{nth-view}
use Rattle.memory.specs.Moves.{start_of, Advances, Becomes, Moved}
use Rattle.memory.specs.Slots.{queues, slots_of, Valid}
use Rattle.memory.specs.declared.Memory.{Memory}
use Rattle.memory.proofs.Lists.{nth-queues}
use Rattle.memory.proofs.Laws.{entry-unread}

-- past what was read, or at 0: the one answer
pub advanced : (f n n' k g : ℕ) → n' + k ≡ n → (n' ≡ 0 → g ≡ 0) → (0 < n' → g ≡ (f + k) % BLOCK) → g ≡ start_of f n n'
advanced f n n' k g e none some = go (eqb n' 0) refl
  where
    go : (b : Bool) → eqb n' 0 ≡ b → g ≡ cond b 0 ((f + (n - n')) % BLOCK)
    go true h = none (eqb-true n' 0 h)
    go false h =
        let z : n - n' ≡ k = omega arith in
        let w : n' ≡ 0 → ⊥ = eqb-false n' 0 h in
        rw z (some (omega arith))

low : (f k : ℕ) → f < BLOCK → k ≡ 0 → f ≡ (f + k) % BLOCK
low f k h e = omega arith

-- a queue that nothing is read of stays where it is
pub stays : (f n n' : ℕ) → f < BLOCK → (n ≡ 0 → f ≡ 0) → n ≤ n' → f ≡ start_of f n n'
stays f n n' h empty more = go (eqb n' 0) refl
  where
    go : (b : Bool) → eqb n' 0 ≡ b → f ≡ cond b 0 ((f + (n - n')) % BLOCK)
    go true e = let z : n' ≡ 0 = eqb-true n' 0 e in empty (omega arith)
    go false e = low f (n - n') h (omega arith)

module _ (m : Memory) (t l p : List ℕ) (v : Valid m t l p) where
  pub starts-low : (i : ℕ) → i < m.slots → (row_at t m.slots i).queue.from < BLOCK
  starts-low i h =
      let e : many.nth (queues (view t m.slots)) i ≡ (row_at t m.slots i).queue = nth-queues (view t m.slots) i ∙ ap (λ (r : Row). r.queue) (nth-view t m.slots i h) in
      rw e at (v.shared.sound.ends i).starts

  -- a row with the same queue
  pub queue-stays : (i : ℕ) → i < m.slots → (q : Queue) → q ≡ (row_at t m.slots i).queue
      → q.from ≡ start_of (row_at t m.slots i).queue.from (row_at t m.slots i).queue.unread q.unread
  queue-stays i h q e = rw e (stays (row_at t m.slots i).queue.from (row_at t m.slots i).queue.unread (row_at t m.slots i).queue.unread (starts-low i h) (v.empty i h) (omega arith))

  pub nothing-advances : Advances m t m t
  nothing-advances i h = queue-stays i h (row_at t m.slots i).queue refl

-- ---- one change after another

-- a part that one entry's change leaves as it was
pub part-kept : {A : Type 0} (part : Entry → A) (es : List Entry) (j : ℕ) (e : Entry) → part e ≡ part (entry es j) → (i : ℕ) → part (entry (set es j e) i) ≡ part (entry es i)
part-kept part [] j e q i = refl
part-kept part (x ∷ es) zero e q zero = q
part-kept part (x ∷ es) zero e q (suc i) = refl
part-kept part (x ∷ es) (suc j) e q zero = refl
part-kept part (x ∷ es) (suc j) e q (suc i) = part-kept part es j e q i

-- the first of a slot whose bytes stay
module _ (m : Memory) (t l p : List ℕ) (v : Valid m t l p) (j : ℕ) (e : Entry) (m₁ : Memory) (t₁ : List ℕ) (w : Moved m t l p j e m₁ t₁ l p) (kept : e.bytes ≡ (entry (slots_of m t l p) j).bytes) where
  unread-kept : (i : ℕ) → i < m.slots → i < m₁.slots → (row_at t₁ m₁.slots i).queue.unread ≡ (row_at t m.slots i).queue.unread
  unread-kept i h h₁ =
      sym (entry-unread m₁ t₁ l p w.valid i h₁)
      ∙ ap (λ (es : List Entry). length (entry es i).bytes) w.slots
      ∙ ap length (part-kept (λ (x : Entry). x.bytes) (slots_of m t l p) j e kept i)
      ∙ entry-unread m t l p v i h

  then-advances : (m₂ : Memory) (t₂ : List ℕ) → m₂.slots ≡ m₁.slots → Advances m₁ t₁ m₂ t₂ → Advances m t m₂ t₂
  then-advances m₂ t₂ same a i h₂ =
      let h₁ : i < m₁.slots = omega (arith, same) in
      let h : i < m.slots = omega (arith, w.same.0) in
      let n = unread-kept i h h₁ in
      let old = (row_at t m.slots i).queue in
      let f : (row_at t₁ m₁.slots i).queue.from ≡ old.from =
      w.advances i h₁ ∙ ap (λ (x : ℕ). start_of old.from old.unread x) n ∙ sym (nothing-advances m t l p v i h) in
      a i h₂ ∙ rw (n, f)

  pub then-becomes : (m₂ : Memory) (es : List Entry) (t₂ l₂ p₂ : List ℕ) → Becomes m₁ t₁ es m₂ t₂ l₂ p₂ → Becomes m t es m₂ t₂ l₂ p₂
  then-becomes m₂ es t₂ l₂ p₂ b = record {
    valid = b.valid;
    slots = b.slots;
    same = (b.same.0 ∙ w.same.0, b.same.1 ∙ w.same.1);
    advances = then-advances m₂ t₂ b.same.0 b.advances;
  }
