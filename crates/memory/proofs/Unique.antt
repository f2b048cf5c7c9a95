-- Valid memory that holds the same slots is the same but for blocks. Assumes nothing.
use Rattle.std.proofs.Common.{Bool, true, false, List, [], ◌∷◌, ◌≡◌, refl, sym, ap, ◌∙◌, ℕ, zero, suc, ◌+◌, ◌<◌, arith, length}
use Rattle.chunks.specs.Blocks.{blocks_for}
use Rattle.chunks.specs.Many.{sizes}
use Rattle.chunks.specs.Many as many
use Rattle.chunks.specs.Store.{size, content}
use Rattle.chunks.specs.declared.Queue.{Queue}
use Rattle.rules.specs.State.{Entry, entry}
use Rattle.table.specs.Table.{row_at, view}
use Rattle.table.specs.declared.row.Row.{Row}
use Rattle.table.proofs.Laws.{length-view, nth-view}
use Rattle.memory.specs.Moves.{start_of, Advances}
use Rattle.memory.specs.Slots.{queues, slots_of, Valid}
use Rattle.memory.specs.Unique.{SameRow, Alike}
use Rattle.memory.specs.declared.Memory.{Memory}
use Rattle.memory.proofs.Lists.{length-queues, nth-queues}
use Rattle.memory.proofs.Laws.{entry-held, entry_listed, entry-unread, entry-of-held, counts_unique}

-- queues of equal sizes, one by one, have as many blocks
sizes_same : (qs qs' : List Queue) → length qs ≡ length qs' → ((k : ℕ) → k < length qs → size (many.nth qs k) ≡ size (many.nth qs' k)) → sizes qs ≡ sizes qs'
sizes_same [] [] n same = refl
sizes_same [] (y ∷ ys) n same = absurd (omega arith)
sizes_same (x ∷ xs) [] n same = absurd (omega arith)
sizes_same (x ∷ xs) (y ∷ ys) n same =
    let a : size x ≡ size y = same zero (omega arith) in
    let b : sizes xs ≡ sizes ys = sizes_same xs ys (omega arith) (λ k h. same (suc k) (omega arith)) in
    rw (a, b)

same_free : (c s c' s' : ℕ) (n n' : ℕ) → c + s ≡ n → c' + s' ≡ n' → n ≡ n' → s ≡ s' → c ≡ c'
same_free c s c' s' n n' x y z w = omega arith

module _ (m : Memory) (t l p : List ℕ) (v : Valid m t l p) (m' : Memory) (t' l' p' : List ℕ) (v' : Valid m' t' l' p')
    (pool : m.pool ≡ m'.pool) (same : slots_of m t l p ≡ slots_of m' t' l' p') where
  abbrev r : ℕ → Row
  r i = row_at t m.slots i

  abbrev r' : ℕ → Row
  r' i = row_at t' m'.slots i

  slots : m.slots ≡ m'.slots
  slots = (counts_unique m t l p v m' t' l' p' v' same).0

  module _ (i : ℕ) (h : i < m.slots) where
    h' : i < m'.slots
    h' = omega (arith, slots)

    -- what both entries are asked
    asked : {A : Type 0} (f : Entry → A) → f (entry (slots_of m t l p) i) ≡ f (entry (slots_of m' t' l' p') i)
    asked f = ap (λ (es : List Entry). f (entry es i)) same

    held : (r i).held ≡ (r' i).held
    held = sym (entry-held m t l p v i h) ∙ asked (λ (e : Entry). e.held) ∙ entry-held m' t' l' p' v' i h'

    listed : (r i).listed ≡ (r' i).listed
    listed = sym (entry_listed m t l p v i h) ∙ asked (λ (e : Entry). e.listed) ∙ entry_listed m' t' l' p' v' i h'

    unread : (r i).queue.unread ≡ (r' i).queue.unread
    unread = sym (entry-unread m t l p v i h) ∙ asked (λ (e : Entry). length e.bytes) ∙ entry-unread m' t' l' p' v' i h'

    -- what both held rows say
    said : {A : Type 0} (f : Entry → A) → (r i).held ≡ true
        → f (record { held = true; listed = (r i).listed; stream = (r i).stream; bytes = content l p (r i).queue })
        ≡ f (record { held = true; listed = (r' i).listed; stream = (r' i).stream; bytes = content l' p' (r' i).queue })
    said f e = sym (ap f (entry-of-held m t l p v i h e)) ∙ asked f ∙ ap f (entry-of-held m' t' l' p' v' i h' (sym held ∙ e))

    bytes : (b : Bool) → (r i).held ≡ b → content l p (r i).queue ≡ content l' p' (r' i).queue
    bytes true e = said (λ (x : Entry). x.bytes) e
    bytes false e = rw (v.idle i h e, v'.idle i h' (sym held ∙ e))

  as_many : length (queues (view t m.slots)) ≡ length (queues (view t' m'.slots))
  as_many = length-queues (view t m.slots) ∙ length-view t m.slots ∙ slots ∙ sym (length-queues (view t' m'.slots) ∙ length-view t' m'.slots)

  -- of one memory and table before, both have their queues past the bytes read, and as many bytes were
  pub from-same : (m₀ : Memory) (t₀ : List ℕ) → Advances m₀ t₀ m t → Advances m₀ t₀ m' t' → (i : ℕ) → i < m.slots → (r i).queue.from ≡ (r' i).queue.from
  from-same m₀ t₀ x y i h =
      let old = (row_at t₀ m₀.slots i).queue in
      x i h ∙ ap (λ (n : ℕ). start_of old.from old.unread n) (unread i h) ∙ sym (y i (h' i h))

  module _ (from : (i : ℕ) → i < m.slots → (r i).queue.from ≡ (r' i).queue.from) where
    row : (i : ℕ) → i < m.slots → SameRow l p (r i) l' p' (r' i)
    row i h = record {
      held = held i h;
      listed = listed i h;
      stream = said i h (λ (x : Entry). x.stream);
      from = from i h;
      unread = unread i h;
      bytes = bytes i h (r i).held refl;
    }

    size_same : (k : ℕ) → k < length (queues (view t m.slots)) → size (many.nth (queues (view t m.slots)) k) ≡ size (many.nth (queues (view t' m'.slots)) k)
    size_same k b =
        let h : k < m.slots = omega (arith, length-queues (view t m.slots), length-view t m.slots) in
        let x : many.nth (queues (view t m.slots)) k ≡ (r k).queue = nth-queues (view t m.slots) k ∙ ap (λ (z : Row). z.queue) (nth-view t m.slots k h) in
        let y : many.nth (queues (view t' m'.slots)) k ≡ (r' k).queue = nth-queues (view t' m'.slots) k ∙ ap (λ (z : Row). z.queue) (nth-view t' m'.slots k (h' k h)) in
        rw (x, y, from k h, unread k h)

    free : m.free.count ≡ m'.free.count
    free =
        same_free _ _ _ _ (blocks_for m.slots m.pool) (blocks_for m'.slots m'.pool) v.shared.total v'.shared.total
        (rw (slots, pool)) (sizes_same (queues (view t m.slots)) (queues (view t' m'.slots)) as_many size_same)

    pub alike : Alike m t l p m' t' l' p'
    alike =
        let c = counts_unique m t l p v m' t' l' p' v' same in
        record { slots = c.0; pool = pool; listed = c.1; unread = c.2; free = free; rows = row }
