-- What valid memory says of the slots that it holds: the laws that the layer above cites. Assumes nothing.
use Rattle.std.proofs.Common.{Option, Bool, true, false, cond, List, ◌≡◌, refl, sym, ap, ◌∙◌, ℕ, ◌-◌, ◌*◌, ◌^◌, ◌≤◌, ◌<◌, arith, eqb-true, eq-eqb, eqb, length}
use native.Mathlib.Decide.{dec_lt}
use lib.ListN.{get_or-eq_default}
use Rattle.frame.specs.declared.header.StreamId.{StreamId}
use Rattle.chunks.specs.Blocks.{BLOCK, blocks_for}
use Rattle.chunks.specs.Many as many
use Rattle.chunks.specs.Many.{contents}
use Rattle.chunks.specs.Store.{content, none}
use Rattle.chunks.specs.declared.Queue.{Queue}
use Rattle.chunks.proofs.Shared.{contents-nth, content-sized}
use Rattle.rules.specs.Lists.{at}
use Rattle.rules.specs.State.{Entry, vacant, entry, one, listed_count, unread_total, found_of}
use Rattle.rules.specs.State as rules
use Rattle.rules.specs.declared.Mode.{Mode}
use Rattle.table.specs.Rows.{Proper, blank}
use Rattle.table.specs.Rows as rows
use Rattle.table.specs.Table.{row_at, view, nth, Finds}
use Rattle.table.specs.Table as table
use Rattle.table.specs.declared.row.Row.{Row}
use Rattle.table.proofs.Laws.{length-view, nth-view}
use Rattle.rules.proofs.Lists.{never, both, Says, first_says, first_same, sum_same}
use Rattle.table.proofs.Searches.{found, lowest}
use Rattle.memory.specs.Counts.{table_fits, links_fit, fits}
use Rattle.memory.specs.Moves.{held}
use Rattle.memory.specs.Slots.{queues, entry_of, slots_of, Sized, Valid}
use Rattle.memory.specs.declared.Memory.{Memory}
use Rattle.memory.proofs.Lists.{length-queues, nth-queues, unreads-sum, length-contents, length-entries, nth-entries, sum_ones}
use Rattle.rules.specs.declared.Slot.{Slot}

-- ---- a row and its entry

free_entry : (r : Row) (b : List ℕ) → r.held ≡ false → entry_of r b ≡ vacant
free_entry r b e = rw e

held-entry : (r : Row) (b : List ℕ) → r.held ≡ true → entry_of r b ≡ held r.stream r.listed b
held-entry r b e = rw e

pub held_same : (r : Row) (b : List ℕ) → (entry_of r b).held ≡ r.held
held_same r b = go r.held refl
  where
    go : (h : Bool) → r.held ≡ h → (entry_of r b).held ≡ r.held
    go true e = rw e
    go false e = rw e

-- what a row says, its entry says, if a row that is not held says what a vacant entry does
asked : {A : Type 0} (f : Row → A) (g : Entry → A) → ((r : Row) (b : List ℕ) → f r ≡ g (held r.stream r.listed b))
    → (r : Row) (b : List ℕ) → (r.held ≡ false → f r ≡ g vacant) → f r ≡ g (entry_of r b)
asked f g same r b out = go r.held refl
  where
    go : (h : Bool) → r.held ≡ h → f r ≡ g (entry_of r b)
    go true e = rw (held-entry r b e) (same r b)
    go false e = rw (free_entry r b e) (out e)

-- a row that is not held is not in the table
unlisted : (r : Row) → Proper r → r.held ≡ false → r.listed ≡ false
unlisted r p e = go r.listed refl
  where
    go : (b : Bool) → r.listed ≡ b → r.listed ≡ false
    go true q = never (sym (p.held q) ∙ e)
    go false q = q

not-true : (b : Bool) → cond b false true ≡ true → b ≡ false
not-true true e = never (sym e)
not-true false e = refl

module _ (m : Memory) (t l p : List ℕ) (v : Valid m t l p) where
  abbrev K : ℕ
  K = m.slots

  abbrev rs : List Row
  rs = view t K

  sized : length (contents l p (queues rs)) ≡ length rs
  sized = length-contents l p (queues rs) ∙ length-queues rs

  -- ---- entry by entry

  pub slots_length : length (slots_of m t l p) ≡ m.slots
  unfolding slots_of
  slots_length = length-entries rs (contents l p (queues rs)) ∙ length-view t K

  -- a slot's entry is what its row and its queue's unread bytes say
  pub row-entry : (i : ℕ) → i < m.slots → entry (slots_of m t l p) i ≡ entry_of (row_at t m.slots i) (content l p (row_at t m.slots i).queue)
  unfolding slots_of
  row-entry i h =
      nth-entries rs (contents l p (queues rs)) i sized
      ∙ rw (contents-nth l p (queues rs) i, nth-queues rs i, nth-view t K i h)

  -- there is no slot beyond them
  pub entry-beyond : (i : ℕ) → m.slots ≤ i → entry (slots_of m t l p) i ≡ vacant
  entry-beyond i h = get_or-eq_default (slots_of m t l p) vacant {n = i} (omega (arith, slots_length))

  pub entry-held : (i : ℕ) → i < m.slots → (entry (slots_of m t l p) i).held ≡ (row_at t m.slots i).held
  entry-held i h = ap (λ (e : Entry). e.held) (row-entry i h) ∙ held_same (row_at t K i) (content l p (row_at t K i).queue)

  -- a held slot: its row's stream, in the table where the row says so, and its queue's bytes
  pub entry-of-held : (i : ℕ) → i < m.slots → (row_at t m.slots i).held ≡ true
      → entry (slots_of m t l p) i ≡ held (row_at t m.slots i).stream (row_at t m.slots i).listed (content l p (row_at t m.slots i).queue)
  entry-of-held i h e = row-entry i h ∙ held-entry (row_at t K i) (content l p (row_at t K i).queue) e

  pub entry-of-free : (i : ℕ) → i < m.slots → (row_at t m.slots i).held ≡ false → entry (slots_of m t l p) i ≡ vacant
  entry-of-free i h e = row-entry i h ∙ free_entry (row_at t K i) (content l p (row_at t K i).queue) e

  pub entry_listed : (i : ℕ) → i < m.slots → (entry (slots_of m t l p) i).listed ≡ (row_at t m.slots i).listed
  entry_listed i h =
      let r = row_at t K i in
      ap (λ (e : Entry). e.listed) (row-entry i h)
      ∙ sym (asked (λ (x : Row). x.listed) (λ (e : Entry). e.listed) (λ x b. refl) r (content l p r.queue) (unlisted r (v.proper i h)))

  -- 01: a stream in the table is held
  pub listed-held : (i : ℕ) → (entry (slots_of m t l p) i).listed ≡ true → (entry (slots_of m t l p) i).held ≡ true
  listed-held i e = go (dec_lt i K)
    where
      go : Dec (i < K) → (entry (slots_of m t l p) i).held ≡ true
      go (yes h) = entry-held i h ∙ (v.proper i h).held (sym (entry_listed i h) ∙ e)
      go (no h) = never (sym e ∙ ap (λ (x : Entry). x.listed) (entry-beyond i (omega arith)))

  -- as many unread bytes as the queue says
  pub entry-unread : (i : ℕ) → i < m.slots → length (entry (slots_of m t l p) i).bytes ≡ (row_at t m.slots i).queue.unread
  entry-unread i h =
      let r = row_at t K i in
      let n : many.nth (queues rs) i ≡ r.queue = nth-queues rs i ∙ ap (λ (x : Row). x.queue) (nth-view t K i h) in
      ap (λ (e : Entry). length e.bytes) (row-entry i h) ∙ go r (v.idle i h) (rw n at (content-sized K m.pool l p m.free (queues rs) v.shared i (omega (arith, length-queues rs, length-view t K)))) r.held refl
    where
      go : (r : Row) → (r.held ≡ false → r.queue ≡ none) → length (content l p r.queue) ≡ r.queue.unread
          → (b : Bool) → r.held ≡ b → length (entry_of r (content l p r.queue)).bytes ≡ r.queue.unread
      go r idle n true e = rw (held-entry r (content l p r.queue) e) n
      go r idle n false e = rw (free_entry r (content l p r.queue) e) (ap (λ (q : Queue). q.unread) (sym (idle e)))

  -- ---- searches and sums

  -- what a table's answer says of every row, the rules' answer says of every entry
  module _ {A : Type 0} (f : Row → A) (g : Entry → A) (same : (r : Row) (b : List ℕ) → f r ≡ g (held r.stream r.listed b)) (out : (r : Row) → r.listed ≡ false → f r ≡ g vacant) where
    pointwise : (i : ℕ) → i < length rs → f (nth rs i) ≡ g (entry (slots_of m t l p) i)
    pointwise i h =
        let b : i < K = omega (arith, length-view t K) in
        let r = row_at t K i in
        rw (nth-view t K i b, row-entry i b) (asked f g same r (content l p r.queue) (λ e. out r (unlisted r (v.proper i b) e)))

  as_many : length rs ≡ length (slots_of m t l p)
  as_many = length-view t K ∙ sym slots_length

  -- 01: "id in the table". The table's search finds the slot that the rules do.
  pub find-slots : (id : StreamId) (f : Option Slot) → Finds t m.slots id f → f ≡ found_of (rules.find (slots_of m t l p) id)
  find-slots id f h =
      found t K id v.sized.table v.tied v.distinct f h
      ∙ ap found_of (first_same (rows.has_id id) (rules.has_id id) rs (slots_of m t l p) blank vacant as_many
      (pointwise (rows.has_id id) (rules.has_id id) (λ r b. refl) (λ r e. rw e)))

  -- 01: "the lowest free one is taken"
  pub free-slots : table.lowest_free t m.slots ≡ found_of (rules.lowest_free (slots_of m t l p))
  free-slots =
      lowest t K v.sized.table
      ∙ ap found_of (first_same rows.is_free rules.is_free rs (slots_of m t l p) blank vacant as_many same)
    where
      same : (i : ℕ) → i < length rs → rows.is_free (nth rs i) ≡ rules.is_free (entry (slots_of m t l p) i)
      same i h =
          let b : i < K = omega (arith, length-view t K) in
          rw (nth-view t K i b) (ap (λ (x : Bool). cond x false true) (sym (entry-held i b)))

  -- the slot that a search by id gives is in the table, held, and has the id
  pub find_at : (id : StreamId) (i : ℕ) → rules.find (slots_of m t l p) id ≡ at i
      → (i < m.slots) × ((entry (slots_of m t l p) i).listed ≡ true) × ((entry (slots_of m t l p) i).held ≡ true) × ((entry (slots_of m t l p) i).stream.id ≡ id)
  find_at id i e =
      let w : Says (rules.has_id id) (slots_of m t l p) vacant (at i) = rw e at (first_says (rules.has_id id) (slots_of m t l p) vacant) in
      let x = entry (slots_of m t l p) i in
      let b = both x.listed (eqb x.stream.id.0 id.0) w.1 in
      (omega (arith, slots_length), b.0, listed-held i b.0, ap (λ (n : ℕ). record { 0 = n }) (eqb-true x.stream.id.0 id.0 b.1))

  -- the slot that a search for a free one gives is not held
  pub free-at : (i : ℕ) → rules.lowest_free (slots_of m t l p) ≡ at i → (i < m.slots) × ((entry (slots_of m t l p) i).held ≡ false)
  free-at i e =
      let w : Says rules.is_free (slots_of m t l p) vacant (at i) = rw e at (first_says rules.is_free (slots_of m t l p) vacant) in
      (omega (arith, slots_length), not-true (entry (slots_of m t l p) i).held w.1)

  -- the streams in the table
  pub listed-count : m.listed ≡ listed_count (slots_of m t l p)
  listed-count =
      v.listed
      ∙ sum_same (λ (r : Row). one r.listed) (λ (e : Entry). one e.listed) rs (slots_of m t l p) blank vacant as_many
      (pointwise (λ (r : Row). one r.listed) (λ (e : Entry). one e.listed) (λ r b. refl) (λ r e. rw e))

  pub listed-most : m.listed ≤ m.slots
  listed-most = omega (arith, v.listed, sum_ones (λ (r : Row). r.listed) rs, length-view t K)

  -- all unread bytes
  pub unread-total : m.unread ≡ unread_total (slots_of m t l p)
  unread-total =
      v.unread ∙ unreads-sum rs
      ∙ sum_same (λ (r : Row). r.queue.unread) (λ (e : Entry). length e.bytes) rs (slots_of m t l p) blank vacant as_many same
    where
      same : (i : ℕ) → i < length rs → (nth rs i).queue.unread ≡ length (entry (slots_of m t l p) i).bytes
      same i h =
          let b : i < K = omega (arith, length-view t K) in
          rw (nth-view t K i b) (sym (entry-unread i b))

  -- 01: "Pool room is P less all unread bytes"
  pub room-slots : m.pool - m.unread ≡ m.pool - unread_total (slots_of m t l p)
  room-slots = ap (λ (n : ℕ). m.pool - n) unread-total

  -- 01: "own-parity streams Open and unacknowledged"
  pub backlog : (mode : Mode) → table.unacknowledged t m.slots mode ≡ rules.unacknowledged mode (slots_of m t l p)
  unfolding table.unacknowledged
  backlog mode =
      sum_same (λ (r : Row). one (rows.is_unacknowledged mode r)) (λ (e : Entry). one (rules.is_unacknowledged mode e)) rs (slots_of m t l p) blank vacant as_many
      (pointwise (λ (r : Row). one (rows.is_unacknowledged mode r)) (λ (e : Entry). one (rules.is_unacknowledged mode e)) (λ r b. refl) (λ r e. rw e))

-- 01, "How much each contract says": the sizes and counts beside the slots follow from them. Which blocks a queue has, and how many
-- are free, does not follow from them alone.
pub counts_unique : (m : Memory) (t l p : List ℕ) → Valid m t l p → (m' : Memory) (t' l' p' : List ℕ) → Valid m' t' l' p' → slots_of m t l p ≡ slots_of m' t' l' p'
    → (m.slots ≡ m'.slots) × (m.listed ≡ m'.listed) × (m.unread ≡ m'.unread)
counts_unique m t l p v m' t' l' p' v' e = (
  sym (slots_length m t l p v) ∙ ap length e ∙ slots_length m' t' l' p' v',
  listed-count m t l p v ∙ ap listed_count e ∙ sym (listed-count m' t' l' p' v'),
  unread-total m t l p v ∙ ap unread_total e ∙ sym (unread-total m' t' l' p' v'),
)

-- ---- sizes

-- with settings in their ranges, the test of the sizes is exact
pub fits-sized : (m : Memory) (t l p : List ℕ) → 1 ≤ m.slots → m.slots ≤ 1024 → m.pool < 2 ^ 32 → fits m.slots m.pool (length t) (length l) (length p) ≡ true → Sized m t l p
fits-sized m t l p some most pooled e =
    let n = blocks_for m.slots m.pool in
    let a = both (links_fit m.slots m.pool (length t) (length l)) (eqb (length p) (n * BLOCK)) e in
    let b = both (table_fits m.slots (length t)) (eqb (length l) n) a.0 in
    record {
      some = some;
      most = most;
      pooled = pooled;
      table = eqb-true (length t) (table.size m.slots) b.0;
      links = eqb-true (length l) n b.1;
      bytes = eqb-true (length p) (n * BLOCK) a.1;
    }

pub sized_table : (m : Memory) (t l p : List ℕ) → Sized m t l p → table_fits m.slots (length t) ≡ true
sized_table m t l p s = eq-eqb _ _ s.table

pub sized_links : (m : Memory) (t l p : List ℕ) → Sized m t l p → links_fit m.slots m.pool (length t) (length l) ≡ true
sized_links m t l p s = rw (sized_table m t l p s) (eq-eqb _ _ s.links)

pub sized-fits : (m : Memory) (t l p : List ℕ) → Sized m t l p → fits m.slots m.pool (length t) (length l) (length p) ≡ true
sized-fits m t l p s = rw (sized_links m t l p s) (eq-eqb _ _ s.bytes)
