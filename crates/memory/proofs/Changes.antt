-- What a change of one slot, and of all, leaves of valid memory. Assumes nothing.
use Rattle.std.proofs.Common.{Bool, true, false, List, [], ◌++◌, ◌≡◌, refl, sym, ap, ◌∙◌, ℕ, ◌+◌, ◌-◌, ◌%◌, ◌^◌, min, ◌≤◌, ◌<◌, arith, eq-eqb, length, drop, set, get_or-set_same, get_or-set_other}
use native.Mathlib.Decide.{ℕ_discrete}
use lib.Seq.{set-get_or}
use Rattle.chunks.specs.Blocks.{blocks_for}
use Rattle.chunks.specs.Many.{Turned, sizes, contents, unreads}
use Rattle.chunks.specs.Many as many
use Rattle.chunks.specs.Store.{content, none, Pushes, Pops, Discards}
use Rattle.chunks.specs.declared.Free.{Free}
use Rattle.chunks.specs.declared.Queue.{Queue}
use Rattle.chunks.specs.declared.Pushed.{Pushed}
use Rattle.chunks.specs.declared.Popped.{Popped}
use Rattle.chunks.proofs.Many.{good_of, room_of}
use Rattle.chunks.proofs.Shared.{push-shared, pop-shared, discard-shared, contents-set}
use Rattle.frame.specs.declared.header.StreamId.{StreamId}
use Rattle.rules.specs.Frames.{new_entry}
use Rattle.rules.specs.Lists.{nowhere}
use Rattle.rules.specs.State.{Entry, vacant, entry, one, has_id, find}
use Rattle.stream.specs.declared.Stream.{Stream}
use Rattle.table.specs.Rows.{Proper, blank}
use Rattle.table.specs.Table.{size, row_at, view, stored, inserted, Tied, Distinct, nth}
use Rattle.table.specs.declared.row.Row.{Row}
use Rattle.table.proofs.Laws.{length-view, nth-view, proper_row, length-stored, length_inserted, view-stored, tied-stored, view-inserted, tied-inserted}
use Rattle.rules.proofs.Lists.{never, Says, first_says, sum-set, sum_at}
use Rattle.table.proofs.Packing.{proper_row_of}
use Rattle.table.proofs.Searches.{distinct_set}
use Rattle.memory.specs.Counts.{left, next, counted}
use Rattle.memory.specs.Moves.{start_of, held, Moved, Follows, Drained}
use Rattle.memory.specs.Slots.{queues, entry_of, entries, slots_of, Valid}
use Rattle.memory.specs.declared.Memory.{Memory}
use Rattle.memory.proofs.Lists.{queues-set, length-queues, nth-queues, length-contents, entries-set}
use Rattle.memory.proofs.Starts.{advanced, stays, starts-low, queue-stays}
use Rattle.memory.proofs.Laws.{entry-held, entry-of-held, entry-of-free, entry_listed, entry-unread, slots_length, listed-most}

-- t' is the table t with r at slot i
pub record Placed (t : List ℕ) (k i : ℕ) (r : Row) (t' : List ℕ) : Type 0 where
  pub sized : length t' ≡ length t
  pub rows : view t' k ≡ set (view t k) i r
  pub tied : Tied t k → Tied t' k

pub placed-stored : (t : List ℕ) (k i : ℕ) (r : Row) → length t ≡ size k → i < k → Proper r → Placed t k i r (stored t k i r)
placed-stored t k i r e h p = record { sized = length-stored t k i r; rows = view-stored t k i r e h p; tied = tied-stored t k i r e h p }

pub placed-inserted : (t : List ℕ) (k i : ℕ) (r : Row) → length t ≡ size k → i < k → Proper r → Placed t k i r (inserted t k i r)
placed-inserted t k i r e h p = record { sized = length_inserted t k i r; rows = view-inserted t k i r e h p; tied = tied-inserted t k i r e h p }

module _ (m : Memory) (t l p : List ℕ) (v : Valid m t l p) (i : ℕ) (below : i < m.slots) (row : Row) (loaded : row ≡ row_at t m.slots i) where
  abbrev K : ℕ
  K = m.slots

  abbrev rs : List Row
  rs = view t K

  abbrev old : Entry
  old = entry (slots_of m t l p) i

  here : i < length rs
  here = omega (arith, length-view t K)

  own_row : nth rs i ≡ row
  own_row = nth-view t K i below ∙ sym loaded

  own-queue : many.nth (queues rs) i ≡ row.queue
  own-queue = nth-queues rs i ∙ ap (λ (x : Row). x.queue) own_row

  -- the slot's row is r, with the unread bytes b in its queue, and the counts are theirs
  module _ (r : Row) (b : List ℕ) (t' l' p' : List ℕ) (f : Free) (listed unread : ℕ)
      (placed : Placed t K i r t') (turned : Turned K m.pool l p (queues rs) i l' p' f r.queue b) (el : length l' ≡ length l) (ep : length p' ≡ length p)
      (idle : r.held ≡ false → r.queue ≡ none) (advance : r.queue.from ≡ start_of row.queue.from row.queue.unread r.queue.unread) (distinct : Distinct (set rs i r))
      (counts : listed + one row.listed ≡ m.listed + one r.listed) (bytes : unread ≡ unreads (set (queues rs) i r.queue)) (within : unread ≤ m.pool) where
    row-after : (j : ℕ) → j < K → row_at t' K j ≡ nth (set rs i r) j
    row-after j h = sym (nth-view t' K j h) ∙ ap (λ (x : List Row). nth x j) placed.rows

    -- what holds of the row r, and of every row that stays, holds of each
    each_after : (Q : ℕ → Row → Type 0) → Q i r → ((j : ℕ) → j < K → Q j (row_at t K j)) → (j : ℕ) → j < K → Q j (row_at t' K j)
    each_after Q new old j h = go (ℕ_discrete j i)
      where
        go : Dec (j ≡ i) → Q j (row_at t' K j)
        go (yes z) =
            let a : row_at t' K j ≡ r = row-after j h ∙ ap (nth (set rs i r)) z ∙ get_or-set_same rs i r blank here in
            rw a (rw z new)
        go (no z) =
            let a : row_at t' K j ≡ row_at t K j = row-after j h ∙ get_or-set_other rs i j r blank z ∙ nth-view t K j h in
            rw a (old j h)

    at-start : r.queue.unread ≡ 0 → r.queue.from ≡ 0
    at-start e = rw e at advance

    queues-after : queues (view t' K) ≡ set (queues rs) i r.queue
    queues-after = ap queues placed.rows ∙ queues-set rs i r

    valid-after : Valid (counted m f listed unread) t' l' p'
    valid-after = record {
      sized = record {
        some = v.sized.some;
        most = v.sized.most;
        pooled = v.sized.pooled;
        table = placed.sized ∙ v.sized.table;
        links = el ∙ v.sized.links;
        bytes = ep ∙ v.sized.bytes;
      };
      tied = placed.tied v.tied;
      proper = λ j h. proper_row t' K j;
      idle = each_after (λ j x. x.held ≡ false → x.queue ≡ none) idle v.idle;
      empty = each_after (λ j x. x.queue.unread ≡ 0 → x.queue.from ≡ 0) at-start v.empty;
      distinct = rw placed.rows distinct;
      shared = rw queues-after turned.shared;
      listed = rw placed.rows (omega (arith, v.listed, sum-set (λ (x : Row). one x.listed) rs i r blank here, ap (λ (x : Row). one x.listed) own_row));
      unread = rw queues-after bytes;
      within = within;
    }

    pub moved : Moved m t l p i (entry_of r b) (counted m f listed unread) t' l' p'
    unfolding slots_of
    moved = record {
      valid = valid-after;
      slots =
          ap (λ (x : List (List ℕ)). entries (view t' K) x) (ap (contents l' p') queues-after ∙ turned.bytes)
          ∙ ap (λ (x : List Row). entries x (set (contents l p (queues rs)) i b)) placed.rows
          ∙ entries-set rs (contents l p (queues rs)) i r b (length-contents l p (queues rs) ∙ length-queues rs);
      same = (refl, refl);
      advances =
          each_after (λ j x. x.queue.from ≡ start_of (row_at t K j).queue.from (row_at t K j).queue.unread x.queue.unread)
          (rw loaded at advance) (λ j h. queue-stays m t l p v j h (row_at t K j).queue refl);
    }

  -- a push leaves where the queue starts
  push-stays : (q : Queue) → row.queue ≡ q → (body l' p' : List ℕ) (r : Pushed) → m.unread + length body ≤ m.pool → Pushes l p m.free q body l' p' r
      → r.queue.from ≡ start_of row.queue.from row.queue.unread r.queue.unread
  push-stays q same body l' p' r room pushes =
      let own : many.nth (queues rs) i ≡ q = own-queue ∙ same in
      let at : i < length (queues rs) = omega (arith, length-queues rs, length-view t K) in
      let fits : m.pool < 2 ^ 32 = v.sized.pooled in
      let enough : blocks_for (length (queues rs)) m.pool ≤ m.free.count + sizes (queues rs) = omega (arith, v.shared.slots, v.shared.total) in
      let w = pushes.0 (rw own at (good_of l p m.free (queues rs) v.shared.sound i at))
      (rw own at (room_of l p m.free (queues rs) v.shared.sound i at m.pool (length body) fits (omega (arith, v.unread)) enough)) in
      let from : r.queue.from ≡ row.queue.from = w.stays ∙ ap (λ (x : Queue). x.from) (sym same) in
      let unread : r.queue.unread ≡ row.queue.unread + length body = w.grew ∙ ap (λ (x : Queue). x.unread + length body) (sym same) in
      rw from (stays row.queue.from row.queue.unread r.queue.unread (rw loaded (starts-low m t l p v i below)) (rw loaded (v.empty i below)) (omega arith))

  -- a stream in the table is counted
  counted-in : row.listed ≡ true → 1 ≤ m.listed
  counted-in e = omega (arith, v.listed, sum_at (λ (x : Row). one x.listed) rs i blank here, ap (λ (x : Row). one x.listed) own_row, ap one e)

  left-counts : (b : Bool) → (b ≡ true → row.listed ≡ true) → left m.listed row.listed b + one row.listed ≡ m.listed + one b
  left-counts b h = go row.listed refl b h
    where
      go : (was : Bool) → row.listed ≡ was → (stays : Bool) → (stays ≡ true → row.listed ≡ true) → left m.listed was stays + one was ≡ m.listed + one stays
      go true e true h = refl
      go true e false h = omega (arith, counted-in e)
      go false e true h = never (sym (h refl) ∙ e)
      go false e false h = refl

  -- ---- a held slot goes on

  module _ (s : Stream) (b : Bool) (follows : Follows old s b) where
    was-held : (row_at t K i).held ≡ true
    was-held = sym (entry-held m t l p v i below) ∙ follows.held

    was : old ≡ held row.stream row.listed (content l p row.queue)
    was = rw loaded (entry-of-held m t l p v i below was-held)

    bytes-were : content l p (many.nth (queues rs) i) ≡ old.bytes
    bytes-were = ap (content l p) own-queue ∙ sym (ap (λ (e : Entry). e.bytes) was)

    follow-listed : b ≡ true → row.listed ≡ true
    follow-listed e = sym (ap (λ (x : Entry). x.listed) was) ∙ follows.listed e

    -- no other stream in the table has its id, since none had
    follow-distinct : (q : Queue) → Distinct (set rs i (next s b q))
    unfolding Distinct
    follow-distinct q = distinct_set rs i (next s b q) v.distinct other
      where
        other : (j : ℕ) → j < length rs → (j ≡ i → ⊥) → b ≡ true → (nth rs j).listed ≡ true → (nth rs j).stream.id.0 ≡ s.id.0 → ⊥
        other j h d e lj ej =
            let li : (nth rs i).listed ≡ true = ap (λ (x : Row). x.listed) own_row ∙ follow-listed e in
            let ei : (nth rs i).stream.id.0 ≡ s.id.0 = ap (λ (x : Row). x.stream.id.0) own_row ∙ sym (ap (λ (x : Entry). x.stream.id.0) was) ∙ sym (ap (λ (x : StreamId). x.0) follows.id) in
            d (v.distinct j i h here lj li (ej ∙ sym ei))

    -- its queue is q, with these bytes
    followed : (q : Queue) (bytes : List ℕ) (t' l' p' : List ℕ) (f : Free) (listed unread : ℕ) → t' ≡ stored t K i (next s b q) → Proper (next s b q)
        → Turned K m.pool l p (queues rs) i l' p' f q bytes → length l' ≡ length l → length p' ≡ length p
        → q.from ≡ start_of row.queue.from row.queue.unread q.unread → listed ≡ left m.listed row.listed b → unread ≡ unreads (set (queues rs) i q) → unread ≤ m.pool
        → Moved m t l p i (held s b bytes) (counted m f listed unread) t' l' p'
    followed q bytes t' l' p' f listed unread et proper turned el ep advance e₁ e₂ within =
        moved (next s b q) bytes t' l' p' f listed unread
        (rw et (placed-stored t K i (next s b q) v.sized.table below proper)) turned el ep
        (λ h. never h) advance (follow-distinct q) (rw e₁ (left-counts b follow-listed)) e₂ within

    pub store-moves : (t' : List ℕ) (listed : ℕ) → t' ≡ stored t K i (next s b row.queue) → Proper (next s b row.queue) → listed ≡ left m.listed row.listed b
        → Moved m t l p i (held s b old.bytes) (counted m m.free listed m.unread) t' l p
    store-moves t' listed et proper e =
        let same : set (queues rs) i row.queue ≡ queues rs = rw (← own-queue) (set-get_or (queues rs) i none) in
        followed row.queue old.bytes t' l p m.free listed m.unread et proper
        (record {
          shared = rw same v.shared;
          bytes = contents-set l p (queues rs) i row.queue ∙ ap (set (contents l p (queues rs)) i) (sym (ap (λ (e : Entry). e.bytes) was));
        })
        refl refl (rw loaded (queue-stays m t l p v i below (row_at t K i).queue refl)) e (rw same v.unread) v.within

    pub feed-moves : (body t' l' p' : List ℕ) (r : Pushed) (listed unread : ℕ) → m.unread + length body ≤ m.pool
        → Pushes l p m.free row.queue body l' p' r → length l' ≡ length l → length p' ≡ length p
        → t' ≡ stored t K i (next s b r.queue) → Proper (next s b r.queue) → listed ≡ left m.listed row.listed b → unread ≡ (m.unread + length body) % (2 ^ 32)
        → Moved m t l p i (held s b (old.bytes ++ body)) (counted m r.free listed unread) t' l' p'
    feed-moves body t' l' p' r listed unread room pushes el ep et proper e₁ e₂ =
        let fits : m.pool < 2 ^ 32 = v.sized.pooled in
        let w = push-shared K m.pool l p m.free (queues rs) v.shared i below body l' p' r fits (omega (arith, v.unread)) (rw own-queue pushes) el in
        followed r.queue (old.bytes ++ body) t' l' p' r.free listed unread et proper
        (rw (← bytes-were) w.0) el ep (push-stays row.queue refl body l' p' r room pushes) e₁ (omega (arith, w.1, v.unread)) (omega arith)

  -- ---- a read

  -- a pop leaves the queue past the bytes read
  pop-advances : (out l' out' : List ℕ) (r : Popped) → Pops l p m.free row.queue out l' out' r
      → r.queue.from ≡ start_of row.queue.from row.queue.unread r.queue.unread
  pop-advances out l' out' r pops =
      let at : i < length (queues rs) = omega (arith, length-queues rs, length-view t K) in
      let w = (pops.1 (rw own-queue at (good_of l p m.free (queues rs) v.shared.sound i at))).1 in
      advanced row.queue.from row.queue.unread r.queue.unread r.count r.queue.from w.left
      (λ e. ap (λ (q : Queue). q.from) (pops.0 e)) w.next

  pub drain-moves : (s : Stream) → Follows old s old.listed → (out t' l' out' : List ℕ) (r : Popped) (unread : ℕ)
      → Pops l p m.free row.queue out l' out' r → length l' ≡ length l
      → t' ≡ stored t K i (next s row.listed r.queue) → Proper (next s row.listed r.queue) → unread ≡ m.unread - r.count
      → Drained m t l p i s out (min (length out) (length old.bytes)) (counted m r.free m.listed unread) t' l' out'
  drain-moves s follows out t' l' out' r unread pops el et proper e =
      let b : old.listed ≡ row.listed = rw loaded (entry_listed m t l p v i below) in
      let bytes = bytes-were s old.listed follows in
      let w = pop-shared K m.pool l p m.free (queues rs) v.shared i below out l' out' r (rw own-queue pops) el in
      let n : (many.nth (queues rs) i).unread ≡ length old.bytes = rw (own-queue, loaded) (sym (entry-unread m t l p v i below)) in
      let count : r.count ≡ min (length out) (length old.bytes) = rw (← n) w.0 in
      rw (← count) (record {
        gave = rw (← bytes) w.1;
        moved =
            followed s old.listed follows r.queue (drop r.count old.bytes) t' l' p r.free m.listed unread
            (rw b et) (rw b proper) (rw (← bytes) w.2) el refl
            (pop-advances out l' out' r pops) (rw b (stays row.listed)) (omega (arith, w.3, v.unread)) (omega (arith, v.within));
      })
    where
      stays : (b : Bool) → m.listed ≡ left m.listed b b
      stays true = refl
      stays false = refl

  -- ---- a slot is freed

  pub free-moves : old.held ≡ true → (t' l' : List ℕ) (f : Free) (listed unread : ℕ)
      → Discards l m.free row.queue l' f → length l' ≡ length l
      → t' ≡ stored t K i blank → listed ≡ left m.listed row.listed false → unread ≡ m.unread - row.queue.unread
      → Moved m t l p i vacant (counted m f listed unread) t' l' p
  free-moves h t' l' f listed unread discards el et e₁ e₂ =
      let w = discard-shared K m.pool l p m.free (queues rs) v.shared i below l' f (rw own-queue discards) el in
      moved blank [] t' l' p f listed unread
      (rw et (placed-stored t K i blank v.sized.table below (proper_row_of 0 []))) w.0 el refl
      (λ e. refl) refl (distinct_set rs i blank v.distinct (λ j b d e x y. never (sym e)))
      (rw e₁ (left-counts false (λ e. never (sym e))))
      (omega (arith, w.1, v.unread, ap (λ (q : Queue). q.unread) own-queue)) (omega (arith, v.within))

  -- ---- a new stream takes a free slot

  module _ (free : old.held ≡ false) where
    was_free : (row_at t K i).held ≡ false
    was_free = sym (entry-held m t l p v i below) ∙ free

    no_queue : many.nth (queues rs) i ≡ none
    no_queue = own-queue ∙ rw loaded (v.idle i below was_free)

    not_listed : row.listed ≡ false
    not_listed = rw loaded (sym (entry_listed m t l p v i below) ∙ ap (λ (e : Entry). e.listed) (entry-of-free m t l p v i below was_free))

    -- no stream in the table has its id
    new-distinct : (s : Stream) (q : Queue) → find (slots_of m t l p) s.id ≡ nowhere → Distinct (set rs i (next s true q))
    new-distinct s q e = distinct_set rs i (next s true q) v.distinct other
      where
        says : Says (has_id s.id) (slots_of m t l p) vacant nowhere
        says = rw e at (first_says (has_id s.id) (slots_of m t l p) vacant)

        other : (j : ℕ) → j < length rs → (j ≡ i → ⊥) → true ≡ true → (nth rs j).listed ≡ true → (nth rs j).stream.id.0 ≡ s.id.0 → ⊥
        other j h d z lj ej =
            let b : j < K = omega (arith, length-view t K) in
            let a : (row_at t K j).listed ≡ true = sym (ap (λ (x : Row). x.listed) (nth-view t K j b)) ∙ lj in
            let c = entry-of-held m t l p v j b ((v.proper j b).held a) in
            let x : (row_at t K j).stream.id.0 ≡ s.id.0 = sym (ap (λ (y : Row). y.stream.id.0) (nth-view t K j b)) ∙ ej in
            let y : has_id s.id (entry (slots_of m t l p) j) ≡ true = rw (c, a) (eq-eqb (row_at t K j).stream.id.0 s.id.0 x) in
            never (sym y ∙ says j (omega (arith, slots_length m t l p v)))

    pub make-moves : (s : Stream) (body t' l' p' : List ℕ) (r : Pushed) (listed unread : ℕ) → find (slots_of m t l p) s.id ≡ nowhere → m.unread + length body ≤ m.pool
        → Pushes l p m.free none body l' p' r → length l' ≡ length l → length p' ≡ length p
        → t' ≡ inserted t K i (next s true r.queue) → Proper (next s true r.queue)
        → listed ≡ (m.listed + 1) % (2 ^ 32) → unread ≡ (m.unread + length body) % (2 ^ 32)
        → Moved m t l p i (new_entry s body) (counted m r.free listed unread) t' l' p'
    make-moves s body t' l' p' r listed unread new room pushes el ep et proper e₁ e₂ =
        let fits : m.pool < 2 ^ 32 = v.sized.pooled in
        let w = push-shared K m.pool l p m.free (queues rs) v.shared i below body l' p' r fits (omega (arith, v.unread)) (rw no_queue pushes) el in
        moved (next s true r.queue) body t' l' p' r.free listed unread
        (rw et (placed-inserted t K i (next s true r.queue) v.sized.table below proper)) (rw no_queue at w.0) el ep
        (λ h. never h) (push-stays none (sym own-queue ∙ no_queue) body l' p' r room pushes) (new-distinct s r.queue new)
        (rw not_listed (omega (arith, listed-most m t l p v, v.sized.most))) (omega (arith, w.1, v.unread)) (omega arith)
