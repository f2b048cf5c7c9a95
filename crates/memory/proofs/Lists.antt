-- Laws of rows and their unread bytes as entries. Assumes nothing.
use Rattle.std.proofs.Common.{Bool, true, false, List, [], ◌∷◌, map, ◌≡◌, refl, ap, ℕ, zero, suc, ◌+◌, ◌≤◌, arith, length, get_or, set, replicate}
use Rattle.chunks.specs.Many.{contents, unreads}
use Rattle.chunks.specs.Many as many
use Rattle.chunks.specs.declared.Queue.{Queue}
use Rattle.rules.specs.Ending.{end_entry}
use Rattle.rules.specs.Lists.{sum}
use Rattle.rules.specs.State.{Entry, vacant, entry, one}
use Rattle.table.specs.Rows.{blank, end_row}
use Rattle.table.specs.Table.{nth}
use Rattle.table.specs.declared.row.Row.{Row}
use Rattle.memory.specs.Slots.{queues, entry_of, entries}

-- ---- queues

pub queues-set : (rs : List Row) (i : ℕ) (r : Row) → queues (set rs i r) ≡ set (queues rs) i r.queue
queues-set [] i r = refl
queues-set (x ∷ rs) zero r = refl
queues-set (x ∷ rs) (suc i) r = ap (λ (l : List Queue). x.queue ∷ l) (queues-set rs i r)

pub length-queues : (rs : List Row) → length (queues rs) ≡ length rs
length-queues [] = refl
length-queues (r ∷ rs) = ap suc (length-queues rs)

pub nth-queues : (rs : List Row) (i : ℕ) → many.nth (queues rs) i ≡ (nth rs i).queue
nth-queues [] i = refl
nth-queues (r ∷ rs) zero = refl
nth-queues (r ∷ rs) (suc i) = nth-queues rs i

pub queues-end : (rs : List Row) → queues (map end_row rs) ≡ queues rs
queues-end [] = refl
queues-end (r ∷ rs) = ap (λ (l : List Queue). r.queue ∷ l) (queues-end rs)

pub unreads-sum : (rs : List Row) → unreads (queues rs) ≡ sum (λ (r : Row). r.queue.unread) rs
unreads-sum [] = refl
unreads-sum (r ∷ rs) = ap (λ (n : ℕ). r.queue.unread + n) (unreads-sum rs)

pub length-contents : (l p : List ℕ) (qs : List Queue) → length (contents l p qs) ≡ length qs
length-contents l p [] = refl
length-contents l p (q ∷ qs) = ap suc (length-contents l p qs)

-- ---- entries

pub length-entries : (rs : List Row) (bs : List (List ℕ)) → length (entries rs bs) ≡ length rs
length-entries [] bs = refl
length-entries (r ∷ rs) [] = ap suc (length-entries rs [])
length-entries (r ∷ rs) (b ∷ bs) = ap suc (length-entries rs bs)

pub nth-entries : (rs : List Row) (bs : List (List ℕ)) (i : ℕ) → length bs ≡ length rs → entry (entries rs bs) i ≡ entry_of (nth rs i) (get_or bs i [])
nth-entries [] bs i e = refl
nth-entries (r ∷ rs) [] i e = absurd (omega arith)
nth-entries (r ∷ rs) (b ∷ bs) zero e = refl
nth-entries (r ∷ rs) (b ∷ bs) (suc i) e = nth-entries rs bs i (omega arith)

pub entries-set : (rs : List Row) (bs : List (List ℕ)) (i : ℕ) (r : Row) (b : List ℕ) → length bs ≡ length rs
    → entries (set rs i r) (set bs i b) ≡ set (entries rs bs) i (entry_of r b)
entries-set [] bs i r b e = refl
entries-set (x ∷ rs) [] i r b e = absurd (omega arith)
entries-set (x ∷ rs) (y ∷ bs) zero r b e = refl
entries-set (x ∷ rs) (y ∷ bs) (suc i) r b e = ap (λ (l : List Entry). entry_of x y ∷ l) (entries-set rs bs i r b (omega arith))

end-entry : (r : Row) (b : List ℕ) → entry_of (end_row r) b ≡ end_entry (entry_of r b)
end-entry r b = go r.held refl
  where
    go : (h : Bool) → r.held ≡ h → entry_of (end_row r) b ≡ end_entry (entry_of r b)
    go true e = rw e
    go false e = rw e

pub entries-end : (rs : List Row) (bs : List (List ℕ)) → entries (map end_row rs) bs ≡ map end_entry (entries rs bs)
entries-end [] bs = refl
entries-end (r ∷ rs) [] = cc (end-entry r [], entries-end rs [])
entries-end (r ∷ rs) (b ∷ bs) = cc (end-entry r b, entries-end rs bs)

pub entries-blank : (n : ℕ) (bs : List (List ℕ)) → entries (replicate n blank) bs ≡ replicate n vacant
entries-blank zero bs = refl
entries-blank (suc n) [] = ap (λ (l : List Entry). vacant ∷ l) (entries-blank n [])
entries-blank (suc n) (b ∷ bs) = ap (λ (l : List Entry). vacant ∷ l) (entries-blank n bs)

-- ---- sums

one-most : (b : Bool) → one b ≤ 1
one-most true = omega arith
one-most false = omega arith

pub sum_ones : {A : Type 0} (f : A → Bool) (l : List A) → sum (λ (x : A). one (f x)) l ≤ length l
sum_ones f [] = omega arith
sum_ones f (x ∷ l) = omega (arith, one-most (f x), sum_ones f l)
