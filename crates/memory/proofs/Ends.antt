-- What the end of a connection, and a new layout, leave. Assumes nothing.
use Rattle.std.proofs.Common.{List, [], ◌∷◌, map, ◌≡◌, refl, sym, ap, ◌∙◌, ℕ, zero, suc, ◌<◌, arith, length, replicate}
use lib.ListN.{length-replicate, get_or-replicate, get_or-map}
use Rattle.chunks.specs.Many.{contents, unreads}
use Rattle.chunks.specs.Many as many
use Rattle.chunks.specs.Store.{none, Started}
use Rattle.chunks.specs.declared.Free.{Free}
use Rattle.chunks.proofs.Shared.{start_shared}
use Rattle.rules.specs.Lists.{sum}
use Rattle.rules.specs.State.{vacant, one}
use Rattle.rules.specs.Ending.{end_entry}
use Rattle.table.specs.Rows.{blank, end_row}
use Rattle.table.specs.Table.{size, row_at, view, ended, nth, zeros}
use Rattle.table.specs.declared.row.Row.{Row}
use Rattle.table.proofs.Laws.{length-view, nth-view, proper_row, length-ended, view-ended, tied-ended, view-init, tied-init}
use Rattle.table.proofs.Searches.{distinct_none}
use Rattle.memory.specs.Counts.{counted}
use Rattle.memory.specs.Moves.{Becomes, Starts}
use Rattle.memory.specs.Slots.{queues, slots_of, Sized, Valid}
use Rattle.memory.specs.declared.Memory.{Memory}
use Rattle.memory.proofs.Starts.{queue-stays}
use Rattle.memory.proofs.Lists.{length-queues, queues-end, entries-end, entries-blank}

-- ---- the end

ended-none : (rs : List Row) → sum (λ (r : Row). one r.listed) (map end_row rs) ≡ 0
ended-none [] = refl
ended-none (r ∷ rs) = omega (arith, ended-none rs)

module _ (m : Memory) (t l p : List ℕ) (v : Valid m t l p) (t' : List ℕ) (e : t' ≡ ended t m.slots m.slots) where
  abbrev K : ℕ
  K = m.slots

  rows : view t' K ≡ map end_row (view t K)
  rows = rw e (view-ended t K v.sized.table)

  row-ended : (i : ℕ) → i < K → row_at t' K i ≡ end_row (row_at t K i)
  row-ended i h =
      sym (nth-view t' K i h) ∙ ap (λ (x : List Row). nth x i) rows ∙ get_or-map end_row (view t K) i blank ∙ ap end_row (nth-view t K i h)

  same-queues : queues (view t' K) ≡ queues (view t K)
  same-queues = ap queues rows ∙ queues-end (view t K)

  valid-ended : Valid (counted m m.free 0 m.unread) t' l p
  valid-ended = record {
    sized = record {
      some = v.sized.some;
      most = v.sized.most;
      pooled = v.sized.pooled;
      table = rw e (length-ended t K K ∙ v.sized.table);
      links = v.sized.links;
      bytes = v.sized.bytes;
    };
    tied = rw e (tied-ended t K v.sized.table v.tied K (omega arith));
    proper = λ i h. proper_row t' K i;
    idle = λ i h x. rw (row-ended i h) (v.idle i h (rw (row-ended i h) at x));
    empty = λ i h x. rw (row-ended i h) (v.empty i h (rw (row-ended i h) at x));
    distinct = distinct_none (view t' K) (λ j h. let b : j < K = omega (arith, length-view t' K) in rw (nth-view t' K j b, row-ended j b) refl);
    shared = rw same-queues v.shared;
    listed = rw rows (sym (ended-none (view t K)));
    unread = rw same-queues v.unread;
    within = v.within;
  }

  pub end-moves : Becomes m t (map end_entry (slots_of m t l p)) (counted m m.free 0 m.unread) t' l p
  unfolding slots_of
  end-moves = record {
    valid = valid-ended;
    slots = rw (same-queues, rows) (entries-end (view t K) (contents l p (queues (view t K))));
    same = (refl, refl);
    advances = λ i h. rw (row-ended i h) (queue-stays m t l p v i h (row_at t K i).queue refl);
  }

-- ---- the start

blank-queues : (n i : ℕ) → many.nth (queues (replicate n blank)) i ≡ none
blank-queues zero i = refl
blank-queues (suc n) zero = refl
blank-queues (suc n) (suc i) = blank-queues n i

blank_none : (n : ℕ) → sum (λ (r : Row). one r.listed) (replicate n blank) ≡ 0
blank_none zero = refl
blank_none (suc n) = omega (arith, blank_none n)

blank_unread : (n : ℕ) → unreads (queues (replicate n blank)) ≡ 0
blank_unread zero = refl
blank_unread (suc n) = omega (arith, blank_unread n)

abbrev pub fresh : ℕ → ℕ → Free → Memory
fresh K P f = record { slots = K; pool = P; free = f; listed = 0; unread = 0 }

module _ (K P : ℕ) (f : Free) (t l : List ℕ) (n : ℕ) (e : t ≡ zeros n) (started : Started l f) where
  module _ (p : List ℕ) (z : Sized (fresh K P f) t l p) where
    rows_start : view t K ≡ replicate K blank
    rows_start =
        let k : n ≡ size K = sym (length-replicate {A = ℕ} n 0) ∙ sym (ap length e) ∙ z.table in
        rw (e, k) (view-init K)

    row-start : (i : ℕ) → i < K → row_at t K i ≡ blank
    row-start i h = sym (nth-view t K i h) ∙ ap (λ (x : List Row). nth x i) rows_start ∙ get_or-replicate K i blank blank h

    valid-start : Valid (fresh K P f) t l p
    valid-start =
        let k : n ≡ size K = sym (length-replicate {A = ℕ} n 0) ∙ sym (ap length e) ∙ z.table in
        record {
          sized = z;
          tied = rw (e, k) (tied-init K);
          proper = λ i h. proper_row t K i;
          idle = λ i h x. ap (λ (r : Row). r.queue) (row-start i h);
          empty = λ i h x. ap (λ (r : Row). r.queue.from) (row-start i h);
          distinct = distinct_none (view t K) (λ j h. let b : j < K = omega (arith, length-view t K) in rw (nth-view t K j b, row-start j b) refl);
          shared =
              rw rows_start
              (start_shared K P l p f (queues (replicate K blank)) z.most z.pooled z.links z.bytes started
              (length-queues (replicate K blank) ∙ length-replicate K blank) (blank-queues K));
          listed = rw rows_start (sym (blank_none K));
          unread = rw rows_start (sym (blank_unread K));
          within = omega arith;
        }

    slots-start : slots_of (fresh K P f) t l p ≡ replicate K vacant
    unfolding slots_of
    slots-start = rw rows_start (entries-blank K (contents l p (queues (replicate K blank))))

  pub start-moves : Starts K P (fresh K P f) t l
  start-moves = record { slots = refl; pool = refl; valid = valid-start; vacant = slots-start }
