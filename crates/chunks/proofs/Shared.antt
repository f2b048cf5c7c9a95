-- What each call on one queue does to all that share the pool. Assumes nothing.
use Rattle.std.proofs.Common.{◌≡◌, refl, sym, ap, ◌∙◌, List, [], ◌∷◌, ◌++◌, ℕ, zero, suc, ◌+◌, ◌*◌, ◌^◌, min, ◌≤◌, ◌<◌, arith, length, get_or, take, drop, set, length-set, take-append-drop, get_or-set_same, get_or-set_other, set-set}
use native.Mathlib.Decide.{ℕ_discrete}
use Rattle.chunks.specs.Blocks.{BLOCK, blocks_for}
use Rattle.chunks.specs.Store.{state, content, none, Kept, Pushes, Pops, Discards, Started}
use Rattle.chunks.specs.Many.{sizes, unreads, nth, contents, Shared, Turned}
use Rattle.chunks.specs.declared.Free.{Free}
use Rattle.chunks.specs.declared.Queue.{Queue}
use Rattle.chunks.specs.declared.Pushed.{Pushed}
use Rattle.chunks.specs.declared.Popped.{Popped}
use Rattle.chunks.proofs.Turns.{content-length}
use Rattle.chunks.proofs.Many.{unreads-set, sizes-none, good_of, room_of, contents-kept, total_kept, sound-kept, sound_start}

-- ---- the unread bytes of a list of queues

pub contents-set : (l p : List ℕ) (qs : List Queue) (k : ℕ) (q : Queue) → contents l p (set qs k q) ≡ set (contents l p qs) k (content l p q)
contents-set l p [] k q = refl
contents-set l p (r ∷ qs) zero q = refl
contents-set l p (r ∷ qs) (suc k) q = ap (λ (x : List (List ℕ)). content l p r ∷ x) (contents-set l p qs k q)

contents_same : (l p l' p' : List ℕ) (qs : List Queue) → ((k : ℕ) → content l' p' (nth qs k) ≡ content l p (nth qs k)) → contents l' p' qs ≡ contents l p qs
contents_same l p l' p' [] h = refl
contents_same l p l' p' (q ∷ qs) h = rw (h 0) (ap (λ (x : List (List ℕ)). content l p q ∷ x) (contents_same l p l' p' qs (λ k. h (suc k))))

pub contents-nth : (l p : List ℕ) (qs : List Queue) (k : ℕ) → get_or (contents l p qs) k [] ≡ content l p (nth qs k)
contents-nth l p [] k = refl
contents-nth l p (q ∷ qs) zero = refl
contents-nth l p (q ∷ qs) (suc k) = contents-nth l p qs k

-- ---- a call on one queue

module _ (K P : ℕ) (l p : List ℕ) (f : Free) (qs : List Queue) (s : Shared K P l p f qs) where
  -- each queue has as many bytes as it says
  pub content-sized : (k : ℕ) → k < length qs → length (content l p (nth qs k)) ≡ (nth qs k).unread
  content-sized k here = content-length l p f (nth qs k) (good_of l p f qs s.sound k here)

  module _ (k : ℕ) (slot : k < K) where
    here : k < length qs
    here = omega (arith, s.slots)

    pub turned : (l' p' : List ℕ) (f' : Free) (q : Queue) → Kept (state l p f (nth qs k)) (state l' p' f' q) → length l' ≡ length l
        → Turned K P l p qs k l' p' f' q (content l' p' q)
    turned l' p' f' q m e =
        let others : contents l' p' (set qs k none) ≡ contents l p (set qs k none) = contents_same l p l' p' (set qs k none) (λ j. go l' p' (contents-kept l p f qs s.sound k here l' p' f' q m e) j (ℕ_discrete j k)) in
        record {
          shared = record {
            sound = sound-kept l p f qs s.sound k here l' p' f' q m e;
            slots = length-set qs k q ∙ s.slots;
            total = total_kept l p f qs s.sound k here l' p' f' q m e ∙ s.total;
          };
          bytes =
              contents-set l' p' qs k q ∙ sym (set-set (contents l' p' qs) k [] (content l' p' q))
              ∙ ap (λ (x : List (List ℕ)). set x k (content l' p' q)) (sym (contents-set l' p' qs k none) ∙ others ∙ contents-set l p qs k none)
              ∙ set-set (contents l p qs) k [] (content l' p' q);
        }
      where
        go : (l' p' : List ℕ) → ((j : ℕ) → (j ≡ k → ⊥) → content l' p' (nth qs j) ≡ content l p (nth qs j)) → (j : ℕ) → Dec (j ≡ k)
            → content l' p' (nth (set qs k none) j) ≡ content l p (nth (set qs k none) j)
        go l' p' h j (yes z) = rw z (rw (get_or-set_same qs k none none here) refl)
        go l' p' h j (no z) = rw (get_or-set_other qs k j none none z) (h j z)

    -- a body is pushed wherever the unread bytes and it are at most P
    pub push-shared : (b l' p' : List ℕ) (r : Pushed) → P < 2 ^ 32 → unreads qs + length b ≤ P → Pushes l p f (nth qs k) b l' p' r → length l' ≡ length l
        → Turned K P l p qs k l' p' r.free r.queue (content l p (nth qs k) ++ b) × (unreads (set qs k r.queue) ≡ unreads qs + length b)
    push-shared b l' p' r fits h pushes e =
        let n : blocks_for (length qs) P ≤ f.count + sizes qs = omega (arith, s.slots, s.total) in
        let w = pushes.0 (good_of l p f qs s.sound k here) (room_of l p f qs s.sound k here P (length b) fits h n) in
        (rw (← w.wrote) (turned l' p' r.free r.queue w.kept e), omega (arith, unreads-set qs k r.queue here, w.grew))

    -- a pop gives the oldest bytes to the front of out
    pub pop-shared : (out l' out' : List ℕ) (r : Popped) → Pops l p f (nth qs k) out l' out' r → length l' ≡ length l
        → (r.count ≡ min (length out) (nth qs k).unread)
        × (out' ≡ take r.count (content l p (nth qs k)) ++ drop r.count out)
        × Turned K P l p qs k l' p r.free r.queue (drop r.count (content l p (nth qs k)))
        × (unreads (set qs k r.queue) + r.count ≡ unreads qs)
    pop-shared out l' out' r pops e =
        let w = pops.1 (good_of l p f qs s.sound k here) in
        let d = w.1 in (
          w.0,
          sym (take-append-drop r.count out') ∙ ap (λ (x : List ℕ). x ++ drop r.count out') d.gave ∙ ap (λ (x : List ℕ). take r.count (content l p (nth qs k)) ++ x) d.rest,
          rw (← d.keeps) (turned l' p r.free r.queue d.kept e),
          omega (arith, unreads-set qs k r.queue here, d.left),
        )

    -- the bytes of a discarded queue are room again
    pub discard-shared : (l' : List ℕ) (r : Free) → Discards l f (nth qs k) l' r → length l' ≡ length l
        → Turned K P l p qs k l' p r none [] × (unreads (set qs k none) + (nth qs k).unread ≡ unreads qs)
    discard-shared l' r discards e =
        let w = discards p (good_of l p f qs s.sound k here) in
        (turned l' p r none w.0 e, omega (arith, unreads-set qs k none here))

-- ---- the start

-- 01, "Settings": slots K, 1..1,024; pool P bytes, 0..2^32-1. All of the blocks are free.
pub start_shared : (K P : ℕ) (l p : List ℕ) (f : Free) (qs : List Queue) → K ≤ 1024 → P < 2 ^ 32 → length l ≡ blocks_for K P → length p ≡ blocks_for K P * BLOCK
    → Started l f → length qs ≡ K → ((k : ℕ) → nth qs k ≡ none) → Shared K P l p f qs
start_shared K P l p f qs h₁ h₂ e₁ e₂ t slots empty = record {
  sound = sound_start l p f qs t (omega arith) empty;
  slots = slots;
  total = omega (arith, t.all, sizes-none qs empty);
}
