-- What a push, a pop and the start do to a state. Assumes nothing.
use Rattle.std.proofs.Common.{cond, ltb, ◌≡◌, refl, sym, ap, ◌∙◌, subst, List, [], ◌∷◌, ◌++◌, append-nil, ℕ, suc, ◌+◌, ◌-◌, ◌*◌, ◌/◌, ◌%◌, min, ◌≤◌, ◌<◌, ◌^◌, add-one, arith, lt-ltb, le-ltb, length, get_or, take, drop, length-take, length-drop, take-append-drop, length-take-le, take_all, take-take, take_at, drop_at, get_or-append-add}
use native.Mathlib.Decide.{dec_lt}
use lib.ListN.{get_or-append}
use Rattle.chunks.specs.Chain.{walk, hop, occ, upto}
use Rattle.chunks.specs.Blocks.{BLOCK, hold, bytes, put}
use Rattle.chunks.specs.Store.{State, text, content, nodes, frees, none, size, state, Room, Fed, Drawn, Started, Good, Kept}
use Rattle.chunks.specs.Steps.{Laid, Gathers, Scatters, Passes}
use Rattle.chunks.specs.declared.Free.{Free}
use Rattle.chunks.specs.declared.Queue.{Queue}
use Rattle.chunks.specs.declared.Pushed.{Pushed}
use Rattle.chunks.proofs.Chains.{occ_append, walk_add, hop-suc, hop_add, hop-nth, length-walk, bytes_append, length-bytes, walk-upto, upto_in, upto-past}
use Rattle.chunks.proofs.Parts.{view_push, view_more}
use Rattle.chunks.proofs.Moves.{kept_refl, kept_trans, taken}

-- ---- all blocks are free

pub started : (l : List ℕ) (n : ℕ) (f : Free) → f.head ≡ 0 → f.count ≡ n → n ≡ min (length l) (2 ^ 32 - 1) → ((k : ℕ) → k < n → get_or l k 0 ≡ k + 1) → Started l f
started l n f e₁ e₂ e₃ h =
    let w : walk l f.head f.count ≡ upto 0 n = rw (e₁, e₂) (walk-upto l 0 n (λ k p q. h k (omega arith) ∙ add-one k)) in
    let lo : (i : ℕ) → i < n → occ i (walk l f.head f.count) ≡ 1 = λ i q. ap (occ i) w ∙ upto_in i 0 n (omega arith) (omega arith) in
    let hi : (i : ℕ) → n ≤ i → occ i (walk l f.head f.count) ≡ 0 = λ i q. ap (occ i) w ∙ upto-past i 0 n (omega arith) in
    record {
      all = e₂ ∙ e₃;
      chain = w ∙ ap (upto 0) (sym e₂);
      good = λ p fits. record {
        once = λ i. once-of i (lo i) (hi i);
        inside = λ i q. inside_of i q (hi i);
        last = λ m z. absurd (omega arith);
        starts = omega arith;
        pooled = fits;
        fits = omega arith;
      };
    }
  where
    once-of : (i : ℕ) → (i < n → occ i (walk l f.head f.count) ≡ 1) → (n ≤ i → occ i (walk l f.head f.count) ≡ 0) → 0 + occ i (walk l f.head f.count) ≤ 1
    once-of i lo hi = elim (dec_lt i n) [ yes q ↦ omega (arith, lo q) | no q ↦ omega (arith, hi (omega arith)) ]

    inside_of : (i : ℕ) → 0 < 0 + occ i (walk l f.head f.count) → (n ≤ i → occ i (walk l f.head f.count) ≡ 0) → i < length l
    inside_of i p hi = elim (dec_lt i n) [ yes q ↦ omega arith | no q ↦ absurd (omega (arith, hi (omega arith))) ]

-- ---- a push

pub fed_none : (s : State) (b : List ℕ) → length b ≡ 0 → Good s → Fed s s b
fed_none s [] e g = record { kept = kept_refl s g; wrote = sym (append-nil (text s)); grew = omega arith; stays = refl }
fed_none s (x ∷ b) e g = absurd (omega arith)

-- where the next byte goes: the last block where some of it is used, or else the first free one
abbrev pub next_block : ℕ → ℕ → ℕ → ℕ
next_block used tail free = cond (ltb 0 used) tail free

-- all blocks are one chain, the queue's first: b goes to where the queue ends, and the blocks up to its last byte are the queue's
module _ (l p l' : List ℕ) (f all : Free) (q : Queue) (n : ℕ) (good : Good (state l p f q)) (room : Room (state l p f q) n) (some : 0 < n) (gone : Kept (state l p f q) (state l' p all none)) (chain : frees l' all ≡ nodes l q ++ frees l f) where
  start : (used : ℕ) → used ≡ (q.from + q.unread) % BLOCK → hop l' all.head ((q.from + q.unread) / BLOCK) ≡ next_block used q.tail f.head
  start used e =
      let j = (q.from + q.unread) / BLOCK in
      let k = length-walk l q.head (size q) in
      hop-nth l' all.head all.count j (omega (arith, gone.total)) ∙ ap (λ (x : List ℕ). get_or x j 0) chain
      ∙ elim (dec_lt 0 used) [ yes h ↦ rw (lt-ltb 0 used h) (get_or-append (nodes l q) (frees l f) 0 j (omega arith) ∙ sym (hop-nth l q.head (size q) j (omega arith)) ∙ good.last j (omega arith)) | no h ↦ rw (le-ltb 0 used (omega arith)) (let z : j ≡ length (nodes l q) + 0 = omega arith in ap (λ (i : ℕ). get_or (nodes l q ++ frees l f) i 0) z ∙ get_or-append-add (nodes l q) (frees l f) 0 0 ∙ sym (hop-nth l f.head f.count 0 (omega arith))) ]

  module _ (need c : ℕ) (cut : all.count ≡ need + c) (long : q.from + q.unread ≤ need * BLOCK) where
    part : (i : ℕ) → occ i (walk l' all.head need) ≤ occ i (walk l' all.head all.count)
    part i = omega (arith, ap (λ (k : ℕ). occ i (walk l' all.head k)) cut, ap (occ i) (walk_add l' all.head need c), occ_append i (walk l' all.head need) (walk l' (hop l' all.head need) c))

    laid : Laid l' p all.head need
    laid = record { once = λ i. omega (arith, part i, gone.good.once i); inside = λ i h. gone.good.inside i (omega (arith, part i)); pooled = gone.good.pooled }

    sized : length (bytes p (walk l' all.head need)) ≡ need * BLOCK
    sized = length-bytes p (walk l' all.head need) (length l') gone.good.pooled laid.inside ∙ ap (λ (k : ℕ). k * BLOCK) (length-walk l' all.head need)

    -- the queue's bytes are the chain's first
    first : take q.unread (drop q.from (bytes p (walk l' all.head need))) ≡ content l p q
    first =
        let x = bytes p (walk l' all.head need) in
        let y = bytes p (walk l' (hop l' all.head need) c) in
        let e : x ++ y ≡ bytes p (nodes l q) ++ bytes p (frees l f) = sym (bytes_append p (walk l' all.head need) (walk l' (hop l' all.head need) c)) ∙ ap (bytes p) (sym (ap (walk l' all.head) cut ∙ walk_add l' all.head need c) ∙ chain) ∙ bytes_append p (nodes l q) (frees l f) in
        let k = length-bytes p (nodes l q) (length l) good.pooled (λ i h. good.inside i (omega arith)) in
        sym (view_more x y q.from q.unread (omega (arith, sized)))
        ∙ ap (λ (v : List ℕ). take q.unread (drop q.from v)) e
        ∙ view_more (bytes p (nodes l q)) (bytes p (frees l f)) q.from q.unread (omega (arith, length-walk l q.head (size q)))

le_zero : {a b : ℕ} → a ≤ b → b ≡ 0 → a ≡ 0
le_zero h e = omega arith

-- the blocks that e bytes and then n more are in
ends : (e n used x : ℕ) → used ≡ e % BLOCK → x ≡ e + n → 0 < n
    → (e / BLOCK + (hold (used + n) - 1) ≡ hold x - 1) × (suc (hold x - 1) ≡ hold x) × (e / BLOCK < hold x) × (e / BLOCK * BLOCK + (used + n) ≤ hold x * BLOCK) × (e / BLOCK * BLOCK + used ≡ e) × (e ≤ hold x * BLOCK)
ends e n used x e₁ e₂ some = (omega arith, omega arith, omega arith, omega arith, omega arith, omega arith)

pub fed : (l p l' p' : List ℕ) (f all : Free) (q : Queue) (b : List ℕ) (used at tail next count : ℕ) → used ≡ (q.from + q.unread) % BLOCK → at ≡ next_block used q.tail f.head → tail ≡ hop l' at (hold (used + length b) - 1) → next ≡ get_or l' tail 0
    → count ≡ f.count + size q - hold (q.from + (q.unread + length b)) → 0 < length b → length p' ≡ length p → Scatters l' p at used (used + length b) b p'
    → Good (state l p f q) → Room (state l p f q) (length b) → Kept (state l p f q) (state l' p all none) → frees l' all ≡ nodes l q ++ frees l f
    → Fed (state l p f q) (state l' p' (record { head = next; count = count }) (record { head = all.head; tail = tail; from = q.from; unread = q.unread + length b })) b
fed l p l' p' f all q b used at tail next count e₁ e₂ e₃ e₄ e₅ some same scatters good room gone chain =
    let e : ℕ = q.from + q.unread in
    let u : ℕ = q.unread + length b in
    let sum : q.from + u ≡ e + length b = omega arith in
    let at_end = ends e (length b) used (q.from + u) e₁ sum some in
    let need : ℕ = hold (q.from + u) in
    let cut : all.count ≡ need + count = omega (arith, gone.total, room.0) in
    let s = state l p f q in
    let s₁ = state l' p all none in
    let x = bytes p (walk l' all.head need) in
    let found : hop l' all.head (e / BLOCK) ≡ at = start l p l' f all q (length b) good room some gone chain used e₁ ∙ sym e₂ in
    let last : tail ≡ hop l' all.head (need - 1) = e₃ ∙ ap (λ (i : ℕ). hop l' i (hold (used + length b) - 1)) (sym found) ∙ sym (hop_add l' all.head (e / BLOCK) (hold (used + length b) - 1)) ∙ ap (hop l' all.head) at_end.0 in
    let after : next ≡ hop l' all.head need = e₄ ∙ ap (λ (i : ℕ). get_or l' i 0) last ∙ sym (hop-suc l' all.head (need - 1)) ∙ ap (hop l' all.head) at_end.1 in
    let w = scatters all.head need (e / BLOCK) at_end.2 (laid l p l' f all q (length b) good room some gone chain need count cut at_end.5) found at_end.3 in
    let size' : e ≤ length x = subst (λ (k : ℕ). e ≤ k) (sym (sized l p l' f all q (length b) good room some gone chain need count cut at_end.5)) at_end.5 in
    let kept₁ = taken l' p p' all.head all.count need count q.from u gone.good cut same good.starts (λ i h. w.1 i (le_zero (part l p l' f all q (length b) good room some gone chain need count cut at_end.5 i) h)) in
    record {
      kept = kept_trans s s₁ _ gone (rw (last, after) kept₁);
      wrote =
          ap (λ (v : List ℕ). take u (drop q.from v)) (w.0 ∙ ap (λ (i : ℕ). put x i b) at_end.4)
          ∙ view_push (take e x) b (drop (e + length b) x) (drop e x) q.from q.unread (length-take-le e x size')
          ∙ ap (λ (v : List ℕ). take q.unread (drop q.from v) ++ b) (take-append-drop e x)
          ∙ ap (λ (v : List ℕ). v ++ b) (first l p l' f all q (length b) good room some gone chain need count cut at_end.5);
      grew = refl;
      stays = refl;
    }

-- ---- a pop

-- the first n bytes are copied, then passed over
pub drawn : (l p l' : List ℕ) (f : Free) (q : Queue) (r : Pushed) (out part : List ℕ) (n from : ℕ) → n ≡ min (length out) q.unread → from ≡ q.from % BLOCK → length part ≡ length (take n out)
    → Gathers l p q.head from (from + length (take n out)) (length (take n out)) part → r.queue.unread + n ≡ q.unread → Passes l f q n l' r
    → Good (state l p f q) → Drawn (state l p f q) (state l' p r.free r.queue) out (part ++ drop n out) n
drawn l p l' f q r out part n from e₁ e₂ same gathers left passes good =
    let k = passes p good in
    let m : length (take n out) ≡ n = length-take-le n out (omega arith) in
    let x = bytes p (nodes l q) in
    let e₃ : from ≡ q.from = omega (arith, good.starts) in
    let laid : Laid l p q.head (size q) = record { once = λ i. omega (arith, good.once i); inside = λ i h. good.inside i (omega arith); pooled = good.pooled } in
    let got : 0 < n → take n part ≡ take n (content l p q) = λ some. subst (λ (i : ℕ). take i part ≡ take i (drop from x)) m (gathers (size q) (omega arith) laid (omega arith)) ∙ ap (λ (i : ℕ). take n (drop i x)) e₃ ∙ sym (take-take n q.unread (drop q.from x) (omega arith)) in
    record {
      kept = k.0;
      gave = take_at part (drop n out) n (same ∙ m) ∙ sym (take_all n part (omega arith)) ∙ elim (dec_lt 0 n) [ yes h ↦ got h | no h ↦ let z : n ≡ 0 = omega arith in ap (λ (i : ℕ). take i part) z ∙ sym (ap (λ (i : ℕ). take i (content l p q)) z) ];
      rest = drop_at part (drop n out) n (same ∙ m);
      keeps = k.1;
      left = left;
      next = k.2;
    }

-- there are as many unread bytes as the queue says
pub content-length : (l p : List ℕ) (f : Free) (q : Queue) → Good (state l p f q) → length (content l p q) ≡ q.unread
content-length l p f q g =
    let x = bytes p (walk l q.head (size q)) in
    length-take q.unread (drop q.from x)
    ∙ omega (arith, length-drop q.from x, length-bytes p (walk l q.head (size q)) (length l) g.pooled (λ i h. g.inside i (omega arith)), length-walk l q.head (size q))
