-- Laws of a piece: blocks that follow each other in a chain and in the pool, read or written at once. Assumes nothing.
use Rattle.std.proofs.Common.{◌≡◌, refl, sym, ap, subst, ◌∙◌, List, [], ◌++◌, ℕ, suc, ◌+◌, ◌-◌, ◌*◌, ◌/◌, ◌%◌, min, ◌≤◌, ◌<◌, zero-add, add-one, arith, length, get_or, take, drop, length-take, length-drop, drop-drop, take-add, take_at, length-take-le}
use native.Mathlib.Decide.{dec_lt}
use lib.Seq.{drop-append-add, take-length}
use Rattle.chunks.specs.Chain.{walk, hop, occ, upto}
use Rattle.chunks.specs.Blocks.{BLOCK, hold, block, bytes, put}
use Rattle.chunks.specs.Steps.{Lined, Lies, Laid, Gathers, Scatters}
use Rattle.chunks.specs.declared.copies.Piece.{Piece}
use Rattle.chunks.proofs.Chains.{occ_append, walk_add, walk-upto, hop-suc, hop_add, hop-upto, length-walk, bytes_append, bytes_same, bytes-upto, length-bytes, upto_in}
use Rattle.chunks.proofs.Parts.{view_more, put-before, put-after, put_window, put_mid, put-more, put-none, window_part, part-front, length_mid}

-- one block more
pub lined_more : (l : List ℕ) (at last : ℕ) → Lined l at last → get_or l last 0 ≡ last + 1 → Lined l at (last + 1)
lined_more l at last h e k p q = elim (dec_lt k last) [ yes r ↦ h k p r | no r ↦ let z : k ≡ last = omega arith in ap (λ (i : ℕ). get_or l i 0) z ∙ e ∙ add-one last ∙ ap suc (sym z) ]

-- the last block that x bytes from the chain's start are in; where more follow, these bytes fill their blocks
pub record Stands (l : List ℕ) (at x rest last : ℕ) : Type 0 where
  pub here : last ≡ hop l at (hold x - 1)
  pub full : 0 < rest → (0 < x) × (x % BLOCK ≡ 0)

-- the first block alone
pub stands_first : (l : List ℕ) (at from n got : ℕ) → from < BLOCK → got ≤ BLOCK - from → (got < n → got ≡ BLOCK - from) → Stands l at (from + got) (n - got) at
stands_first l at from n got h most full =
    let e : 0 ≡ hold (from + got) - 1 = omega arith in
    record { here = ap (hop l at) e; full = λ some. let z : got ≡ BLOCK - from = full (omega arith) in (omega arith, omega arith) }

-- a piece right after the last block: where it starts, and where it ends
module _ (l : List ℕ) (at x need last node : ℕ) (r : Piece) (stands : Stands l at x need last) (link : node ≡ get_or l last 0) (lies : Lies l node need r) where
  piece-starts : hop l at (x / BLOCK) ≡ node
  piece-starts =
      let s = stands.full (omega (arith, lies.some, lies.most)) in
      let e : x / BLOCK ≡ suc (hold x - 1) = omega (arith, s.0, s.1) in
      ap (hop l at) e ∙ hop-suc l at (hold x - 1) ∙ ap (λ (k : ℕ). get_or l k 0) (sym stands.here) ∙ sym link

  piece-stands : Stands l at (x + r.len) (need - r.len) r.last
  piece-stands =
      let s = stands.full (omega (arith, lies.some, lies.most)) in
      let e : hold (x + r.len) - 1 ≡ x / BLOCK + (hold r.len - 1) = omega (arith, s.0, s.1, lies.some) in
      let z : node + (hold r.len - 1) ≡ r.last = omega (arith, lies.ends, lies.some) in
      let go : hop l node (hold r.len - 1) ≡ node + (hold r.len - 1) = hop-upto l node (hold r.len - 1) (λ k p q. lies.lined k p (omega arith)) in
      record {
        here = sym (ap (hop l at) e ∙ hop_add l at (x / BLOCK) (hold r.len - 1) ∙ ap (λ (k : ℕ). hop l k (hold r.len - 1)) piece-starts ∙ go ∙ z);
        full = λ more. (omega (arith, s.0), let f : r.len % BLOCK ≡ 0 = lies.full (omega arith) in omega (arith, s.1));
      }

-- a turn that goes on from `done` of n bytes stands past its piece
pub stands_on : (l : List ℕ) (at from done n last node : ℕ) (r : Piece) → Stands l at (from + done) (n - done) last → node ≡ get_or l last 0 → Lies l node (n - done) r
    → Stands l at (from + (done + r.len)) (n - (done + r.len)) r.last
stands_on l at from done n last node r stands link lies =
    let e₁ : from + done + r.len ≡ from + (done + r.len) = omega arith in
    let e₂ : n - done - r.len ≡ n - (done + r.len) = omega arith in
    rw (← e₁, ← e₂) (piece-stands l at (from + done) (n - done) last node r stands link lies)

-- h blocks after the first j of a chain's n, from block `node` on
module _ (l p : List ℕ) (at n j h c node : ℕ) (laid : Laid l p at n) (some : 0 < h) (whole : n ≡ j + (h + c)) (found : hop l at j ≡ node) (lined : (k : ℕ) → node ≤ k → suc k < node + h → get_or l k 0 ≡ suc k) where
  cut : walk l at n ≡ walk l at j ++ (upto node h ++ walk l (hop l node h) c)
  cut =
      ap (walk l at) whole ∙ walk_add l at j (h + c) ∙ ap (λ (k : ℕ). walk l at j ++ walk l k (h + c)) found
      ∙ ap (λ (r : List ℕ). walk l at j ++ r) (walk_add l node h c ∙ ap (λ (r : List ℕ). r ++ walk l (hop l node h) c) (walk-upto l node h lined))

  count : (i : ℕ) → occ i (walk l at n) ≡ occ i (walk l at j) + occ i (upto node h) + occ i (walk l (hop l node h) c)
  count i = omega (arith, ap (occ i) cut, occ_append i (walk l at j) (upto node h ++ walk l (hop l node h) c), occ_append i (upto node h) (walk l (hop l node h) c))

  in-pool : (node + h) * BLOCK ≤ length p
  in-pool =
      let k : ℕ = node + (h - 1) in
      let i : k < length l = laid.inside k (omega (arith, count k, upto_in k node h (omega arith) (omega arith))) in
      omega (arith, laid.pooled)

  front : length (bytes p (walk l at j)) ≡ j * BLOCK
  front = length-bytes p (walk l at j) (length l) laid.pooled (λ i q. laid.inside i (omega (arith, count i))) ∙ ap (λ (k : ℕ). k * BLOCK) (length-walk l at j)

  parts : (x : List ℕ) → bytes x (walk l at n) ≡ bytes x (walk l at j) ++ (take (h * BLOCK) (drop (node * BLOCK) x) ++ bytes x (walk l (hop l node h) c))
  parts x =
      ap (bytes x) cut ∙ bytes_append x (walk l at j) (upto node h ++ walk l (hop l node h) c)
      ∙ ap (λ (r : List ℕ). bytes x (walk l at j) ++ r) (bytes_append x (upto node h) (walk l (hop l node h) c) ∙ ap (λ (r : List ℕ). r ++ bytes x (walk l (hop l node h) c)) (bytes-upto x node h))

  window : length (take (h * BLOCK) (drop (node * BLOCK) p)) ≡ h * BLOCK
  window = length-take (h * BLOCK) (drop (node * BLOCK) p) ∙ omega (arith, length-drop (node * BLOCK) p, in-pool)

  read-piece : (x o m : ℕ) → x ≡ j * BLOCK + o → o + m ≤ h * BLOCK → take m (drop x (bytes p (walk l at n))) ≡ take m (drop (node * BLOCK + o) p)
  read-piece x o m e room =
      let a = bytes p (walk l at j) in
      let y = take (h * BLOCK) (drop (node * BLOCK) p) in
      let z = bytes p (walk l (hop l node h) c) in
      let s : x ≡ length a + o = omega (arith, front) in
      ap (λ (v : List ℕ). take m (drop x v)) (parts p)
      ∙ ap (λ (k : ℕ). take m (drop k (a ++ (y ++ z)))) s
      ∙ ap (λ (v : List ℕ). take m v) (drop-append-add a (y ++ z) o)
      ∙ view_more y z o m (omega (arith, window))
      ∙ window_part p (node * BLOCK) (h * BLOCK) o m room

  module _ (b : List ℕ) (x o : ℕ) (e : x ≡ j * BLOCK + o) (room : o + length b ≤ h * BLOCK) where
    others : (i : ℕ) → occ i (upto node h) ≡ 0 → block (put p (node * BLOCK + o) b) i ≡ block p i
    unfolding block
    others i none = elim (dec_lt i node) [ yes q ↦ put-before p b (node * BLOCK + o) (omega (arith, in-pool)) (i * BLOCK) BLOCK (omega arith) | no q ↦ elim (dec_lt i (node + h)) [ yes r ↦ absurd (omega (arith, upto_in i node h (omega arith) r)) | no r ↦ put-after p b (node * BLOCK + o) (omega (arith, in-pool)) (i * BLOCK) BLOCK (omega arith) ] ]

    write-others : (i : ℕ) → occ i (walk l at n) ≡ 0 → block (put p (node * BLOCK + o) b) i ≡ block p i
    write-others i none = others i (omega (arith, count i))

    write-piece : bytes (put p (node * BLOCK + o) b) (walk l at n) ≡ put (bytes p (walk l at n)) x b
    write-piece =
        let p' = put p (node * BLOCK + o) b in
        let a = bytes p (walk l at j) in
        let y = take (h * BLOCK) (drop (node * BLOCK) p) in
        let z = bytes p (walk l (hop l node h) c) in
        let e₁ : bytes p' (walk l at j) ≡ a = bytes_same p p' (walk l at j) (λ i q. others i (omega (arith, count i, laid.once i))) in
        let e₂ : bytes p' (walk l (hop l node h) c) ≡ z = bytes_same p p' (walk l (hop l node h) c) (λ i q. others i (omega (arith, count i, laid.once i))) in
        let e₃ : take (h * BLOCK) (drop (node * BLOCK) p') ≡ put y o b = put_window p b (node * BLOCK) o (h * BLOCK) room (omega (arith, in-pool)) in
        parts p'
        ∙ ap (λ (v : List ℕ). v ++ (take (h * BLOCK) (drop (node * BLOCK) p') ++ bytes p' (walk l (hop l node h) c))) e₁
        ∙ ap (λ (v : List ℕ). a ++ (v ++ bytes p' (walk l (hop l node h) c))) e₃
        ∙ ap (λ (v : List ℕ). a ++ (put y o b ++ v)) e₂
        ∙ sym (put_mid a y z b (j * BLOCK) o front (omega (arith, window)))
        ∙ ap (λ (v : List ℕ). put v (j * BLOCK + o) b) (sym (parts p))
        ∙ ap (λ (k : ℕ). put (bytes p (walk l at n)) k b) (sym e)

-- ---- a piece is read: out had the chain's first `got` bytes before

gather_piece : (l p : List ℕ) (at from most got o m h node : ℕ) (out part : List ℕ) → Gathers l p at from most got out
    → 0 < h → hop l at ((from + got) / BLOCK) ≡ node → o ≡ (from + got) % BLOCK → o + m ≤ h * BLOCK → ((n : ℕ) → 0 < n → most ≤ n * BLOCK → (from + got) / BLOCK + h ≤ n) → ((k : ℕ) → node ≤ k → suc k < node + h → get_or l k 0 ≡ suc k)
    → (node * BLOCK + o + m ≤ length p → part ≡ take m (drop (node * BLOCK + o) p))
    → (n : ℕ) → 0 < n → Laid l p at n → most ≤ n * BLOCK → take got out ++ part ≡ take (got + m) (drop from (bytes p (walk l at n)))
gather_piece l p at from most got o m h node out part was some found e room fits lined drained n any laid long =
    let j = (from + got) / BLOCK in
    let c : ℕ = n - (j + h) in
    let whole : n ≡ j + (h + c) = omega (arith, fits n any long) in
    let x = drop from (bytes p (walk l at n)) in
    let here : take m (drop (from + got) (bytes p (walk l at n))) ≡ take m (drop (node * BLOCK + o) p) = read-piece l p at n j h c node laid some whole found lined (from + got) o m (omega arith) room in
    ap (λ (v : List ℕ). v ++ part) (was n any laid long)
    ∙ ap (λ (v : List ℕ). take got x ++ v) (drained (omega (arith, in-pool l p at n j h c node laid some whole found lined)) ∙ sym here ∙ ap (λ (v : List ℕ). take m v) (sym (drop-drop got from (bytes p (walk l at n)))))
    ∙ sym (take-add got m x)

-- from the first block
pub gather_first : (l p : List ℕ) (at from most m : ℕ) (out part : List ℕ) → from + m ≤ BLOCK → from < BLOCK → m ≤ length out → length part ≡ length (take m out)
    → (at * BLOCK + from + length (take m out) ≤ length p → part ≡ take (length (take m out)) (drop (at * BLOCK + from) p))
    → Gathers l p at from most m (part ++ drop m out)
gather_first l p at from most m out part room starts h same drained n any laid long =
    let e : length (take m out) ≡ m = length-take-le m out h in
    let z : (from + 0) / BLOCK ≡ 0 = omega arith in
    take_at part (drop m out) m (same ∙ e)
    ∙ gather_piece l p at from most 0 from m 1 at [] part (λ n any laid long. refl) (omega arith) (ap (hop l at) z) (omega arith) (omega arith) (λ n some long. omega arith) (λ k p q. absurd (omega arith)) (subst (λ (k : ℕ). at * BLOCK + from + k ≤ length p → part ≡ take k (drop (at * BLOCK + from) p)) e drained) n any laid long
    ∙ ap (λ (k : ℕ). take k (drop from (bytes p (walk l at n)))) (zero-add m)

-- right after the last block
pub gather_next : (l p : List ℕ) (at from most got need last node : ℕ) (r : Piece) (out part : List ℕ) → Stands l at (from + got) need last → node ≡ get_or l last 0 → Lies l node need r
    → from + (got + r.len) ≤ most → got + r.len ≤ length out → length part ≡ got + r.len - got → Gathers l p at from most got out
    → (node * BLOCK + 0 + length (take (got + r.len - got) (drop got out)) ≤ length p → part ≡ take (length (take (got + r.len - got) (drop got out))) (drop (node * BLOCK + 0) p))
    → Gathers l p at from most (got + r.len) (take got out ++ (part ++ drop (got + r.len - got) (drop got out)))
gather_next l p at from most got need last node r out part stands link lies h₁ h₂ same was drained n any laid long =
    let e : length (take (got + r.len - got) (drop got out)) ≡ r.len = length_mid out got (got + r.len) h₂ ∙ omega arith in
    let s = stands.full (omega (arith, lies.some, lies.most)) in
    part-front out part got (got + r.len) (omega arith) h₂ same
    ∙ gather_piece l p at from most got 0 r.len (hold r.len) node out part was (omega (arith, lies.some)) (piece-starts l at (from + got) need last node r stands link lies) (omega (arith, s.1)) (omega arith) (λ n some long. omega (arith, s.1)) (λ k p q. lies.lined k p (omega (arith, lies.ends))) (subst (λ (k : ℕ). node * BLOCK + 0 + k ≤ length p → part ≡ take k (drop (node * BLOCK + 0) p)) e drained) n any laid long

-- ---- a piece is written: b, of d bytes, was written before

scatter_piece : (l p p₁ p₂ : List ℕ) (at used most d o h node : ℕ) (b part : List ℕ) → Scatters l p at used most b p₁ → length p₁ ≡ length p → length b ≡ d → used + d ≤ most
    → 0 < h → hop l at ((used + d) / BLOCK) ≡ node → o ≡ (used + d) % BLOCK → o + length part ≤ h * BLOCK → ((n : ℕ) → 0 < n → most ≤ n * BLOCK → (used + d) / BLOCK + h ≤ n) → ((k : ℕ) → node ≤ k → suc k < node + h → get_or l k 0 ≡ suc k)
    → (node * BLOCK + o + length part ≤ length p₁ → p₂ ≡ put p₁ (node * BLOCK + o) part)
    → Scatters l p at used most (b ++ part) p₂
scatter_piece l p p₁ p₂ at used most d o h node b part was same size within some found e room fits lined filled head n i below laid start long =
    let j : ℕ = i + (used + d) / BLOCK in
    let c : ℕ = n - (j + h) in
    let laid₁ : Laid l p₁ head n = record { once = laid.once; inside = laid.inside; pooled = omega (arith, laid.pooled) } in
    let whole : n ≡ j + (h + c) = omega (arith, fits (n - i) (omega arith) (omega arith)) in
    let there : hop l head j ≡ node = hop_add l head i ((used + d) / BLOCK) ∙ ap (λ (k : ℕ). hop l k ((used + d) / BLOCK)) start ∙ found in
    let y : i * BLOCK + used + length b ≡ j * BLOCK + o = omega arith in
    let w = was head n i below laid start long in
    let z = bytes p (walk l head n) in
    let f = filled (omega (arith, in-pool l p₁ head n j h c node laid₁ some whole there lined)) in
    let long' : length z ≡ n * BLOCK = length-bytes p (walk l head n) (length l) laid.pooled laid.inside ∙ ap (λ (k : ℕ). k * BLOCK) (length-walk l head n) in
    rw f (
      write-piece l p₁ head n j h c node laid₁ some whole there lined part (i * BLOCK + used + length b) o y room
          ∙ ap (λ (v : List ℕ). put v (i * BLOCK + used + length b) part) w.0
          ∙ put-more z b (i * BLOCK + used) (omega arith) part,
      λ k none. write-others l p₁ head n j h c node laid₁ some whole there lined part (i * BLOCK + used + length b) o y room k none ∙ w.1 k none,
    )

-- from the first block
pub scatter_first : (l p p' : List ℕ) (at used most : ℕ) (b : List ℕ) → used < BLOCK → used + length b ≤ BLOCK → used ≤ most → (at * BLOCK + used + length b ≤ length p → p' ≡ put p (at * BLOCK + used) b) → Scatters l p at used most b p'
scatter_first l p p' at used most b starts room within filled =
    let z : (used + 0) / BLOCK ≡ 0 = omega arith in
    scatter_piece l p p p' at used most 0 used 1 at [] b (λ head n i below laid start long. (sym (put-none (bytes p (walk l head n)) (i * BLOCK + used)), λ k none. refl)) refl refl (omega arith) (omega arith) (ap (hop l at) z) (omega arith) (omega arith) (λ n some long. omega arith) (λ k p q. absurd (omega arith)) filled

-- right after the last block
pub scatter_next : (l p p₁ p₂ : List ℕ) (at used done need last node : ℕ) (r : Piece) (body : List ℕ) → Stands l at (used + done) need last → node ≡ get_or l last 0 → Lies l node need r
    → done + r.len ≤ length body → length p₁ ≡ length p → Scatters l p at used (used + length body) (take done body) p₁
    → (node * BLOCK + 0 + length (take (done + r.len - done) (drop done body)) ≤ length p₁ → p₂ ≡ put p₁ (node * BLOCK + 0) (take (done + r.len - done) (drop done body)))
    → Scatters l p at used (used + length body) (take (done + r.len) body) p₂
scatter_next l p p₁ p₂ at used done need last node r body stands link lies h same was filled =
    let m : ℕ = done + r.len - done in
    let e : length (take m (drop done body)) ≡ r.len = length_mid body done (done + r.len) h ∙ omega arith in
    let k : done + m ≡ done + r.len = omega arith in
    let s = stands.full (omega (arith, lies.some, lies.most)) in
    subst (λ (b : List ℕ). Scatters l p at used (used + length body) b p₂) (sym (take-add done m body) ∙ ap (λ (i : ℕ). take i body) k)
    (scatter_piece l p p₁ p₂ at used (used + length body) done 0 (hold r.len) node (take done body) (take m (drop done body)) was same (length-take-le done body (omega arith)) (omega arith) (omega (arith, lies.some)) (piece-starts l at (used + done) need last node r stands link lies) (omega (arith, s.1)) (omega arith) (λ n some long. omega (arith, s.1)) (λ k p q. lies.lined k p (omega (arith, lies.ends))) filled)

-- all of the body but `rest` is put into the chain, up to block `last`
pub record Written (l p : List ℕ) (at used : ℕ) (body rest : List ℕ) (last : ℕ) (p' : List ℕ) : Type 0 where
  pub done : ℕ
  pub total : done + length rest ≡ length body
  pub left : rest ≡ drop done body
  pub pooled : length p' ≡ length p
  pub stands : Stands l at (used + done) (length rest) last
  pub scatters : Scatters l p at used (used + length body) (take done body) p'

-- the front is put into the first block
pub written_first : (l p p' : List ℕ) (at used m : ℕ) (body front rest : List ℕ) → used < BLOCK → m ≡ min (length body) (BLOCK - used) → front ≡ take m body → rest ≡ drop m body → length p' ≡ length p
    → (at * BLOCK + used + length front ≤ length p → p' ≡ put p (at * BLOCK + used) front) → Written l p at used body rest at p'
written_first l p p' at used m body front rest starts e₁ e₂ e₃ same filled =
    let a : length front ≡ m = ap length e₂ ∙ length-take-le m body (omega arith) in
    let b : length rest ≡ length body - m = ap length e₃ ∙ length-drop m body in
    record {
      done = m;
      total = omega arith;
      left = e₃;
      pooled = same;
      stands = rw b (stands_first l at used (length body) m starts (omega arith) (λ h. omega arith));
      scatters = rw (← e₂) (scatter_first l p p' at used (used + length body) front starts (omega arith) (omega arith) filled);
    }

-- the part is put right after the last block
pub written_next : (l p p₁ p₂ : List ℕ) (at used last node : ℕ) (r : Piece) (body rest part more : List ℕ) → Written l p at used body rest last p₁ → node ≡ get_or l last 0 → Lies l node (length rest) r
    → part ≡ take r.len rest → more ≡ drop r.len rest → length p₂ ≡ length p₁ → (node * BLOCK + 0 + length part ≤ length p₁ → p₂ ≡ put p₁ (node * BLOCK + 0) part)
    → Written l p at used body more r.last p₂
written_next l p p₁ p₂ at used last node r body rest part more v link lies e₁ e₂ same filled =
    let a : length part ≡ r.len = ap length e₁ ∙ length-take-le r.len rest lies.most in
    let b : length more ≡ length rest - r.len = ap length e₂ ∙ length-drop r.len rest in
    let s = v.stands.full (omega (arith, lies.some, lies.most)) in
    let x : used + v.done + r.len ≡ used + (v.done + r.len) = omega arith in
    let y : take v.done body ++ part ≡ take (v.done + r.len) body = ap (λ (z : List ℕ). take v.done body ++ z) (e₁ ∙ ap (λ (z : List ℕ). take r.len z) v.left) ∙ sym (take-add v.done r.len body) in
    record {
      done = v.done + r.len;
      total = omega (arith, v.total, lies.most);
      left = e₂ ∙ ap (λ (z : List ℕ). drop r.len z) v.left ∙ drop-drop r.len v.done body;
      pooled = same ∙ v.pooled;
      stands = rw (← x, b) (piece-stands l at (used + v.done) (length rest) last node r v.stands link lies);
      scatters = subst (λ (z : List ℕ). Scatters l p at used (used + length body) z p₂) y
          (scatter_piece l p p₁ p₂ at used (used + length body) v.done 0 (hold r.len) node (take v.done body) part v.scatters v.pooled (length-take-le v.done body (omega (arith, v.total))) (omega (arith, v.total)) (omega (arith, lies.some)) (piece-starts l at (used + v.done) (length rest) last node r v.stands link lies) (omega (arith, s.1)) (omega arith) (λ n some long. omega (arith, s.1, v.total, lies.most)) (λ k p q. lies.lined k p (omega (arith, lies.ends))) filled);
    }

-- nothing is left
pub written_all : (l p p' : List ℕ) (at used last : ℕ) (body rest : List ℕ) → Written l p at used body rest last p' → length rest ≡ 0
    → (last ≡ hop l at (hold (used + length body) - 1)) × Scatters l p at used (used + length body) body p'
written_all l p p' at used last body rest v none =
    let e : v.done ≡ length body = omega (arith, v.total) in (
      v.stands.here ∙ ap (λ (k : ℕ). hop l at (hold (used + k) - 1)) e,
      subst (λ (b : List ℕ). Scatters l p at used (used + length body) b p') (ap (λ (k : ℕ). take k body) e ∙ take-length body) v.scatters,
    )
