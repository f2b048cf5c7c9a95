-- Laws of a part of a list that is replaced by one as long. Assumes nothing.
use Rattle.std.proofs.Common.{◌≡◌, refl, sym, ap, ◌∙◌, List, ◌++◌, append_assoc, ℕ, ◌+◌, ◌-◌, ◌≤◌, ◌<◌, arith, length, get_or, take, drop, length-append, length-drop, drop-drop, take-take, drop_at, take_at, length-take-le, get_or-take}
use lib.ListN.{get_or-append}
use lib.Seq.{take-append-le, drop-append-le, drop-append-add}
use Rattle.chunks.specs.Blocks.{put}
use Rattle.chunks.proofs.Parts.{drop-take}

module _ (t b : List ℕ) (a : ℕ) (fits : a + length b ≤ length t) where
  long : length (take a t) ≡ a
  long = length-take-le a t (omega arith)

  headed : length (take a t ++ b) ≡ a + length b
  headed = length-append (take a t) b ∙ ap (λ (k : ℕ). k + length b) long

  pub length-put : length (put t a b) ≡ length t
  length-put =
      length-append (take a t) (b ++ drop (a + length b) t)
      ∙ omega (arith, long, length-append b (drop (a + length b) t), length-drop (a + length b) t)

  pub put_same : take (length b) (drop a (put t a b)) ≡ b
  put_same =
      ap (λ (x : List ℕ). take (length b) x) (drop_at (take a t) (b ++ drop (a + length b) t) a long)
      ∙ take_at b (drop (a + length b) t) (length b) refl

  pub put-before : (c n : ℕ) → c + n ≤ a → take n (drop c (put t a b)) ≡ take n (drop c t)
  put-before c n h =
      ap (λ (x : List ℕ). take n x) (drop-append-le c (take a t) (b ++ drop (a + length b) t) (omega (arith, long)))
      ∙ take-append-le n (drop c (take a t)) (b ++ drop (a + length b) t) (omega (arith, long, length-drop c (take a t)))
      ∙ ap (λ (x : List ℕ). take n x) (drop-take c a t)
      ∙ take-take n (a - c) (drop c t) (omega arith)

  pub put-after : (c : ℕ) → a + length b ≤ c → drop c (put t a b) ≡ drop c t
  put-after c h =
      let m : ℕ = a + length b in
      let e : length (take a t ++ b) + (c - m) ≡ c = omega (arith, headed) in
      let e₂ : m + (c - m) ≡ c = omega arith in
      ap (λ (x : List ℕ). drop c x) (sym (append_assoc (take a t) b (drop m t)))
      ∙ ap (λ (n : ℕ). drop n ((take a t ++ b) ++ drop m t)) (sym e)
      ∙ drop-append-add (take a t ++ b) (drop m t) (c - m)
      ∙ drop-drop (c - m) m t
      ∙ ap (λ (n : ℕ). drop n t) e₂

  pub getD-put-before : (i d : ℕ) → i < a → get_or (put t a b) i d ≡ get_or t i d
  getD-put-before i d h =
      get_or-append (take a t) (b ++ drop (a + length b) t) d i (omega (arith, long)) ∙ get_or-take a t i d h
