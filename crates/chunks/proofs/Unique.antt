-- Two outcomes that meet a call's contract give the same bytes, counts and contents. Assumes nothing.
use Rattle.std.proofs.Common.{◌≡◌, sym, ap, ◌∙◌, subst, List, ◌++◌, ℕ, ◌+◌, arith, length, take, drop, take-append-drop}
use native.Mathlib.Decide.{dec_lt}
use Rattle.chunks.specs.Blocks.{hold}
use Rattle.chunks.specs.Store.{state, frees, Good, Room, Pushes, Drawn, Pops, Discards, Alike}
use Rattle.chunks.specs.declared.Free.{Free}
use Rattle.chunks.specs.declared.Queue.{Queue}
use Rattle.chunks.specs.declared.Pushed.{Pushed}
use Rattle.chunks.specs.declared.Popped.{Popped}

-- the same total, and as many blocks: as many are free
same_free : (c c' e e' t : ℕ) → e ≡ e' → c + hold e ≡ t → c' + hold e' ≡ t → c ≡ c'
same_free c c' e e' t h₁ h₂ h₃ = omega (arith, ap hold h₁)

module _ (l p : List ℕ) (f : Free) (q : Queue) (good : Good (state l p f q)) where
  pub push-unique : (b l₁ p₁ l₂ p₂ : List ℕ) (r₁ r₂ : Pushed) → Room (state l p f q) (length b)
      → Pushes l p f q b l₁ p₁ r₁ → Pushes l p f q b l₂ p₂ r₂ → Alike l₁ p₁ r₁.free r₁.queue l₂ p₂ r₂.free r₂.queue
  push-unique b l₁ p₁ l₂ p₂ r₁ r₂ room x y =
      let a = x.0 good room in
      let c = y.0 good room in
      let e₁ : r₁.queue.unread ≡ r₂.queue.unread = a.grew ∙ sym c.grew in
      let e₂ : r₁.queue.from ≡ r₂.queue.from = a.stays ∙ sym c.stays in
      record {
        contents = a.wrote ∙ sym c.wrote;
        unread = e₁;
        from = e₂;
        free = same_free _ _ (r₁.queue.from + r₁.queue.unread) (r₂.queue.from + r₂.queue.unread) _ (omega arith) a.kept.total c.kept.total;
      }

  pub pop-unique : (out l₁ out₁ l₂ out₂ : List ℕ) (r₁ r₂ : Popped)
      → Pops l p f q out l₁ out₁ r₁ → Pops l p f q out l₂ out₂ r₂
      → (r₁.count ≡ r₂.count) × (out₁ ≡ out₂) × Alike l₁ p r₁.free r₁.queue l₂ p r₂.free r₂.queue
  pop-unique out l₁ out₁ l₂ out₂ r₁ r₂ x y =
      let a = x.1 good in
      let c = y.1 good in
      let n : r₁.count ≡ r₂.count = a.0 ∙ sym c.0 in
      let d : Drawn (state l p f q) (state l₂ p r₂.free r₂.queue) out out₂ r₁.count = subst (λ (k : ℕ). Drawn (state l p f q) (state l₂ p r₂.free r₂.queue) out out₂ k) (sym n) c.1 in
      let e₁ : r₁.queue.unread ≡ r₂.queue.unread = omega (arith, a.1.left, d.left) in
      let e₂ : r₁.queue.from ≡ r₂.queue.from =
      elim (dec_lt 0 r₁.queue.unread) [
        | yes h ↦ a.1.next h ∙ sym (d.next (omega arith))
        | no h ↦ ap (λ (z : Queue). z.from) (x.0 (omega arith)) ∙ sym (ap (λ (z : Queue). z.from) (y.0 (omega arith)))
      ] in (
        n,
        sym (take-append-drop r₁.count out₁) ∙ ap (λ (z : List ℕ). z ++ drop r₁.count out₁) (a.1.gave ∙ sym d.gave)
            ∙ ap (λ (z : List ℕ). take r₁.count out₂ ++ z) (a.1.rest ∙ sym d.rest) ∙ take-append-drop r₁.count out₂,
        record {
          contents = a.1.keeps ∙ sym d.keeps;
          unread = e₁;
          from = e₂;
          free = same_free _ _ (r₁.queue.from + r₁.queue.unread) (r₂.queue.from + r₂.queue.unread) _ (omega arith) a.1.kept.total d.kept.total;
        },
      )

  pub discard-unique : (l₁ l₂ : List ℕ) (r₁ r₂ : Free) → Discards l f q l₁ r₁ → Discards l f q l₂ r₂ → (r₁.count ≡ r₂.count) × (frees l₁ r₁ ≡ frees l₂ r₂)
  discard-unique l₁ l₂ r₁ r₂ x y =
      let a = x p good in
      let c = y p good in
      (omega (arith, a.0.total, c.0.total), a.1 ∙ sym c.1)
