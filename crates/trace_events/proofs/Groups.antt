-- A number's groups one by one, at the places and weights at which `read_number` meets them; AnyGroups has them at any. Assumes nothing.
use native.Mathlib.Nat.{pow-le-pow_right}
use Rattle.std.proofs.Common.{Ok, Err, ◌≡◌, sym, ap, ◌∙◌, ◌⊎◌, inl, inr, List, ℕ, suc, ◌+◌, ◌-◌, ◌*◌, ◌%◌, ◌^◌, ◌≤◌, ◌<◌, mul-le-mul_right, zero-lt-suc, arith, length, get_or}
use Rattle.std.specs.List.{slice_range}
use Rattle.std.proofs.lemmas.List.{take_rest, get_or-drop}
use Rattle.trace_events.specs.Numbers.{groups}
use Rattle.trace_events.specs.declared.Unreadable.TheVariants.{Short, Bad}
use Rattle.trace_events.proofs.AnyGroups as any
pub use Rattle.trace_events.proofs.AnyGroups.{Weighs, weighs_more, weighs_le, weighs_next, last_weight, next_fits, group_fits, goes_on, at_tenth, tenth_bad}

-- the byte of the tenth group is 0 or 1
abbrev pub LastFits : ℕ → ℕ → Type 0
LastFits k b = ((k ≡ 9) × (b ≤ 1)) ⊎ (¬ (k ≡ 9))

-- the byte at a place
abbrev pub ByteAt : List ℕ → ℕ → ℕ → Type 0
ByteAt s p b = (p < length s) × (get_or s p 0 ≡ b)

-- a byte of the input from a place on
pub group_is : (s g : List ℕ) (at k b : ℕ) → g ≡ slice_range s at (length s) → length g + at ≡ length s → k < length g → b ≡ get_or g k 0 → ByteAt s (at + k) b
group_is s g at k b e l h i = (omega arith, sym (get_or-drop at s k 0) ∙ ap (λ (x : List ℕ). get_or x k 0) (sym (e ∙ take_rest s at)) ∙ sym i)

module _ (k w v : ℕ) (within : k < 10) (weighs : w ≡ 128 ^ k) (below : v < w) where
  -- the weight of a group that is not the tenth
  weight_small : k < 9 → w * 128 ≤ 9223372036854775808
  weight_small h =
      let p : 128 ^ k ≤ 128 ^ 8 = pow-le-pow_right (zero-lt-suc 127) {j = 8} (omega arith) in
      omega arith

  weight_last : k ≡ 9 → w ≡ 9223372036854775808
  weight_last h = weighs ∙ ap (λ (x : ℕ). 128 ^ x) h

  -- a group added to a sum below its weight stays below the next weight
  pub stays_below : (b : ℕ) → v + b % 128 * w < w * 128
  stays_below b = group_fits w v (b % 128) below (omega arith)

  pub sum_fits : (b : ℕ) → LastFits k b → v + b % 128 * w < 2 ^ 64
  sum_fits b (inl h) =
      let z : w ≡ 9223372036854775808 = weight_last h.0 in
      let m : b % 128 * w ≤ 1 * w = mul-le-mul_right w (omega arith) in
      omega arith
  sum_fits b (inr h) = omega (arith, weight_small (omega arith), stays_below b)

  pub weight_fits : (b : ℕ) → LastFits k b → 128 ≤ b → w * 128 < 2 ^ 64
  weight_fits b (inl h) l = absurd (omega arith)
  weight_fits b (inr h) l = omega (arith, weight_small (omega arith))

module _ (s : List ℕ) (at k w v : ℕ) (within : k < 10) (weighs : w ≡ 128 ^ k) (below : v < w) where
  one_of : groups (10 - k) s (at + k) w v ≡ groups (suc (9 - k)) s (at + k) w v
  one_of = let e : 10 - k ≡ suc (9 - k) = omega arith in rw e

  pub cut : length s ≤ at + k → groups (10 - k) s (at + k) w v ≡ Err Short
  cut h = one_of ∙ any.cut s (at + k) w v (9 - k) h

  module _ (b : ℕ) (here : ByteAt s (at + k) b) where
    pub ends : LastFits k b → b < 128 → groups (10 - k) s (at + k) w v ≡ Ok (record { value = v + b % 128 * w; next = at + k + 1 })
    ends f l = one_of ∙ any.ends s (at + k) w v (9 - k) b here.0 (sym here.1) (sum_fits k w v within weighs below b f) l

    pub continues : LastFits k b → 128 ≤ b → groups (10 - (k + 1)) s (at + (k + 1)) (w * 128) (v + b % 128 * w) ≡ groups (10 - k) s (at + k) w v
    continues f l =
        let e : 10 - (k + 1) ≡ 9 - k = omega arith in
        let p : at + (k + 1) ≡ at + k + 1 = omega arith in
        rw (e, p) (sym (one_of ∙ goes_on s (at + k) w v (9 - k) b here.0 (sym here.1) (sum_fits k w v within weighs below b f) l))

    -- the tenth group is neither 0 nor 1
    pub too_large : k ≡ 9 → 1 < b → groups (10 - k) s (at + k) w v ≡ Err Bad
    too_large h l =
        let z : w ≡ 9223372036854775808 = weight_last k w v within weighs below h in
        let e : 9 - k ≡ 0 = omega arith in
        one_of ∙ ap (λ (n : ℕ). groups (suc n) s (at + k) w v) e ∙ ap (λ (x : ℕ). groups 1 s (at + k) x v) z ∙ tenth_bad s (at + k) v b here.0 (sym here.1) (omega arith) l
