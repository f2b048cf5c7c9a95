-- A number's groups one by one: however many are left, at any place, weight and sum. Groups has them at the places and weights of
-- `read_number`. Assumes nothing.
use native.Mathlib.Nat.{pow-succ', one-le-pow}
use Rattle.std.proofs.Common.{Ok, Err, ◌≡◌, refl, sym, ap, ◌∙◌, Bool, true, false, List, ℕ, zero, suc, ◌+◌, ◌-◌, ◌*◌, ◌%◌, ◌^◌, ◌≤◌, ◌<◌, mul_assoc, mul-one, mul-le-mul_left, mul-le-mul_right, zero-lt-suc, arith, length, get_or, ltb, lt-ltb, le-ltb, ltb-true, ltb-false}
use Rattle.trace_events.specs.Numbers.{groups}
use Rattle.trace_events.specs.declared.Unreadable.TheVariants.{Short, Bad}

-- what the groups that are left are worth together with those passed: nine groups hold 63 bits
abbrev pub Weighs : ℕ → ℕ → Type 0
Weighs weight left = weight * 128 ^ left ≡ 9223372036854775808

pub weighs_more : (w left : ℕ) → Weighs w (suc left) → Weighs (w * 128) left
weighs_more w left e = mul_assoc w 128 (128 ^ left) ∙ ap (λ (x : ℕ). w * x) (sym (pow-succ' 128 left)) ∙ e

pub weighs_le : (w left : ℕ) → Weighs w left → w ≤ 9223372036854775808
weighs_le w left e =
    let l : w * 1 ≤ w * 128 ^ left = mul-le-mul_left w (one-le-pow left 128 (zero-lt-suc 127)) in
    omega (arith, mul-one w)

pub weighs_next : (w left : ℕ) → 0 < left → Weighs w left → Weighs (w * 128) (left - 1)
weighs_next w zero h e = omega arith
weighs_next w (suc n) h e =
    let m : suc n - 1 ≡ n = omega arith in
    rw m (weighs_more w n e)

-- no group left of nine: the tenth is worth 2^63
pub last_weight : (w left : ℕ) → left ≤ 0 → Weighs w left → w ≡ 9223372036854775808
last_weight w zero h e = sym (mul-one w) ∙ e
last_weight w (suc n) h e = absurd (omega arith)

-- a group that is not the tenth: its product and the sum with it fit, and so does the next weight
pub next_fits : (w left : ℕ) → 0 < left → Weighs w left → w * 128 ≤ 9223372036854775808
next_fits w left h e = weighs_le (w * 128) (left - 1) (weighs_next w left h e)

-- a group added to a sum below its weight stays below the next weight
pub group_fits : (w sum g : ℕ) → sum < w → g < 128 → sum + g * w < w * 128
group_fits w sum g h l =
    let m : g * w ≤ 127 * w = mul-le-mul_right w (omega arith) in
    omega arith

module _ (s : List ℕ) (p w v : ℕ) where
  pub cut : (k : ℕ) → length s ≤ p → groups (suc k) s p w v ≡ Err Short
  unfolding groups
  cut k h = rw (le-ltb _ _ h)

  pub ends : (k b : ℕ) → p < length s → b ≡ get_or s p 0 → v + b % 128 * w < 2 ^ 64 → b < 128 → groups (suc k) s p w v ≡ Ok (record { value = v + b % 128 * w; next = p + 1 })
  unfolding groups
  ends k b h e f g = rw (← e, lt-ltb _ _ h, lt-ltb _ _ f, lt-ltb _ _ g)

  pub goes_on : (k b : ℕ) → p < length s → b ≡ get_or s p 0 → v + b % 128 * w < 2 ^ 64 → 128 ≤ b → groups (suc k) s p w v ≡ groups k s (p + 1) (w * 128) (v + b % 128 * w)
  unfolding groups
  goes_on k b h e f g = rw (← e, lt-ltb _ _ h, lt-ltb _ _ f, le-ltb _ _ g)

  pub past : (k b : ℕ) → p < length s → b ≡ get_or s p 0 → 2 ^ 64 ≤ v + b % 128 * w → groups (suc k) s p w v ≡ Err Bad
  unfolding groups
  past k b h e f = rw (← e, lt-ltb _ _ h, le-ltb _ _ f)

pub at_tenth : (s : List ℕ) (p w v left : ℕ) → left ≤ 0 → Weighs w left → groups (suc left) s p w v ≡ groups 1 s p 9223372036854775808 v
at_tenth s p w v left h e =
    let z : left ≡ 0 = omega arith in
    ap (λ (k : ℕ). groups (suc k) s p w v) z ∙ ap (λ (x : ℕ). groups 1 s p x v) (last_weight w left h e)

no_eleventh : (s : List ℕ) (p w v : ℕ) → groups 0 s p w v ≡ Err Bad
unfolding groups
no_eleventh s p w v = refl

-- the tenth group is 0 or 1, and no group follows it
pub tenth_bad : (s : List ℕ) (p v b : ℕ) → p < length s → b ≡ get_or s p 0 → v < 9223372036854775808 → 1 < b → groups 1 s p 9223372036854775808 v ≡ Err Bad
tenth_bad s p v b h e l g = go (ltb (b % 128) 2) refl
  where
    go : (t : Bool) → ltb (b % 128) 2 ≡ t → groups 1 s p 9223372036854775808 v ≡ Err Bad
    go true q =
        let m : b % 128 < 2 = ltb-true _ _ q in
        goes_on s p 9223372036854775808 v 0 b h e (omega arith) (omega arith) ∙ no_eleventh s (p + 1) _ _
    go false q =
        let m : 2 ≤ b % 128 = ltb-false _ _ q in
        past s p 9223372036854775808 v 0 b h e (omega arith)
