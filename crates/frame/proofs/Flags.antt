-- The flag word, bit by bit: joining sets a flag's own bit and no other, `contains` looks at that bit, and setters commute
-- and are idempotent. Stated once over the bit and the flag. Assumes nothing.
use Rattle.std.proofs.Common.{◌≡◌, refl, sym, ap, ◌∙◌, subst, Bool, true, false, cond, ℕ, zero, suc, ◌+◌, ◌-◌, ◌*◌, ◌/◌, ◌%◌, ◌^◌, ◌<◌, max, arith, zero-lt-suc, pow-suc, mod-lt, div-one, pow_pos, pow-add, eq-eqb, ne_eqb, eqb, bit_and, bit_or}
use native.Mathlib.Nat.{div-eq_of_lt, mul-mod_left, mul-div-mul_right}
use lib.Arith.{bin_ind}
use lib.Pow.{pow-lt}
use lib.Dec.{eqb-zero-suc, eqb-suc-zero, eqb-suc-suc}
use lib.Bits.{or_step, or_shr, or_comm, or_self, or_zero_r, or_lt, and_high}
use Rattle.frame.specs.Header.{contains, flagged, opening, closing, Flag, SYN, ACK, FIN, RST, position, bit, setter, opens, closes, has}
use Rattle.frame.specs.Wire.{InRange}
use Rattle.frame.specs.declared.header.Flags.{Flags}
use Rattle.frame.specs.declared.header.Header.{Header}
use Rattle.frame.specs.declared.header.Tag.{Tag}
use Rattle.frame.specs.declared.header.Tag.TheVariants.{Data, WindowUpdate, Ping, GoAway}

-- ---- one bit

or_half : (a b : ℕ) → bit_or a b / 2 ≡ bit_or (a / 2) (b / 2)
or_half a b =
    let e = or_step a b in
    let h : max (a % 2) (b % 2) < 2 = omega arith in
    omega arith

or_odd : (a b : ℕ) → bit_or a b % 2 ≡ max (a % 2) (b % 2)
or_odd a b =
    let e = or_step a b in
    let h : max (a % 2) (b % 2) < 2 = omega arith in
    omega arith

-- a bit of two words joined is set where it is set in either
pub bit-or : (a b k : ℕ) → bit (bit_or a b) k ≡ max (bit a k) (bit b k)
bit-or a b k = ap (λ (x : ℕ). x % 2) (or_shr a b k) ∙ or_odd (a / 2 ^ k) (b / 2 ^ k)

-- 2 ^ k has the bit k and no other
pub bit_pow : (k j : ℕ) → bit (2 ^ k) j ≡ cond (eqb j k) 1 0
bit_pow zero zero = refl
bit_pow zero (suc j) =
    let h : 1 < 2 ^ suc j = pow-lt {i = 0} {j = suc j} (zero-lt-suc j) in
    rw (eqb-suc-zero j, div-eq_of_lt h)
bit_pow (suc k) zero = rw (eqb-zero-suc k, div-one (2 ^ suc k), pow-suc 2 k, mul-mod_left (2 ^ k) 2)
bit_pow (suc k) (suc j) =
    rw (eqb-suc-suc j k, pow-suc 2 k, pow-suc 2 j, mul-div-mul_right {m = 2} (2 ^ k) (2 ^ j) (zero-lt-suc 1)) (bit_pow k j)

-- joining 2 ^ k sets the bit k and leaves the others
pub bit-set : (x k j : ℕ) → bit (bit_or x (2 ^ k)) j ≡ cond (eqb j k) 1 (bit x j)
bit-set x k j = bit-or x (2 ^ k) j ∙ rw (bit_pow k j) (of (eqb j k))
  where
    of : (t : Bool) → max (bit x j) (cond t 1 0) ≡ cond t 1 (bit x j)
    of true = let h : bit x j < 2 = mod-lt (x / 2 ^ j) (omega arith) in omega arith
    of false = omega arith

-- `contains` of one flag looks at its bit
pub contains-bit : (f : Flags) (k : ℕ) → contains f (record { 0 = 2 ^ k }) ≡ eqb (bit f.0 k) 1
contains-bit f k =
    let e : bit_and f.0 (2 ^ k) ≡ bit f.0 k * 2 ^ k = and-bit f.0 k in
    let h : bit f.0 k < 2 = mod-lt (f.0 / 2 ^ k) (zero-lt-suc 1) in
    ap (λ (x : ℕ). eqb x (2 ^ k)) e ∙ digit (bit f.0 k) h
  where
    and-bit : (x k : ℕ) → bit_and x (2 ^ k) ≡ bit x k * 2 ^ k
    and-bit x k = let e : 2 ^ k ≡ 2 ^ (1 + k) - 2 ^ k = omega (arith, pow-add 2 1 k) in ap (bit_and x) e ∙ and_high x 1 k

    digit : (d : ℕ) → d < 2 → eqb (d * 2 ^ k) (2 ^ k) ≡ eqb d 1
    digit zero h = ne_eqb (0 * 2 ^ k) (2 ^ k) (λ e. omega (arith, pow_pos k))
    digit (suc zero) h = eq-eqb (1 * 2 ^ k) (2 ^ k) (omega arith)
    digit (suc (suc d)) h = absurd (omega arith)

-- ---- two flags

or_swap : (a b c : ℕ) → bit_or (bit_or a b) c ≡ bit_or (bit_or a c) b
or_swap =
    bin_ind (λ (n : ℕ). (b c : ℕ) → bit_or (bit_or n b) c ≡ bit_or (bit_or n c) b) or_comm
    (λ n ih b c. digits n b c ∙ rw (ih (b / 2) (c / 2), swapped (n % 2) (b % 2) (c % 2)) (sym (digits n c b)))
  where
    digits : (n b c : ℕ) → bit_or (bit_or n b) c ≡ bit_or (bit_or (n / 2) (b / 2)) (c / 2) * 2 + max (max (n % 2) (b % 2)) (c % 2)
    digits n b c = or_step (bit_or n b) c ∙ rw (or_half n b, or_odd n b)

    swapped : (x y z : ℕ) → max (max x y) z ≡ max (max x z) y
    swapped x y z = omega arith

or_again : (a b : ℕ) → bit_or (bit_or a b) b ≡ bit_or a b
or_again a b = ap (λ (x : ℕ). bit_or x b) (or_comm a b) ∙ or_swap b a b ∙ ap (λ (x : ℕ). bit_or x a) (or_self b) ∙ or_comm b a

-- ---- the setters of a header

-- what a setter joins to the flags
abbrev mask : Flag → Tag → Flags
mask g t = record { 0 = cond (has t g) (2 ^ position g) 0 }

kept : (h : Header) → h ≡ flagged h (record { 0 = 0 })
kept h = ap (λ (x : ℕ). record { tag = h.tag; flags = record { 0 = x }; stream_id = h.stream_id; length = h.length }) (sym (or_zero_r h.flags.0))

opening_mask : (t : Tag) (f : Flags) (h : Header) → opening t f h ≡ flagged h (record { 0 = cond (opens t) f.0 0 })
opening_mask Data f h = refl
opening_mask WindowUpdate f h = refl
opening_mask Ping f h = refl
opening_mask GoAway f h = kept h

closing_mask : (t : Tag) (f : Flags) (h : Header) → closing t f h ≡ flagged h (record { 0 = cond (closes t) f.0 0 })
closing_mask Data f h = refl
closing_mask WindowUpdate f h = refl
closing_mask Ping f h = kept h
closing_mask GoAway f h = kept h

setter_mask : (g : Flag) (h : Header) → setter g h ≡ flagged h (mask g h.tag)
setter_mask SYN h = opening_mask h.tag _ h
setter_mask ACK h = opening_mask h.tag _ h
setter_mask FIN h = closing_mask h.tag _ h
setter_mask RST h = closing_mask h.tag _ h

two : (a b : Flag) (h : Header) → setter a (setter b h) ≡ flagged (flagged h (mask b h.tag)) (mask a h.tag)
two a b h = ap (setter a) (setter_mask b h) ∙ setter_mask a (flagged h (mask b h.tag))

-- the header with these flags
with_flags : Header → ℕ → Header
with_flags h x = record { tag = h.tag; flags = record { 0 = x }; stream_id = h.stream_id; length = h.length }

-- M-107: setting two flags in either order gives the same header
pub setters_commute : (a b : Flag) (h : Header) → setter a (setter b h) ≡ setter b (setter a h)
unfolding with_flags
setters_commute a b h =
    two a b h ∙ ap (with_flags h) (or_swap h.flags.0 (mask b h.tag).0 (mask a h.tag).0) ∙ sym (two b a h)

-- and one twice gives what it gives once
pub setter_idempotent : (a : Flag) (h : Header) → setter a (setter a h) ≡ setter a h
unfolding with_flags
setter_idempotent a h =
    two a a h ∙ ap (with_flags h) (or_again h.flags.0 (mask a h.tag).0) ∙ sym (setter_mask a h)

-- a setter sets its own bit, on a type that has it, and no other; and changes no other field
pub setter_bits : (g : Flag) (h : Header) (j : ℕ)
    → bit (setter g h).flags.0 j ≡ cond (has h.tag g) (cond (eqb j (position g)) 1 (bit h.flags.0 j)) (bit h.flags.0 j)
setter_bits g h j =
    ap (λ (x : Header). bit x.flags.0 j) (setter_mask g h) ∙ of (has h.tag g)
  where
    of : (t : Bool) → bit (bit_or h.flags.0 (cond t (2 ^ position g) 0)) j ≡ cond t (cond (eqb j (position g)) 1 (bit h.flags.0 j)) (bit h.flags.0 j)
    of true = bit-set h.flags.0 (position g) j
    of false = ap (λ (x : ℕ). bit x j) (or_zero_r h.flags.0)

pub setter_tag : (g : Flag) (h : Header) → (setter g h).tag ≡ h.tag
setter_tag g h = ap (λ (x : Header). x.tag) (setter_mask g h)

pub setter_id : (g : Flag) (h : Header) → (setter g h).stream_id ≡ h.stream_id
setter_id g h = ap (λ (x : Header). x.stream_id) (setter_mask g h)

pub setter-length : (g : Flag) (h : Header) → (setter g h).length ≡ h.length
setter-length g h = ap (λ (x : Header). x.length) (setter_mask g h)

-- a header in range stays in range
pub setter_in_range : (g : Flag) (h : Header) → InRange h → InRange (setter g h)
setter_in_range g h r =
    subst InRange (sym (setter_mask g h))
    (record { flags = or_lt 16 h.flags.0 (mask g h.tag).0 r.flags (small (has h.tag g) g); stream_id = r.stream_id; length = r.length })
  where
    small : (x : Bool) (g : Flag) → cond x (2 ^ position g) 0 < 65536
    small true SYN = omega arith
    small true ACK = omega arith
    small true FIN = omega arith
    small true RST = omega arith
    small false g = omega arith
