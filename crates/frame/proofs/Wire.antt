-- The codec's laws, over the definitions alone: `decode` and `encode` are equal to them by contract.
-- Reading is exactly the rules of `Reading`; reading what was written gives the header back; writing what was read gives
-- the bytes back; and the bytes that are read as a header are exactly those that are written for one. Assumes nothing.
use borrow.Author.Tests.{eqb-false}
use Rattle.frame.specs.Wire.{tag_number, bytes16, bytes32, wire, type_of, number16, number32, fields, typed_as, decoded, encoded, encode_reply, InRange, Bytes, Reading, header, version, type, size}
use Rattle.std.proofs.Common.{Result, Ok, Err, ◌≡◌, refl, sym, ap, ap₂, ◌∙◌, subst, Bool, true, false, cond, List, [], ◌∷◌, ◌++◌, ℕ, zero, suc, ◌+◌, ◌*◌, ◌/◌, ◌%◌, ◌<◌, ◌≤◌, arith, eq-eqb, ne_eqb, eqb-true, eqb, length, get_or, drop, drop_of_length-le, drop-cons}
use Rattle.std.proofs.lemmas.Nat.{from_be_bytes-to_be_bytes_2, from_be_bytes-to_be_bytes_4}
use Rattle.frame.specs.declared.header.Header.{Header}
use Rattle.frame.specs.declared.header.Tag.{Tag}
use Rattle.frame.specs.declared.header.Tag.TheVariants.{Data, WindowUpdate, Ping, GoAway}
use Rattle.frame.specs.declared.header.UnknownType.{UnknownType}
use Rattle.frame.specs.declared.header.HeaderDecodeError.{HeaderDecodeError}
use Rattle.frame.specs.declared.header.HeaderDecodeError.TheVariants as found

-- ---- types

pub type-of-number : (t : Tag) → type_of (tag_number t) ≡ Ok t
type-of-number Data = refl
type-of-number WindowUpdate = refl
type-of-number Ping = refl
type-of-number GoAway = refl

-- a number above 3 is no type
pub type_unknown : (n : ℕ) → 3 < n → type_of n ≡ Err (record { 0 = n })
type_unknown n h =
    simp (ne_eqb n 0 (λ e. omega arith), ne_eqb n 1 (λ e. omega arith), ne_eqb n 2 (λ e. omega arith), ne_eqb n 3 (λ e. omega arith))

data Typing (n : ℕ) : Result Tag UnknownType → Type 0 where
  known : (t : Tag) → n ≡ tag_number t → Typing n (Ok t)
  unknown : 3 < n → Typing n (Err (record { 0 = n }))

typing : (n : ℕ) → Typing n (type_of n)
typing n = at0 (eqb n 0) refl
  where
    at3 : (x : Bool) → eqb n 3 ≡ x → 2 < n → Typing n (cond x (Ok GoAway) (Err (record { 0 = n })))
    at3 true e h = known GoAway (eqb-true _ _ e)
    at3 false e h = unknown (let k = eqb-false n 3 e in omega (arith, k))

    at2 : (x : Bool) → eqb n 2 ≡ x → 1 < n → Typing n (cond x (Ok Ping) (cond (eqb n 3) (Ok GoAway) (Err (record { 0 = n }))))
    at2 true e h = known Ping (eqb-true _ _ e)
    at2 false e h = at3 (eqb n 3) refl (let k = eqb-false n 2 e in omega (arith, k))

    at1 : (x : Bool) → eqb n 1 ≡ x → 0 < n
        → Typing n (cond x (Ok WindowUpdate) (cond (eqb n 2) (Ok Ping) (cond (eqb n 3) (Ok GoAway) (Err (record { 0 = n })))))
    at1 true e h = known WindowUpdate (eqb-true _ _ e)
    at1 false e h = at2 (eqb n 2) refl (let k = eqb-false n 1 e in omega (arith, k))

    at0 : (x : Bool) → eqb n 0 ≡ x
        → Typing n (cond x (Ok Data) (cond (eqb n 1) (Ok WindowUpdate) (cond (eqb n 2) (Ok Ping) (cond (eqb n 3) (Ok GoAway) (Err (record { 0 = n }))))))
    at0 true e = known Data (eqb-true _ _ e)
    at0 false e = at1 (eqb n 1) refl (let k = eqb-false n 0 e in omega (arith, k))

-- a known number is its type's and at most 3, and any other is above 3
pub known_number : (n : ℕ) (t : Tag) → type_of n ≡ Ok t → n ≡ tag_number t
known_number n t e = of (typing n) e
  where
    of : {k : Result Tag UnknownType} → Typing n k → k ≡ Ok t → n ≡ tag_number t
    of (known u h) e = let same : u ≡ t = cc in h ∙ ap tag_number same
    of (unknown h) e = cc

pub number_small : (t : Tag) → tag_number t ≤ 3
number_small Data = omega arith
number_small WindowUpdate = omega arith
number_small Ping = omega arith
number_small GoAway = omega arith

pub unknown_number : (n : ℕ) (u : UnknownType) → type_of n ≡ Err u → 3 < n
unknown_number n u e = of (typing n) e
  where
    of : {k : Result Tag UnknownType} → Typing n k → k ≡ Err u → 3 < n
    of (known t h) e = cc
    of (unknown h) e = h

-- ---- reading is exactly the rules

by_type : (b : List ℕ) {k : Result Tag UnknownType} → length b ≡ 12 → get_or b 0 0 ≡ 0 → Typing (get_or b 1 0) k → Reading b (typed_as k b)
by_type b n v (known t e) = header t n v e
by_type b n v (unknown h) = type n v h

by_version : (b : List ℕ) (x : Bool) → length b ≡ 12 → eqb (get_or b 0 0) 0 ≡ x
    → Reading b (cond x (typed_as (type_of (get_or b 1 0)) b) (Err (found.Version (get_or b 0 0))))
by_version b true n e = by_type b n (eqb-true _ _ e) (typing (get_or b 1 0))
by_version b false n e = version n (eqb-false _ _ e)

by_size : (b : List ℕ) (x : Bool) → eqb (length b) 12 ≡ x
    → Reading b (cond x (cond (eqb (get_or b 0 0) 0) (typed_as (type_of (get_or b 1 0)) b) (Err (found.Version (get_or b 0 0)))) (Err found.Size))
by_size b true e = by_version b (eqb (get_or b 0 0) 0) (eqb-true _ _ e) refl
by_size b false e = size (eqb-false _ _ e)

-- what is decoded follows a rule
pub decoded-reads : (b : List ℕ) → Reading b (decoded b)
decoded-reads b = by_size b (eqb (length b) 12) refl

-- and whatever a rule gives is decoded
pub reads-decoded : (b : List ℕ) {r : Result Header HeaderDecodeError} → Reading b r → decoded b ≡ r
reads-decoded b (header t n v e) = rw (eq-eqb _ _ n, eq-eqb _ _ v, e, type-of-number t)
reads-decoded b (version n v) = rw (eq-eqb _ _ n, ne_eqb _ _ v)
reads-decoded b (type n v h) = rw (eq-eqb _ _ n, eq-eqb _ _ v, type_unknown _ h)
reads-decoded b (size n) = rw (ne_eqb _ _ n)

-- twelve bytes of version 0 and a known type
pub header_read : (b : List ℕ) (t : Tag) → length b ≡ 12 → get_or b 0 0 ≡ 0 → type_of (get_or b 1 0) ≡ Ok t → decoded b ≡ Ok (fields t b)
header_read b t n v k = rw (eq-eqb _ _ n, eq-eqb _ _ v, k)

-- the number of `encode`'s answer
pub encoded_reply : (b : List ℕ) → encode_reply (encoded b) ≡ cond (eqb (length b) 12) 0 14
encoded_reply b = of (eqb (length b) 12)
  where
    of : (x : Bool) → encode_reply (cond x (Ok tt) (Err (record {}))) ≡ cond x 0 14
    of true = refl
    of false = refl

-- ---- reading what was written

-- decode after encode is the identity on headers
pub decode_encode : (h : Header) → InRange h → decoded (wire h) ≡ Ok h
decode_encode h r =
    rw (type-of-number h.tag, from_be_bytes-to_be_bytes_2 _ r.flags, from_be_bytes-to_be_bytes_4 _ r.stream_id, from_be_bytes-to_be_bytes_4 _ r.length)

-- ---- writing what was read

-- the elements of b from k on, n of them
abbrev gets : List ℕ → ℕ → ℕ → List ℕ
gets b k zero = []
gets b k (suc n) = get_or b k 0 ∷ gets b (suc k) n

elements : (b : List ℕ) (k n : ℕ) → length b ≡ k + n → drop k b ≡ gets b k n
elements b k zero e = let h : length b ≤ k = omega arith in drop_of_length-le b h
elements b k (suc n) e = drop-cons b k 0 (omega arith) ∙ ap (λ (l : List ℕ). get_or b k 0 ∷ l) (elements b (suc k) n (omega arith))

apart16 : (a b : ℕ) → a < 256 → b < 256 → bytes16 (number16 a b) ≡ a ∷ b ∷ []
apart16 a b ha hb =
    let e₁ : (a * 256 + b) / 256 % 256 ≡ a = omega arith in
    let e₂ : (a * 256 + b) % 256 ≡ b = omega arith in
    rw (e₁, e₂)

apart32 : (a b c d : ℕ) → a < 256 → b < 256 → c < 256 → d < 256 → bytes32 (number32 a b c d) ≡ a ∷ b ∷ c ∷ d ∷ []
apart32 a b c d ha hb hc hd =
    let n = a * 16777216 + b * 65536 + c * 256 + d in
    let e₁ : n / 16777216 % 256 ≡ a = omega arith in
    let e₂ : n / 65536 % 256 ≡ b = omega arith in
    let e₃ : n / 256 % 256 ≡ c = omega arith in
    let e₄ : n % 256 ≡ d = omega arith in
    rw (e₁, e₂, e₃, e₄)

-- the bytes of the header that twelve bytes are read as
rewritten : (b : List ℕ) (t : Tag) → Bytes b → length b ≡ 12 → get_or b 0 0 ≡ 0 → get_or b 1 0 ≡ tag_number t → wire (fields t b) ≡ b
rewritten b t r n v e =
    ap (λ (l : List ℕ). 0 ∷ tag_number t ∷ l)
    (joined (apart16 _ _ (r 2) (r 3)) (apart32 _ _ _ _ (r 4) (r 5) (r 6) (r 7)) (apart32 _ _ _ _ (r 8) (r 9) (r 10) (r 11)))
    ∙ sym (elements b 0 12 n ∙ ap₂ (λ (x y : ℕ). x ∷ y ∷ gets b 2 10) v e)
  where
    joined : {x x' y y' z z' : List ℕ} → x ≡ x' → y ≡ y' → z ≡ z' → x ++ (y ++ z) ≡ x' ++ (y' ++ z')
    joined p q r = cc

-- encode after decode is the identity on the bytes that are accepted
pub encode_decode : (b : List ℕ) (h : Header) → Bytes b → decoded b ≡ Ok h → wire h ≡ b
encode_decode b h r e = of (decoded-reads b) e
  where
    of : {d : Result Header HeaderDecodeError} → Reading b d → d ≡ Ok h → wire h ≡ b
    of (header t n v k) e = let same : fields t b ≡ h = cc in ap wire (sym same) ∙ rewritten b t r n v k
    of (version n v) e = cc
    of (type n v k) e = cc
    of (size n) e = cc

-- ---- the bytes that are read as a header are those that are written for one

-- what bytes are read as is in range
pub decoded_in_range : (b : List ℕ) (h : Header) → Bytes b → decoded b ≡ Ok h → InRange h
decoded_in_range b h r e = of (decoded-reads b) e
  where
    read : (t : Tag) → InRange (fields t b)
    read t = record {
      flags = omega (arith, r 2, r 3);
      stream_id = omega (arith, r 4, r 5, r 6, r 7);
      length = omega (arith, r 8, r 9, r 10, r 11);
    }

    of : {d : Result Header HeaderDecodeError} → Reading b d → d ≡ Ok h → InRange h
    of (header t n v k) e = let same : fields t b ≡ h = cc in subst InRange same (read t)
    of (version n v) e = cc
    of (type n v k) e = cc
    of (size n) e = cc

-- twelve of them, whatever the header
pub length-wire : (h : Header) → length (wire h) ≡ 12
length-wire h = refl

-- `decode` accepts exactly what the specification writes
pub accepts : (b : List ℕ) (h : Header) → Bytes b → decoded b ≡ Ok h → (b ≡ wire h) × InRange h
accepts b h r e = (sym (encode_decode b h r e), decoded_in_range b h r e)

pub accepted : (b : List ℕ) (h : Header) → b ≡ wire h → InRange h → decoded b ≡ Ok h
accepted b h e r = ap decoded e ∙ decode_encode h r

-- two headers in range that are written alike are one
pub wire_injective : (g h : Header) → InRange g → InRange h → wire g ≡ wire h → g ≡ h
wire_injective g h rg rh e =
    let same : ◌≡◌ {A = Result Header HeaderDecodeError} (Ok g) (Ok h) = sym (decode_encode g rg) ∙ ap decoded e ∙ decode_encode h rh in
    cc
