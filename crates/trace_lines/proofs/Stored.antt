-- Texts stored one after another are stored as one. Assumes nothing.
use Rattle.std.proofs.Common.{Some, None, ◌≡◌, refl, sym, ap, ◌∙◌, List, [], ◌∷◌, ◌++◌, append_assoc, ℕ, suc, ◌+◌, ◌-◌, ◌≤◌, ◌<◌, add-zero, add_assoc, add-one, arith, length, take, drop, set, length-append, length-set, drop-drop, le-leb}
use lib.Seq.{sets, length-sets, sets-eq}
use borrow.Author.Tests.{lt-leb}
use Rattle.trace_lines.specs.Writing.{Stores, Writes}

pub sets_then : (o : List ℕ) (at : ℕ) (xs ys : List ℕ) → sets (sets o at xs) (at + length xs) ys ≡ sets o at (xs ++ ys)
sets_then o at [] ys = ap (λ (k : ℕ). sets o k ys) (add-zero at)
sets_then o at (x ∷ xs) ys =
    let e : at + suc (length xs) ≡ suc at + length xs = omega arith in
    ap (λ (k : ℕ). sets (sets (set o at x) (suc at) xs) k ys) e ∙ sets_then (set o at x) (suc at) xs ys

pub stores_then : {o o₁ o₂ xs ys : List ℕ} {at p q : ℕ} → Stores o at xs o₁ p → Stores o₁ p ys o₂ q → Stores o at (xs ++ ys) o₂ q
stores_then {o} {o₁} {o₂} {xs} {ys} {at} {p} {q} a b = record {
  next = b.next ∙ ap (λ (k : ℕ). k + length ys) a.next ∙ add_assoc at (length xs) (length ys) ∙ ap (λ (k : ℕ). at + k) (sym (length-append xs ys));
  left = b.left ∙ rw (a.left, a.next) (sets_then o at xs ys);
  size = b.size ∙ a.size;
}

-- the same place by another name
pub stores_at : {o text o' : List ℕ} {at p r : ℕ} → p ≡ at → Stores o at text o' r → Stores o p text o' r
stores_at e h = rw e h

module _ (o : List ℕ) (at : ℕ) where
  pub stores-none : Stores o at [] o at
  stores-none = record { next = sym (add-zero at); left = refl; size = refl }

  pub stores_one : (a : ℕ) → Stores o at (a ∷ []) (set o at a) (at + 1)
  stores_one a = record { next = refl; left = refl; size = length-set o at a }

  pub stores-two : (a b : ℕ) → Stores o at (a ∷ b ∷ []) (set (set o at a) (at + 1) b) (at + 2)
  stores-two a b = record { next = refl; left = rw (add-one at); size = simp length-set }

  -- a text copied into the room from `at` on
  pub stores-copy : (text d : List ℕ) → at + length text ≤ length o → let n = at + length text - at in
      d ≡ text → Stores o at text (take at o ++ (d ++ drop n (drop at o))) (at + length text)
  stores-copy text d f h =
      let n : ℕ = at + length text - at in
      let e : n ≡ length text = omega arith in
      let l : take at o ++ (d ++ drop n (drop at o)) ≡ sets o at text =
      rw (h, e, drop-drop (length text) at o, ← append_assoc (take at o) text (drop (at + length text) o)) (sym (sets-eq text o at f)) in
      record { next = refl; left = l; size = ap length l ∙ length-sets o at text }

-- what is stored with room is written
pub writes : (room : ℕ) {o text o' : List ℕ} {at r : ℕ} → at + room ≤ length o → r ≤ at + room → Stores o at text o' r
    → Writes room o at text o' (Some r)
writes room {o} {text} {o'} {at} {r} f l h =
    let e = le-leb _ _ f in
    record { answer = rw (e, h.next); left = rw e (h.left ∙ sets-eq text o at (omega (arith, h.next)) ∙ append_assoc (take at o) text (drop (at + length text) o)) }

pub writes-none : (room : ℕ) {o : List ℕ} {at : ℕ} (text : List ℕ) → length o < at + room → Writes room o at text o None
writes-none room text f = let e = lt-leb _ _ f in record { answer = rw e; left = rw e }
