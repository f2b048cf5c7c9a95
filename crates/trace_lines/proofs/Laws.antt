-- What a caller goes by: with room for the longest line every line is written, and a number's digits are worth the number, the
-- first of them not 0. Assumes nothing.
use Rattle.std.proofs.Common.{Option, Some, ◌≡◌, refl, ◌∙◌, Bool, true, false, cond, List, [], ◌∷◌, ◌++◌, ℕ, zero, suc, ◌+◌, ◌-◌, ◌*◌, ◌/◌, ◌%◌, ◌≤◌, ◌<◌, arith, length, get_or, ltb, le-leb, ltb-false}
use Rattle.trace_lines.specs.Line.{digits, decimal, worth}
use Rattle.trace_lines.specs.Writing.{Writes, placed, line_room, longest_line}

module _ {room : ℕ} {o text o' : List ℕ} {at : ℕ} {r : Option ℕ} (w : Writes room o at text o' r) where
  pub written : at + room ≤ length o → (r ≡ Some (at + length text)) × (o' ≡ placed o at text)
  written h = (rw (le-leb _ _ h) at w.answer, rw (le-leb _ _ h) at w.left)

-- a header of at most twelve bytes and at most 16,384 bytes read
pub line_written : (header bytes : ℕ) {o text o' : List ℕ} {at : ℕ} {r : Option ℕ} → header ≤ 12 → bytes ≤ 16384 → at + longest_line ≤ length o
    → Writes (line_room header bytes) o at text o' r → (r ≡ Some (at + length text)) × (o' ≡ placed o at text)
line_written header bytes h b l w = written w (omega arith)

-- ---- digits

worth_last : (a : ℕ) (xs : List ℕ) (d : ℕ) → worth a (xs ++ (d ∷ [])) ≡ worth a xs * 10 + (d - 48)
unfolding worth
worth_last a [] d = refl
worth_last a (x ∷ xs) d = worth_last (a * 10 + (x - 48)) xs d

digits-worth : (k n : ℕ) → n ≤ k → worth 0 (digits k n) ≡ n
unfolding digits worth
digits-worth zero n h = omega arith
digits-worth (suc k) n h = go (ltb n 10) refl (λ l. digits-worth k (n / 10) (omega arith))
  where
    go : (t : Bool) → ltb n 10 ≡ t → (10 ≤ n → worth 0 (digits k (n / 10)) ≡ n / 10)
        → worth 0 (cond t ((48 + n) ∷ []) (digits k (n / 10) ++ ((48 + n % 10) ∷ []))) ≡ n
    go true q ih = omega arith
    go false q ih =
        let e : worth 0 (digits k (n / 10)) ≡ n / 10 = ih (ltb-false _ _ q) in
        worth_last 0 (digits k (n / 10)) (48 + n % 10) ∙ omega arith

pub decimal-worth : (n : ℕ) → worth 0 (decimal n) ≡ n
unfolding decimal
decimal-worth n = digits-worth n n (omega arith)

digits_lead : (k n : ℕ) → n ≤ k → 0 < n → 48 < get_or (digits k n) 0 0
unfolding digits
digits_lead zero n h p = omega arith
digits_lead (suc k) n h p = go (ltb n 10) refl (λ l. digits_lead k (n / 10) (omega arith) (omega arith))
  where
    longer : (xs ys : List ℕ) → 48 < get_or xs 0 0 → 48 < get_or (xs ++ ys) 0 0
    longer [] ys l = omega arith
    longer (x ∷ xs) ys l = l

    go : (t : Bool) → ltb n 10 ≡ t → (10 ≤ n → 48 < get_or (digits k (n / 10)) 0 0)
        → 48 < get_or (cond t ((48 + n) ∷ []) (digits k (n / 10) ++ ((48 + n % 10) ∷ []))) 0 0
    go true q ih = omega arith
    go false q ih = longer (digits k (n / 10)) ((48 + n % 10) ∷ []) (ih (ltb-false _ _ q))

-- no leading zero
pub decimal_leads : (n : ℕ) → 0 < n → 48 < get_or (decimal n) 0 0
unfolding decimal
decimal_leads n p = digits_lead n n (omega arith) p
