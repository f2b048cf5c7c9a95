-- Digits one by one, and how long each text can be. Assumes nothing.
use Rattle.std.proofs.Common.{◌≡◌, refl, ap, ◌∙◌, Bool, true, false, cond, List, [], ◌∷◌, ◌++◌, ℕ, zero, suc, ◌+◌, ◌*◌, ◌/◌, ◌%◌, ◌^◌, ◌≤◌, ◌<◌, pow-suc, arith, length, get_or, take, length-append, take-suc, ltb, lt-ltb, le-ltb, ltb-false}
use Rattle.rules.specs.declared.Woke.{Woke}
use Rattle.trace_lines.specs.Line.{digits, decimal, hex_digit, hex, or_dash, mark, marks, wakes_text}

-- ---- decimal

-- any two counts of steps that are enough give the same digits
steps_same : (j k n : ℕ) → n ≤ j → n ≤ k → digits j n ≡ digits k n
unfolding digits
steps_same zero zero n a b = refl
steps_same zero (suc k) n a b = let h : n < 10 = omega arith in rw (lt-ltb _ _ h)
steps_same (suc j) zero n a b = let h : n < 10 = omega arith in rw (lt-ltb _ _ h)
steps_same (suc j) (suc k) n a b = go (ltb n 10) refl (λ h. steps_same j k (n / 10) (omega arith) (omega arith))
  where
    go : (t : Bool) → ltb n 10 ≡ t → (10 ≤ n → digits j (n / 10) ≡ digits k (n / 10)) → digits (suc j) n ≡ digits (suc k) n
    go true q ih = rw q
    go false q ih = rw (q, ih (ltb-false _ _ q))

pub decimal-one : (n : ℕ) → n < 10 → decimal n ≡ (48 + n) ∷ []
unfolding decimal digits
decimal-one zero h = refl
decimal-one (suc m) h = rw (lt-ltb _ _ h)

pub decimal_more : (n : ℕ) → 10 ≤ n → decimal n ≡ decimal (n / 10) ++ ((48 + n % 10) ∷ [])
unfolding decimal digits
decimal_more zero h = absurd (omega arith)
decimal_more (suc m) h = rw (le-ltb _ _ h, steps_same m (suc m / 10) (suc m / 10) (omega arith) (omega arith))

pub one_digit : (n : ℕ) → n < 10 → length (decimal n) ≡ 1
one_digit n h = ap length (decimal-one n h)

pub digit_more : (n : ℕ) → 10 ≤ n → length (decimal n) ≡ length (decimal (n / 10)) + 1
digit_more n h = ap length (decimal_more n h) ∙ length-append (decimal (n / 10)) ((48 + n % 10) ∷ [])

digits-size : (k j n : ℕ) → n < 10 ^ suc k → length (digits j n) ≤ suc k
unfolding digits
digits-size k zero n h = omega arith
digits-size zero (suc j) n h = let l : n < 10 = h in rw (lt-ltb _ _ l) (omega arith)
digits-size (suc k) (suc j) n h = go (ltb n 10) (digits-size k j (n / 10) (let l : n < 10 ^ suc k * 10 = rw (← pow-suc 10 (suc k)) h in omega arith))
  where
    go : (t : Bool) → length (digits j (n / 10)) ≤ suc k → length (cond t ((48 + n) ∷ []) (digits j (n / 10) ++ ((48 + n % 10) ∷ []))) ≤ suc (suc k)
    go true ih = omega arith
    go false ih = rw length-append (omega arith)

-- a number of 64 bits has twenty digits at most
pub decimal-size : (n : ℕ) → n < 2 ^ 64 → length (decimal n) ≤ 20
unfolding decimal
decimal-size n h = digits-size 19 n n (omega arith)

-- ---- hex

pub hex-then : (xs ys : List ℕ) → hex (xs ++ ys) ≡ hex xs ++ hex ys
unfolding hex
hex-then [] ys = refl
hex-then (x ∷ xs) ys = rw (hex-then xs ys)

pub hex-size : (xs : List ℕ) → length (hex xs) ≡ 2 * length xs
unfolding hex
hex-size [] = refl
hex-size (x ∷ xs) = let e : length (hex xs) ≡ 2 * length xs = hex-size xs in omega arith

-- one byte more
pub hex-next : (xs : List ℕ) (i : ℕ) → i < length xs
    → hex (take (suc i) xs) ≡ hex (take i xs) ++ (hex_digit (get_or xs i 0 / 16) ∷ hex_digit (get_or xs i 0 % 16) ∷ [])
unfolding hex
hex-next xs i h = ap hex (take-suc xs i 0 h) ∙ hex-then (take i xs) (get_or xs i 0 ∷ [])

-- ---- `-`

pub dash_none : or_dash [] ≡ 45 ∷ []
unfolding or_dash
dash_none = refl

pub dash_some : (xs : List ℕ) → 0 < length xs → or_dash xs ≡ xs
unfolding or_dash
dash_some [] h = absurd (omega arith)
dash_some (x ∷ xs) h = refl

pub empty : (xs : List ℕ) → length xs ≡ 0 → xs ≡ []
empty [] e = refl
empty (x ∷ xs) e = absurd (omega arith)

-- ---- wakes

pub mark-size : (b : Bool) (letter : ℕ) → length (mark b letter) ≤ 1
mark-size true letter = omega arith
mark-size false letter = omega arith

pub marks-size : (w : Woke) → length (marks w) ≤ 3
unfolding marks
marks-size w =
    rw (length-append, length-append)
    (omega (arith, mark-size w.reader 114, mark-size w.writer 119, mark-size w.opener 111))

module _ (w : Woke) where
  wakes-by : (b : Bool) → w.all ≡ b → wakes_text w ≡ cond b (97 ∷ []) (or_dash (marks w))
  unfolding wakes_text
  wakes-by b e = ap (λ (x : Bool). cond x (97 ∷ []) (or_dash (marks w))) e

  pub wakes-all : w.all ≡ true → wakes_text w ≡ 97 ∷ []
  wakes-all e = wakes-by true e

  pub wakes-none : w.all ≡ false → marks w ≡ [] → wakes_text w ≡ 45 ∷ []
  wakes-none e h = wakes-by false e ∙ ap or_dash h ∙ dash_none

  pub wakes-some : w.all ≡ false → 0 < length (marks w) → wakes_text w ≡ marks w
  wakes-some e h = wakes-by false e ∙ dash_some (marks w) h

-- how long each text can be
pub ruleset lengths = (decimal-size, hex-size, marks-size)
