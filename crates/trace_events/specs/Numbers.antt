-- Numbers of a trace. Sentences are document 01's, "replay".
use Rattle.std.specs.Prelude.{cond, List, ℕ, zero, suc, ◌+◌, ◌*◌, ◌%◌, ◌^◌, length, get_or, ltb, Result, Ok, Err}
use Rattle.trace_events.specs.declared.Number.{Number}
use Rattle.trace_events.specs.declared.Unreadable.{Unreadable}
use Rattle.trace_events.specs.declared.Unreadable.TheVariants.{Short, Bad}

-- what is read, and the place after it; or why nothing is
abbrev pub Reading : Type 0 → Type 0
Reading A = Result A Unreadable

-- what follows what is read; where nothing is, nothing follows
infixl 10 ◌>>=◌
abbrev pub ◌>>=◌ : {A B : Type 0} → Reading A → (A → Reading B) → Reading B
Ok x >>= f = f x
Err e >>= f = Err e

-- "groups of seven bits, low first, top bit set when more follow, at most ten, value below 2^64": at most k groups from
-- `at` on, the first of them worth `weight`, after groups that are worth `sum`. Cut short is Short, a breach is Bad.
unfoldable pub groups : ℕ → List ℕ → ℕ → ℕ → ℕ → Reading Number
groups zero s at weight sum = Err Bad
groups (suc k) s at weight sum =
    cond (ltb at (length s))
    (cond (ltb (sum + get_or s at 0 % 128 * weight) (2 ^ 64))
    (cond (ltb (get_or s at 0) 128)
    (Ok (record { value = sum + get_or s at 0 % 128 * weight; next = at + 1 }))
    (groups k s (at + 1) (weight * 128) (sum + get_or s at 0 % 128 * weight)))
    (Err Bad))
    (Err Short)

-- the number at a place, and the place after it
unfoldable pub number_at : List ℕ → ℕ → Reading Number
number_at s at = groups 10 s at 1 0
