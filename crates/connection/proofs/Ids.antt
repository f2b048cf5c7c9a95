-- Own ids in the table stay below the next one where one slot changes. Assumes nothing.
use Rattle.std.proofs.Common.{◌≡◌, sym, ◌∙◌, Bool, true, false, List, [], ◌∷◌, ℕ, zero, suc, ◌<◌, set}
use Rattle.stream.specs.declared.Stream.{Stream}
use Rattle.rules.specs.State.{Entry, entry, is_own}
use Rattle.rules.specs.declared.Mode.{Mode}
use Rattle.memory.specs.Moves.{held, Follows}
use Rattle.rules.proofs.Lists.{never}

-- an own id in the table is below n
abbrev pub Kept : Mode → ℕ → Entry → Type 0
Kept mode n e = e.listed ≡ true → is_own mode e.stream.id ≡ true → e.stream.id.0 < n

abbrev pub Below : Mode → ℕ → List Entry → Type 0
Below mode n es = (j : ℕ) → Kept mode n (entry es j)

pub below_set : (mode : Mode) (n : ℕ) (es : List Entry) (i : ℕ) (e : Entry) → Kept mode n e → Below mode n es → Below mode n (set es i e)
below_set mode n [] i e new old j = old j
below_set mode n (x ∷ es) zero e new old zero = new
below_set mode n (x ∷ es) zero e new old (suc j) = old (suc j)
below_set mode n (x ∷ es) (suc i) e new old zero = old zero
below_set mode n (x ∷ es) (suc i) e new old (suc j) = below_set mode n es i e new (λ k. old (suc k)) j

-- a stream out of the table
pub below_out : (mode : Mode) (n : ℕ) (es : List Entry) (i : ℕ) (e : Entry) → e.listed ≡ false → Below mode n es → Below mode n (set es i e)
below_out mode n es i e out = below_set mode n es i e (λ h o. never (sym h ∙ out))

-- a stream in the place of one with its id
pub below_replaced : (mode : Mode) (n : ℕ) (es : List Entry) (i : ℕ) (s : Stream) (listed : Bool) (b : List ℕ) → Follows (entry es i) s listed
    → Below mode n es → Below mode n (set es i (held s listed b))
below_replaced mode n es i s listed b f old = below_set mode n es i (held s listed b) (λ h o. rw f.id (old i (f.listed h) (rw f.id at o))) old
