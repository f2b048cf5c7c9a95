-- How many turns there may still be, and what a run lacks. Assumes nothing.
use Rattle.std.proofs.Common.{◌≡◌, subst, cond, ℕ, suc}
use Rattle.trace.specs.Turns.{Lacks}
use Rattle.trace.specs.declared.Stop.{Stop}
use Rattle.trace_play.specs.Places.{left}
use Rattle.filter.specs.Parts.{done}
use Rattle.trace_play.specs.declared.State.{State}

-- what a run lacks, said of as many bytes and as much room
pub lacks_as : (why : Stop) (size at room put : ℕ) {have free : ℕ} → size ≡ have → room ≡ free → Lacks why size at room put → Lacks why have at free put
lacks_as why size at room put {have} {free} e f l = subst (λ (n : ℕ). Lacks why n at free put) e (subst (λ (n : ℕ). Lacks why size at n put) f l)

-- the turns that there may still be
abbrev pub turns_left : State → ℕ
turns_left s = cond (done s.standing) 0 (suc (left s))
