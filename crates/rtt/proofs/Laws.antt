-- Laws of the pings. Assumes nothing.
use Rattle.std.proofs.Common.{◌≡◌, ℕ, ◌+◌, ◌<◌, arith}
use Rattle.rtt.specs.Pings.{later}

-- "next ping at now + interval": for a time and an interval in range the bound of 64 bits is not met
pub later-sum :
    (now interval : ℕ) → now < 4611686018427387904 → interval < 4611686018427387904 →
    later now interval ≡ now + interval
later-sum now interval h i = omega arith
