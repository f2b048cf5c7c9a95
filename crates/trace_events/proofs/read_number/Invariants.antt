use Rattle.std.proofs.Common.{◌≡◌, ◌<◌, ◌+◌, ◌-◌, ◌^◌}
use Rattle.trace_events.specs.Numbers.{groups, number_at}
use Rattle.trace_events.proofs.read_number.Given as goal

-- what is left to read is read by as many groups as are left, the next of them worth 128 ^ k, and the sum is below that
abbrev pub invariant-loop-k : goal.invariant-loop-k
invariant-loop-k l =
    record {
      rest : groups (10 - l.k) l.src (l.at + l.k) l.weight l.value ≡ number_at l.src l.at;
      weighs : l.weight ≡ 128 ^ l.k;
      below : l.value < l.weight;
    }
