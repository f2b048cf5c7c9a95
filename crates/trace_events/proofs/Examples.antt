-- Numbers and events of document 01 and at the edges of the format, each one computed. Assumes nothing.
use Rattle.rules.specs.Step as rules
use Rattle.trace_events.specs.Numbers.{groups, number_at}
use Rattle.trace_events.specs.Format.{frame_at, count_at, read_at, write_at, event_at}
use Rattle.trace_events.specs.Calls.{call, short, bad, call_at}
use Rattle.std.proofs.Common.{Ok, Err, ◌≡◌, refl, [], ◌∷◌}
use Rattle.trace_events.specs.declared.Unreadable.TheVariants.{Short, Bad}

-- `e807`
pub thousand : number_at (232 ∷ 7 ∷ []) 0 ≡ Ok (record { value = 1000; next = 2 })
unfolding number_at groups
thousand = refl

-- a needless zero group passes
pub needless_group : number_at (128 ∷ 0 ∷ []) 0 ≡ Ok (record { value = 0; next = 2 })
unfolding number_at groups
needless_group = refl

-- more follow, and nothing is there
pub cut : number_at (128 ∷ []) 0 ≡ Err Short
unfolding number_at groups
cut = refl

-- 2^64-1
pub largest : number_at (255 ∷ 255 ∷ 255 ∷ 255 ∷ 255 ∷ 255 ∷ 255 ∷ 255 ∷ 255 ∷ 1 ∷ []) 0 ≡ Ok (record { value = 18446744073709551615; next = 10 })
unfolding number_at groups
largest = refl

-- 2^64
pub past_largest : number_at (128 ∷ 128 ∷ 128 ∷ 128 ∷ 128 ∷ 128 ∷ 128 ∷ 128 ∷ 128 ∷ 2 ∷ []) 0 ≡ Err Bad
unfolding number_at groups
past_largest = refl

-- the tenth group says that more follow
pub eleven_groups : number_at (128 ∷ 128 ∷ 128 ∷ 128 ∷ 128 ∷ 128 ∷ 128 ∷ 128 ∷ 128 ∷ 128 ∷ []) 0 ≡ Err Bad
unfolding number_at groups
eleven_groups = refl

-- `01000000000400000001000000026f6b`
pub data_frame_lem : call_at (1 ∷ 0 ∷ 0 ∷ 0 ∷ 0 ∷ 4 ∷ 0 ∷ 0 ∷ 0 ∷ 1 ∷ 0 ∷ 0 ∷ 0 ∷ 2 ∷ 111 ∷ 107 ∷ []) 0 ≡ call (rules.frame 0 (0 ∷ 0 ∷ 0 ∷ 4 ∷ 0 ∷ 0 ∷ 0 ∷ 1 ∷ 0 ∷ 0 ∷ 0 ∷ 2 ∷ []) (111 ∷ 107 ∷ [])) 16
unfolding call_at event_at frame_at count_at read_at write_at number_at groups
data_frame_lem = refl

-- `0400000464757374`
pub write_four : call_at (4 ∷ 0 ∷ 0 ∷ 4 ∷ 100 ∷ 117 ∷ 115 ∷ 116 ∷ []) 0 ≡ call (rules.write 0 0 (100 ∷ 117 ∷ 115 ∷ 116 ∷ [])) 8
unfolding call_at event_at frame_at count_at read_at write_at number_at groups
write_four = refl

-- a kind above 7, before its time is there
pub kind_eight : call_at (8 ∷ []) 0 ≡ bad
unfolding call_at event_at frame_at count_at read_at write_at number_at groups
kind_eight = refl

-- a count of 16,385, before its bytes are there
pub count_above : call_at (4 ∷ 0 ∷ 0 ∷ 129 ∷ 128 ∷ 1 ∷ []) 0 ≡ bad
unfolding call_at event_at frame_at count_at read_at write_at number_at groups
count_above = refl

-- a count of 16,384, whose bytes are not there
pub count_most : call_at (4 ∷ 0 ∷ 0 ∷ 128 ∷ 128 ∷ 1 ∷ []) 0 ≡ short
unfolding call_at event_at frame_at count_at read_at write_at number_at groups
count_most = refl

-- a body of 16,385 under version 9
pub body_above : call_at (1 ∷ 0 ∷ 9 ∷ 0 ∷ 0 ∷ 0 ∷ 0 ∷ 0 ∷ 0 ∷ 1 ∷ 0 ∷ 0 ∷ 64 ∷ 1 ∷ []) 0 ≡ bad
unfolding call_at event_at frame_at count_at read_at write_at number_at groups
body_above = refl
