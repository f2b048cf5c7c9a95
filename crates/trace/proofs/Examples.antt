-- Settings as bytes, in the order in which they are read, and what is printed for them: each number is that of the setting that is wrong.
-- Assumes nothing.
use Rattle.std.proofs.Common.{◌≡◌, refl, [], ◌∷◌}
use Rattle.trace_events.specs.Numbers.{groups, number_at}
use Rattle.trace_events.specs.Format.{settings_at}
use Rattle.trace_lines.specs.Line.{bad_line, config_line}
use Rattle.trace.specs.Output.{output}

-- ---- one wrong: the others are mode 0, M 0, limit 0, read-after-close 0, split 1, interval 1, first time 0, first ping id 0, K 1, P 0

-- mode 2
pub wrong_mode : output (2 ∷ 0 ∷ 0 ∷ 0 ∷ 1 ∷ 1 ∷ 0 ∷ 0 ∷ 1 ∷ 0 ∷ []) ≡ config_line 21
unfolding settings_at number_at groups
wrong_mode = refl

-- M 513
pub wrong_streams : output (0 ∷ 129 ∷ 4 ∷ 0 ∷ 0 ∷ 1 ∷ 1 ∷ 0 ∷ 0 ∷ 1 ∷ 0 ∷ []) ≡ config_line 22
unfolding settings_at number_at groups
wrong_streams = refl

-- M 1 and limit 262,143
pub wrong_limit : output (0 ∷ 1 ∷ 255 ∷ 255 ∷ 15 ∷ 0 ∷ 1 ∷ 1 ∷ 0 ∷ 0 ∷ 1 ∷ 0 ∷ []) ≡ config_line 23
unfolding settings_at number_at groups
wrong_limit = refl

-- read-after-close 2
pub wrong_after_close : output (0 ∷ 0 ∷ 0 ∷ 2 ∷ 1 ∷ 1 ∷ 0 ∷ 0 ∷ 1 ∷ 0 ∷ []) ≡ config_line 24
unfolding settings_at number_at groups
wrong_after_close = refl

-- split 0
pub wrong_split : output (0 ∷ 0 ∷ 0 ∷ 0 ∷ 0 ∷ 1 ∷ 0 ∷ 0 ∷ 1 ∷ 0 ∷ []) ≡ config_line 25
unfolding settings_at number_at groups
wrong_split = refl

-- interval 0
pub wrong_interval : output (0 ∷ 0 ∷ 0 ∷ 0 ∷ 1 ∷ 0 ∷ 0 ∷ 0 ∷ 1 ∷ 0 ∷ []) ≡ config_line 26
unfolding settings_at number_at groups
wrong_interval = refl

-- first time 2^62
pub wrong_first_time : output (0 ∷ 0 ∷ 0 ∷ 0 ∷ 1 ∷ 1 ∷ 128 ∷ 128 ∷ 128 ∷ 128 ∷ 128 ∷ 128 ∷ 128 ∷ 128 ∷ 64 ∷ 0 ∷ 1 ∷ 0 ∷ []) ≡ config_line 27
unfolding settings_at number_at groups
wrong_first_time = refl

-- first ping id 2^32
pub wrong_first_id : output (0 ∷ 0 ∷ 0 ∷ 0 ∷ 1 ∷ 1 ∷ 0 ∷ 128 ∷ 128 ∷ 128 ∷ 128 ∷ 16 ∷ 1 ∷ 0 ∷ []) ≡ config_line 28
unfolding settings_at number_at groups
wrong_first_id = refl

-- K 0
pub wrong_slots : output (0 ∷ 0 ∷ 0 ∷ 0 ∷ 1 ∷ 1 ∷ 0 ∷ 0 ∷ 0 ∷ 0 ∷ []) ≡ config_line 29
unfolding settings_at number_at groups
wrong_slots = refl

-- P 16,385
pub wrong_pool : output (0 ∷ 0 ∷ 0 ∷ 0 ∷ 1 ∷ 1 ∷ 0 ∷ 0 ∷ 1 ∷ 129 ∷ 128 ∷ 1 ∷ []) ≡ config_line 30
unfolding settings_at number_at groups
wrong_pool = refl

-- ---- more than one, and bounds by another

-- M 400, a limit of 400 x 262,144 and K 300
pub fewer_slots : output (0 ∷ 144 ∷ 3 ∷ 128 ∷ 128 ∷ 128 ∷ 50 ∷ 0 ∷ 1 ∷ 1 ∷ 0 ∷ 0 ∷ 172 ∷ 2 ∷ 0 ∷ []) ≡ config_line 29
unfolding settings_at number_at groups
fewer_slots = refl

-- K 301 and P 2^40: the first in order, not the first that the connection's own bounds would find
pub more_slots : output (0 ∷ 0 ∷ 0 ∷ 0 ∷ 1 ∷ 1 ∷ 0 ∷ 0 ∷ 173 ∷ 2 ∷ 128 ∷ 128 ∷ 128 ∷ 128 ∷ 128 ∷ 32 ∷ []) ≡ config_line 29
unfolding settings_at number_at groups
more_slots = refl

-- M 513, limit 0, read-after-close 2, split and interval 0, first time 2^62, first ping id 2^32, K 0, P 2^32 and mode 2
pub all_wrong : output (2 ∷ 129 ∷ 4 ∷ 0 ∷ 2 ∷ 0 ∷ 0 ∷ 128 ∷ 128 ∷ 128 ∷ 128 ∷ 128 ∷ 128 ∷ 128 ∷ 128 ∷ 64 ∷ 128 ∷ 128 ∷ 128 ∷ 128 ∷ 16 ∷ 0 ∷ 128 ∷ 128 ∷ 128 ∷ 128 ∷ 16 ∷ []) ≡ config_line 21
unfolding settings_at number_at groups
all_wrong = refl

-- ---- unreadable settings

pub empty : output [] ≡ bad_line 0 0
unfolding settings_at number_at groups
empty = refl

-- a mode of 2, and no more
pub cut_settings : output (2 ∷ []) ≡ bad_line 0 0
unfolding settings_at number_at groups
cut_settings = refl
