-- "Settings", and the number of each (request M-100). Other sentences are document 01's.
use Rattle.std.specs.Prelude.{◌≡◌, Bool, false, cond, List, [], ◌∷◌, ℕ, ◌*◌, ◌≤◌, leb, eqb, Result, Ok, Err}
use Rattle.frame.specs.Header.{initial_window}
use Rattle.rules.specs.declared.Settings.{Settings}
use Rattle.rules.specs.declared.Most.{Most}
use Rattle.rules.specs.declared.Config.{Config}
use Rattle.rules.specs.declared.Mode.{Mode}
use Rattle.rules.specs.declared.Mode.TheVariants.{Client, Server}
use Rattle.rules.specs.declared.Setting.{Setting}
use Rattle.rules.specs.declared.Setting.TheVariants as setting

-- "Times are nanoseconds, 0..2^62-1."
abbrev pub last_time : ℕ
last_time = 4611686018427387903

abbrev pub within : ℕ → ℕ → ℕ → Bool
within low high x = cond (leb low x) (leb x high) false

-- "Mode": 0 client, 1 server
abbrev pub mode_of : ℕ → Mode
mode_of n = cond (eqb n 0) Client Server

abbrev pub config_of : Settings → Config
config_of s = record {
  mode = mode_of s.mode;
  max_num_streams = s.max_num_streams;
  limit = s.limit;
  read_after_close = eqb s.read_after_close 1;
  split = s.split;
  interval = s.interval;
  first_time = s.first_time;
  first_id = s.first_id;
  slots = s.slots;
  pool = s.pool;
}

-- "Mode; permitted streams M 0..512; connection limit up to 2^64-1 .., at least M x 262,144; read-after-close; split size
-- 1..2^32-1; ping interval 1..2^62-1 ns; first ping time 0..2^62-1; first ping id (32 bits); slots K, 1..1,024 and K >= M; pool P bytes,
-- 0..2^32-1"; and K and P are no more than a program permits. M-100: "the limit against M x 262,144 is tested where the limit stands,
-- K >= M where K stands".
abbrev pub holds : Most → Settings → Setting → Bool
holds m s setting.Mode = leb s.mode 1
holds m s setting.Streams = leb s.max_num_streams 512
holds m s setting.Limit = leb (s.max_num_streams * initial_window) s.limit
holds m s setting.ReadAfterClose = leb s.read_after_close 1
holds m s setting.Split = within 1 4294967295 s.split
holds m s setting.Interval = within 1 last_time s.interval
holds m s setting.FirstTime = leb s.first_time last_time
holds m s setting.FirstId = leb s.first_id 4294967295
holds m s setting.Slots = cond (within 1 1024 s.slots) (cond (leb s.max_num_streams s.slots) (leb s.slots m.slots) false) false
holds m s setting.Pool = cond (leb s.pool 4294967295) (leb s.pool m.pool) false

-- M-100: "one for each in that order", the order in which they are read
abbrev pub setting_number : Setting → ℕ
setting_number setting.Mode = 21
setting_number setting.Streams = 22
setting_number setting.Limit = 23
setting_number setting.ReadAfterClose = 24
setting_number setting.Split = 25
setting_number setting.Interval = 26
setting_number setting.FirstTime = 27
setting_number setting.FirstId = 28
setting_number setting.Slots = 29
setting_number setting.Pool = 30

-- M-100: "first wrong one given", of these; else what comes after them
abbrev pub judged : (Setting → Bool) → List Setting → Result Config Setting → Result Config Setting
judged ok [] next = next
judged ok (w ∷ ws) next = cond (ok w) (judged ok ws next) (Err w)

-- the last four, and all ten, in the order in which they are read
abbrev pub last_four : List Setting
last_four = setting.FirstTime ∷ setting.FirstId ∷ setting.Slots ∷ setting.Pool ∷ []

abbrev pub in_order : List Setting
in_order = setting.Mode ∷ setting.Streams ∷ setting.Limit ∷ setting.ReadAfterClose ∷ setting.Split ∷ setting.Interval ∷ last_four

abbrev pub checked_within : Most → Settings → Result Config Setting
checked_within m s = judged (holds m s) in_order (Ok (config_of s))

-- a connection permits what document 01 does
abbrev pub permitted : Most
permitted = record { slots = 1024; pool = 4294967295 }

abbrev pub checked : Settings → Result Config Setting
checked s = checked_within permitted s

-- What the answer says of any ten numbers (proved): the setting named is the one of the least number among those whose test fails.
pub record FirstWrong (ok : Setting → Bool) (w : Setting) : Type 0 where
  pub fails : ok w ≡ false
  pub least : (v : Setting) → ok v ≡ false → setting_number w ≤ setting_number v
