-- A new connection. Sentences are document 01's.
use Rattle.std.specs.Prelude.{◌≡◌, Bool, true, false, cond, List, ℕ, ◌≤◌, ◌<◌, ◌^◌, length, Ok, Err, Result}
use Rattle.rtt.specs.Pings.{start}
use Rattle.rules.specs.Settings.{config_of, holds, setting_number, permitted, checked, FirstWrong}
use Rattle.rules.specs.State.{first_own, initial}
use Rattle.rules.specs.declared.Settings.{Settings}
use Rattle.rules.specs.declared.Setting.{Setting}
use Rattle.rules.specs.declared.Config.{Config}
use Rattle.memory.specs.Counts.{fits}
use Rattle.memory.specs.declared.Memory.{Memory}
use Rattle.connection.specs.Abstract.{abs_of, Valid}
use Rattle.connection.specs.declared.Connection.{Connection}
use Rattle.connection_open.specs.declared.NotCreated.{NotCreated}
use Rattle.connection_open.specs.declared.NotCreated.TheVariants.{Wrong, Size}

-- 0 is done; M-100: "for settings, 14 becomes 21 to 30"; 14: "a lent table, pool or header of the wrong size"
abbrev pub number : Result Connection NotCreated → ℕ
number (Ok c) = 0
number (Err (Wrong w)) = setting_number w
number (Err Size) = 14

-- whether lent slices of these lengths have the sizes for K slots and P bytes
abbrev pub sized : Config → ℕ → ℕ → ℕ → Bool
sized k t l p = fits k.slots k.pool t l p

-- the connection before its first call
abbrev pub started : Config → Memory → Connection
started k m = record {
  config = record {
    mode = k.mode;
    max_num_streams = k.max_num_streams;
    limit = k.limit;
    read_after_close = k.read_after_close;
    split = k.split;
    interval = k.interval;
    first_time = k.first_time;
    first_id = k.first_id;
  };
  rtt = start k.first_time k.first_id;
  ended = false;
  next_id = first_own k.mode;
  open_wait = false;
  growth = 0;
  memory = m;
}

-- a connection is made, valid, and its state is the initial one
abbrev pub Begins : Config → Result Connection NotCreated → List ℕ → List ℕ → List ℕ → Type 0
Begins k (Ok c) t l p = Valid c t l p × (abs_of c t l p ≡ initial k)
Begins k (Err e) t l p = ⊥

-- "Settings": slots K, 1..1,024; pool P bytes, 0..2^32-1
pub record Ranged (k : Config) : Type 0 where
  pub some : 1 ≤ k.slots
  pub most : k.slots ≤ 1024
  pub pooled : k.pool < 2 ^ 32

-- with settings in range: a wrong size is 14 and leaves what is lent as it was; else the connection is made
pub record Lays (k : Config) (t l p : List ℕ) (r : Result Connection NotCreated) (t' l' p' : List ℕ) : Type 0 where
  pub sizes : sized k (length t) (length l) (length p) ≡ false → (r ≡ Err Size) × (t' ≡ t) × (l' ≡ l)
  pub made : sized k (length t) (length l) (length p) ≡ true → Ranged k → Begins k r t' l' p'
  pub pool : p' ≡ p

-- Settings first, then the sizes. What is refused changes nothing lent; accepted settings with the right sizes make a valid
-- connection in the rules' initial state. The pool's bytes stay in every case.
pub record Creates (s : Settings) (t l p : List ℕ) (r : Result Connection NotCreated) (t' l' p' : List ℕ) : Type 0 where
  pub wrong : (w : Setting) → checked s ≡ Err w → (r ≡ Err (Wrong w)) × (t' ≡ t) × (l' ≡ l)
  pub sizes : (k : Config) → checked s ≡ Ok k → sized k (length t) (length l) (length p) ≡ false → (r ≡ Err Size) × (t' ≡ t) × (l' ≡ l)
  pub made : (k : Config) → checked s ≡ Ok k → sized k (length t) (length l) (length p) ≡ true → Begins k r t' l' p'
  pub pool : p' ≡ p

-- What the contract says of the number (proved), from any ten numbers: the least one whose test fails, whatever is lent; where every test
-- holds, 14 at a wrong size and else 0. So 14 is left for lent memory alone.
pub record Numbers (s : Settings) (t l p : List ℕ) (r : Result Connection NotCreated) : Type 0 where
  pub wrong : (w : Setting) → FirstWrong (holds permitted s) w → number r ≡ setting_number w
  pub fine : ((w : Setting) → holds permitted s w ≡ true) → number r ≡ cond (sized (config_of s) (length t) (length l) (length p)) 0 14
  pub size : number r ≡ 14 → ((w : Setting) → holds permitted s w ≡ true) × (sized (config_of s) (length t) (length l) (length p) ≡ false)
