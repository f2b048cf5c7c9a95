-- The connection that code and lent memory stand for, and when they are valid: what every call leaves.
use Rattle.std.specs.Prelude.{◌≡◌, true, List, ℕ, ◌<◌}
use Rattle.rules.specs.State.{Conn, entry, is_own}
use Rattle.rules.specs.declared.Config.{Config}
use Rattle.memory.specs.Slots as memory
use Rattle.memory.specs.declared.Memory.{Memory}
use Rattle.connection.specs.declared.Connection.{Connection}
use Rattle.connection.specs.declared.Terms.{Terms}

-- the settings of document 01: K and P stand with the memory
abbrev pub config_of : Terms → Memory → Config
config_of k m = record {
  mode = k.mode;
  max_num_streams = k.max_num_streams;
  limit = k.limit;
  read_after_close = k.read_after_close;
  split = k.split;
  interval = k.interval;
  first_time = k.first_time;
  first_id = k.first_id;
  slots = m.slots;
  pool = m.pool;
}

-- the state of document 01 that a connection and its lent memory stand for
abbrev pub abs_of : Connection → List ℕ → List ℕ → List ℕ → Conn
abs_of c t l p = record {
  config = config_of c.config c.memory;
  pings = c.rtt;
  ended = c.ended;
  next_id = c.next_id;
  open_wait = c.open_wait;
  growth = c.growth;
  slots = memory.slots_of c.memory t l p;
}

-- the own ids given so far are below the next one, which has our parity
pub record Fresh (c : Conn) : Type 0 where
  pub parity : is_own c.config.mode (record { 0 = c.next_id }) ≡ true
  pub below : (i : ℕ) → (entry c.slots i).listed ≡ true → is_own c.config.mode (entry c.slots i).stream.id ≡ true
      → (entry c.slots i).stream.id.0 < c.next_id

pub record Valid (c : Connection) (t l p : List ℕ) : Type 0 where
  pub memory : memory.Valid c.memory t l p
  pub fresh : Fresh (abs_of c t l p)
