-- What a connection is that was built anew over memory that became other slots. Assumes nothing.
use Rattle.std.proofs.Common.{◌≡◌, refl, Bool, true, List, ℕ}
use Rattle.rtt.specs.declared.Rtt.{Rtt}
use Rattle.rules.specs.Replies.{Outcome}
use Rattle.rules.specs.State.{Entry, Conn, is_own, with_pings, with_open_wait}
use Rattle.rules.specs.Ending.{gives}
use Rattle.handlers.specs.Perform.{outcome_of}
use Rattle.handlers.specs.declared.Answer.{Answer}
use Rattle.memory.specs.Moves.{Becomes}
use Rattle.memory.specs.Slots as memory
use Rattle.memory.specs.declared.Memory.{Memory}
use Rattle.memory.proofs.Starts.{nothing-advances}
use Rattle.connection.specs.Abstract.{config_of, abs_of, Valid}
use Rattle.connection.specs.Parts.{rebuilt, answered}
use Rattle.connection.specs.Promises.{Says, Follows}
use Rattle.connection.specs.declared.Connection.{Connection}
use Rattle.connection.proofs.Ids.{Below}

-- an answer without a body and bytes says its outcome
pub told : (a : Answer) → Says a (outcome_of a)
told a = record { reply = refl; slot = refl; value = refl; sent = refl; wakes = refl }

module _ (c : Connection) (t l p : List ℕ) (m : Memory) (es : List Entry) (t' l' p' : List ℕ) (b : Becomes c.memory t es m t' l' p')
    (r : Rtt) (ended : Bool) (next : ℕ) (wait : Bool) (growth : ℕ)
  where
    abbrev state : Conn
    state = record { config = config_of c.config c.memory; pings = r; ended = ended; next_id = next; open_wait = wait; growth = growth; slots = es }

    after : abs_of (rebuilt c r ended next wait growth m) t' l' p' ≡ state
    after = λ i. record {
      config = record {
        mode = c.config.mode;
        max_num_streams = c.config.max_num_streams;
        limit = c.config.limit;
        read_after_close = c.config.read_after_close;
        split = c.config.split;
        interval = c.config.interval;
        first_time = c.config.first_time;
        first_id = c.config.first_id;
        slots = b.same.0 i;
        pool = b.same.1 i;
      };
      pings = r;
      ended = ended;
      next_id = next;
      open_wait = wait;
      growth = growth;
      slots = b.slots i;
    }

    -- with own ids below the next one it follows a rule that leaves these slots
    pub becomes-follows : is_own c.config.mode (record { 0 = next }) ≡ true → Below c.config.mode next es
        → (a : Answer) (o : Outcome) → Says a o
        → Follows c t l p
        (gives o (record { config = config_of c.config c.memory; pings = r; ended = ended; next_id = next; open_wait = wait; growth = growth; slots = es }))
        (answered (rebuilt c r ended next wait growth m) a) t' l' p'
    becomes-follows parity below a o says = record {
      valid = record { memory = b.valid; fresh = record { parity = parity; below = rw b.slots below } };
      after = after;
      advances = b.advances;
      says = says;
    }

-- memory that stays
pub stays : (m : Memory) (t l p : List ℕ) → memory.Valid m t l p → Becomes m t (memory.slots_of m t l p) m t l p
stays m t l p v = record { valid = v; slots = refl; same = (refl, refl); advances = nothing-advances m t l p v }

-- an answer that leaves memory as it was: the pings and the open wait alone may change
pub answer_follows : (c : Connection) (t l p : List ℕ) (r : Rtt) (wait : Bool) (a : Answer) → Valid c t l p
    → Follows c t l p (gives (outcome_of a) (with_open_wait (with_pings (abs_of c t l p) r) wait))
    (answered (rebuilt c r c.ended c.next_id wait c.growth c.memory) a) t l p
answer_follows c t l p r wait a v =
    becomes-follows c t l p c.memory (memory.slots_of c.memory t l p) t l p (stays c.memory t l p v.memory) r c.ended c.next_id wait c.growth
    v.fresh.parity v.fresh.below a (outcome_of a) (told a)
