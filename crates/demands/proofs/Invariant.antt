-- What every call keeps, and the laws by which one slot's change keeps it. Assumes nothing.
use Rattle.std.proofs.Common.{◌≡◌, refl, sym, ap, ◌∙◌, ◌≢◌, Bool, true, false, List, ℕ, ◌+◌, ◌*◌, ◌%◌, ◌≤◌, ◌<◌, arith, le_refl, length, set, length-set}
use native.Mathlib.Decide.{dec_lt}
use lib.ListN.{get_or-eq_default}
use Rattle.frame.specs.Header.{initial_window}
use Rattle.frame.specs.declared.header.StreamId.{StreamId}
use Rattle.flow_control.specs.Windows.{top}
use Rattle.flow_control.specs.declared.FlowController.{FlowController}
use Rattle.stream.specs.declared.State.TheVariants.{Closed}
use Rattle.rules.specs.declared.Config.{Config}
use Rattle.rules.specs.Settings.{last_time}
use Rattle.rules.specs.Lists.{sum}
use Rattle.rules.specs.State.{Entry, Conn, vacant, entry, one, first_own, is_own, listed_count, unread_total}
use Rattle.rules.specs.Calls.{growth_of}
use Rattle.rules.proofs.Lists.{sum-set}
use Rattle.demands.proofs.Lists.{true-not-false, at_set}

-- ---- what is kept

-- the windows of a stream with so many unread bytes
pub record Flows (f : FlowController) (unread : ℕ) : Type 0 where
  pub low : initial_window ≤ f.max_receive_window
  pub high : f.max_receive_window ≤ top
  pub fits : unread + f.receive_window ≤ f.max_receive_window
  pub sends : f.send_window ≤ top

pub record Good (e : Entry) : Type 0 where
  pub free : e.held ≡ false → e ≡ vacant
  pub holds : e.listed ≡ true → e.held ≡ true
  pub closes : e.held ≡ true → e.listed ≡ false → e.stream.state ≡ Closed
  pub flows : Flows e.stream.flow (length e.bytes)

-- the settings that were accepted
pub record Allowed (c : Config) : Type 0 where
  pub streams : c.max_num_streams ≤ 512
  pub least : c.max_num_streams * initial_window ≤ c.limit
  pub splits : 1 ≤ c.split
  pub split : c.split ≤ top
  pub intervals : 1 ≤ c.interval
  pub interval : c.interval ≤ last_time
  pub first-time : c.first_time ≤ last_time
  pub first-id : c.first_id ≤ top
  pub some : 1 ≤ c.slots
  pub many : c.slots ≤ 1024
  pub enough : c.max_num_streams ≤ c.slots
  pub pool : c.pool ≤ top

abbrev pub id_at : List Entry → ℕ → ℕ
id_at es i = (entry es i).stream.id.0

pub record Kept (config : Config) (ended : Bool) (next_id growth : ℕ) (slots : List Entry) : Type 0 where
  pub allowed : Allowed config
  pub size : length slots ≡ config.slots
  pub good : (i : ℕ) → Good (entry slots i)
  pub unique : (i j : ℕ) → (entry slots i).listed ≡ true → (entry slots j).listed ≡ true → id_at slots i ≡ id_at slots j → i ≡ j
  pub count : listed_count slots ≤ config.max_num_streams
  pub figure : growth ≡ sum growth_of slots
  pub bounded : growth + config.max_num_streams * initial_window ≤ config.limit
  pub room : unread_total slots ≤ config.pool
  pub last : next_id ≤ top
  pub parity : next_id % 2 ≡ first_own config.mode % 2
  pub below : (i : ℕ) → (entry slots i).held ≡ true → is_own config.mode (entry slots i).stream.id ≡ true → id_at slots i < next_id
  pub quiet : ended ≡ true → (i : ℕ) → (entry slots i).listed ≡ false

abbrev pub Inv : Conn → Type 0
Inv c = Kept c.config c.ended c.next_id c.growth c.slots

-- ---- a slot whose handle is held

pub vacant_good : Good vacant
vacant_good = record {
  free = λ e. refl;
  holds = λ e. true-not-false e refl;
  closes = λ e f. true-not-false e refl;
  flows = record { low = le_refl _; high = omega arith; fits = omega arith; sends = omega arith };
}

pub held_good : (e : Entry) → e.held ≡ true → (e.listed ≡ false → e.stream.state ≡ Closed) → Flows e.stream.flow (length e.bytes) → Good e
held_good e h c f = record { free = λ n. true-not-false h n; holds = λ l. h; closes = λ k l. c l; flows = f }

-- a slot that is held is one of the K
pub in_range : (es : List Entry) (i : ℕ) → (entry es i).held ≡ true → i < length es
in_range es i h = go (dec_lt i (length es))
  where
    go : Dec (i < length es) → i < length es
    go (yes l) = l
    go (no n) = true-not-false h (ap (λ (e : Entry). e.held) (get_or-eq_default es vacant (omega arith)))

-- ---- one slot changed

-- that x may stand in slot i, with the growth figure g and the next id n
pub record Fit (c : Conn) (i : ℕ) (x : Entry) (g n : ℕ) : Type 0 where
  pub good : Good x
  pub apart : x.listed ≡ true → (j : ℕ) → j ≢ i → (entry c.slots j).listed ≡ true → id_at c.slots j ≡ x.stream.id.0 → ⊥
  pub count : listed_count c.slots + one x.listed ≤ c.config.max_num_streams + one (entry c.slots i).listed
  pub figure : g + growth_of (entry c.slots i) ≡ c.growth + growth_of x
  pub bounded : g + c.config.max_num_streams * initial_window ≤ c.config.limit
  pub room : unread_total c.slots + length x.bytes ≤ c.config.pool + length (entry c.slots i).bytes
  pub rises : c.next_id ≤ n
  pub last : n ≤ top
  pub parity : n % 2 ≡ c.next_id % 2
  pub below : x.held ≡ true → is_own c.config.mode x.stream.id ≡ true → x.stream.id.0 < n
  pub quiet : c.ended ≡ true → x.listed ≡ false

module _ (c : Conn) (v : Inv c) (i : ℕ) (h : i < length c.slots) (x : Entry) (g n : ℕ) (f : Fit c i x g n) where
  abbrev after : List Entry
  after = set c.slots i x

  Apart : ℕ → Entry → Type 0
  Apart j e = (k : ℕ) → e.listed ≡ true → (entry after k).listed ≡ true → e.stream.id.0 ≡ id_at after k → j ≡ k

  apart-new : (k : ℕ) → x.listed ≡ true → (entry after k).listed ≡ true → x.stream.id.0 ≡ id_at after k → i ≡ k
  apart-new k l =
      at_set (λ k e. e.listed ≡ true → x.stream.id.0 ≡ e.stream.id.0 → i ≡ k) c.slots i x vacant h
      (λ m e. refl)
      (λ j ne m e. absurd (f.apart l j ne m (sym e)))
      k

  apart-old : (j : ℕ) → j ≢ i → (k : ℕ) → (entry c.slots j).listed ≡ true → (entry after k).listed ≡ true → id_at c.slots j ≡ id_at after k → j ≡ k
  apart-old j ne k l =
      at_set (λ k e. e.listed ≡ true → id_at c.slots j ≡ e.stream.id.0 → j ≡ k) c.slots i x vacant h
      (λ m e. absurd (f.apart m j ne l e))
      (λ k nk m e. v.unique j k l m e)
      k

  apart : (j : ℕ) → Apart j (entry after j)
  unfolding Apart
  apart = at_set Apart c.slots i x vacant h apart-new apart-old

  pub replaced : Kept c.config c.ended n g (set c.slots i x)
  unfolding Apart
  replaced = record {
    allowed = v.allowed;
    size = length-set c.slots i x ∙ v.size;
    good = at_set (λ j e. Good e) c.slots i x vacant h f.good (λ j ne. v.good j);
    unique = λ j k. apart j k;
    count = omega (arith, sum-set (λ e. one e.listed) c.slots i x vacant h, f.count);
    figure = omega (arith, sum-set growth_of c.slots i x vacant h, f.figure, v.figure);
    bounded = f.bounded;
    room = omega (arith, sum-set (λ e. length e.bytes) c.slots i x vacant h, f.room);
    last = f.last;
    parity = f.parity ∙ v.parity;
    below =
        at_set (λ j e. e.held ≡ true → is_own c.config.mode e.stream.id ≡ true → e.stream.id.0 < n) c.slots i x vacant h f.below
        (λ j ne k o. omega (arith, v.below j k o, f.rises));
    quiet = λ e. at_set (λ j x. x.listed ≡ false) c.slots i x vacant h (f.quiet e) (λ j ne. v.quiet e j);
  }

-- ---- a slot that keeps its handle and its id

-- one that stays in the table was in it
falls : (a b : Bool) → (a ≡ true → b ≡ true) → one a ≤ one b
falls true b f = rw (f refl) (le_refl _)
falls false b f = omega arith

same_falls : (a b : Bool) → (a ≡ true → b ≡ true) → b ≡ false → a ≡ false
same_falls true b f e = true-not-false (f refl) e
same_falls false b f e = refl

-- that x may stand for the held entry in slot i
pub record Stays (c : Conn) (i : ℕ) (x : Entry) (g : ℕ) : Type 0 where
  pub held : (entry c.slots i).held ≡ true
  pub id : x.stream.id ≡ (entry c.slots i).stream.id
  pub good : Good x
  pub lists : x.listed ≡ true → (entry c.slots i).listed ≡ true
  pub figure : g + growth_of (entry c.slots i) ≡ c.growth + growth_of x
  pub bounded : g + c.config.max_num_streams * initial_window ≤ c.config.limit
  pub room : unread_total c.slots + length x.bytes ≤ c.config.pool + length (entry c.slots i).bytes

module _ (c : Conn) (v : Inv c) (i : ℕ) (x : Entry) (g : ℕ) (s : Stays c i x g) where
  pub stays : Kept c.config c.ended c.next_id g (set c.slots i x)
  stays =
      replaced c v i (in_range c.slots i s.held) x g c.next_id (record {
        good = s.good;
        apart = λ l j ne k e. ne (v.unique j i k (s.lists l) (e ∙ ap (λ (d : StreamId). d.0) s.id));
        count = omega (arith, falls x.listed (entry c.slots i).listed s.lists, v.count);
        figure = s.figure;
        bounded = s.bounded;
        room = s.room;
        rises = le_refl _;
        last = v.last;
        parity = refl;
        below = λ k o. rw s.id (v.below i s.held (rw (← s.id) o));
        quiet = λ e. same_falls x.listed (entry c.slots i).listed s.lists (v.quiet e i);
      })
