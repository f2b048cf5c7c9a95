-- What the program does, turn by turn, with the account of its reads and writes.
use Rattle.std.specs.Prelude.{◌≡◌, Bool, true, false, List, [], ◌++◌, ℕ, ◌-◌, ◌≤◌, length, take, Result, Ok, Err, ⊤}
use Rattle.rules.specs.Settings.{checked}
use Rattle.rules.specs.State.{initial}
use Rattle.rules.specs.declared.Settings.{Settings}
use Rattle.rules.specs.declared.Config.{Config}
use Rattle.connection.specs.Abstract.{abs_of, Valid}
use Rattle.connection.specs.declared.Connection.{Connection}
use Rattle.connection_open.specs.Start.{sized}
use Rattle.trace_events.specs.Format.{settings_at}
use Rattle.trace.specs.Output.{begun_as, last_line, allowance, IsLast}
use Rattle.trace.specs.Turns.{Runs}
use Rattle.trace.specs.declared.Stop.{Stop}
use Rattle.trace.specs.declared.Report.{Report}
use Rattle.trace.specs.declared.ends.Sizes.{Sizes}
use Rattle.trace.specs.declared.ends.Begun.{Begun}
use Rattle.filter.specs.Parts.{holding, done, work, Flushed, Fed}
use Rattle.filter.specs.Account.{Account, nothing, reads, then, Prefix}
use Rattle.filter.specs.declared.Standing.{Standing}
use Rattle.filter.specs.declared.Fault.{Fault}
use Rattle.filter.specs.declared.Fault.TheVariants.{Unread, Unlent}
use Rattle.trace_play.specs.Places.{next_task, place_of, after_run, moved, passed, fed_on}
use Rattle.trace_play.specs.declared.State.{State}
use Rattle.trace_play.specs.declared.Task.{Task}
use Rattle.trace_play.specs.declared.Task.TheVariants as task

-- ---- a turn

-- the lines that there were are written
pub record Wrote (s : State) (room : List ℕ) (b : Account) (s' : State) : Type 0 where
  pub flushed : Flushed s.standing room b s'.standing
  pub is : s' ≡ moved s s'.standing

-- more is read
pub record Took (s : State) (input : List ℕ) (b : Account) (s' : State) (input' : List ℕ) : Type 0 where
  pub fed : Fed s.standing input b s'.standing input'
  pub is : s' ≡ fed_on s s'.standing

-- a text stands at the start of the room
abbrev pub putting : Standing → ℕ → Standing
putting x end = record { at = x.at; have = x.have; put = end; ended = x.ended; done = x.done; work = x.work }

-- all is done
abbrev pub over : Standing → Standing
over x = record { at = x.at; have = x.have; put = x.put; ended = x.ended; done = true; work = x.work }

-- the lines that there were are written, and where that did its work, the last line, which the room then holds
pub data Closed (why : Stop) (s : State) (room : List ℕ) : Account → State → List ℕ → Type 0 where
  broken : {a : Account} {x : Standing} → Flushed s.standing room a x → done x ≡ true → Closed why s room a (moved s x) room
  last : {a b : Account} {x y : Standing} {room' : List ℕ} (end : ℕ) → Flushed s.standing room a x → done x ≡ false
      → take end room' ≡ last_line why (s.standing.have - s.standing.at) (passed s) s.applied s.connection.growth
      → Flushed (putting x end) room' b y → Closed why s room (then a b) (moved s (over y)) room'

abbrev pub Closes : Stop → State → List ℕ → State → List ℕ → Type 0
Closes why s room s' room' = (b : Account) × Closed why s room b s' room'

-- what follows a run that stopped so
abbrev pub GoesOn : Task → Stop → State → List ℕ → List ℕ → Account → State → List ℕ → List ℕ → Type 0
GoesOn task.Write why s input room b s' input' room' = Wrote s room b s' × (input' ≡ input) × (room' ≡ room)
GoesOn task.Read why s input room b s' input' room' = Took s input b s' input' × (room' ≡ room)
GoesOn task.End why s input room b s' input' room' = Closed why s room b s' room' × (input' ≡ input)

abbrev pub Goes : Stop → State → List ℕ → List ℕ → State → List ℕ → List ℕ → Type 0
Goes why s input room s' input' room' = (b : Account) × GoesOn (next_task why s.standing.ended) why s input room b s' input' room'

-- what is lent: table, links and pool, the input's buffer and the room for lines
pub record Lent : Type 0 where
  pub table : List ℕ
  pub links : List ℕ
  pub pool : List ℕ
  pub input : List ℕ
  pub room : List ℕ

abbrev pub lent : List ℕ → List ℕ → List ℕ → List ℕ → List ℕ → Lent
lent t l p input room = record { table = t; links = l; pool = p; input = input; room = room }

-- as much of table, links and pool as is asked for
abbrev pub fronts : Sizes → Lent → Lent
fronts z m = lent (take z.table m.table) (take z.links m.links) (take z.pool m.pool) m.input m.room

-- A turn is a run over what was read and not yet taken, and what follows it.
pub record Played (s : State) (m : Lent) (b : Account) (s' : State) (m' : Lent) : Type 0 where
  pub live : done s.standing ≡ false
  pub report : Report
  pub written : List ℕ
  pub runs : Runs true s.connection m.table m.links m.pool (take s.standing.have m.input) m.room (place_of s) allowance report m'.table m'.links m'.pool written
  pub goes : GoesOn (next_task report.stop s.standing.ended) report.stop (after_run s report) m.input written b s' m'.input m'.room

abbrev pub Turns : State → Lent → State → Lent → Type 0
Turns s m s' m' = (b : Account) × Played s m b s' m'

-- ---- the whole

-- turn by turn
pub data Plays (s : State) (m : Lent) : Account → State → Lent → Type 0 where
  none : Plays s m nothing s m
  more : {a b : Account} {s₁ s₂ : State} {m₁ m₂ : Lent} → Plays s m a s₁ m₁ → Played s₁ m₁ b s₂ m₂ → Plays s m (then a b) s₂ m₂

-- until all is done, with the work that reads and writes did and what is then in what is lent
pub record Ended (s : State) (m : Lent) (r : Result ⊤ Fault) (m' : Lent) : Type 0 where
  pub account : Account
  pub state : State
  pub plays : Plays s m account state m'
  pub done : done state.standing ≡ true
  pub work : r ≡ work state.standing

-- settings that are accepted, and memory of the sizes that they ask for
pub record Fitting (t : Settings) (table links pool : ℕ) : Type 0 where
  pub config : Config
  pub fine : checked t ≡ Ok config
  pub fits : sized config table links pool ≡ true

-- a new connection, of which no event is applied
pub record Started (t : Settings) (x : Standing) (input room : List ℕ) (r : Result ⊤ Fault) (m' : Lent) : Type 0 where
  pub connection : Connection
  pub table : List ℕ
  pub links : List ℕ
  pub pool : List ℕ
  pub valid : Valid connection table links pool
  pub new : (k : Config) → checked t ≡ Ok k → abs_of connection table links pool ≡ initial k
  pub ended : Ended (record { connection = connection; applied = 0; before = 0; standing = x }) (lent table links pool input room) r m'

-- the one line of a trace without an event is written, and the room holds it
pub record OnlyLine (why : Stop) (x : Standing) (b : Account) (r : Result ⊤ Fault) (room' : List ℕ) : Type 0 where
  pub to : Standing
  pub end : ℕ
  pub text : take end room' ≡ last_line why 0 0 0 0
  pub flushed : Flushed (putting x end) room' b to
  pub work : r ≡ work to

abbrev pub Lines : Stop → Standing → Result ⊤ Fault → List ℕ → Type 0
Lines why x r room' = (b : Account) × OnlyLine why x b r room'

-- the first hundred bytes, which decide the settings, are there, or the input has ended
abbrev pub Enough : ℕ → Bool → Type 0
Enough have ended = ended ≡ false → 100 ≤ have

-- What the program does with a standard input, from what is lent to what is in it after, and the work that reads and writes did: the settings
-- are not read, or no event is reached and the last line is put, or the events are played from the place after the settings on, in as much of
-- table, links and pool as the settings ask for.
pub data Performed (m : Lent) : Account → Result ⊤ Fault → Lent → Type 0 where
  unread : (have : ℕ) (input : List ℕ) → Performed m (reads (take have input)) (Err Unread) (lent m.table m.links m.pool input m.room)
  unreached : {b : Account} {room' : List ℕ} (have : ℕ) (ended : Bool) (input : List ℕ) (why : Stop) (r : Result ⊤ Fault) → Enough have ended → have ≤ length input → begun_as (settings_at (take have input)) ≡ Err why → OnlyLine why (holding have ended) b r room'
      → Performed m (then (reads (take have input)) b) r (lent m.table m.links m.pool input room')
  played : {m' : Lent} (have : ℕ) (ended : Bool) (input : List ℕ) (begun : Begun) (r : Result ⊤ Fault) → Enough have ended → have ≤ length input → begun_as (settings_at (take have input)) ≡ Ok begun
      → (e : Started begun.settings (record { at = begun.next; have = have; put = 0; ended = ended; done = false; work = Ok tt }) input m.room r (fronts begun.sizes m'))
      → Performed m (then (reads (take have input)) e.ended.account) r m'

-- whether a read said that the input has ended
abbrev pub is_ended : {m : Lent} {b : Account} {r : Result ⊤ Fault} {m' : Lent} → Performed m b r m' → Bool
is_ended (unread have input) = false
is_ended (unreached have ended input why r n h e o) = ended
is_ended (played have ended input b r n h e q) = q.ended.state.standing.ended

abbrev pub Performs : Lent → Result ⊤ Fault → Lent → Type 0
Performs m r m' = (b : Account) × Performed m b r m'

-- where what is lent is of a wrong size, that is said, and nothing is done
abbrev pub Replays : Bool → Lent → Result ⊤ Fault → Lent → Type 0
Replays true m r m' = Performs m r m'
Replays false m r m' = (r ≡ Err Unlent) × (m' ≡ m)

-- The last line of a text stands at the room's start: one of a run that is over, for a run that stopped for room has none.
pub record Lasts (text room : List ℕ) : Type 0 where
  pub front : List ℕ
  pub why : Stop
  pub left : ℕ
  pub byte : ℕ
  pub applied : ℕ
  pub growth : ℕ
  pub over : IsLast [] why
  pub is : text ≡ front ++ last_line why left byte applied growth
  pub there : Prefix (last_line why left byte applied growth) room
