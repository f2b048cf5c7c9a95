-- The third demand, and what answers carry, each as a statement that can be read without its proof. `proofs/Theorems.antt` proves
-- each under the same name in lower case. `Reach c` is any state that accepted settings and any calls lead to.
use Rattle.std.specs.Prelude.{◌≡◌, ◌≢◌, Bool, true, false, cond, List, [], ◌∷◌, ◌++◌, ℕ, zero, suc, ◌+◌, ◌-◌, ◌*◌, ◌%◌, ◌≤◌, ◌<◌, min, length, take, drop, Option, Some, None, Ok}
use Rattle.frame.specs.Header.{initial_window}
use Rattle.frame.specs.Wire.{decoded}
use Rattle.frame.specs.declared.header.Header.{Header}
use Rattle.frame.specs.declared.header.StreamId.{StreamId}
use Rattle.flow_control.specs.Windows.{top}
use Rattle.stream.specs.declared.State.TheVariants.{Closed}
use Rattle.rules.specs.declared.Settings.{Settings}
use Rattle.rules.specs.declared.Config.{Config}
use Rattle.rules.specs.declared.Mode.{Mode}
use Rattle.rules.specs.declared.Mode.TheVariants.{Client, Server}
use Rattle.rules.specs.declared.Reply.TheVariants as reply
use Rattle.rules.specs.Settings.{checked, last_time}
use Rattle.rules.specs.State.{Conn, initial, vacant, entry, one, first_own, is_own, listed_count, unread_total, room}
use Rattle.rules.specs.Ending.{Effect, gives}
use Rattle.rules.specs.Calls.{growth_of, on_slot}
use Rattle.rules.specs.Step.{step, run}
use Rattle.rules.specs.Step as rules
use Rattle.rules.specs.Replies.{Outcome, leaves_all, may_give}
use Rattle.demands.specs.Demands.{Reach, held_count, held_growth, and, would_open, would_queue, would_make, Overflows}
use Rattle.demands.specs.History.{Heard, Story, is_done}

-- ---- growth

-- "it is a sum over held streams": the figure is the sum, over streams whose handle is held, in the table or not, of the receive
-- maximum above 262,144.
abbrev pub GrowthIsASum : Type 0
GrowthIsASum = (c : Conn) → Reach c → c.growth ≡ held_growth c.slots

-- The figure is at most limit - M x 262,144, and that minus hides nothing: M x 262,144 is at most the limit.
abbrev pub GrowthIsWithin : Type 0
GrowthIsWithin =
    (c : Conn) → Reach c →
    (c.config.max_num_streams * initial_window ≤ c.config.limit)
    × (c.growth ≤ c.config.limit - c.config.max_num_streams * initial_window)

-- "A dropped handle returns its growth once": the figure holds it until then, so that the minus at the drop hides nothing.
abbrev pub GrowthIsReturned : Type 0
GrowthIsReturned =
    (c : Conn) → Reach c → (now i : ℕ) → now ≤ last_time → (entry c.slots i).held ≡ true →
    (growth_of (entry c.slots i) ≤ c.growth) × ((step c (rules.drop now i)).after.growth ≡ c.growth - growth_of (entry c.slots i))

-- Whether a call may move the figure: only a read, which may raise it, and a drop.
abbrev pub moves_growth : rules.Call → Bool
moves_growth (rules.tick now) = false
moves_growth (rules.frame now head body) = false
moves_growth (rules.open_stream now) = false
moves_growth (rules.read now i asked) = true
moves_growth (rules.write now i given) = false
moves_growth (rules.close now i) = false
moves_growth (rules.drop now i) = true
moves_growth (rules.gone now) = false

-- So no frame gives growth back, an RST among them, and no ending does.
abbrev pub GrowthStays : Type 0
GrowthStays = (c : Conn) → Reach c → (k : rules.Call) → moves_growth k ≡ false → (step c k).after.growth ≡ c.growth

-- ---- bytes

-- Of a held stream, unread and receive window are within the receive maximum; it is from 262,144 to 2^32-1, and the send window
-- is at most 2^32-1.
abbrev pub WindowsAreWithin : Type 0
WindowsAreWithin =
    (c : Conn) → Reach c → (i : ℕ) → (entry c.slots i).held ≡ true →
    let f = (entry c.slots i).stream.flow in
    (length (entry c.slots i).bytes + f.receive_window ≤ f.max_receive_window)
    × (initial_window ≤ f.max_receive_window) × (f.max_receive_window ≤ top) × (f.send_window ≤ top)

-- What a handle accepted since it was made is what its reads gave and then what is unread, in order.
abbrev pub BytesAreKept : Type 0
BytesAreKept =
    (c : Conn) (h : ℕ → Heard) → Story c h → (i : ℕ) → (h i).taken ≡ (h i).given ++ (entry c.slots i).bytes

-- So unread is accepted less the first ones, as many as were read.
abbrev pub UnreadIsTheRest : Type 0
UnreadIsTheRest =
    (c : Conn) (h : ℕ → Heard) → Story c h → (i : ℕ) → (entry c.slots i).bytes ≡ drop (length (h i).given) (h i).taken

-- The bytes that a read gives are the next accepted ones: those after the ones that were given.
abbrev pub ReadsGiveTheNext : Type 0
ReadsGiveTheNext =
    (c : Conn) (h : ℕ → Heard) → Story c h → (now i asked : ℕ) →
    let bytes = (step c (rules.read now i asked)).outcome.bytes in
    bytes ≡ take (length bytes) (drop (length (h i).given) (h i).taken)

-- "ended with read-after-close off"
abbrev pub ended_for_reads : Conn → Bool
ended_for_reads c = cond c.ended (cond c.config.read_after_close false true) false

-- "the oldest min(asked, unread) bytes": but for such a connection, a read on a held handle gives so many.
abbrev pub ReadsGiveAll : Type 0
ReadsGiveAll =
    (c : Conn) → (now i asked : ℕ) → now ≤ last_time → ended_for_reads c ≡ false → (entry c.slots i).held ≡ true →
    (step c (rules.read now i asked)).outcome.bytes ≡ take (min asked (length (entry c.slots i).bytes)) (entry c.slots i).bytes

-- "Read: ended with read-after-close off, done with 0 bytes": nothing is given, and nothing changes.
abbrev pub EndedReadsGiveNone : Type 0
EndedReadsGiveNone =
    (c : Conn) → (now i asked : ℕ) → now ≤ last_time → ended_for_reads c ≡ true → (entry c.slots i).held ≡ true →
    step c (rules.read now i asked) ≡ gives (on_slot i reply.Done (Some 0) None []) c

-- All unread bytes are within the pool, so that "P less all unread bytes" hides nothing.
abbrev pub UnreadIsWithin : Type 0
UnreadIsWithin = (c : Conn) → Reach c → unread_total c.slots ≤ c.config.pool

-- ---- slots and room

-- each holds where the other does
abbrev pub Exactly : Type 0 → Type 0 → Type 0
Exactly A B = (A → B) × (B → A)

-- "Seven is given exactly when the rules would make a stream and all K slots are in use": of a frame, of an open, of no other call.
abbrev pub SevenExactly : Type 0
SevenExactly =
    (c : Conn) → Reach c → (k : rules.Call) →
    Exactly ((step c k).outcome.reply ≡ reply.NoSlot) ((would_make c k ≡ true) × (held_count c.slots ≡ c.config.slots))

-- "8 exactly when the body would be queued and is longer than the room", and 7 is not given (reading A8): of a frame, of no other call.
abbrev pub EightExactly : Type 0
EightExactly =
    (c : Conn) → Reach c → (k : rules.Call) →
    let q = (step c k).outcome.reply in
    Exactly (q ≡ reply.NoRoom) (Overflows c k × (q ≢ reply.NoSlot))

-- the same handles are held
abbrev pub SameHeld : Conn → Conn → Type 0
SameHeld c d = (i : ℕ) → (entry d.slots i).held ≡ (entry c.slots i).held

-- that a call gave a new id
abbrev pub Gave : Effect → ℕ → Type 0
Gave r id = (r.outcome.reply ≡ reply.Done) × (r.outcome.value ≡ Some id)

-- one handle more is held: the answer has the id and a slot that was free, and that slot's stream is in the table and has the id
abbrev pub Opened : Conn → StreamId → Effect → Type 0
Opened c id r =
    (held_count r.after.slots ≡ held_count c.slots + 1)
    × Gave r id.0
    × ((i : ℕ) × (r.outcome.slot ≡ Some (record { 0 = i })) × ((entry c.slots i).held ≡ false)
    × (let e = entry r.after.slots i in (e.held ≡ true) × (e.listed ≡ true) × (e.stream.id ≡ id)))

-- The rules make a stream of a frame exactly where `would_open` says so, a slot is free and there is room. (With all slots in use the
-- reply is 7, with too little room 8: `SevenExactly`, `EightExactly`.)
abbrev pub WouldOpenIsExact : Type 0
WouldOpenIsExact =
    (c : Conn) → Reach c → (now : ℕ) (head body : List ℕ) →
    let r = step c (rules.frame now head body) in
    (would_open c now head body ≡ true → held_count c.slots < c.config.slots → length body ≤ room c →
    (h : Header) × (decoded head ≡ Ok h) × Opened c h.stream_id r)
    × (would_open c now head body ≡ false → SameHeld c r.after)

-- With handles held, counting one that the frame would open, at most n, a pool of the limit and 262,144 for each of the n beyond
-- M refuses no frame with 8.
abbrev pub RoomForHandles : Type 0
RoomForHandles =
    (c : Conn) → Reach c → (n now : ℕ) (head body : List ℕ) →
    held_count c.slots + one (would_open c now head body) ≤ n →
    c.config.limit + n * initial_window ≤ c.config.pool + c.config.max_num_streams * initial_window →
    (step c (rules.frame now head body)).outcome.reply ≢ reply.NoRoom

-- With P at least the limit and at most M handles held, counting one that the frame would open, no frame is refused with 8.
abbrev pub RoomForM : Type 0
RoomForM =
    (c : Conn) → Reach c → (now : ℕ) (head body : List ℕ) →
    c.config.limit ≤ c.config.pool → held_count c.slots + one (would_open c now head body) ≤ c.config.max_num_streams →
    (step c (rules.frame now head body)).outcome.reply ≢ reply.NoRoom

-- A frame whose body would not be queued, a WindowUpdate that opens a stream among them, needs no room, however many handles are held.
abbrev pub UnqueuedNeedNoRoom : Type 0
UnqueuedNeedNoRoom =
    (c : Conn) → Reach c → (now : ℕ) (head body : List ℕ) → would_queue c now head body ≡ false →
    (step c (rules.frame now head body)).outcome.reply ≢ reply.NoRoom

-- K alone: with P at least limit + (K - M) x 262,144 no call at all is refused with 8 (reading E7).
abbrev pub RoomForK : Type 0
RoomForK =
    (c : Conn) → Reach c → (k : rules.Call) →
    c.config.limit + (c.config.slots - c.config.max_num_streams) * initial_window ≤ c.config.pool →
    (step c k).outcome.reply ≢ reply.NoRoom

-- ---- ids and the table

-- "4294967295 and 4294967294 are never given"
abbrev pub last_own : Mode → ℕ
last_own Client = 4294967293
last_own Server = 4294967292

-- "ids start at 1 (client) or 2 (server) and go by 2": an id given has our parity and is at most the last one.
abbrev pub IdsAreOurs : Type 0
IdsAreOurs =
    (c : Conn) → Reach c → (now id : ℕ) → Gave (step c (rules.open_stream now)) id →
    (id ≤ last_own c.config.mode) × (id % 2 ≡ first_own c.config.mode % 2)

-- None is given twice: whatever calls stand between, a later id is above an earlier one.
abbrev pub IdsRise : Type 0
IdsRise =
    (c : Conn) → Reach c → (now later a b : ℕ) (ks : List rules.Call) →
    Gave (step c (rules.open_stream now)) a → Gave (step (run (step c (rules.open_stream now)).after ks).after (rules.open_stream later)) b → a < b

abbrev pub is_open : rules.Call → Bool
is_open (rules.tick now) = false
is_open (rules.frame now head body) = false
is_open (rules.open_stream now) = true
is_open (rules.read now i asked) = false
is_open (rules.write now i given) = false
is_open (rules.close now i) = false
is_open (rules.drop now i) = false
is_open (rules.gone now) = false

-- the id that a call gave, where it is an open that was done; else none
abbrev pub id_in : Option ℕ → List ℕ
id_in (Some id) = id ∷ []
id_in None = []

abbrev pub id_of : rules.Call → Outcome → List ℕ
id_of k o = cond (and (is_open k) (is_done o.reply)) (id_in o.value) []

-- the ids that the opens of a run gave, in order
abbrev pub ids : Conn → List rules.Call → List ℕ
ids c [] = []
ids c (k ∷ ks) = id_of k (step c k).outcome ++ ids (step c k).after ks

-- so many numbers, the first one and on by 2
abbrev pub by_two : ℕ → ℕ → List ℕ
by_two zero first = []
by_two (suc n) first = first ∷ by_two n (first + 2)

-- "ids start at 1 (client) or 2 (server) and go by 2": whatever calls stand between, those are the ids that a connection's opens give.
abbrev pub IdsGoByTwo : Type 0
IdsGoByTwo =
    (s : Settings) (c : Config) → checked s ≡ Ok c → (ks : List rules.Call) →
    let given = ids (initial c) ks in
    given ≡ by_two (length given) (first_own c.mode)

-- The next id has 32 bits and our parity, and every held stream of our parity has an id below it.
abbrev pub NextIdIsAbove : Type 0
NextIdIsAbove =
    (c : Conn) → Reach c →
    (c.next_id ≤ top) × (c.next_id % 2 ≡ first_own c.config.mode % 2)
    × ((i : ℕ) → (entry c.slots i).held ≡ true → is_own c.config.mode (entry c.slots i).stream.id ≡ true → (entry c.slots i).stream.id.0 < c.next_id)

-- Ids of streams in the table are distinct.
abbrev pub ListedAreDistinct : Type 0
ListedAreDistinct =
    (c : Conn) → Reach c → (i j : ℕ) → (entry c.slots i).listed ≡ true → (entry c.slots j).listed ≡ true →
    (entry c.slots i).stream.id.0 ≡ (entry c.slots j).stream.id.0 → i ≡ j

-- A stream in the table has its handle held.
abbrev pub ListedAreHeld : Type 0
ListedAreHeld = (c : Conn) → Reach c → (i : ℕ) → (entry c.slots i).listed ≡ true → (entry c.slots i).held ≡ true

-- Held and outside the table is Closed (reading B8).
abbrev pub UnlistedAreClosed : Type 0
UnlistedAreClosed =
    (c : Conn) → Reach c → (i : ℕ) → (entry c.slots i).held ≡ true → (entry c.slots i).listed ≡ false →
    (entry c.slots i).stream.state ≡ Closed

-- A slot whose handle is not held is vacant: it keeps nothing of what it held.
abbrev pub FreeAreVacant : Type 0
FreeAreVacant = (c : Conn) → Reach c → (i : ℕ) → (entry c.slots i).held ≡ false → entry c.slots i ≡ vacant

-- At most M streams are in the table, at most K handles are held, and once ended the table is empty.
abbrev pub TableIsWithin : Type 0
TableIsWithin =
    (c : Conn) → Reach c →
    (listed_count c.slots ≤ c.config.max_num_streams) × (held_count c.slots ≤ c.config.slots)
    × (c.ended ≡ true → (i : ℕ) → (entry c.slots i).listed ≡ false)

-- ---- answers

-- "nothing changed": a call that gets 6 to 10, 13 or 14 leaves the state that it met.
abbrev pub RefusalsChangeNothing : Type 0
RefusalsChangeNothing = (c : Conn) → Reach c → (k : rules.Call) → leaves_all (step c k).outcome.reply ≡ true → (step c k).after ≡ c

-- "`-` in all but number, reply and wakes"
abbrev pub Bare : Outcome → Type 0
Bare o = (o.slot ≡ None) × (o.value ≡ None) × (o.header ≡ None) × (o.body ≡ []) × (o.bytes ≡ [])

-- "replies but 0, 1 and 2 give neither"; "refusals 3 to 13 have `-` ..", and so has 14.
abbrev pub OnlyDoneGives : Type 0
OnlyDoneGives = (c : Conn) → Reach c → (k : rules.Call) → may_give (step c k).outcome.reply ≡ false → Bare (step c k).outcome

-- A connection's settings are within the bounds of document 01, its limit being at most 2^64-1 by its type.
abbrev pub SettingsAreAllowed : Type 0
SettingsAreAllowed =
    (c : Conn) → Reach c →
    let s = c.config in
    (s.max_num_streams ≤ 512) × (s.max_num_streams * initial_window ≤ s.limit) × (1 ≤ s.split) × (s.split ≤ top)
    × (1 ≤ s.interval) × (s.interval ≤ last_time) × (s.first_time ≤ last_time) × (s.first_id ≤ top)
    × (1 ≤ s.slots) × (s.slots ≤ 1024) × (s.max_num_streams ≤ s.slots) × (s.pool ≤ top)

-- A connection keeps the settings that it was made with.
abbrev pub SettingsStay : Type 0
SettingsStay = (c : Conn) → Reach c → (k : rules.Call) → (step c k).after.config ≡ c.config
