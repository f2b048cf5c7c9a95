-- A handle that is still held after its stream was reset, and its number opened again. Sentences in quotes are document 01's.
use Rattle.std.specs.Prelude.{◌≡◌, ◌≢◌, ◌⊎◌, true, false, List, [], ℕ, ◌-◌, ◌≤◌, min, length, take, Some, None, Result, Ok, Err}
use Rattle.frame.specs.Wire.{decoded}
use Rattle.frame.specs.declared.header.HeaderDecodeError.{HeaderDecodeError}
use Rattle.frame.specs.declared.header.HeaderDecodeError.TheVariants as found
use Rattle.stream.specs.Streams.{dropped}
use Rattle.rules.specs.declared.Reply.TheVariants as reply
use Rattle.rules.specs.Replies.{Outcome}
use Rattle.rules.specs.Settings.{last_time}
use Rattle.rules.specs.Lists.{at}
use Rattle.rules.specs.State.{Entry, Conn, vacant, entry, with_slot, with_slots, with_growth, find}
use Rattle.rules.specs.Ending.{Effect, gives, refuse}
use Rattle.rules.specs.Calls.{growth_of, on_slot, read_entry, removed_entry, drop_wakes}
use Rattle.rules.specs.Step.{step}
use Rattle.rules.specs.Step as rules
use Rattle.demands.specs.Demands.{Reach}
use Rattle.frame.specs.declared.header.Header.{Header}

-- Slot `old` is held and its stream is outside the table; the stream of slot `new` is in the table and has the same number.
pub record Stale (c : Conn) (old new : ℕ) : Type 0 where
  pub reached : Reach c
  pub held : (entry c.slots old).held ≡ true
  pub gone : (entry c.slots old).listed ≡ false
  pub listed : (entry c.slots new).listed ≡ true
  pub same : (entry c.slots old).stream.id ≡ (entry c.slots new).stream.id

-- Read on the old handle: its own oldest unread bytes, no window update; only its own slot changes.
abbrev pub StaleRead : Type 0
StaleRead =
    (c : Conn) (old new : ℕ) → Stale c old new → (now asked : ℕ) → now ≤ last_time →
    let e = entry c.slots old in
    let n = min asked (length e.bytes) in
    step c (rules.read now old asked) ≡ gives (on_slot old reply.Done (Some n) None (take n e.bytes)) (with_slot c old (read_entry e e.stream n))

-- Write on the old handle: 6, nothing changed.
abbrev pub StaleWrite : Type 0
StaleWrite =
    (c : Conn) (old new : ℕ) → Stale c old new → (now : ℕ) (given : List ℕ) → now ≤ last_time →
    step c (rules.write now old given) ≡ refuse c reply.WriteClosed

-- Close on the old handle: done without a frame, nothing changed.
abbrev pub StaleClose : Type 0
StaleClose =
    (c : Conn) (old new : ℕ) → Stale c old new → (now : ℕ) → now ≤ last_time →
    step c (rules.close now old) ≡ gives (on_slot old reply.Done None None []) c

-- Of the connection, the growth figure and the slots alone change.
abbrev pub OnlySlots : Conn → Conn → Type 0
OnlySlots c d = d ≡ with_slots (with_growth c d.growth) d.slots

-- The answer to a drop of slot i that takes the stream of e out of the table: "if it was Open, RST is given; RecvClosed gives FIN,
-- else none; its reader and writer are woken".
abbrev pub removes : ℕ → Entry → Outcome
removes i e = record {
  reply = reply.Done;
  slot = Some (record { 0 = i });
  value = None;
  header = (dropped e.stream).sent;
  body = [];
  wakes = drop_wakes (dropped e.stream).wakes;
  bytes = [];
}

-- "A stale handle so removes a newer stream." Drop on the old handle frees its slot, and takes the newer stream out of the table:
-- that one is Closed, its RST or FIN is given, its waits are woken, and its handle keeps its bytes and its windows. The figure
-- falls by the old handle's own growth alone. No other slot changes.
abbrev pub StaleDrop : Type 0
StaleDrop =
    (c : Conn) (old new : ℕ) → Stale c old new → (now : ℕ) → now ≤ last_time →
    let r = step c (rules.drop now old) in
    let e = entry c.slots new in
    (r.outcome ≡ removes old e)
    × OnlySlots c r.after
    × (r.after.growth ≡ c.growth - growth_of (entry c.slots old))
    × (entry r.after.slots old ≡ vacant)
    × (entry r.after.slots new ≡ removed_entry e)
    × ((j : ℕ) → j ≢ old → j ≢ new → entry r.after.slots j ≡ entry c.slots j)

-- The newer handle, dropped after that: no frame and no wake, its own growth goes back, once, and both slots are free. No other
-- slot changes.
abbrev pub StaleDropThenNew : Type 0
StaleDropThenNew =
    (c : Conn) (old new : ℕ) → Stale c old new → (now later : ℕ) → now ≤ last_time → later ≤ last_time →
    let d = (step c (rules.drop now old)).after in
    let r = step d (rules.drop later new) in
    (r.outcome ≡ on_slot new reply.Done None None [])
    × OnlySlots c r.after
    × (r.after.growth ≡ c.growth - growth_of (entry c.slots old) - growth_of (entry c.slots new))
    × (entry r.after.slots old ≡ vacant)
    × (entry r.after.slots new ≡ vacant)
    × ((j : ℕ) → j ≢ old → j ≢ new → entry r.after.slots j ≡ entry c.slots j)

-- A drop that takes the slot's own stream out of the table: its RST or FIN is given, its waits are woken, its slot is free, and the
-- figure falls by its own growth. No other slot changes.
abbrev pub Drops : Conn → ℕ → Effect → Type 0
Drops c i r =
    (r.outcome ≡ removes i (entry c.slots i))
    × OnlySlots c r.after
    × (r.after.growth ≡ c.growth - growth_of (entry c.slots i))
    × (entry r.after.slots i ≡ vacant)
    × ((j : ℕ) → j ≢ i → entry r.after.slots j ≡ entry c.slots j)

-- Drop on the newer handle while the old one is held: the newer stream alone goes, as if the old one were not there. No other slot
-- changes, the old handle's among them.
abbrev pub NewDrop : Type 0
NewDrop = (c : Conn) (old new : ℕ) → Stale c old new → (now : ℕ) → now ≤ last_time → Drops c new (step c (rules.drop now new))

-- ---- the slot that a call is about

abbrev pub IsAboutDecoded : Result Header HeaderDecodeError → Conn → ℕ → Type 0
IsAboutDecoded (Err found.Size) c j = ⊥
IsAboutDecoded (Err (found.Version v)) c j = ⊥
IsAboutDecoded (Err (found.Type t)) c j = ⊥
IsAboutDecoded (Ok h) c j = find c.slots h.stream_id ≡ at j

-- A frame is about the slot of the stream that it names, if that is in the table; a call on a handle is about its slot, and a drop
-- also about the stream in the table that has the number. (An open, or a frame that makes a stream, takes a slot that is not held.)
abbrev pub IsAbout : Conn → rules.Call → ℕ → Type 0
IsAbout c (rules.tick now) j = ⊥
IsAbout c (rules.frame now head body) j = IsAboutDecoded (decoded head) c j
IsAbout c (rules.open_stream now) j = ⊥
IsAbout c (rules.read now i asked) j = i ≡ j
IsAbout c (rules.write now i given) j = i ≡ j
IsAbout c (rules.close now i) j = i ≡ j
IsAbout c (rules.drop now i) j = (i ≡ j) ⊎ (find c.slots (entry c.slots i).stream.id ≡ at j)
IsAbout c (rules.gone now) j = ⊥

-- Whatever the call, a held slot that it is not about stays as it is, unless the call ends the connection.
abbrev pub OthersStay : Type 0
OthersStay =
    (c : Conn) → Reach c → (k : rules.Call) → (step c k).after.ended ≡ c.ended → (j : ℕ) → (entry c.slots j).held ≡ true → (IsAbout c k j → ⊥) →
    entry (step c k).after.slots j ≡ entry c.slots j

-- So no frame reaches a stale handle: its number names the newer stream alone.
abbrev pub FramesPassStale : Type 0
FramesPassStale =
    (c : Conn) (old new : ℕ) → Stale c old new → (now : ℕ) (head body : List ℕ) →
    let d = (step c (rules.frame now head body)).after in
    d.ended ≡ c.ended → entry d.slots old ≡ entry c.slots old
