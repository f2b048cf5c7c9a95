-- "Woken means: cleared and reported if it was waiting. Only this or ending clears a wait." Sentences in quotes are document 01's.
use Rattle.std.specs.Prelude.{◌≡◌, ◌⊎◌, ◌≢◌, Bool, true, false, cond, List, ℕ, Some, None, Result, Ok, Err}
use Rattle.frame.specs.Header.{contains, ack, fin, rst}
use Rattle.frame.specs.Wire.{decoded}
use Rattle.frame.specs.declared.header.Header.{Header}
use Rattle.frame.specs.declared.header.Tag.{Tag}
use Rattle.frame.specs.declared.header.Tag.TheVariants as tag
use Rattle.frame.specs.declared.header.HeaderDecodeError.{HeaderDecodeError}
use Rattle.frame.specs.declared.header.HeaderDecodeError.TheVariants as found
use Rattle.stream.specs.declared.Stream.{Stream}
use Rattle.rules.specs.declared.Reply.TheVariants as reply
use Rattle.rules.specs.declared.Woke.{Woke}
use Rattle.rules.specs.Replies.{leaves_all}
use Rattle.rules.specs.Lists.{Place, at, nowhere}
use Rattle.rules.specs.State.{Conn, entry, find}
use Rattle.rules.specs.Step.{step}
use Rattle.rules.specs.Step as rules
use Rattle.demands.specs.Demands.{Reach}

-- a mark that is on before a call and off after it
abbrev pub Clears : Bool → Bool → Type 0
Clears before after = (before ≡ true) × (after ≡ false)

-- a mark that is off before a call and on after it
abbrev pub Sets : Bool → Bool → Type 0
Sets before after = (before ≡ false) × (after ≡ true)

-- ---- whose waits a call wakes

abbrev pub woken_decoded : Result Header HeaderDecodeError → Conn → Place
woken_decoded (Err found.Size) c = nowhere
woken_decoded (Err (found.Version v)) c = nowhere
woken_decoded (Err (found.Type t)) c = nowhere
woken_decoded (Ok h) c = find c.slots h.stream_id

-- A frame may wake the stream in the table that it names; a drop wakes the stream in the table that has the handle's number, which
-- is the handle's own, or a newer one where the handle is stale. No other call wakes a reader or a writer.
abbrev pub woken : Conn → rules.Call → Place
woken c (rules.tick now) = nowhere
woken c (rules.frame now head body) = woken_decoded (decoded head) c
woken c (rules.open_stream now) = nowhere
woken c (rules.read now i asked) = nowhere
woken c (rules.write now i given) = nowhere
woken c (rules.close now i) = nowhere
woken c (rules.drop now i) = find c.slots (entry c.slots i).stream.id
woken c (rules.gone now) = nowhere

-- "slot (the call's; for a frame or open, the new or woken stream's)": the slot that a call which wakes the stream of slot j tells
abbrev pub told_for : rules.Call → ℕ → ℕ
told_for (rules.tick now) j = j
told_for (rules.frame now head body) j = j
told_for (rules.open_stream now) j = j
told_for (rules.read now i asked) j = i
told_for (rules.write now i given) j = i
told_for (rules.close now i) j = i
told_for (rules.drop now i) j = i
told_for (rules.gone now) j = j

-- A drop of the handle of slot j, whose stream is outside the table: the slot is cleared whole, marks too (reading B6).
abbrev pub DropsOutside : Conn → rules.Call → ℕ → Type 0
DropsOutside c (rules.tick now) j = ⊥
DropsOutside c (rules.frame now head body) j = ⊥
DropsOutside c (rules.open_stream now) j = ⊥
DropsOutside c (rules.read now i asked) j = ⊥
DropsOutside c (rules.write now i given) j = ⊥
DropsOutside c (rules.close now i) j = ⊥
DropsOutside c (rules.drop now i) j = (i ≡ j) × ((entry c.slots j).listed ≡ false)
DropsOutside c (rules.gone now) j = ⊥

-- ---- the statements

-- How a wait of slot j that a call clears is told, `woke` being the answer's word on readers, or on writers: as that of the stream
-- that the call wakes; or the call ended the connection; or it dropped the handle, whose stream was outside the table.
abbrev pub Told : Conn → rules.Call → Bool → ℕ → Type 0
Told c k woke j = ((woke ≡ true) × (woken c k ≡ at j)) ⊎ (((step c k).outcome.wakes.all ≡ true) ⊎ DropsOutside c k j)

-- A wait that a call clears is reported.
abbrev pub WaitsAreReported : Type 0
WaitsAreReported =
    (c : Conn) → Reach c → (k : rules.Call) →
    let r = step c k in
    let w = r.outcome.wakes in
    (Clears c.open_wait r.after.open_wait → (w.opener ≡ true) ⊎ (w.all ≡ true))
    × ((j : ℕ) → Clears (entry c.slots j).stream.reader (entry r.after.slots j).stream.reader → Told c k w.reader j)
    × ((j : ℕ) → Clears (entry c.slots j).stream.writer (entry r.after.slots j).stream.writer → Told c k w.writer j)

-- The stream that a call wakes had the mark, and has it no more. A frame tells that stream's slot, a drop its own.
abbrev pub Waited : Conn → rules.Call → (Stream → Bool) → Type 0
Waited c k mark =
    (j : ℕ) × (woken c k ≡ at j) × ((step c k).outcome.slot ≡ Some (record { 0 = told_for k j }))
    × Clears (mark (entry c.slots j).stream) (mark (entry (step c k).after.slots j).stream)

-- What is reported was waiting, and waits no more.
abbrev pub ReportsAreOfWaits : Type 0
ReportsAreOfWaits =
    (c : Conn) → Reach c → (k : rules.Call) →
    let r = step c k in
    let w = r.outcome.wakes in
    (w.opener ≡ true → Clears c.open_wait r.after.open_wait)
    × (w.reader ≡ true → Waited c k (λ s. s.reader))
    × (w.writer ≡ true → Waited c k (λ s. s.writer))

-- "Ending .. clears all waits"; "only a when this event ended the connection". The call that ends the connection, and no other,
-- reports `all`, and that alone; no mark is on after it.
abbrev pub EndingIsReported : Type 0
EndingIsReported =
    (c : Conn) → Reach c → (k : rules.Call) →
    let r = step c k in
    let w = r.outcome.wakes in
    (c.ended ≡ false → r.after.ended ≡ true → w.all ≡ true)
    × (w.all ≡ true → (c.ended ≡ false) × (r.after.ended ≡ true) × (w.reader ≡ false) × (w.writer ≡ false) × (w.opener ≡ false))
    × (w.all ≡ true → r.after.open_wait ≡ false)
    × (w.all ≡ true → (j : ℕ) → ((entry r.after.slots j).stream.reader ≡ false) × ((entry r.after.slots j).stream.writer ≡ false))

-- ---- who is set waiting, and who is woken

-- What a call that waits leaves on: a read its stream's reader, a write its writer, an open its own mark. No other call waits.
abbrev pub Waiting : rules.Call → Conn → Type 0
Waiting (rules.tick now) d = ⊥
Waiting (rules.frame now head body) d = ⊥
Waiting (rules.open_stream now) d = d.open_wait ≡ true
Waiting (rules.read now i asked) d = (entry d.slots i).stream.reader ≡ true
Waiting (rules.write now i given) d = (entry d.slots i).stream.writer ≡ true
Waiting (rules.close now i) d = ⊥
Waiting (rules.drop now i) d = ⊥
Waiting (rules.gone now) d = ⊥

-- 1: "reader, writer or open wait set"; "value (`-` at reply 1 ..)"
abbrev pub WaitsAreSet : Type 0
WaitsAreSet =
    (c : Conn) → Reach c → (k : rules.Call) →
    let r = step c k in
    r.outcome.reply ≡ reply.Wait → Waiting k r.after × (r.outcome.value ≡ None)

abbrev pub Opens : rules.Call → Type 0
Opens k = (now : ℕ) × (k ≡ rules.open_stream now)

abbrev pub Reads : rules.Call → ℕ → Type 0
Reads k j = (now : ℕ) × (asked : ℕ) × (k ≡ rules.read now j asked)

abbrev pub Writes : rules.Call → ℕ → Type 0
Writes k j = (now : ℕ) × (given : List ℕ) × (k ≡ rules.write now j given)

-- No other call sets a mark: the open's is set by an open that waits, the reader of slot j by a read of it that waits, the writer by
-- a write that waits.
abbrev pub OnlyWaitsSet : Type 0
OnlyWaitsSet =
    (c : Conn) → Reach c → (k : rules.Call) →
    let r = step c k in
    (Sets c.open_wait r.after.open_wait → Opens k × (r.outcome.reply ≡ reply.Wait))
    × ((j : ℕ) → Sets (entry c.slots j).stream.reader (entry r.after.slots j).stream.reader → Reads k j × (r.outcome.reply ≡ reply.Wait))
    × ((j : ℕ) → Sets (entry c.slots j).stream.writer (entry r.after.slots j).stream.writer → Writes k j × (r.outcome.reply ≡ reply.Wait))

-- "Woken means: cleared and reported if it was waiting": a mark before and after a call, and what is told of it
abbrev pub IsWoken : Bool → Bool → Bool → Type 0
IsWoken before after told = (after ≡ false) × (told ≡ before)

-- not woken: left as it was, and nothing told of it
abbrev pub IsLeft : Bool → Bool → Bool → Type 0
IsLeft before after told = (after ≡ before) × (told ≡ false)

-- who is to be woken is, and who is not is left
abbrev pub Fares : Bool → Bool → Bool → Bool → Type 0
Fares wakes before after told = (wakes ≡ true → IsWoken before after told) × (wakes ≡ false → IsLeft before after told)

-- "Data and WindowUpdate first": the types that have an ACK step
abbrev pub has_ack_step : Tag → Bool
has_ack_step tag.Data = true
has_ack_step tag.WindowUpdate = true
has_ack_step tag.Ping = false
has_ack_step tag.GoAway = false

-- "with ACK, .. an open wait is woken even for an unknown id": whatever the reply, but for those that change nothing (7, 8, 10, 13).
abbrev pub AcksWakeTheOpen : Type 0
AcksWakeTheOpen =
    (c : Conn) → Reach c → (now : ℕ) (head body : List ℕ) (h : Header) → decoded head ≡ Ok h → has_ack_step h.tag ≡ true →
    contains h.flags ack ≡ true → c.ended ≡ false →
    let r = step c (rules.frame now head body) in
    leaves_all r.outcome.reply ≡ false → IsWoken c.open_wait r.after.open_wait r.outcome.wakes.opener

-- "RST: .. reader and writer woken"; "Data: .. reader woken"; "WindowUpdate: .. FIN (waking the reader), writer woken"
abbrev pub wakes_reader : Tag → Header → Bool
wakes_reader tag.Data h = true
wakes_reader tag.WindowUpdate h = cond (contains h.flags rst) true (contains h.flags fin)
wakes_reader tag.Ping h = false
wakes_reader tag.GoAway h = false

abbrev pub wakes_writer : Tag → Header → Bool
wakes_writer tag.Data h = contains h.flags rst
wakes_writer tag.WindowUpdate h = true
wakes_writer tag.Ping h = false
wakes_writer tag.GoAway h = false

-- A frame that is done for the stream in slot i of the table wakes those of it, and no other. (That the slot told is i, `ReportsAreOfWaits` says.)
abbrev pub TakenWakes : Type 0
TakenWakes =
    (c : Conn) → Reach c → (now i : ℕ) (head body : List ℕ) (h : Header) → decoded head ≡ Ok h → find c.slots h.stream_id ≡ at i →
    let r = step c (rules.frame now head body) in
    let before = (entry c.slots i).stream in
    let after = (entry r.after.slots i).stream in
    r.outcome.reply ≡ reply.Done →
    Fares (wakes_reader h.tag h) before.reader after.reader r.outcome.wakes.reader
    × Fares (wakes_writer h.tag h) before.writer after.writer r.outcome.wakes.writer

-- neither a reader nor a writer is reported
abbrev pub Unreported : Woke → Type 0
Unreported w = (w.reader ≡ false) × (w.writer ≡ false)

-- A frame that is not done, one answered by a GoAway among them, reports no reader and no writer: their marks stay, unless the connection ends by
-- it (`WaitsAreReported`).
abbrev pub OnlyTakenWakes : Type 0
OnlyTakenWakes =
    (c : Conn) → Reach c → (now : ℕ) (head body : List ℕ) →
    let o = (step c (rules.frame now head body)).outcome in
    o.reply ≢ reply.Done → Unreported o.wakes
