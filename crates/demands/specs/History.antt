-- A history beside the state: the bytes that each held handle accepted since it was made, and those that its reads gave.
use Rattle.std.specs.Prelude.{◌≡◌, Bool, true, false, cond, List, [], ◌++◌, ℕ, eqb, Option, Some, None, Ok, Result, Err}
use Rattle.frame.specs.Header.{contains, rst}
use Rattle.frame.specs.Wire.{decoded}
use Rattle.frame.specs.declared.header.Header.{Header}
use Rattle.frame.specs.declared.header.Tag.{Tag}
use Rattle.frame.specs.declared.header.Tag.TheVariants as tag
use Rattle.frame.specs.declared.header.HeaderDecodeError.{HeaderDecodeError}
use Rattle.frame.specs.declared.header.HeaderDecodeError.TheVariants as found
use Rattle.rules.specs.declared.Config.{Config}
use Rattle.rules.specs.declared.Settings.{Settings}
use Rattle.rules.specs.declared.Reply.{Reply}
use Rattle.rules.specs.declared.Reply.TheVariants as reply
use Rattle.rules.specs.Replies.{Outcome}
use Rattle.rules.specs.Lists.{Place, at, nowhere}
use Rattle.rules.specs.Settings.{checked}
use Rattle.rules.specs.State.{Conn, initial, find}
use Rattle.rules.specs.Step as rules
use Rattle.rules.specs.declared.Slot.{Slot}

-- ---- what a call did to bytes, as told by the call and its answer

pub data Event : Type 0 where
  nothing : Event
  -- a handle was made in the slot, and these bytes came with it
  made : ℕ → List ℕ → Event
  -- these bytes were accepted for the slot
  accepted : ℕ → List ℕ → Event
  -- a read on the slot gave these bytes
  gave_out : ℕ → List ℕ → Event
  -- the slot's handle was dropped
  freed : ℕ → Event

-- Data without RST for a stream in the table brings its body to it
abbrev pub brought_to : Place → List ℕ → Event
brought_to (at i) body = accepted i body
brought_to nowhere body = nothing

abbrev pub brought : Tag → Header → List ℕ → Place → Event
brought tag.Data h body place = cond (contains h.flags rst) nothing (brought_to place body)
brought tag.WindowUpdate h body place = nothing
brought tag.Ping h body place = nothing
brought tag.GoAway h body place = nothing

-- an answer that names a slot and a new id made a handle there
abbrev pub tells : Option Slot → Option ℕ → List ℕ → Event → Event
tells (Some i) (Some v) body else = made i.0 body
tells (Some i) None body else = else
tells None v body else = else

abbrev pub is_done : Reply → Bool
is_done reply.Done = true
is_done reply.Wait = false
is_done reply.GoAway = false
is_done reply.TooManyStreams = false
is_done reply.NoMoreStreamIds = false
is_done reply.Closed = false
is_done reply.WriteClosed = false
is_done reply.NoSlot = false
is_done reply.NoRoom = false
is_done reply.NotHeld = false
is_done reply.Time = false
is_done reply.Version = false
is_done reply.Type = false
is_done reply.Body = false
is_done reply.Size = false

abbrev pub by_tag : Tag → Header → List ℕ → Place → Outcome → Event
by_tag t h body place o = cond (is_done o.reply) (tells o.slot o.value body (brought t h body place)) nothing

abbrev pub by_frame : Result Header HeaderDecodeError → Conn → List ℕ → Outcome → Event
by_frame (Err found.Size) c body o = nothing
by_frame (Err (found.Version v)) c body o = nothing
by_frame (Err (found.Type t)) c body o = nothing
by_frame (Ok h) c body o = by_tag h.tag h body (find c.slots h.stream_id) o

abbrev pub event : Conn → rules.Call → Outcome → Event
event c (rules.tick now) o = nothing
event c (rules.frame now head body) o = by_frame (decoded head) c body o
event c (rules.open_stream now) o = cond (is_done o.reply) (tells o.slot o.value [] nothing) nothing
event c (rules.read now i asked) o = gave_out i o.bytes
event c (rules.write now i given) o = nothing
event c (rules.close now i) o = nothing
event c (rules.drop now i) o = cond (is_done o.reply) (freed i) nothing
event c (rules.gone now) o = nothing

-- ---- the history

pub record Heard : Type 0 where
  pub taken : List ℕ
  pub given : List ℕ

abbrev pub unheard : Heard
unheard = record { taken = []; given = [] }

abbrev pub put : {A : Type 0} → ℕ → A → (ℕ → A) → ℕ → A
put i x f j = cond (eqb i j) x (f j)

abbrev pub noted : Event → (ℕ → Heard) → ℕ → Heard
noted nothing h = h
noted (made i body) h = put i (record { taken = body; given = [] }) h
noted (accepted i body) h = put i (record { taken = (h i).taken ++ body; given = (h i).given }) h
noted (gave_out i bytes) h = put i (record { taken = (h i).taken; given = (h i).given ++ bytes }) h
noted (freed i) h = put i unheard h

-- A state that accepted settings and any calls lead to, and its history.
pub data Story : Conn → (ℕ → Heard) → Type 0 where
  new : {c : Config} (s : Settings) → checked s ≡ Ok c → Story (initial c) (λ i. unheard)
  then : {c : Conn} {h : ℕ → Heard} → Story c h → (k : rules.Call) → Story (rules.step c k).after (noted (event c k (rules.step c k).outcome) h)
