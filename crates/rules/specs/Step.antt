-- Calls, the order of each call's replies, and a run of calls. Sentences are document 01's.
use Rattle.std.specs.Prelude.{cond, List, [], ◌∷◌, ℕ, ◌+◌, ltb, Result, Ok, Err}
use Rattle.frame.specs.Wire.{decoded}
use Rattle.frame.specs.declared.header.HeaderDecodeError.{HeaderDecodeError}
use Rattle.frame.specs.declared.header.HeaderDecodeError.TheVariants as found
use Rattle.rules.specs.declared.Reply.TheVariants as reply
use Rattle.rules.specs.Settings.{last_time}
use Rattle.rules.specs.Replies.{Outcome}
use Rattle.rules.specs.State.{Conn, entry}
use Rattle.rules.specs.Ending.{Effect, refuse, end}
use Rattle.rules.specs.Frames.{on_header}
use Rattle.rules.specs.Calls.{open_rules, read_rules, write_rules, close_rules, drop_rules, tick_rules}
use Rattle.frame.specs.declared.header.Header.{Header}

-- The calls, each with its time. A frame is twelve bytes and a body; a read lends room for some bytes. Lent memory of the
-- right size is taken for granted here: the calls' contracts say what a wrong size gets (14).
pub data Call : Type 0 where
  tick : ℕ → Call
  frame : ℕ → List ℕ → List ℕ → Call
  open_stream : ℕ → Call
  read : ℕ → ℕ → ℕ → Call
  write : ℕ → ℕ → List ℕ → Call
  close : ℕ → ℕ → Call
  drop : ℕ → ℕ → Call
  gone : ℕ → Call

-- "time above 2^62-1"
abbrev pub timed : Conn → ℕ → Effect → Effect
timed c now next = cond (ltb last_time now) (refuse c reply.Time) next

-- "5 (ended)": Closed, "connection ended, or was already"
abbrev pub live : Conn → Effect → Effect
live c next = cond c.ended (refuse c reply.Closed) next

-- "handle not held"
abbrev pub holding : Conn → ℕ → Effect → Effect
holding c i next = cond (entry c.slots i).held next (refuse c reply.NotHeld)

-- "Order, frame: 10, 5 (ended), 11, 12, 13, the rules below"; a header that is not twelve bytes is 14, before all
unfoldable pub on_decoded : Result Header HeaderDecodeError → Conn → List ℕ → ℕ → Effect
on_decoded (Err found.Size) c body now = refuse c reply.Size
on_decoded (Err (found.Version v)) c body now = timed c now (live c (end c reply.Version))
on_decoded (Err (found.Type t)) c body now = timed c now (live c (end c reply.Type))
on_decoded (Ok h) c body now = timed c now (live c (on_header c h body now))

-- "Open: 10, 5, 3, wait, 4, 7. Others: 10, 9, then the rules; tick and peer gone: 10, 5."
unfoldable pub step : Conn → Call → Effect
step c (tick now) = timed c now (live c (tick_rules c now))
step c (frame now head body) = on_decoded (decoded head) c body now
step c (open_stream now) = timed c now (live c (open_rules c now))
step c (read now i asked) = timed c now (holding c i (read_rules c i (entry c.slots i) asked now))
step c (write now i given) = timed c now (holding c i (write_rules c i (entry c.slots i) given))
step c (close now i) = timed c now (holding c i (close_rules c i (entry c.slots i)))
step c (drop now i) = timed c now (holding c i (drop_rules c i (entry c.slots i)))
step c (gone now) = timed c now (live c (end c reply.Closed))

-- A run of calls: what each gave, how many were made, and the state after the last.
pub record Ran : Type 0 where
  pub outcomes : List Outcome
  pub count : ℕ
  pub after : Conn

abbrev pub then : Effect → Ran → Ran
then r ran = record { outcomes = r.outcome ∷ ran.outcomes; count = ran.count + 1; after = ran.after }

abbrev pub run : Conn → List Call → Ran
run c [] = record { outcomes = []; count = 0; after = c }
run c (k ∷ ks) = then (step c k) (run (step c k).after ks)
