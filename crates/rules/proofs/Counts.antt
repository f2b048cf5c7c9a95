-- A read's value counts the bytes that it gives. Assumes nothing.
use Rattle.std.proofs.Common.{◌≡◌, refl, sym, true, false, cond, ℕ, min, ◌≤◌, arith, ltb, length, length-take-le}
use Rattle.stream.specs.Streams as stream
use Rattle.stream.specs.declared.Updated.{Updated}
use Rattle.stream.specs.declared.ReadEnd.{ReadEnd}
use Rattle.stream.specs.declared.ReadEnd.TheVariants as reading
use Rattle.rules.specs.Settings.{last_time}
use Rattle.rules.specs.Replies.{count_of}
use Rattle.rules.specs.State.{Entry, Conn, entry}
use Rattle.rules.specs.Ending.{Effect}
use Rattle.rules.specs.Calls.{read_rest, read_with, window_step, read_rules}
use Rattle.rules.specs.Step.{step, read}
use Rattle.rules.proofs.Lists.{either}

record Counting (r : Effect) : Type 0 where
  counted : count_of r.outcome.value ≡ length r.outcome.bytes

rest_counts : (c : Conn) (i : ℕ) (e : Entry) (u : Updated) (n : ℕ) (r : ReadEnd) → n ≤ length e.bytes → Counting (read_rest c i e u n r)
unfolding read_rest
rest_counts c i e u n (reading.Done s) h = record { counted = sym (length-take-le n e.bytes h) }
rest_counts c i e u n (reading.Wait s) h = record { counted = refl }

with_counts : (c : Conn) (i : ℕ) (e : Entry) (asked : ℕ) (u : Updated) → Counting (read_with c i e asked u)
unfolding read_with
with_counts c i e asked u =
    let n = min asked (length e.bytes) in
    let h : min asked (length e.bytes) ≤ length e.bytes = omega arith in
    rest_counts c i e u n (stream.read_end u.stream n) h

rules_count : (c : Conn) (i : ℕ) (e : Entry) (asked now : ℕ) → Counting (read_rules c i e asked now)
unfolding read_rules
rules_count c i e asked now =
    either Counting (cond c.ended (cond c.config.read_after_close false true) false) (record { counted = refl }) (with_counts c i e asked (window_step c e now))

step_counts : (c : Conn) (now i asked : ℕ) → Counting (step c (read now i asked))
unfolding step
step_counts c now i asked =
    either Counting (ltb last_time now) (record { counted = refl })
    (either Counting (entry c.slots i).held (rules_count c i (entry c.slots i) asked now) (record { counted = refl }))

pub read_counts : (c : Conn) (now i asked : ℕ)
    → count_of (step c (read now i asked)).outcome.value ≡ length (step c (read now i asked)).outcome.bytes
read_counts c now i asked = (step_counts c now i asked).counted
