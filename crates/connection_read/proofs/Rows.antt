-- The step of a read, seen from the row of a held slot. Assumes nothing.
use Rattle.std.proofs.Common.{◌≡◌, refl, sym, ap, ◌∙◌, Bool, true, false, cond, List, ℕ, min, ◌≤◌, arith, eqb, length}
use Rattle.rules.specs.Replies.{count_of, may_give}
use Rattle.stream.specs.States.{can_read}
use Rattle.stream.specs.Streams.{with_waits, send_window_update}
use Rattle.stream.specs.declared.Stream.{Stream}
use Rattle.stream.specs.declared.Updated.{Updated}
use Rattle.stream.specs.declared.ReadEnd.TheVariants as reading
use Rattle.stream.proofs.Laws.{updated as updated-keeps}
use Rattle.rules.specs.State.{Entry, entry}
use Rattle.rules.specs.Ending.{gives}
use Rattle.rules.specs.Calls.{window_step}
use Rattle.rules.specs.declared.Slot.{Slot}
use Rattle.table.specs.declared.row.Row.{Row}
use Rattle.handlers.specs.Perform.{outcome_of}
use Rattle.handlers.specs.Locals.{is_shut, nothing_read, read_ended, on_read, perform_read}
use Rattle.handlers.specs.declared.ReadStep.{ReadStep}
use Rattle.handlers.proofs.Locals.{read_performs}
use Rattle.memory.specs.Slots.{slots_of}
use Rattle.memory.proofs.Laws.{entry-held, entry-of-held, entry-unread}
use Rattle.connection.specs.Abstract.{abs_of, Valid}
use Rattle.connection.specs.declared.Connection.{Connection}
use Rattle.connection.specs.Parts.{Holds}
use Rattle.connection_read.specs.Promises.{step_of, rule_of, Draws}

-- the step reads n bytes at most, leaves the id, and its reply may give bytes
pub record Steps (u : Updated) (n : ℕ) (s : ReadStep) : Type 0 where
  pub count : count_of s.answer.value ≤ n
  pub id : s.stream.id ≡ u.stream.id
  pub giving : may_give s.answer.reply ≡ true

ended_steps : (i : Slot) (u : Updated) (n : ℕ) (a b : Bool) →
    Steps u n (read_ended i u n (cond a (cond b (reading.Wait (with_waits u.stream true u.stream.writer)) (reading.Done u.stream)) (reading.Done u.stream)))
ended_steps i u n true true = record { count = omega arith; id = refl; giving = refl }
ended_steps i u n true false = record { count = omega arith; id = refl; giving = refl }
ended_steps i u n false b = record { count = omega arith; id = refl; giving = refl }

read_steps : (i : Slot) (u : Updated) (unread asked : ℕ) → Steps u (min asked unread) (on_read i u unread asked)
unfolding on_read
read_steps i u unread asked = ended_steps i u (min asked unread) (eqb (min asked unread) 0) (can_read u.stream.state)

module _ (c : Connection) (i : ℕ) (row : Row) (asked time : ℕ) where
  abbrev slot : Slot
  slot = record { 0 = i }

  abbrev updated : Updated
  updated = send_window_update row.stream row.queue.unread time c.rtt.round_trip c.config.limit c.config.max_num_streams c.growth

  steps : Steps updated (min asked row.queue.unread) (step_of c slot row asked time)
  steps = read_steps slot updated row.queue.unread asked

  pub step_room : count_of (step_of c slot row asked time).answer.value ≤ asked
  step_room = omega (arith, steps.count)

  pub step-giving : may_give (step_of c slot row asked time).answer.reply ≡ true
  step-giving = steps.giving

  step-id : (step_of c slot row asked time).stream.id ≡ row.stream.id
  step-id =
      steps.id
      ∙ (updated-keeps row.stream (record { unread = row.queue.unread; time = time; round_trip = c.rtt.round_trip; limit = c.config.limit; max_num_streams = c.config.max_num_streams; growth = c.growth })).same_id

  module _ (t l p : List ℕ) (h : Holds c t i row) where
    abbrev x : Entry
    x = entry (slots_of c.memory t l p) i

    module _ (v : Valid c t l p) where
      is_held : x.held ≡ true
      is_held = entry-held c.memory t l p v.memory i h.below ∙ ap (λ (r : Row). r.held) (sym h.loaded) ∙ h.held

      same-stream : x.stream ≡ row.stream
      same-stream =
          ap (λ (e : Entry). e.stream) (entry-of-held c.memory t l p v.memory i h.below (ap (λ (r : Row). r.held) (sym h.loaded) ∙ h.held))
          ∙ ap (λ (r : Row). r.stream) (sym h.loaded)

      same-unread : length x.bytes ≡ row.queue.unread
      same-unread = entry-unread c.memory t l p v.memory i h.below ∙ ap (λ (r : Row). r.queue.unread) (sym h.loaded)

    pub row-draws : Valid c t l p → Draws c t l p i row (step_of c slot row asked time)
    row-draws v = record {
      loaded = h.loaded;
      below = h.below;
      follows = record { held = is_held v; id = step-id ∙ ap (λ (s : Stream). s.id) (sym (same-stream v)); listed = λ e. e };
      unread = omega (arith, steps.count, same-unread v);
    }

    pub row-rule : is_shut c.ended c.config.read_after_close ≡ false → Valid c t l p
        → rule_of (abs_of c t l p) i asked time ≡ perform_read (abs_of c t l p) slot x (step_of c slot row asked time)
    unfolding window_step
    row-rule live v = read_performs (abs_of c t l p) i x asked time ∙ rw (live, same-unread v, same-stream v)

pub shut_rule : (c : Connection) (t l p : List ℕ) (i asked time : ℕ) → is_shut c.ended c.config.read_after_close ≡ true
    → rule_of (abs_of c t l p) i asked time ≡ gives (outcome_of (nothing_read (record { 0 = i }))) (abs_of c t l p)
shut_rule c t l p i asked time shut = read_performs (abs_of c t l p) i (entry (slots_of c.memory t l p) i) asked time ∙ rw shut
