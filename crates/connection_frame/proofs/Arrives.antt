-- How a Data frame or a WindowUpdate comes to its rule: by the action that its handler decides from what it is shown. Assumes nothing.
use Rattle.std.proofs.Common.{Option, ◌≡◌, refl, sym, ap, ◌∙◌, Bool, true, List, [], append-nil, ℕ, length, set}
use Rattle.frame.specs.declared.header.Header.{Header}
use Rattle.stream.specs.declared.Stream.{Stream}
use Rattle.rules.specs.Ending.{Effect, gives}
use Rattle.rules.specs.Frames.{frame_rules, body_length, new_entry}
use Rattle.rules.specs.Replies.{may_give}
use Rattle.rules.specs.State.{Entry, Conn, entry, find, with_slot}
use Rattle.rules.specs.declared.Slot.{Slot}
use Rattle.table.specs.Table.{Finds}
use Rattle.table.specs.declared.row.Row.{Row}
use Rattle.handlers.specs.Perform.{outcome_of, waits_on, heard, perform, wakes_open, of_stream}
use Rattle.handlers.specs.declared.Action.{Action}
use Rattle.handlers.specs.declared.Answer.{Answer}
use Rattle.handlers.proofs.Rules.{stream-performs}
use Rattle.memory.specs.Moves.{Moved, held, Follows}
use Rattle.memory.specs.Slots.{slots_of}
use Rattle.memory.specs.declared.Memory.{Memory}
use Rattle.rules.proofs.Lists.{never}
use Rattle.memory.proofs.Laws.{listed-held}
use Rattle.connection.specs.Abstract.{abs_of, Valid}
use Rattle.connection.specs.Promises.{Handles}
use Rattle.connection.specs.declared.Connection.{Connection}
use Rattle.connection.proofs.Ids.{Kept, below_set}
use Rattle.connection.proofs.Moving.{becomes-follows, answer_follows, told}
use Rattle.connection.proofs.Promises.{same_handles, acted, refused-handles}
use Rattle.connection_frame.specs.Shown.{seen_at, vacancy_for, limits_in, decided}
use Rattle.connection_frame.specs.Handles.{Applies, settled}
use Rattle.connection.specs.declared.Applied.{Applied}
use Rattle.connection_frame.proofs.Walk.{Closed, walk}
use Rattle.connection_frame.proofs.Sees.{remote_not_own, sees, replaces, has_room, makes}

module _ (c : Connection) (t l p : List ℕ) where
  abbrev S : List Entry
  S = slots_of c.memory t l p

  -- one slot changed, by an action that is no refusal
  moves : (rule : Conn → Effect) (o : Answer) (m : Memory) (t' l' p' : List ℕ) (i : ℕ) (e : Entry)
      → rule (abs_of c t l p) ≡ gives (outcome_of o) (with_slot (heard (abs_of c t l p) o) i e) → may_give o.reply ≡ true
      → (Valid c t l p → Kept c.config.mode c.next_id e × Moved c.memory t l p i e m t' l' p')
      → Handles rule c t l p (settled c (record { memory = m; answer = o })) t' l' p'
  moves rule o m t' l' p' i e same given f =
      acted c t l p rule (settled c (record { memory = m; answer = o })) t' l' p' given
      (λ v. rw same (becomes-follows c t l p m (set S i e) t' l' p' (f v).1 c.rtt c.ended c.next_id (waits_on c.open_wait o) c.growth
      v.fresh.parity (below_set c.config.mode c.next_id S i e (f v).0 v.fresh.below) o (outcome_of o) (told o)))

  module _ (h : Header) (body : List ℕ) (now : ℕ) (f : Option Slot) (finds : Finds t c.memory.slots h.stream_id f) (n : length body ≡ body_length h.tag h.length.0) where
    abbrev row : Row
    row = (seen_at t c.memory.slots f h).row

    kept : Valid c t l p → (i : Slot) (u : Stream) (b : Bool) → Follows (entry S i.0) u b → Kept c.config.mode c.next_id (held u b [])
    kept v i u b w y own = rw w.id (v.fresh.below i.0 (w.listed y) (rw w.id at own))

    -- an action that is applied is performed
    abbrev Does : Action → Type 0
    Does a = (r : Applied) (t' l' p' : List ℕ) → Applies c.memory t l p row a body r t' l' p' → Handles (λ x. perform x body a) c t l p (settled c r) t' l' p'

    does : Closed Does (limits_in c) (seen_at t c.memory.slots f h).known (vacancy_for t c.memory.slots h) h
    unfolding perform
    does = record {
      refuses = λ q r t' l' p' a. rw (a.0, a.1, a.2, a.3) (refused-handles c t l p q);
      answers = λ o g r t' l' p' a. rw (a.0, a.1, a.2, a.3)
          (acted c t l p (λ x. gives (outcome_of o) (heard x o)) _ t l p g (answer_follows c t l p c.rtt (waits_on c.open_wait o) o));
      stores = λ i s u b o e d g r t' l' p' a. rw (a.0, a.2, a.3)
          (moves _ o r.memory t' l p i.0 (held u b (entry S i.0).bytes) (rw append-nil) g
          (λ v. let w = replaces c t l p v h f finds i s u b e d in (kept v i u b w.2, a.1 l p w.0 v.memory w.1 w.2)));
      queues = λ i s u b o e d m g r t' l' p' a. rw a.0
          (moves _ o r.memory t' l' p' i.0 _ refl g
          (λ v. let w = replaces c t l p v h f finds i s u b e d in (kept v i u b w.2, a.1 w.0 v.memory w.1 w.2 (rw n (has_room c t l p v h f finds m)))));
      makes = λ i s o e k q d m g r t' l' p' a. rw a.0
          (moves _ o r.memory t' l' p' i.0 (new_entry s body) refl g
          (λ v. let w = makes c t l p v h f finds i e k in
          (λ x own. never (sym own ∙ rw d (remote_not_own c.config.mode h.stream_id q)), a.1 v.memory w.0 w.1 (rw d w.2) (rw n (has_room c t l p v h f finds m)))));
    }

    pub stream-handled : (r : Applied) (t' l' p' : List ℕ) → Applies c.memory t l p (decided c t f h now).row (decided c t f h now).action body r t' l' p'
        → of_stream h.tag ≡ true → Handles (λ x. frame_rules h.tag x h body (find x.slots h.stream_id) now) c t l p (settled c r) t' l' p'
    stream-handled r t' l' p' a tagged =
        same_handles c t l p (λ x. perform x body (decided c t f h now).action) (λ x. frame_rules h.tag x h body (find x.slots h.stream_id) now) (settled c r) t' l' p'
        (λ v. stream-performs (abs_of c t l p) h body now (listed-held c.memory t l p v.memory) tagged n ∙ ap (λ (x : Action). perform (abs_of c t l p) body x) (sym (sees c t l p v h f finds now)))
        (walk Does (limits_in c) (wakes_open c.open_wait h) (seen_at t c.memory.slots f h).known (vacancy_for t c.memory.slots h) h now does r t' l' p' a)
