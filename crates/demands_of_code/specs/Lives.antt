-- A connection and its lent memory after any calls and runs, and the third demand of them. Sentences are the demand's.
use Rattle.std.specs.Prelude.{◌≡◌, ◌≢◌, Bool, true, false, List, [], ◌∷◌, ◌++◌, ℕ, ◌+◌, ◌-◌, ◌*◌, ◌≤◌, length, take, drop, Ok}
use Rattle.frame.specs.Header.{initial_window}
use Rattle.rules.specs.Replies.{count_of}
use Rattle.rules.specs.State.{Entry, Conn, entry, one}
use Rattle.rules.specs.Step.{Call, step, frame, read}
use Rattle.rules.specs.declared.Settings.{Settings}
use Rattle.rules.specs.declared.Reply.TheVariants as reply
use Rattle.memory.specs.Slots.{slots_of}
use Rattle.connection.specs.Abstract.{abs_of}
use Rattle.connection.specs.Promises.{Promised}
use Rattle.connection.specs.declared.Connection.{Connection}
use Rattle.connection.specs.declared.Done.{Done}
use Rattle.connection_read.specs.Promises.{Outputs}
use Rattle.connection_open.specs.Start.{Creates}
use Rattle.trace.specs.Runs.{reads}
use Rattle.trace.specs.Turns.{runs_from, Runs}
use Rattle.trace.specs.declared.Place.{Place}
use Rattle.trace.specs.declared.Report.{Report}
use Rattle.demands.specs.Demands.{held_count, held_growth, would_open}
use Rattle.demands.specs.History.{Heard, unheard, noted, event}

-- what the handles heard once these calls are made as well
abbrev pub heard_over : Conn → List Call → (ℕ → Heard) → ℕ → Heard
heard_over c [] h = h
heard_over c (k ∷ ks) h = heard_over (step c k).after ks (noted (event c k (step c k).outcome) h)

-- "After any calls on a new connection": table, links and pool as `new` makes them, then as calls leave them that keep the
-- promise that every call is proved to keep, and as runs over a trace leave them that keep theirs, what is lent having the right
-- size or not; and the bytes that each handle heard, of a run's calls as well.
pub data Lives : Connection → List ℕ → List ℕ → List ℕ → (ℕ → Heard) → Type 0 where
  made : {c : Connection} {t l p t' l' p' : List ℕ} (s : Settings) → Creates s t l p (Ok c) t' l' p' → Lives c t' l' p' (λ i. unheard)
  then : {c : Connection} {t l p : List ℕ} {h : ℕ → Heard} → Lives c t l p h
      → (k : Call) (d : Done) (t' l' p' : List ℕ) → Promised true c t l p k d t' l' p'
      → Lives d.connection t' l' p' (noted (event (abs_of c t l p) k (step (abs_of c t l p) k).outcome) h)
  unsized : {c : Connection} {t l p : List ℕ} {h : ℕ → Heard} → Lives c t l p h
      → (k : Call) (d : Done) (t' l' p' : List ℕ) → Promised false c t l p k d t' l' p'
      → Lives d.connection t' l' p' h
  ran : {c : Connection} {t l p : List ℕ} {h : ℕ → Heard} → Lives c t l p h
      → (s o : List ℕ) (place : Place) (allowance : ℕ) (r : Report) (t' l' p' o' : List ℕ) → Runs true c t l p s o place allowance r t' l' p' o'
      → Lives r.connection t' l' p' (heard_over (abs_of c t l p) (reads (runs_from c t l p s o place allowance).applied s place.at) h)
  unran : {c : Connection} {t l p : List ℕ} {h : ℕ → Heard} → Lives c t l p h
      → (s o : List ℕ) (place : Place) (allowance : ℕ) (r : Report) (t' l' p' o' : List ℕ) → Runs false c t l p s o place allowance r t' l' p' o'
      → Lives r.connection t' l' p' h

-- what slot i stands for
abbrev pub slot_at : Connection → List ℕ → List ℕ → List ℕ → ℕ → Entry
slot_at c t l p i = entry (slots_of c.memory t l p) i

-- "the growth figure is the sum over held streams of receive maximum above 262,144 and never passes limit - M x 262,144"
abbrev pub Growth : Type 0
Growth =
    (c : Connection) (t l p : List ℕ) (h : ℕ → Heard) → Lives c t l p h →
    (c.growth ≡ held_growth (slots_of c.memory t l p))
    × (c.config.max_num_streams * initial_window ≤ c.config.limit)
    × (c.growth ≤ c.config.limit - c.config.max_num_streams * initial_window)

-- "a held stream's unread bytes are those accepted, in order, less those read, and with its open window never pass its maximum"
abbrev pub Unread : Type 0
Unread =
    (c : Connection) (t l p : List ℕ) (h : ℕ → Heard) → Lives c t l p h → (i : ℕ) → (slot_at c t l p i).held ≡ true →
    ((slot_at c t l p i).bytes ≡ drop (length (h i).given) (h i).taken)
    × (length (slot_at c t l p i).bytes + (slot_at c t l p i).stream.flow.receive_window ≤ (slot_at c t l p i).stream.flow.max_receive_window)

-- "less those read": the bytes that a read puts into lent output are the next of those accepted, and the rest of it is as it was
abbrev pub Given : Type 0
Given =
    (c : Connection) (t l p : List ℕ) (h : ℕ → Heard) → Lives c t l p h →
    (sized : Bool) (time i : ℕ) (out sent : List ℕ) (d : Done) (t' l' p' out' sent' : List ℕ) → Promised sized c t l p (read time i (length out)) d t' l' p' →
    Outputs sized c t l p time i out sent d out' sent' →
    out' ≡ take (count_of d.answer.value) (drop (length (h i).given) (h i).taken) ++ drop (count_of d.answer.value) out

-- "with a pool as large as the limit, and no more handles held (counting one that the frame would open) than M, no frame is
-- refused for room"
abbrev pub Room : Type 0
Room =
    (c : Connection) (t l p : List ℕ) (h : ℕ → Heard) → Lives c t l p h →
    c.config.limit ≤ c.memory.pool →
    (time : ℕ) (head body : List ℕ) →
    held_count (slots_of c.memory t l p) + one (would_open (abs_of c t l p) time head body) ≤ c.config.max_num_streams →
    (sized : Bool) (d : Done) (t' l' p' : List ℕ) → Promised sized c t l p (frame time head body) d t' l' p' →
    d.answer.reply ≢ reply.NoRoom
