-- Credit as a ledger, of what the code holds: the accounts of a connection that lives, and what they say of its table and of the limit.
use Rattle.std.specs.Prelude.{◌≡◌, true, List, ℕ, ◌+◌, ◌*◌, ◌≤◌}
use Rattle.frame.specs.Header.{initial_window}
use Rattle.rules.specs.State.{unread_total}
use Rattle.rules.specs.Step.{step}
use Rattle.memory.specs.Slots.{slots_of}
use Rattle.connection.specs.Abstract.{abs_of}
use Rattle.connection.specs.declared.Connection.{Connection}
use Rattle.trace.specs.Runs.{reads}
use Rattle.trace.specs.Turns.{runs_from}
use Rattle.demands.specs.Demands.{held_count}
use Rattle.demands.specs.History.{Heard}
use Rattle.demands.specs.Ledger.{Account, blank, booked, booked_over, held_usable, table_usable}
use Rattle.demands_of_code.specs.Lives.{Lives, made, then, unsized, ran, unran, slot_at}

-- what each handle's frames carried, of a run's calls as well
abbrev pub accounts : {c : Connection} {t l p : List ℕ} {h : ℕ → Heard} → Lives c t l p h → ℕ → Account
accounts (made s m) = λ i. blank
accounts (then {c = c} {t = t} {l = l} {p = p} before k d t' l' p' promised) = booked (abs_of c t l p) k (step (abs_of c t l p) k).outcome (accounts before)
accounts (unsized before k d t' l' p' promised) = accounts before
accounts (ran {c = c} {t = t} {l = l} {p = p} before s o place allowance r t' l' p' o' runs) =
    booked_over (abs_of c t l p) (reads (runs_from c t l p s o place allowance).applied s place.at) (accounts before)
accounts (unran before s o place allowance r t' l' p' o' runs) = accounts before

-- For each held handle, 262,144 and the credit granted is the receive window and the bytes accepted; 262,144 and the credit taken is
-- the send window and the bytes sent.
abbrev pub Ledger : Type 0
Ledger =
    (c : Connection) (t l p : List ℕ) (h : ℕ → Heard) (a : Lives c t l p h) (i : ℕ) → (slot_at c t l p i).held ≡ true →
    let f = (slot_at c t l p i).stream.flow in
    (initial_window + (accounts a i).granted ≡ f.receive_window + (accounts a i).accepted)
    × (initial_window + (accounts a i).credited ≡ f.send_window + (accounts a i).sent)

-- What the remote may still send on all held streams, with all that is unread, is within the limit while at most M handles are held,
-- and for any n of them within the limit and 262,144 for each beyond M.
abbrev pub Credit : Type 0
Credit =
    (c : Connection) (t l p : List ℕ) (h : ℕ → Heard) (a : Lives c t l p h) →
    let slots = slots_of c.memory t l p in
    let credit = held_usable (accounts a) slots + unread_total slots in
    let m = c.config.max_num_streams in
    (held_count slots ≤ m → credit ≤ c.config.limit)
    × ((n : ℕ) → held_count slots ≤ n → credit + m * initial_window ≤ c.config.limit + n * initial_window)

-- On the streams in the table it never passes the limit, however many handles are held.
abbrev pub TableCredit : Type 0
TableCredit = (c : Connection) (t l p : List ℕ) (h : ℕ → Heard) (a : Lives c t l p h) → table_usable (accounts a) (slots_of c.memory t l p) ≤ c.config.limit
