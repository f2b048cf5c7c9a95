-- Credit as a ledger: for each held handle, the credit and the bytes of the frames that went out and came in since it was made, and
-- what they say of windows and of the limit. Nothing is read off a window: the numbers are those of headers and bodies on the wire.
use Rattle.std.specs.Prelude.{◌≡◌, Bool, true, cond, List, [], ◌∷◌, ℕ, suc, ◌+◌, ◌-◌, ◌*◌, ◌≤◌, length, Option, Some, None, Ok, Result, Err}
use Rattle.frame.specs.Header.{contains, rst, initial_window}
use Rattle.frame.specs.Wire.{decoded}
use Rattle.frame.specs.declared.header.Header.{Header}
use Rattle.frame.specs.declared.header.Tag.{Tag}
use Rattle.frame.specs.declared.header.Tag.TheVariants as tag
use Rattle.frame.specs.declared.header.HeaderDecodeError.{HeaderDecodeError}
use Rattle.frame.specs.declared.header.HeaderDecodeError.TheVariants as found
use Rattle.rules.specs.declared.Config.{Config}
use Rattle.rules.specs.declared.Settings.{Settings}
use Rattle.rules.specs.Lists.{Place, at, nowhere}
use Rattle.rules.specs.Replies.{Outcome}
use Rattle.rules.specs.Settings.{checked, config_of}
use Rattle.rules.specs.State.{Entry, Conn, initial, entry, find, unread_total}
use Rattle.rules.specs.Frames.{body_length}
use Rattle.rules.specs.Step as rules
use Rattle.demands.specs.Demands.{Reach, held_count}
use Rattle.demands.specs.History.{is_done, put}
use Rattle.demands.specs.Witnesses.{client, head, zeros, syn_data, reset, From, grows}
use Rattle.rules.specs.declared.Slot.{Slot}

-- ---- a handle's account

pub record Account : Type 0 where
  -- the credit of the WindowUpdates that went out, and the bytes of the Data that came in and was accepted
  pub granted : ℕ
  pub accepted : ℕ
  -- the credit of the WindowUpdates that came in and was taken, and the bytes of the Data that went out
  pub credited : ℕ
  pub sent : ℕ

abbrev pub blank : Account
blank = record { granted = 0; accepted = 0; credited = 0; sent = 0 }

-- the credit that a frame of the type and the length carries
abbrev pub credit_in : Tag → ℕ → ℕ
credit_in tag.Data n = 0
credit_in tag.WindowUpdate n = n
credit_in tag.Ping n = 0
credit_in tag.GoAway n = 0

-- a frame with the body came in for the stream
abbrev pub came_in : Header → List ℕ → Account → Account
came_in h body a = record {
  granted = a.granted;
  accepted = a.accepted + length body;
  credited = a.credited + credit_in h.tag h.length.0;
  sent = a.sent;
}

-- a call on the handle gave a frame to send, or none; the bytes are as many as the header says
abbrev pub went_out : Option Header → Account → Account
went_out None a = a
went_out (Some h) a = record {
  granted = a.granted + credit_in h.tag h.length.0;
  accepted = a.accepted;
  credited = a.credited;
  sent = a.sent + body_length h.tag h.length.0;
}

-- ---- what a call books

-- for the stream in the table that has the frame's id
abbrev pub booked_at : Place → Header → List ℕ → (ℕ → Account) → ℕ → Account
booked_at (at i) h body b = put i (came_in h body (b i)) b
booked_at nowhere h body b = b

-- an answer that names a slot and a new id made a handle there, with this account
abbrev pub opened : Option Slot → Option ℕ → Account → (ℕ → Account) → (ℕ → Account) → ℕ → Account
opened (Some i) (Some v) a b else = put i.0 a b
opened (Some i) None a b else = else
opened None v a b else = else

-- a frame that was done; with RST it brings neither credit nor bytes
abbrev pub booked_frame : Header → List ℕ → Place → Outcome → (ℕ → Account) → ℕ → Account
booked_frame h body place o b =
    cond (is_done o.reply) (cond (contains h.flags rst) b (opened o.slot o.value (came_in h body blank) b (booked_at place h body b))) b

abbrev pub booked_decoded : Result Header HeaderDecodeError → Conn → List ℕ → Outcome → (ℕ → Account) → ℕ → Account
booked_decoded (Err found.Size) c body o b = b
booked_decoded (Err (found.Version v)) c body o b = b
booked_decoded (Err (found.Type t)) c body o b = b
booked_decoded (Ok h) c body o b = booked_frame h body (find c.slots h.stream_id) o b

-- a handle that is made or dropped starts from nothing
abbrev pub booked : Conn → rules.Call → Outcome → (ℕ → Account) → ℕ → Account
booked c (rules.tick now) o b = b
booked c (rules.frame now head body) o b = booked_decoded (decoded head) c body o b
booked c (rules.open_stream now) o b = cond (is_done o.reply) (opened o.slot o.value blank b b) b
booked c (rules.read now i asked) o b = put i (went_out o.header (b i)) b
booked c (rules.write now i given) o b = put i (went_out o.header (b i)) b
booked c (rules.close now i) o b = put i (went_out o.header (b i)) b
booked c (rules.drop now i) o b = cond (is_done o.reply) (put i blank b) b
booked c (rules.gone now) o b = b

-- A state that accepted settings and any calls lead to, and its accounts.
pub data Books : Conn → (ℕ → Account) → Type 0 where
  new : {c : Config} (s : Settings) → checked s ≡ Ok c → Books (initial c) (λ i. blank)
  then : {c : Conn} {b : ℕ → Account} → Books c b → (k : rules.Call) → Books (rules.step c k).after (booked c k (rules.step c k).outcome b)

-- ---- the two sides of a stream

-- 262,144 and the credit granted is the receive window and the bytes accepted.
abbrev pub CreditIsALedger : Type 0
CreditIsALedger =
    (c : Conn) (b : ℕ → Account) → Books c b → (i : ℕ) → (entry c.slots i).held ≡ true →
    initial_window + (b i).granted ≡ (entry c.slots i).stream.flow.receive_window + (b i).accepted

-- 262,144 and the credit taken is the send window and the bytes sent.
abbrev pub SendingIsALedger : Type 0
SendingIsALedger =
    (c : Conn) (b : ℕ → Account) → Books c b → (i : ℕ) → (entry c.slots i).held ≡ true →
    initial_window + (b i).credited ≡ (entry c.slots i).stream.flow.send_window + (b i).sent

-- what the remote may still send on a stream, by the frames that went out and those that were taken
abbrev pub usable : Account → ℕ
usable a = initial_window + a.granted - a.accepted

-- It is the receive window, and the minus hides nothing.
abbrev pub UsableIsTheWindow : Type 0
UsableIsTheWindow =
    (c : Conn) (b : ℕ → Account) → Books c b → (i : ℕ) → (entry c.slots i).held ≡ true →
    ((b i).accepted ≤ initial_window + (b i).granted) × (usable (b i) ≡ (entry c.slots i).stream.flow.receive_window)

-- ---- all streams together

-- a sum over the slots that pass a test
abbrev pub over : (Entry → Bool) → (ℕ → ℕ) → List Entry → ℕ
over test f [] = 0
over test f (e ∷ es) = cond (test e) (f 0) 0 + over test (λ i. f (suc i)) es

-- the receive windows of all held streams
abbrev pub held_windows : List Entry → ℕ
held_windows es = over (λ e. e.held) (λ i. (entry es i).stream.flow.receive_window) es

-- what the remote may still send on all held streams, by the same frames
abbrev pub held_usable : (ℕ → Account) → List Entry → ℕ
held_usable b es = over (λ e. e.held) (λ i. usable (b i)) es

-- on a stream in the table, with what is unread of it
abbrev pub table_usable : (ℕ → Account) → List Entry → ℕ
table_usable b es = over (λ e. e.listed) (λ i. usable (b i) + length (entry es i).bytes) es

-- so much credit with all unread bytes is within the limit and 262,144 for each of the n handles beyond M
abbrev pub FitsHandles : Conn → ℕ → Type 0
FitsHandles c credit =
    (n : ℕ) → held_count c.slots ≤ n →
    credit + unread_total c.slots + c.config.max_num_streams * initial_window ≤ c.config.limit + n * initial_window

-- with at most M handles held it is within the limit
abbrev pub FitsLimit : Conn → ℕ → Type 0
FitsLimit c credit = held_count c.slots ≤ c.config.max_num_streams → credit + unread_total c.slots ≤ c.config.limit

-- What the remote may still send on all streams together, with all that is unread, never passes the limit while at most M handles
-- are held; by the windows, and by the frames alone.
abbrev pub WindowsAreWithinTheLimit : Type 0
WindowsAreWithinTheLimit = (c : Conn) → Reach c → FitsLimit c (held_windows c.slots)

abbrev pub CreditIsWithinTheLimit : Type 0
CreditIsWithinTheLimit = (c : Conn) (b : ℕ → Account) → Books c b → FitsLimit c (held_usable b c.slots)

-- For any number of handles.
abbrev pub WindowsAreWithinForHandles : Type 0
WindowsAreWithinForHandles = (c : Conn) → Reach c → FitsHandles c (held_windows c.slots)

abbrev pub CreditIsWithinForHandles : Type 0
CreditIsWithinForHandles = (c : Conn) (b : ℕ → Account) → Books c b → FitsHandles c (held_usable b c.slots)

-- On the streams in the table, the only ones that take a frame, it never passes the limit at all, however many handles are held.
abbrev pub CreditInTheTable : Type 0
CreditInTheTable = (c : Conn) (b : ℕ → Account) → Books c b → table_usable b c.slots ≤ c.config.limit

-- ---- runs, by computation: the accounts are not met by booking nothing, and the condition on handles is needed

-- the accounts once these calls are made as well
abbrev pub booked_over : Conn → List rules.Call → (ℕ → Account) → ℕ → Account
booked_over c [] b = b
booked_over c (k ∷ ks) b = booked_over (rules.step c k).after ks (booked c k (rules.step c k).outcome b)

abbrev pub accounts_of : Settings → List rules.Call → ℕ → Account
accounts_of s ks = booked_over (initial (config_of s)) ks (λ i. blank)

-- a stream that a WindowUpdate with a credit of 5 opens, and a write of 3 bytes on it
abbrev pub sends : List rules.Call
sends = rules.frame 0 (head 1 1 2 5) [] ∷ rules.write 0 0 (zeros 3) ∷ []

-- a handle of a stream that was reset, beside the one stream that M permits
abbrev pub reset_beside : List rules.Call
reset_beside = syn_data 0 2 0 ∷ reset 0 2 ∷ syn_data 0 4 0 ∷ []

abbrev pub LedgerRuns : Type 0
LedgerRuns =
    -- 131,072 bytes come in and are read; a WindowUpdate grants so many again and the 262,144 by which the maximum grew
    From (client 4 2097152 4 4294967295) grows (λ r.
    accounts_of (client 4 2097152 4 4294967295) grows 0 ≡ record { granted = 393216; accepted = 131072; credited = 0; sent = 0 })
    × From (client 2 1048576 2 64) sends (λ r.
    accounts_of (client 2 1048576 2 64) sends 0 ≡ record { granted = 0; accepted = 0; credited = 5; sent = 3 })
    -- with two handles and M = 1 the credit is 262,144 above the limit, which is all that the bound permits
    × From (client 1 262144 2 0) reset_beside (λ r.
    held_usable (accounts_of (client 1 262144 2 0) reset_beside) r.after.slots ≡ 524288)
