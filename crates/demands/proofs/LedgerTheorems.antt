-- The ledger, proved. The statements are those of `specs/Ledger.antt`. Assumes nothing.
use Rattle.std.proofs.Common.{Option, Some, None, Result, Ok, Err, ◌≡◌, refl, Bool, true, false, cond, List, [], ◌∷◌, ℕ, suc, ◌+◌, ◌*◌, ◌≤◌, arith, length, ltb}
use Rattle.frame.specs.Header.{initial_window}
use Rattle.frame.specs.Wire.{decoded}
use Rattle.frame.specs.declared.header.HeaderDecodeError.{HeaderDecodeError}
use Rattle.frame.specs.declared.header.HeaderDecodeError.TheVariants as found
use Rattle.rtt.specs.Pings.{next_ping}
use Rattle.rules.specs.declared.Reply.TheVariants as reply
use Rattle.rules.specs.Lists.{sum}
use Rattle.rules.specs.Settings.{last_time}
use Rattle.rules.specs.State.{Entry, Conn, vacant, entry, unread_total}
use Rattle.rules.specs.Ending.{Effect, refuse}
use Rattle.rules.specs.Frames.{ack_step, on_reset, make_at, make, syn_rules, syn_data, syn_update, data_rules, update_rules, pong_rules, ping_rules, frame_rules, on_header}
use Rattle.rules.specs.Calls.{growth_of, read_rest, read_with, window_step, read_rules, write_with, write_rules, ping_out, tick_rules}
use Rattle.rules.specs.Step.{on_decoded, step}
use Rattle.rules.specs.Step as rules
use Rattle.demands.specs.Demands.{held_count}
use Rattle.demands.specs.Ledger.{Account, booked_decoded, booked, Books, new, then, over, usable, held_windows, held_usable, FitsHandles}
use Rattle.demands.specs.Ledger.{CreditIsALedger, SendingIsALedger, UsableIsTheWindow, WindowsAreWithinTheLimit, CreditIsWithinTheLimit, WindowsAreWithinForHandles, CreditIsWithinForHandles, CreditInTheTable, LedgerRuns}
use Rattle.rules.proofs.Lists.{split}
use Rattle.demands.proofs.Lists.{getD-same, sum-le, sum-add, sum-each}
use Rattle.demands.proofs.Invariant.{Good, Inv}
use Rattle.demands.proofs.Sound.{within}
use Rattle.demands.proofs.Steps.{started, sound, reached}
use Rattle.demands.proofs.Ledger.{Balance, account-changes, end_balance, blank_balanced, reads-balance, writes-balance, closes-balance, opens-balance, drops-balance}
use Rattle.demands.proofs.LedgerFrames.{headers-balance}
use Rattle.frame.specs.declared.header.Header.{Header}

-- ---- a call

module _ (c : Conn) (v : Inv c) (b : ℕ → Account) (h : Balance b c.slots) where
  -- a time and an ended connection, or a handle that is not held, are refused; else the rules decide
  live-ok : (P : Effect → Type 0) (now : ℕ) (next : Effect) → P (refuse c reply.Time) → P (refuse c reply.Closed) → (c.ended ≡ false → P next) → P (rules.timed c now (rules.live c next))
  live-ok P now next x y s = split P (ltb last_time now) (λ t. x) (λ t. split P c.ended (λ e. y) s)

  holding-ok : (P : Effect → Type 0) (now i : ℕ) (next : Effect) → P (refuse c reply.Time) → P (refuse c reply.NotHeld) → ((entry c.slots i).held ≡ true → P next) → P (rules.timed c now (rules.holding c i next))
  holding-ok P now i next x y s = split P (ltb last_time now) (λ t. x) (λ t. split P (entry c.slots i).held s (λ e. y))

  ticks-out : (p : Option Header) (d : Conn) → Balance b d.slots → Balance b (ping_out p d).after.slots
  unfolding ping_out
  ticks-out None d w = w
  ticks-out (Some x) d w = w

  ticks : (now : ℕ) → Balance b (tick_rules c now).after.slots
  unfolding tick_rules
  ticks now = ticks-out (next_ping c.pings now).ping _ h

  decodes : (d : Result Header HeaderDecodeError) (body : List ℕ) (now : ℕ) → Balance (booked_decoded d c body (on_decoded d c body now).outcome b) (on_decoded d c body now).after.slots
  unfolding on_decoded
  decodes (Err found.Size) body now = h
  decodes (Err (found.Version n)) body now = live-ok (λ r. Balance b r.after.slots) now _ h h (λ l. end_balance b c.slots h)
  decodes (Err (found.Type n)) body now = live-ok (λ r. Balance b r.after.slots) now _ h h (λ l. end_balance b c.slots h)
  decodes (Ok x) body now =
      live-ok (λ r. Balance (booked_decoded (Ok x) c body r.outcome b) r.after.slots) now _ h h (λ l. headers-balance x body b c v l h now)

  abbrev Booked : rules.Call → Effect → Type 0
  Booked k r = Balance (booked c k r.outcome b) r.after.slots

  call-balances : (k : rules.Call) → Booked k (step c k)
  unfolding step
  call-balances (rules.tick now) = live-ok (λ r. Balance b r.after.slots) now _ h h (λ l. ticks now)
  call-balances (rules.frame now head body) = decodes (decoded head) body now
  call-balances (rules.open_stream now) = live-ok (Booked (rules.open_stream now)) now _ h h (λ l. opens-balance c b h now)
  call-balances (rules.read now i asked) =
      let still = account-changes b c.slots h i (b i) (h i) in
      holding-ok (Booked (rules.read now i asked)) now i _ still still (λ l. reads-balance c b h i l asked now)
  call-balances (rules.write now i given) =
      let still = account-changes b c.slots h i (b i) (h i) in
      holding-ok (Booked (rules.write now i given)) now i _ still still (λ l. writes-balance c b h i l given)
  call-balances (rules.close now i) =
      let still = account-changes b c.slots h i (b i) (h i) in
      holding-ok (Booked (rules.close now i)) now i _ still still (λ l. closes-balance c b h i l)
  call-balances (rules.drop now i) = holding-ok (Booked (rules.drop now i)) now i _ h h (λ l. drops-balance c b h i l)
  call-balances (rules.gone now) = live-ok (λ r. Balance b r.after.slots) now _ h h (λ l. end_balance b c.slots h)

-- ---- a history

pub books_kept : {c : Conn} {b : ℕ → Account} → Books c b → Inv c
books_kept (new {c = c} s e) = started s c e
books_kept (then {c = c} s k) = (sound c (books_kept s) k).inv

balance : {c : Conn} {b : ℕ → Account} → Books c b → Balance b c.slots
balance (new {c = c} s e) j = rw (getD-same c.slots j vacant) blank_balanced
balance (then {c = c} {b = b} s k) j = call-balances c (books_kept s) b (λ i. balance s i) k j

pub credit_is_a_ledger : CreditIsALedger
credit_is_a_ledger c b s i h = (balance s i).0

pub sending_is_a_ledger : SendingIsALedger
sending_is_a_ledger c b s i h = (balance s i).1

pub usable_is_the_window : UsableIsTheWindow
usable_is_the_window c b s i h = let e = (balance s i).0 in (omega (arith, e), omega (arith, e))

-- ---- sums

-- a sum over slots as one over their entries
over-sum : (test : Entry → Bool) (f : ℕ → ℕ) (g : Entry → ℕ) (es : List Entry) → ((i : ℕ) → test (entry es i) ≡ true → f i ≡ g (entry es i)) → over test f es ≡ sum (λ e. cond (test e) (g e) 0) es
over-sum test f g [] h = refl
over-sum test f g (e ∷ es) h = go (test e) refl (over-sum test (λ i. f (suc i)) g es (λ i. h (suc i)))
  where
    go : (t : Bool) → test e ≡ t → over test (λ i. f (suc i)) es ≡ sum (λ x. cond (test x) (g x) 0) es →
        cond t (f 0) 0 + over test (λ i. f (suc i)) es ≡ cond t (g e) 0 + sum (λ x. cond (test x) (g x) 0) es
    go true t p = omega (arith, h 0 t, p)
    go false t p = omega (arith, p)

abbrev window : Entry → ℕ
window e = e.stream.flow.receive_window

-- windows and unread bytes are within 262,144 for each handle and what was grown
held_fit : (c : Conn) → Inv c → (credit : ℕ) → credit ≡ sum (λ e. cond e.held (window e) 0) c.slots → FitsHandles c credit
held_fit c v credit q n l =
    let es = c.slots in
    let a : Entry → ℕ = λ e. cond e.held (window e) 0 in
    let u : Entry → ℕ = λ e. length e.bytes in
    let k : Entry → ℕ = λ e. cond e.held initial_window 0 in
    let p = sum-le (λ e. a e + u e) (λ e. k e + growth_of e) es vacant (λ j. within (entry es j) (v.good j)) in
    let r = sum-add a u es in
    let s = sum-add k growth_of es in
    let t = sum-each (λ (e : Entry). e.held) initial_window es in
    adds credit (unread_total es) c.growth c.config.limit c.config.max_num_streams (held_count es) n (omega (arith, p, q, r, s, t, v.figure)) v.bounded l
  where
    adds : (credit unread growth limit m held n : ℕ) → credit + unread ≤ held * initial_window + growth → growth + m * initial_window ≤ limit → held ≤ n → credit + unread + m * initial_window ≤ limit + n * initial_window
    adds credit unread growth limit m held n p q r = omega arith

windows_sum : (es : List Entry) → held_windows es ≡ sum (λ e. cond e.held (window e) 0) es
windows_sum es = over-sum (λ e. e.held) (λ i. window (entry es i)) window es (λ i h. refl)

usable-sum : {c : Conn} {b : ℕ → Account} → Books c b → held_usable b c.slots ≡ sum (λ e. cond e.held (window e) 0) c.slots
usable-sum {c} {b} s = over-sum (λ e. e.held) (λ i. usable (b i)) window c.slots (λ i h. (usable_is_the_window c b s i h).1)

pub windows_are_within_for_handles : WindowsAreWithinForHandles
windows_are_within_for_handles c r = held_fit c (reached r) (held_windows c.slots) (windows_sum c.slots)

pub credit_is_within_for_handles : CreditIsWithinForHandles
credit_is_within_for_handles c b s = held_fit c (books_kept s) (held_usable b c.slots) (usable-sum s)

pub windows_are_within_the_limit : WindowsAreWithinTheLimit
windows_are_within_the_limit c r l = let p = windows_are_within_for_handles c r c.config.max_num_streams l in omega (arith, p)

pub credit_is_within_the_limit : CreditIsWithinTheLimit
credit_is_within_the_limit c b s l = let p = credit_is_within_for_handles c b s c.config.max_num_streams l in omega (arith, p)

-- ---- the table

listed_fits : (t : Bool) (e : Entry) → Good e → cond t (window e + length e.bytes) 0 ≤ cond t initial_window 0 + growth_of e
listed_fits true e g = omega (arith, g.flows.fits, g.flows.low)
listed_fits false e g = omega arith

pub credit_in_the_table : CreditInTheTable
credit_in_the_table c b s =
    let v = books_kept s in
    let es = c.slots in
    let f : Entry → ℕ = λ e. window e + length e.bytes in
    let k : Entry → ℕ = λ e. cond e.listed initial_window 0 in
    let q =
    over-sum (λ e. e.listed) (λ i. usable (b i) + length (entry es i).bytes) f es
    (λ i h. let u = (usable_is_the_window c b s i ((v.good i).holds h)).1 in omega (arith, u)) in
    let p = sum-le (λ e. cond e.listed (f e) 0) (λ e. k e + growth_of e) es vacant (λ j. listed_fits (entry es j).listed (entry es j) (v.good j)) in
    omega (arith, p, q, sum-add k growth_of es, sum-each (λ (e : Entry). e.listed) initial_window es, v.figure, v.bounded, v.count)

-- ---- runs

pub ledger_runs : LedgerRuns
unfolding ack_step on_reset make_at make syn_rules syn_data syn_update data_rules update_rules pong_rules ping_rules frame_rules on_header read_rest read_with window_step read_rules write_with write_rules ping_out tick_rules on_decoded step
ledger_runs = ((refl, refl), (refl, refl), (refl, refl))
