-- Performing the actions of local calls is what the rules of calls say. Assumes nothing.
use Rattle.std.proofs.Common.{Option, Some, None, ◌≡◌, refl, Bool, true, false, cond, List, [], ℕ, ◌+◌, min, length, eqb, ltb, leb, eqb-true}
use Rattle.rtt.specs.Pings.{next_ping}
use Rattle.rtt.specs.declared.Rtt.{Rtt}
use Rattle.flow_control.specs.Windows.{top}
use Rattle.stream.specs.States.{can_read}
use Rattle.stream.specs.Streams as stream
use Rattle.stream.specs.declared.Stream.{Stream}
use Rattle.stream.specs.declared.Updated.{Updated}
use Rattle.stream.specs.declared.ReadEnd.{ReadEnd}
use Rattle.stream.specs.declared.ReadEnd.TheVariants as reading
use Rattle.stream.specs.declared.Written.{Written}
use Rattle.stream.specs.declared.Written.TheVariants as written
use Rattle.rules.specs.Lists.{Place, at, nowhere}
use Rattle.rules.specs.State.{Entry, Conn, entry, with_pings, lowest_free, listed_count, unacknowledged, found_of}
use Rattle.rules.specs.Ending.{gives}
use Rattle.rules.specs.Calls.{open_at, open_rules, read_rest, read_with, window_step, read_rules, write_with, write_rules, close_rules, ping_out, tick_rules}
use Rattle.handlers.specs.Perform.{outcome_of}
use Rattle.handlers.specs.Locals.{perform_step, write_step, on_write, perform_write, on_close, open_in, open_with, open_action, perform_open, is_shut, nothing_read, read_ended, on_read, perform_read, ping_sent, on_tick}
use Rattle.handlers.proofs.Rules.{both, heard_by}
use Rattle.frame.specs.declared.header.Header.{Header}

-- ---- write and close

module _ (c : Conn) (i : ℕ) where
  write-with : (given : List ℕ) (w : Written) → write_with c i (entry c.slots i) given w ≡ perform_write c i given (write_step (record { 0 = i }) w)
  unfolding write_with perform_step
  write-with given written.Closed = refl
  write-with given (written.Wait s) = refl
  write-with given (written.Frame s h) = refl

  pub write-performs : (given : List ℕ) →
      write_rules c i (entry c.slots i) given
      ≡ perform_write c i given (on_write c.ended (record { 0 = i }) (entry c.slots i).stream (length given) c.config.split)
  unfolding write_rules
  write-performs given =
      both (perform_write c i given) c.ended refl (write-with given (stream.write (entry c.slots i).stream (length given) c.config.split))

  pub close-performs : close_rules c i (entry c.slots i) ≡ perform_step c i [] (on_close (record { 0 = i }) (entry c.slots i).stream)
  unfolding close_rules perform_step
  close-performs = refl

-- ---- open

open-at : (c : Conn) (now : ℕ) (p : Place) → open_at p c now ≡ perform_open c (open_in (found_of p) (record { 0 = c.next_id }) (c.next_id + 2) now)
unfolding open_at perform_open
open-at c now nowhere = refl
open-at c now (at i) = refl

pub open_performs : (c : Conn) (now : ℕ) →
    open_rules c now
    ≡ perform_open c (open_action (listed_count c.slots) c.config.max_num_streams (unacknowledged c.config.mode c.slots) c.next_id (found_of (lowest_free c.slots)) now)
unfolding open_rules open_action perform_open
open_performs c now =
    both (perform_open c) (leb c.config.max_num_streams (listed_count c.slots)) refl
    (both (perform_open c) (leb 256 (unacknowledged c.config.mode c.slots)) refl
    (both (λ x. perform_open c (open_with x (found_of (lowest_free c.slots)) now)) (ltb top (c.next_id + 2)) refl
    (open-at c now (lowest_free c.slots))))

-- ---- read

-- a read that waits has taken nothing
waits : (s t : Stream) (n : ℕ) (b : Bool) → eqb n 0 ≡ b →
    cond b (cond (can_read s.state) (reading.Wait (stream.with_waits s true s.writer)) (reading.Done s)) (reading.Done s) ≡ reading.Wait t → n ≡ 0
waits s t n true e w = eqb-true n 0 e
waits s t n false e w = cc

module _ (c : Conn) (i : ℕ) (e : Entry) where
  read-rest : (u : Updated) (n : ℕ) (r : ReadEnd) → ((t : Stream) → r ≡ reading.Wait t → n ≡ 0) →
      read_rest c i e u n r ≡ perform_read c (record { 0 = i }) e (read_ended (record { 0 = i }) u n r)
  unfolding read_rest perform_read
  read-rest u n (reading.Done s) z = refl
  read-rest u n (reading.Wait s) z = rw (z s refl)

  read-with : (u : Updated) (asked : ℕ) →
      read_with c i e asked u ≡ perform_read c (record { 0 = i }) e (on_read (record { 0 = i }) u (length e.bytes) asked)
  unfolding read_with on_read
  read-with u asked =
      let n = min asked (length e.bytes) in
      read-rest u n (stream.read_end u.stream n) (λ t w. waits u.stream t n (eqb n 0) refl w)

shut : (a b : Bool) → cond a (cond b false true) false ≡ is_shut a b
shut true true = refl
shut true false = refl
shut false b = refl

pub read_performs : (c : Conn) (i : ℕ) (e : Entry) (asked now : ℕ) →
    read_rules c i e asked now
    ≡ cond (is_shut c.ended c.config.read_after_close)
    (gives (outcome_of (nothing_read (record { 0 = i }))) c)
    (perform_read c (record { 0 = i }) e (on_read (record { 0 = i }) (window_step c e now) (length e.bytes) asked))
unfolding read_rules
read_performs c i e asked now = rw (shut c.ended c.config.read_after_close, read-with c i e (window_step c e now) asked)

-- ---- tick

ping-out : (c : Conn) (r : Rtt) (p : Option Header) → ping_out p (with_pings c r) ≡ heard_by c (ping_sent r p)
unfolding ping_out
ping-out c r None = refl
ping-out c r (Some h) = refl

pub tick_performs : (c : Conn) (now : ℕ) → tick_rules c now ≡ heard_by c (on_tick c.pings now)
unfolding tick_rules on_tick
tick_performs c now = ping-out c (next_ping c.pings now).rtt (next_ping c.pings now).ping
