-- "Local calls", and "Windows and pings" as far as calls. Sentences are document 01's.
use Rattle.std.specs.Prelude.{true, false, cond, List, [], ℕ, ◌+◌, ◌-◌, min, length, take, drop, set, ltb, leb, Option, Some, None}
use Rattle.frame.specs.Header.{initial_window}
use Rattle.rtt.specs.Pings.{next_ping}
use Rattle.flow_control.specs.Windows.{top}
use Rattle.stream.specs.Streams as stream
use Rattle.stream.specs.declared.Stream.{Stream}
use Rattle.stream.specs.declared.StreamWakes.{StreamWakes}
use Rattle.stream.specs.declared.Updated.{Updated}
use Rattle.stream.specs.declared.ReadEnd.{ReadEnd}
use Rattle.stream.specs.declared.ReadEnd.TheVariants as reading
use Rattle.stream.specs.declared.Written.{Written}
use Rattle.stream.specs.declared.Written.TheVariants as written
use Rattle.rules.specs.declared.Reply.{Reply}
use Rattle.rules.specs.declared.Reply.TheVariants as reply
use Rattle.rules.specs.Replies.{Outcome, no_wakes, bare}
use Rattle.rules.specs.Lists.{Place, at, nowhere}
use Rattle.rules.specs.State.{Entry, Conn, entry, vacant, with_slot, with_slots, with_pings, with_growth, with_next_id, with_open_wait, with_stream, find, lowest_free, listed_count, unacknowledged}
use Rattle.rules.specs.Ending.{Effect, gives, refuse, end}
use Rattle.rules.specs.Frames.{new_entry}
use Rattle.frame.specs.declared.header.Header.{Header}

-- the answer of a call on a handle, which gives b bytes that were read
abbrev pub on_slot : ℕ → Reply → Option ℕ → Option Header → List ℕ → Outcome
on_slot i r v h b = record { reply = r; slot = Some (record { 0 = i }); value = v; header = h; body = []; wakes = no_wakes; bytes = b }

-- ---- open

-- "the lowest free one is taken"; 7 where "all K slots are in use"; "ids .. go by 2"
unfoldable pub open_at : Place → Conn → ℕ → Effect
open_at nowhere c now = refuse c reply.NoSlot
open_at (at i) c now =
    gives
    (on_slot i reply.Done (Some c.next_id) None [])
    (with_slot (with_next_id c (c.next_id + 2)) i (new_entry (stream.new_outbound (record { 0 = c.next_id }) now) []))

-- "Open: table at M or more, 3; 256 or more own-parity streams Open and unacknowledged, wait; .. When next id + 2 passes 2^32-1,
-- reply 4": in the order "3, wait, 4, 7"
unfoldable pub open_rules : Conn → ℕ → Effect
open_rules c now =
    cond (leb c.config.max_num_streams (listed_count c.slots))
    (end c reply.TooManyStreams)
    (cond (leb 256 (unacknowledged c.config.mode c.slots))
    (gives (bare reply.Wait) (with_open_wait c true))
    (cond (ltb top (c.next_id + 2))
    (end c reply.NoMoreStreamIds)
    (open_at (lowest_free c.slots) c now)))

-- ---- read

-- the entry once n bytes are read and the stream is s
abbrev pub read_entry : Entry → Stream → ℕ → Entry
read_entry e s n = record { held = e.held; listed = e.listed; stream = s; bytes = drop n e.bytes }

-- "if that is 0: done with 0 in RecvClosed or Closed, else wait"
unfoldable pub read_rest : Conn → ℕ → Entry → Updated → ℕ → ReadEnd → Effect
read_rest c i e u n (reading.Done s) =
    gives
    (on_slot i reply.Done (Some n) u.sent (take n e.bytes))
    (with_slot (with_growth c u.growth) i (read_entry e s n))
read_rest c i e u n (reading.Wait s) =
    gives (on_slot i reply.Wait None u.sent []) (with_slot (with_growth c u.growth) i (read_entry e s n))

-- "first the window update ..., then the oldest min(asked, unread) bytes in their order"
unfoldable pub read_with : Conn → ℕ → Entry → ℕ → Updated → Effect
read_with c i e asked u =
    let n = min asked (length e.bytes) in
    read_rest c i e u n (stream.read_end u.stream n)

-- the window step of a read, with the bytes that are unread before it
unfoldable pub window_step : Conn → Entry → ℕ → Updated
window_step c e now =
    stream.send_window_update e.stream (length e.bytes) now c.pings.round_trip c.config.limit c.config.max_num_streams c.growth

-- "Read: ended with read-after-close off, done with 0 bytes."
unfoldable pub read_rules : Conn → ℕ → Entry → ℕ → ℕ → Effect
read_rules c i e asked now =
    cond (cond c.ended (cond c.config.read_after_close false true) false)
    (gives (on_slot i reply.Done (Some 0) None []) c)
    (read_with c i e asked (window_step c e now))

-- ---- write

-- "a Data frame carries the first n bytes", n being the header's length and the answer's value
unfoldable pub write_with : Conn → ℕ → Entry → List ℕ → Written → Effect
write_with c i e given written.Closed = refuse c reply.WriteClosed
write_with c i e given (written.Wait s) = gives (on_slot i reply.Wait None None []) (with_slot c i (with_stream e s))
write_with c i e given (written.Frame s h) =
    gives
    (record {
      reply = reply.Done;
      slot = Some (record { 0 = i });
      value = Some h.length.0;
      header = Some h;
      body = take h.length.0 given;
      wakes = no_wakes;
      bytes = [];
    })
    (with_slot c i (with_stream e s))

-- "Write: connection ended, or state SendClosed or Closed, 6"
unfoldable pub write_rules : Conn → ℕ → Entry → List ℕ → Effect
write_rules c i e given =
    cond c.ended
    (refuse c reply.WriteClosed)
    (write_with c i e given (stream.write e.stream (length given) c.config.split))

-- ---- close

-- "Close: Closed, done without a frame. Else FIN .."
unfoldable pub close_rules : Conn → ℕ → Entry → Effect
close_rules c i e =
    let k = stream.close e.stream in
    gives (on_slot i reply.Done None k.sent []) (with_slot c i (with_stream e k.stream))

-- ---- drop

-- what the handle's maximum has above 262,144
abbrev pub growth_of : Entry → ℕ
growth_of e = e.stream.flow.max_receive_window - initial_window

abbrev pub drop_wakes : StreamWakes → Rattle.rules.specs.declared.Woke.Woke
drop_wakes w = record { reader = w.reader; writer = w.writer; opener = false; all = false }

-- "removes from the table whichever stream has that id, making it Closed"
abbrev pub removed_entry : Entry → Entry
removed_entry e = record { held = e.held; listed = false; stream = (stream.dropped e.stream).stream; bytes = e.bytes }

-- "Drop: frees the slot, then removes ..": the slot's own stream where it is in the table, else a newer one of its id. The
-- slot is freed last here, so that it is free too where the stream removed is its own.
unfoldable pub drop_at : Place → Conn → ℕ → Effect
drop_at nowhere c i = gives (on_slot i reply.Done None None []) (with_slot c i vacant)
drop_at (at j) c i =
    let e = entry c.slots j in
    let d = stream.dropped e.stream in
    gives
    (record { reply = reply.Done; slot = Some (record { 0 = i }); value = None; header = d.sent; body = []; wakes = drop_wakes d.wakes; bytes = [] })
    (with_slots c (set (set c.slots j (removed_entry e)) i vacant))

-- "A dropped handle returns its growth once."
unfoldable pub drop_rules : Conn → ℕ → Entry → Effect
drop_rules c i e = drop_at (find c.slots e.stream.id) (with_growth c (c.growth - growth_of e)) i

-- ---- tick

-- "no ping outstanding and due time <= now: Ping SYN with the next id .. No ping to send: done."
unfoldable pub ping_out : Option Header → Conn → Effect
ping_out None c = gives (bare reply.Done) c
ping_out (Some h) c =
    gives
    (record { reply = reply.Done; slot = None; value = Some h.length.0; header = Some h; body = []; wakes = no_wakes; bytes = [] })
    c

unfoldable pub tick_rules : Conn → ℕ → Effect
tick_rules c now =
    let p = next_ping c.pings now in
    ping_out p.ping (with_pings c p.rtt)
