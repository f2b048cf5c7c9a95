-- Only a read gives bytes, and neither an open nor a peer gone gives a header. Assumes nothing.
use Rattle.std.proofs.Common.{Option, Some, None, Result, Ok, Err, ◌≡◌, refl, true, List, [], ℕ, ◌+◌, eqb, ltb, leb, length}
use Rattle.frame.specs.Header.{contains, syn, ack, rst, protocol_error, internal_error, initial_window}
use Rattle.frame.specs.Wire.{decoded}
use Rattle.frame.specs.declared.header.HeaderDecodeError.{HeaderDecodeError}
use Rattle.frame.specs.declared.header.HeaderDecodeError.TheVariants as found
use Rattle.frame.specs.declared.header.Header.{Header}
use Rattle.frame.specs.declared.header.StreamId.{StreamId}
use Rattle.frame.specs.declared.header.Tag.{Tag}
use Rattle.frame.specs.declared.header.Tag.TheVariants as tag
use Rattle.stream.specs.declared.Stream.{Stream}
use Rattle.stream.specs.declared.Written.{Written}
use Rattle.stream.specs.declared.Written.TheVariants as written
use Rattle.rules.specs.Lists.{Place, at, nowhere}
use Rattle.flow_control.specs.Windows.{top}
use Rattle.rules.specs.Settings.{last_time}
use Rattle.rules.specs.Replies.{bare}
use Rattle.rules.specs.State.{Entry, Conn, entry, with_open_wait, lowest_free, listed_count, room, is_remote, unacknowledged}
use Rattle.rules.specs.Ending.{Effect, gives, refuse, end}
use Rattle.rules.specs.declared.Reply.{Reply}
use Rattle.rules.specs.declared.Reply.TheVariants as reply
use Rattle.rules.specs.Frames.{Acked, ack_step, is_known, answers_ping, body_length, on_reset, make_at, make, syn_rules, syn_data, syn_update, take_at, known_data, known_update, data_rules, update_rules, pong_rules, ping_rules, frame_rules, on_header}
use Rattle.rules.specs.Calls.{open_at, open_rules, write_with, write_rules, close_rules, drop_at, drop_rules, ping_out, tick_rules}
use Rattle.rules.specs.Step.{on_decoded, step, timed, live, holding}
use Rattle.rules.specs.Step as rules
use Rattle.rules.proofs.Lists.{either}
use Rattle.rtt.specs.declared.UnexpectedPong.{UnexpectedPong}
use Rattle.rtt.specs.declared.Rtt.{Rtt}
use Rattle.flow_control.specs.declared.InvalidWindowUpdate.{InvalidWindowUpdate}
use Rattle.stream.specs.declared.Woken.{Woken}

-- no bytes are given
pub record Silent (r : Effect) : Type 0 where
  pub none : r.outcome.bytes ≡ []

-- no header is given
pub record Headless (r : Effect) : Type 0 where
  pub bare : r.outcome.header ≡ None

-- ---- frames

reset_silent : (a : Acked) (place : Place) → Silent (on_reset a place)
unfolding on_reset
reset_silent a nowhere = record { none = refl }
reset_silent a (at i) = record { none = refl }

make_silent : (a : Acked) (s : Stream) (body : List ℕ) (place : Place) → Silent (make_at place a s body)
unfolding make_at
make_silent a s body nowhere = record { none = refl }
make_silent a s body (at i) = either Silent (ltb (room a.conn) (length body)) (record { none = refl }) (record { none = refl })

syn_silent : (a : Acked) (id : StreamId) (place : Place) (full : ℕ) (next : Effect) → Silent next → Silent (syn_rules a id place full next)
unfolding syn_rules
syn_silent a id place full next n =
    either Silent (is_remote a.conn.config.mode id)
    (either Silent (is_known place) (record { none = refl }) (either Silent (leb a.conn.config.max_num_streams (listed_count a.conn.slots)) (record { none = refl }) n))
    (record { none = refl })

take_silent : (i : ℕ) (a : Acked) (h : Header) (body : List ℕ) (r : Result Woken InvalidWindowUpdate) → Silent (take_at i a h body r)
unfolding take_at
take_silent i a h body (Err _) = record { none = refl }
take_silent i a h body (Ok k) = either Silent (ltb (room a.conn) (length body)) (record { none = refl }) (record { none = refl })

module _ (a : Acked) (h : Header) where
  known-data-silent : (body : List ℕ) (place : Place) → Silent (known_data a h body place)
  unfolding known_data
  known-data-silent body nowhere = record { none = refl }
  known-data-silent body (at i) = take_silent i a h body _

  known-update-silent : (place : Place) → Silent (known_update a h place)
  unfolding known_update
  known-update-silent nowhere = record { none = refl }
  known-update-silent (at i) = take_silent i a h [] _

  data-silent : (body : List ℕ) (place : Place) (now : ℕ) → Silent (data_rules a h body place now)
  unfolding data_rules syn_data make
  data-silent body place now =
      either Silent (contains h.flags rst) (reset_silent a place)
      (either Silent (contains h.flags syn)
      (syn_silent a h.stream_id place internal_error _ (either Silent (ltb initial_window (length body)) (record { none = refl }) (make_silent a _ body (lowest_free a.conn.slots))))
      (known-data-silent body place))

  update-silent : (place : Place) (now : ℕ) → Silent (update_rules a h place now)
  unfolding update_rules syn_update make
  update-silent place now =
      either Silent (contains h.flags rst) (reset_silent a place)
      (either Silent (contains h.flags syn)
      (syn_silent a h.stream_id place protocol_error _ (either Silent (ltb top (h.length.0 + initial_window)) (record { none = refl }) (make_silent a _ [] (lowest_free a.conn.slots))))
      (known-update-silent place))

pong_silent : (c : Conn) (p : Result Rtt UnexpectedPong) → Silent (pong_rules c p)
unfolding pong_rules
pong_silent c (Err _) = record { none = refl }
pong_silent c (Ok p) = record { none = refl }

type_silent : (t : Tag) (c : Conn) (h : Header) (body : List ℕ) (place : Place) (now : ℕ) → Silent (frame_rules t c h body place now)
unfolding frame_rules ping_rules
type_silent tag.Data c h body place now = data-silent (ack_step c h place) h body place now
type_silent tag.WindowUpdate c h body place now = update-silent (ack_step c h place) h place now
type_silent tag.Ping c h body place now =
    either Silent (contains h.flags ack) (pong_silent c _) (either Silent (answers_ping c h.stream_id) (record { none = refl }) (record { none = refl }))
type_silent tag.GoAway c h body place now = record { none = refl }

header_silent : (c : Conn) (h : Header) (body : List ℕ) (now : ℕ) → Silent (on_header c h body now)
unfolding on_header
header_silent c h body now = either Silent (eqb (length body) (body_length h.tag h.length.0)) (type_silent h.tag c h body _ now) (record { none = refl })

-- ---- calls

module _ (P : Effect → Type 0) (c : Conn) (now : ℕ) (r : Effect) where
  -- behind the tests of the time and of the end, or of the handle
  while-live : ((why : Reply) → P (refuse c why)) → P r → P (timed c now (live c r))
  while-live w p = either P (ltb last_time now) (w reply.Time) (either P c.ended (w reply.Closed) p)

  while-held : (i : ℕ) → ((why : Reply) → P (refuse c why)) → P r → P (timed c now (holding c i r))
  while-held i w p = either P (ltb last_time now) (w reply.Time) (either P (entry c.slots i).held p (w reply.NotHeld))

refuse_silent : (c : Conn) (why : Reply) → Silent (refuse c why)
refuse_silent c why = record { none = refl }

refuse_headless : (c : Conn) (why : Reply) → Headless (refuse c why)
refuse_headless c why = record { bare = refl }

module _ (c : Conn) (now : ℕ) where
  decoded-silent : (d : Result Header HeaderDecodeError) (body : List ℕ) → Silent (on_decoded d c body now)
  unfolding on_decoded
  decoded-silent (Err found.Size) body = record { none = refl }
  decoded-silent (Err (found.Version v)) body = while-live Silent c now _ (refuse_silent c) (record { none = refl })
  decoded-silent (Err (found.Type t)) body = while-live Silent c now _ (refuse_silent c) (record { none = refl })
  decoded-silent (Ok h) body = while-live Silent c now _ (refuse_silent c) (header_silent c h body now)

  pub frame-silent : (head body : List ℕ) → Silent (step c (rules.frame now head body))
  unfolding step
  frame-silent head body = decoded-silent (decoded head) body

  out-silent : (p : Option Header) (d : Conn) → Silent (ping_out p d)
  unfolding ping_out
  out-silent None d = record { none = refl }
  out-silent (Some h) d = record { none = refl }

  pub tick-silent : Silent (step c (rules.tick now))
  unfolding step tick_rules
  tick-silent = while-live Silent c now _ (refuse_silent c) (out-silent _ _)

  -- an open's tests, and then a slot
  opens : (P : Effect → Type 0) → P (end c reply.TooManyStreams) → P (gives (bare reply.Wait) (with_open_wait c true)) → P (end c reply.NoMoreStreamIds)
      → ((place : Place) → P (open_at place c now)) → P (open_rules c now)
  unfolding open_rules
  opens P many wait ids slot =
      either P (leb c.config.max_num_streams (listed_count c.slots)) many
      (either P (leb 256 (unacknowledged c.config.mode c.slots)) wait (either P (ltb top (c.next_id + 2)) ids (slot (lowest_free c.slots))))

  slot-silent : (place : Place) → Silent (open_at place c now)
  unfolding open_at
  slot-silent nowhere = record { none = refl }
  slot-silent (at i) = record { none = refl }

  slot-headless : (place : Place) → Headless (open_at place c now)
  unfolding open_at
  slot-headless nowhere = record { bare = refl }
  slot-headless (at i) = record { bare = refl }

  pub open-silent : Silent (step c (rules.open_stream now))
  unfolding step
  open-silent = while-live Silent c now _ (refuse_silent c) (opens Silent (record { none = refl }) (record { none = refl }) (record { none = refl }) slot-silent)

  pub open-headless : Headless (step c (rules.open_stream now))
  unfolding step
  open-headless = while-live Headless c now _ (refuse_headless c) (opens Headless (record { bare = refl }) (record { bare = refl }) (record { bare = refl }) slot-headless)

  pub gone-silent : Silent (step c (rules.gone now))
  unfolding step
  gone-silent = while-live Silent c now _ (refuse_silent c) (record { none = refl })

  pub gone-headless : Headless (step c (rules.gone now))
  unfolding step
  gone-headless = while-live Headless c now _ (refuse_headless c) (record { bare = refl })

  module _ (i : ℕ) where
    wrote-silent : (e : Entry) (given : List ℕ) (w : Written) → Silent (write_with c i e given w)
    unfolding write_with
    wrote-silent e given written.Closed = record { none = refl }
    wrote-silent e given (written.Wait s) = record { none = refl }
    wrote-silent e given (written.Frame s h) = record { none = refl }

    pub write-silent : (given : List ℕ) → Silent (step c (rules.write now i given))
    unfolding step write_rules
    write-silent given = while-held Silent c now _ i (refuse_silent c) (either Silent c.ended (record { none = refl }) (wrote-silent _ given _))

    pub close-silent : Silent (step c (rules.close now i))
    unfolding step close_rules
    close-silent = while-held Silent c now _ i (refuse_silent c) (record { none = refl })

    dropped-silent : (place : Place) (d : Conn) → Silent (drop_at place d i)
    unfolding drop_at
    dropped-silent nowhere d = record { none = refl }
    dropped-silent (at j) d = record { none = refl }

    pub drop-silent : Silent (step c (rules.drop now i))
    unfolding step drop_rules
    drop-silent = while-held Silent c now _ i (refuse_silent c) (dropped-silent _ _)
