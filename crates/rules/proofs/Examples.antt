-- Document 01's worked trace and its 'Proved examples', by computation. Assumes nothing.
use Rattle.std.proofs.Common.{Option, Some, None, Ok, ◌≡◌, refl, Bool, true, false, cond, List, [], ◌∷◌, ℕ, ◌/◌, ◌%◌, get_or, length, replicate, eqb}
use Rattle.frame.specs.declared.header.Tag.{Tag}
use Rattle.frame.specs.declared.header.Tag.TheVariants as tag
use Rattle.rules.specs.declared.Config.{Config}
use Rattle.rules.specs.declared.Settings.{Settings}
use Rattle.rules.specs.declared.Mode.{Mode}
use Rattle.rules.specs.declared.Mode.TheVariants.{Client, Server}
use Rattle.rules.specs.declared.Reply.{Reply}
use Rattle.rules.specs.declared.Reply.TheVariants as reply
use Rattle.rules.specs.Settings.{checked, config_of}
use Rattle.rules.specs.Replies.{Outcome, number, no_wakes, bare}
use Rattle.rules.specs.State.{Conn, initial, entry, with_next_id}
use Rattle.rules.specs.Frames.{ack_step, on_reset, make_at, make, syn_rules, syn_data, syn_update, take_at, known_data, known_update, data_rules, update_rules, pong_rules, ping_rules, frame_rules, on_header}
use Rattle.rules.specs.Calls.{open_at, open_rules, read_rest, read_with, window_step, read_rules, write_with, write_rules, close_rules, drop_at, drop_rules, ping_out, tick_rules}
use Rattle.rules.specs.Ending.{Effect, gives}
use Rattle.rules.specs.Step.{on_decoded, step}
use Rattle.rules.specs.Step
use Rattle.frame.specs.declared.header.Header.{Header}

-- ---- the worked trace

pub settings : Settings
settings = record {
  mode = 0;
  max_num_streams = 4;
  limit = 1048576;
  read_after_close = 1;
  split = 16384;
  interval = 1000;
  first_time = 1000;
  first_id = 0;
  slots = 4;
  pool = 64;
}

pub calls : List Step.Call
calls =
    Step.open_stream 0
    ∷ Step.write 0 0 (100 ∷ 117 ∷ 115 ∷ 116 ∷ [])
    ∷ Step.frame 0 (0 ∷ 1 ∷ 0 ∷ 2 ∷ 0 ∷ 0 ∷ 0 ∷ 1 ∷ 0 ∷ 0 ∷ 0 ∷ 0 ∷ []) []
    ∷ Step.read 0 0 4
    ∷ Step.frame 0 (0 ∷ 0 ∷ 0 ∷ 4 ∷ 0 ∷ 0 ∷ 0 ∷ 1 ∷ 0 ∷ 0 ∷ 0 ∷ 2 ∷ []) (111 ∷ 107 ∷ [])
    ∷ Step.read 0 0 4
    ∷ Step.read 0 0 4
    ∷ Step.drop 0 0
    ∷ []

data_frame : ℕ → ℕ → Option Header
data_frame flags n = Some (record { tag = tag.Data; flags = record { 0 = flags }; stream_id = record { 0 = 1 }; length = record { 0 = n } })

line : Reply → Option ℕ → Option Header → List ℕ → Outcome
line r v h b = record { reply = r; slot = Some (record { 0 = 0 }); value = v; header = h; body = []; wakes = no_wakes; bytes = b }

-- the lines of document 01's trace, in its order
pub lines : List Outcome
unfolding data_frame line
lines =
    line reply.Done (Some 1) None []
    ∷ record { reply = reply.Done; slot = Some (record { 0 = 0 }); value = Some 4; header = data_frame 1 4; body = 100 ∷ 117 ∷ 115 ∷ 116 ∷ []; wakes = no_wakes; bytes = [] }
    ∷ bare reply.Done
    ∷ line reply.Wait None None []
    ∷ record { reply = reply.Done; slot = Some (record { 0 = 0 }); value = None; header = None; body = []; wakes = record { reader = true; writer = false; opener = false; all = false }; bytes = [] }
    ∷ line reply.Done (Some 2) None (111 ∷ 107 ∷ [])
    ∷ line reply.Done (Some 0) None []
    ∷ line reply.Done None (data_frame 4 0) []
    ∷ []

pub settings_fine : checked settings ≡ Ok (config_of settings)
unfolding settings
settings_fine = refl

pub worked : (Step.run (initial (config_of settings)) calls).outcomes ≡ lines
unfolding settings calls lines line data_frame
    ack_step on_reset make_at make syn_rules syn_data syn_update take_at known_data known_update data_rules update_rules pong_rules ping_rules frame_rules on_header open_at open_rules read_rest read_with window_step read_rules write_with write_rules close_rules drop_at drop_rules ping_out tick_rules on_decoded step
worked = refl

pub worked_count : (Step.run (initial (config_of settings)) calls).count ≡ 8
unfolding settings calls
    ack_step on_reset make_at make syn_rules syn_data syn_update take_at known_data known_update data_rules update_rules pong_rules ping_rules frame_rules on_header open_at open_rules read_rest read_with window_step read_rules write_with write_rules close_rules drop_at drop_rules ping_out tick_rules on_decoded step
worked_count = refl

-- ---- the table of 'Proved examples'

pub config : Mode → Config
config m = record {
  mode = m;
  max_num_streams = 4;
  limit = 2097152;
  read_after_close = true;
  split = 16384;
  interval = 1000;
  first_time = 1000;
  first_id = 0;
  slots = 4;
  pool = 4294967295;
}

pub all : List Bool → Bool
all [] = true
all (b ∷ bs) = cond b (all bs) false

valued : Option ℕ → ℕ → Bool
valued (Some n) v = eqb n v
valued None v = false

-- the reply has this number, and the answer this value
pub numbered : Outcome → ℕ → ℕ → Bool
unfolding valued
numbered o r v = cond (eqb (number o.reply) r) (valued o.value v) false

-- an open on a connection whose next id is this one
pub opens : Mode → ℕ → Outcome
unfolding config
opens m id = (Step.step (with_next_id (initial (config m)) id) (Step.open_stream 0)).outcome

zeros : ℕ → List ℕ
zeros n = replicate n 0

-- the twelve bytes of a frame on stream 2, its length field as four bytes
pub header : ℕ → ℕ → ℕ → List ℕ
header t flags n =
    0 ∷ t ∷ 0 ∷ flags ∷ 0 ∷ 0 ∷ 0 ∷ 2 ∷ n / 16777216 % 256 ∷ n / 65536 % 256 ∷ n / 256 % 256 ∷ n % 256 ∷ []

-- a WindowUpdate with SYN, and a Data frame with SYN, on a client's new connection
pub syn_credit : ℕ → Effect
unfolding config header
syn_credit n = Step.step (initial (config Client)) (Step.frame 0 (header 1 1 n) [])

pub syn_body : ℕ → Effect
unfolding config header zeros
syn_body n = Step.step (initial (config Client)) (Step.frame 0 (header 0 1 n) (zeros n))

-- slot 0 is held and in the table, with this send window, this receive window and so many unread bytes
pub taken : Conn → ℕ → ℕ → ℕ → Bool
unfolding all
taken c send receive unread =
    let e = entry c.slots 0 in
    all (e.held ∷ e.listed ∷ eqb e.stream.flow.send_window send ∷ eqb e.stream.flow.receive_window receive ∷ eqb (length e.bytes) unread ∷ [])

-- a ping at 1,000 and its pong at 1,010; a stream made at 2,000 by a body of n bytes, which are read; then a read at the time
pub primed : ℕ → Conn
unfolding config header zeros
primed n =
    (Step.run (initial (config Client))
    (Step.tick 1000
    ∷ Step.frame 1010 (0 ∷ 2 ∷ 0 ∷ 2 ∷ 0 ∷ 0 ∷ 0 ∷ 0 ∷ 0 ∷ 0 ∷ 0 ∷ 0 ∷ []) []
    ∷ Step.frame 2000 (header 0 1 n) (zeros n)
    ∷ Step.read 2000 0 n
    ∷ [])).after

pub read_after : ℕ → ℕ → Effect
unfolding primed
read_after n now = Step.step (primed n) (Step.read now 0 0)

-- the growth figure, the receive window and the receive maximum of slot 0
pub windows : Conn → ℕ → ℕ → ℕ → Bool
windows c growth window maximum =
    cond (eqb c.growth growth)
    (cond (eqb (entry c.slots 0).stream.flow.receive_window window)
    (eqb (entry c.slots 0).stream.flow.max_receive_window maximum)
    false)
    false

-- The growth figure of a stream whose maximum doubled, then reset, then dropped: it falls at the drop, once.
pub grown_reset : Conn
unfolding header read_after
grown_reset = (Step.step (read_after 131072 2019).after (Step.frame 2019 (header 0 8 0) [])).after

pub reset_dropped : Conn
unfolding grown_reset
reset_dropped = (Step.step grown_reset (Step.drop 2019 0)).after

-- the byte that a read of one gives of two
pub older : ℕ
unfolding config header
older =
    get_or (Step.step
    (Step.step (initial (config Client)) (Step.frame 0 (header 0 1 2) (7 ∷ 8 ∷ []))).after
    (Step.read 0 0 1)).outcome.bytes 0 0

-- RST with SYN on an unknown id
pub syn_reset : Effect
unfolding config header
syn_reset = Step.step (initial (config Client)) (Step.frame 0 (header 0 9 0) [])

is_update : Tag → Bool
is_update tag.Data = false
is_update tag.WindowUpdate = true
is_update tag.Ping = false
is_update tag.GoAway = false

-- the frame to send is a WindowUpdate on stream 2, with its first ACK and this credit; or, of credit 0, there is none
pub grants : Option Header → ℕ → Bool
unfolding is_update
grants None n = eqb n 0
grants (Some h) n =
    cond (is_update h.tag)
    (cond (eqb h.flags.0 2) (cond (eqb h.stream_id.0 2) (eqb h.length.0 n) false) false)
    false

pub rows : List Bool
unfolding all numbered valued opens config header zeros syn_credit syn_body taken primed read_after windows grants is_update grown_reset reset_dropped older
rows =
    numbered (opens Client 4294967293) 0 4294967293
    ∷ eqb (number (opens Client 4294967295).reply) 4
    ∷ numbered (opens Server 4294967292) 0 4294967292
    ∷ eqb (number (opens Server 4294967294).reply) 4
    ∷ numbered (syn_credit 4294705151).outcome 0 2
    ∷ taken (syn_credit 4294705151).after 4294967295 262144 0
    ∷ numbered (syn_credit 4294705152).outcome 2 1
    ∷ numbered (syn_body 262144).outcome 0 2
    ∷ taken (syn_body 262144).after 262144 0 262144
    ∷ numbered (syn_body 262145).outcome 2 1
    -- due 131,072 is sent, 131,071 is not; elapsed 20 is twice the round trip, so nothing grows; at 19 it does
    ∷ windows (read_after 131072 2020).after 0 262144 262144
    ∷ windows (read_after 131071 2020).after 0 131073 262144
    ∷ windows (read_after 131072 2019).after 262144 524288 524288
    ∷ grants (read_after 131072 2020).outcome.header 131072
    ∷ grants (read_after 131071 2020).outcome.header 0
    ∷ grants (read_after 131072 2019).outcome.header 393216
    -- growth stays at the reset and goes back at the drop; a read gives the older byte
    ∷ eqb grown_reset.growth 262144
    ∷ eqb reset_dropped.growth 0
    ∷ eqb older 7
    ∷ []

-- Every row holds, and SYN with RST on an unknown id does nothing.
pub examples : (all rows ≡ true)
    × (syn_reset ≡ gives (bare reply.Done) (initial (config Client)))
unfolding rows all numbered valued opens config header zeros syn_credit syn_body taken primed read_after windows syn_reset grants is_update grown_reset reset_dropped older
    ack_step on_reset make_at make syn_rules syn_data syn_update take_at known_data known_update data_rules update_rules pong_rules ping_rules frame_rules on_header open_at open_rules read_rest read_with window_step read_rules write_with write_rules close_rules drop_at drop_rules ping_out tick_rules on_decoded step
examples = (refl, refl)
