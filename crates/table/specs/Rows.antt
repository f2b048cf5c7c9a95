-- A row of the table, and the six cells that hold it. The packing is this port's own; any cells say some row.
use Rattle.std.specs.Prelude.{Bool, true, false, cond, List, [], ◌∷◌, ◌≡◌, ℕ, ◌+◌, ◌*◌, ◌/◌, ◌%◌, ◌<◌, ltb, eqb, get_or}
use Rattle.frame.specs.declared.header.StreamId.{StreamId}
use Rattle.flow_control.specs.declared.FlowController.{FlowController}
use Rattle.stream.specs.States.{is_pending_ack}
use Rattle.stream.specs.Streams.{closed, with_waits}
use Rattle.stream.specs.declared.Flag.{Flag}
use Rattle.stream.specs.declared.Flag.TheVariants.{None, Syn, Ack}
use Rattle.stream.specs.declared.State.{State}
use Rattle.stream.specs.declared.State.TheVariants.{Open, SendClosed, RecvClosed, Closed}
use Rattle.stream.specs.declared.Stream.{Stream}
use Rattle.chunks.specs.declared.Queue.{Queue}
use Rattle.rules.specs.State.{is_own}
use Rattle.rules.specs.declared.Mode.{Mode}
use Rattle.table.specs.declared.row.Row.{Row}

-- ---- two numbers below 2^32 in one cell

abbrev pub low : ℕ → ℕ
low x = x % 4294967296

abbrev pub high : ℕ → ℕ
high x = x / 4294967296 % 4294967296

abbrev pub both : ℕ → ℕ → ℕ
both l h = l + 4294967296 * h

-- ---- the flag, the state and the waits as one number

abbrev pub flag_number : Flag → ℕ
flag_number None = 0
flag_number Syn = 1
flag_number Ack = 2

abbrev pub flag_of : ℕ → Flag
flag_of n = cond (eqb n 1) Syn (cond (eqb n 2) Ack None)

abbrev pub state_number : State → ℕ
state_number (Open acknowledged) = cond acknowledged 1 0
state_number SendClosed = 2
state_number RecvClosed = 3
state_number Closed = 4

abbrev pub state_of : ℕ → State
state_of n = cond (eqb n 0) (Open false) (cond (eqb n 1) (Open true) (cond (eqb n 2) SendClosed (cond (eqb n 3) RecvClosed Closed)))

abbrev pub mark : Bool → ℕ
mark b = cond b 1 0

abbrev pub marks : Stream → ℕ
marks s = flag_number s.flag + 4 * state_number s.state + 32 * mark s.reader + 64 * mark s.writer

-- ---- a row's cells

abbrev pub stream_of : List ℕ → Stream
stream_of cells = record {
  id = record { 0 = low (get_or cells 0 0) };
  flag = flag_of (high (get_or cells 0 0) % 4);
  state = state_of (high (get_or cells 0 0) / 4 % 8);
  reader = eqb (high (get_or cells 0 0) / 32 % 2) 1;
  writer = eqb (high (get_or cells 0 0) / 64 % 2) 1;
  flow = record {
    last_window_update = get_or cells 1 0;
    receive_window = low (get_or cells 2 0);
    max_receive_window = high (get_or cells 2 0);
    send_window = low (get_or cells 3 0);
  };
}

abbrev pub queue_of : List ℕ → Queue
queue_of cells = record { head = low (get_or cells 4 0); tail = high (get_or cells 4 0); from = low (get_or cells 5 0); unread = high (get_or cells 5 0) }

-- A key is 0 for a free slot, 1 for a held slot that is not in the table, id + 2 for one that is.
abbrev pub row_of : ℕ → List ℕ → Row
row_of key cells = record { held = ltb 0 key; listed = ltb 1 key; stream = stream_of cells; queue = queue_of cells }

abbrev pub key_of : Row → ℕ
key_of r = cond r.listed (r.stream.id.0 + 2) (cond r.held 1 0)

abbrev pub flow_cells : FlowController → List ℕ → List ℕ
flow_cells f rest = f.last_window_update ∷ both f.receive_window f.max_receive_window ∷ f.send_window ∷ rest

abbrev pub queue_cells : Queue → List ℕ
queue_cells q = both q.head q.tail ∷ both q.from q.unread ∷ []

abbrev pub cells_of : Row → List ℕ
cells_of r = both r.stream.id.0 (marks r.stream) ∷ flow_cells r.stream.flow (queue_cells r.queue)

-- a slot that is not in use, its cells 0
abbrev pub blank : Row
blank = row_of 0 []

-- A row that its cells hold: numbers below 2^32, and what is in the table is held.
pub record Proper (r : Row) : Type 0 where
  pub id : r.stream.id.0 < 4294967296
  pub receive : r.stream.flow.receive_window < 4294967296
  pub most : r.stream.flow.max_receive_window < 4294967296
  pub send : r.stream.flow.send_window < 4294967296
  pub head : r.queue.head < 4294967296
  pub tail : r.queue.tail < 4294967296
  pub from : r.queue.from < 4294967296
  pub unread : r.queue.unread < 4294967296
  pub held : r.listed ≡ true → r.held ≡ true

-- ---- what rules ask of a row

-- 01: "id in the table"
abbrev pub has_id : StreamId → Row → Bool
has_id id r = cond r.listed (eqb r.stream.id.0 id.0) false

-- 01: "A slot is in use while its handle is held"
abbrev pub is_free : Row → Bool
is_free r = cond r.held false true

-- 01: "own-parity streams Open and unacknowledged", of those in the table
abbrev pub is_unacknowledged : Mode → Row → Bool
is_unacknowledged m r = cond r.listed (cond (is_own m r.stream.id) (is_pending_ack r.stream.state) false) false

-- 01: "Ending empties the table, makes each stream in it Closed, clears all waits; held handles and unread bytes stay."
abbrev pub end_stream : Bool → Stream → Stream
end_stream listed s = cond listed (closed s) (with_waits s false false)

abbrev pub end_row : Row → Row
end_row r = record { held = r.held; listed = false; stream = end_stream r.listed r.stream; queue = r.queue }
