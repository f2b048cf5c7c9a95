-- The numbers of a stream and of a queue are those of their types, so a row holds them. Assumes nothing.
use Rattle.std.proofs.Common.{Bool, List, refl, ◌<◌}
use denote.Laws.{Is}
use denote.Struct.Declared.{row}
use mir.Val.{Val}
use Rattle.chunks.specs.declared.Queue.{Queue}
use Rattle.chunks.specs.declared.Pushed.{Pushed}
use Rattle.chunks.specs.declared.Popped.{Popped}
use Rattle.chunks.specs.contracts.Pushed as pushed
use Rattle.chunks.specs.contracts.Popped as popped
use Rattle.stream.specs.declared.Stream.{Stream}
use Rattle.stream.specs.contracts.Stream as streams
use Rattle.table.specs.Rows.{Proper}
use Rattle.table.specs.declared.row.Row.{Row}
use Rattle.memory.specs.Counts.{next}

pub record Ranged (q : Queue) : Type 0 where
  pub head : q.head < 4294967296
  pub tail : q.tail < 4294967296
  pub from : q.from < 4294967296
  pub unread : q.unread < 4294967296

pub ranged_pushed : (r : Pushed) (vs : List Val) → Is (row pushed.the_type) r vs → Ranged r.queue
ranged_pushed r vs g =
    let q = g.1.1.1.0.1.1 in
    record { head = q.0.1; tail = q.1.0.1; from = q.1.1.0.1; unread = q.1.1.1.0.1 }

pub ranged_popped : (r : Popped) (vs : List Val) → Is (row popped.the_type) r vs → Ranged r.queue
ranged_popped r vs g =
    let q = g.1.1.1.0.1.1 in
    record { head = q.0.1; tail = q.1.0.1; from = q.1.1.0.1; unread = q.1.1.1.0.1 }

pub ranged_row : (r : Row) → Proper r → Ranged r.queue
ranged_row r p = record { head = p.head; tail = p.tail; from = p.from; unread = p.unread }

-- the row of a held slot with this stream and this queue
pub proper_next : (s : Stream) (vs : List Val) → Is (row streams.the_type) s vs → (b : Bool) (q : Queue) → Ranged q → Proper (next s b q)
proper_next s vs g b q h =
    let f = g.1.1.1.1.1.1.1.0.1.1 in
    record {
      id = g.1.1.0.1.1.0.1;
      receive = f.1.0.1;
      most = f.1.1.0.1;
      send = f.1.1.1.0.1;
      head = h.head;
      tail = h.tail;
      from = h.from;
      unread = h.unread;
      held = λ e. refl;
    }
