-- What a frame's handler is shown, read off the connection and the table's cells, and what it decides.
use Rattle.std.specs.Prelude.{cond, List, ℕ, ◌-◌, Option, Some, None}
use Rattle.frame.specs.Header.{contains, syn}
use Rattle.frame.specs.declared.header.Header.{Header}
use Rattle.table.specs.Rows.{blank}
use Rattle.table.specs.Table.{row_at, lowest_free}
use Rattle.handlers.specs.Actions.{acked, stream_action, known}
use Rattle.handlers.specs.Perform.{wakes_open}
use Rattle.handlers.specs.declared.Limits.{Limits}
use Rattle.connection.specs.declared.Connection.{Connection}
use Rattle.connection_frame.specs.declared.shown.Decided.{Decided}
use Rattle.connection_frame.specs.declared.shown.Seen.{Seen}
use Rattle.rules.specs.declared.Slot.{Slot}

-- the row where the frame's stream was found, and the stream as the ACK step leaves it
abbrev pub seen_at : List ℕ → ℕ → Option Slot → Header → Seen
seen_at t k (Some s) h = record { known = known s (acked h (row_at t k s.0).stream); row = row_at t k s.0 }
seen_at t k None h = record { known = None; row = blank }

-- "the lowest free one is taken": looked for where the frame may make a stream
abbrev pub vacancy_for : List ℕ → ℕ → Header → Option Slot
vacancy_for t k h = cond (contains h.flags syn) (lowest_free t k) None

-- the streams in the table and the room, by the counts
abbrev pub limits_in : Connection → Limits
limits_in c = record {
  mode = c.config.mode;
  max_num_streams = c.config.max_num_streams;
  listed = c.memory.listed;
  room = c.memory.pool - c.memory.unread;
}

-- what a Data frame or a WindowUpdate does, whose stream was found there
abbrev pub decided : Connection → List ℕ → Option Slot → Header → ℕ → Decided
decided c t f h now =
    let seen = seen_at t c.memory.slots f h in
    record {
      row = seen.row;
      action = stream_action (limits_in c) (wakes_open c.open_wait h) seen.known (vacancy_for t c.memory.slots h) h now;
    }
