-- What ends the connection, and what that leaves. Sentences are document 01's.
use Rattle.std.specs.Prelude.{true, false, cond, map}
use Rattle.stream.specs.Streams.{closed, with_waits}
use Rattle.rules.specs.declared.Reply.{Reply}
use Rattle.rules.specs.Replies.{Outcome, bare, ending}
use Rattle.rules.specs.State.{Entry, Conn}

-- what a call gives, and the state that it leaves
pub record Effect : Type 0 where
  pub outcome : Outcome
  pub after : Conn

abbrev pub gives : Outcome → Conn → Effect
gives o c = record { outcome = o; after = c }

-- "nothing changed"
abbrev pub refuse : Conn → Reply → Effect
refuse c r = gives (bare r) c

-- "Ending empties the table, makes each stream in it Closed, clears all waits; held handles and unread bytes stay."
abbrev pub end_entry : Entry → Entry
end_entry e = record {
  held = e.held;
  listed = false;
  stream = cond e.listed (closed e.stream) (with_waits e.stream false false);
  bytes = e.bytes;
}

abbrev pub ended : Conn → Conn
ended c = record {
  config = c.config;
  pings = c.pings;
  ended = true;
  next_id = c.next_id;
  open_wait = false;
  growth = c.growth;
  slots = map end_entry c.slots;
}

-- "connection ended"
abbrev pub end : Conn → Reply → Effect
end c r = gives (ending r) (ended c)
