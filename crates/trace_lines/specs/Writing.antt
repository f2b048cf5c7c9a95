-- Writing into lent room, from a place on.
use Rattle.std.specs.Prelude.{◌≡◌, cond, List, ◌++◌, ℕ, ◌+◌, ◌*◌, ◌≤◌, length, take, drop, leb, Option, Some, None}
use Rattle.std.proofs.lemmas.List.Edits.{sets}

-- `text` is stored from `at` on, and nothing else
pub record Stores (o : List ℕ) (at : ℕ) (text o' : List ℕ) (r : ℕ) : Type 0 where
  pub next : r ≡ at + length text
  pub left : o' ≡ sets o at text
  pub size : length o' ≡ length o

abbrev pub Room : List ℕ → ℕ → List ℕ → Type 0
Room o at text = at + length text ≤ length o

-- the room with `text` in it from `at` on
abbrev pub placed : List ℕ → ℕ → List ℕ → List ℕ
placed o at text = take at o ++ (text ++ drop (at + length text) o)

-- Where `room` bytes are left from `at` on, `text` is written and its end is told; else nothing changes, and that is told.
pub record Writes (room : ℕ) (o : List ℕ) (at : ℕ) (text o' : List ℕ) (r : Option ℕ) : Type 0 where
  pub answer : r ≡ cond (leb (at + room) (length o)) (Some (at + length text)) None
  pub left : o' ≡ cond (leb (at + room) (length o)) (placed o at text) o

-- the room that a line asks for, by its bytes of header and of data: no line with as many is longer
abbrev pub line_room : ℕ → ℕ → ℕ
line_room header bytes = 100 + 2 * (header + bytes)

-- the room that a last line asks for
abbrev pub last_room : ℕ
last_room = 100

-- "at most 16,384" bytes and a header of twelve: with this much room every line is written
abbrev pub longest_line : ℕ
longest_line = 32892
