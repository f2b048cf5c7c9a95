-- The account of a program's reads and writes. What std's `read` and `write_all` do to the world no contract says: the bytes that a read
-- brought are those that it left in the buffer, and the bytes put to be written are those that were passed on. Where the bytes that a reader
-- has left or a writer holds are known, the contracts of `filter` say that they are these.
use Rattle.std.specs.Prelude.{◌≡◌, List, [], ◌++◌, ℕ}

-- the bytes that reads brought, in order, and the bytes that were put to be written, in order
pub record Account : Type 0 where
  pub brought : List ℕ
  pub put : List ℕ

abbrev pub nothing : Account
nothing = record { brought = []; put = [] }

abbrev pub reads : List ℕ → Account
reads bytes = record { brought = bytes; put = [] }

abbrev pub writes : List ℕ → Account
writes bytes = record { brought = []; put = bytes }

-- one after the other
abbrev pub then : Account → Account → Account
then a b = record { brought = a.brought ++ b.brought; put = a.put ++ b.put }

abbrev pub Prefix : List ℕ → List ℕ → Type 0
Prefix a b = (rest : List ℕ) × (b ≡ a ++ rest)
