-- The pool as blocks of equal size, and how many of them K queues and P bytes take.
use Rattle.std.specs.Prelude.{List, [], ◌∷◌, ◌++◌, ℕ, ◌+◌, ◌-◌, ◌*◌, ◌/◌, length, take, drop}

-- the bytes of a block: the code's constant of this name
abbrev pub BLOCK : ℕ
BLOCK = 1024

-- as many blocks as hold e bytes
abbrev pub hold : ℕ → ℕ
hold e = (e + (BLOCK - 1)) / BLOCK

-- 01, "Settings": slots K; pool P bytes. A queue wastes less than two blocks, so with this many no byte of P is lost.
abbrev pub blocks_for : ℕ → ℕ → ℕ
blocks_for K P = P / BLOCK + 2 * K

-- the bytes of block i
unfoldable pub block : List ℕ → ℕ → List ℕ
block p i = take BLOCK (drop (i * BLOCK) p)

-- the bytes of a chain's blocks
abbrev pub bytes : List ℕ → List ℕ → List ℕ
bytes p [] = []
bytes p (i ∷ is) = block p i ++ bytes p is

-- the list with b in place of as many elements from `at` on: a pool's bytes, or a table's cells
abbrev pub put : List ℕ → ℕ → List ℕ → List ℕ
put p at b = take at p ++ (b ++ drop (at + length b) p)
