-- What is tested of the sizes, and what the counts beside the slots become, on any contents.
use Rattle.std.specs.Prelude.{Bool, true, false, cond, ℕ, ◌-◌, ◌*◌, eqb}
use Rattle.chunks.specs.Blocks.{BLOCK, blocks_for}
use Rattle.chunks.specs.declared.Free.{Free}
use Rattle.chunks.specs.declared.Queue.{Queue}
use Rattle.stream.specs.declared.Stream.{Stream}
use Rattle.table.specs.Table.{size}
use Rattle.table.specs.declared.row.Row.{Row}
use Rattle.memory.specs.declared.Memory.{Memory}

-- whether a lent table of n cells has the size for K slots
abbrev pub table_fits : ℕ → ℕ → Bool
table_fits K n = eqb n (size K)

-- whether a lent table and lent links have the sizes for K slots and P bytes
abbrev pub links_fit : ℕ → ℕ → ℕ → ℕ → Bool
links_fit K P t l = cond (table_fits K t) (eqb l (blocks_for K P)) false

-- whether a lent table, links and pool have the sizes for K slots and P bytes
abbrev pub fits : ℕ → ℕ → ℕ → ℕ → ℕ → Bool
fits K P t l p = cond (links_fit K P t l) (eqb p (blocks_for K P * BLOCK)) false

-- how many streams are in the table, once one that was in it, or not, stays in it, or not
abbrev pub left : ℕ → Bool → Bool → ℕ
left n was stays = cond was (cond stays n (n - 1)) n

-- the row of a held slot
abbrev pub next : Stream → Bool → Queue → Row
next s listed q = record { held = true; listed = listed; stream = s; queue = q }

-- the memory with other free blocks and counts
abbrev pub counted : Memory → Free → ℕ → ℕ → Memory
counted m f listed unread = record { slots = m.slots; pool = m.pool; free = f; listed = listed; unread = unread }
