-- The sizes that a drop tests.
use Rattle.std.specs.Prelude.{Bool, ◌&&◌, ℕ, eqb}
use Rattle.memory.specs.Counts.{links_fit}
use Rattle.connection.specs.declared.Connection.{Connection}

-- whether none is 01's "a lent table .. or header of the wrong size": table and links by the settings, and twelve bytes for a header
abbrev pub sized : Connection → ℕ → ℕ → ℕ → Bool
sized c t l s = links_fit c.memory.slots c.memory.pool t l && eqb s 12
