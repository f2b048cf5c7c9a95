use Rattle.std.proofs.Common.{◌≡◌, ◌+◌, ◌*◌, ◌≤◌, length, take}
use Rattle.trace_lines.specs.Line.{hex}
use Rattle.trace_lines.specs.Writing.{Stores}
use Rattle.trace_lines.proofs.put_hex.Given as goal

-- the bytes passed are stored in hex, and the rest has its room
abbrev pub invariant-loop-b : goal.invariant-loop-b
invariant-loop-b l =
    Stores l.initial.out l.at (hex (take l.b-index l.bytes)) l.out l.p × (l.p ≡ l.at + 2 * l.b-index) × (l.at + 2 * length l.bytes ≤ length l.out)
