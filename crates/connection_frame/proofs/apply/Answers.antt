-- `connection_frame::apply` meets its contract: each arm is one operation on memory. Assumes nothing.
use Rattle.std.proofs.Common.{refl}
use Rattle.connection_frame.proofs.apply.Goals as goal

pub returns-in-New : goal.returns-in-New
returns-in-New c = rw c.in-New.is (refl, c.make.ensures)
