-- `connection_write::write` meets its contract: it is what `try_write` gives, or the refusal. Assumes nothing.
use Rattle.std.proofs.Common.{rules, ◌≡◌}
use Rattle.connection_write.specs.Parts.{done_of}
use Rattle.connection_write.proofs.write.Goals as goal

pub returns-clause-by_index : goal.returns-clause-by_index
returns-clause-by_index c =
    let said : c.unwrap_or_else.result ≡ done_of c.args.c c.try_write-written.result = search rules in
    rw said c.try_write-written.ensures.0
