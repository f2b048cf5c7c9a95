-- `connection_write::tick` meets its contract: the gate is the rules' own, and behind it stands the ping. Assumes nothing.
use Rattle.std.proofs.Common.{[], refl, sym, ◌∙◌}
use Rattle.rules.specs.Calls.{tick_rules}
use Rattle.rules.specs.Step.{tick, step}
use Rattle.connection.specs.Abstract.{abs_of}
use Rattle.connection.proofs.Promises.{promised, refused-gives}
use Rattle.connection.proofs.Tests.{gate-shut, gate_open}
use Rattle.connection_write.proofs.Handles.{tick_handles}
use Rattle.connection_write.proofs.tick.Goals as goal

pub returns-in-Err : goal.returns-in-Err
unfolding step
returns-in-Err c =
    let a = c.args in
    rw (c.refuse.ensures, ← c.sized-fits.ensures) (record {
      by_index = λ l p. gate-shut a.c a.table.now l p _ (tick a.time) a.time _ a.c.ended _ (sym c.judge.ensures ∙ c.in-Err.is) (λ v. refl);
      gives = refused-gives _ _ _;
    })

pub returns : goal.returns
unfolding step
returns c =
    let a = c.args in
    let o = gate_open _ a.c.ended a.time (sym c.judge.ensures ∙ c.in_default.is) in
    let h = tick_handles a.c a.table.now a.time _ c.on_tick-step.ensures in
    rw (c.pinged.ensures, ← c.sized-fits.ensures) (record {
      by_index = λ l p. promised a.c a.table.now l p _ (tick a.time) o.0 (λ x. tick_rules x a.time) _ a.table.now l p
          (λ v. o.1 (abs_of a.c a.table.now l p) (tick_rules (abs_of a.c a.table.now l p) a.time)) (h l p);
      gives = record { header = c.put.ensures; silent = (h [] []).silent };
    })
