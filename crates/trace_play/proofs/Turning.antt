-- A turn: a run from a valid state, and what follows it, which leaves the connection. Assumes nothing.
use Rattle.std.proofs.Common.{◌≡◌, refl, sym, ap, subst, true, false, List, ℕ, take}
use Rattle.connection.specs.Abstract.{Valid}
use Rattle.connection.specs.declared.Connection.{Connection}
use Rattle.trace.specs.Output.{allowance}
use Rattle.trace.specs.Turns.{Runs}
use Rattle.trace.specs.declared.Report.{Report}
use Rattle.filter.specs.Account.{Account}
use Rattle.filter.specs.Parts.{done}
use Rattle.trace_play.specs.Places.{next_task, place_of, after_run}
use Rattle.trace_play.specs.Plays.{Closed, broken, last, GoesOn, Goes, lent, Turns}
use Rattle.trace_play.specs.declared.State.{State}
use Rattle.trace_play.specs.declared.Task.{Task}
use Rattle.trace_play.specs.declared.Task.TheVariants as task

module _ (s : State) (t l p input room : List ℕ) (live : done s.standing ≡ false) (report : Report) (t' l' p' written : List ℕ)
    (k : Runs true s.connection t l p (take s.standing.have input) room (place_of s) allowance report t' l' p' written) where
  abbrev s₁ : State
  s₁ = after_run s report

  -- what follows a run leaves the connection
  closed_same : {b : Account} {s' : State} {room' : List ℕ} → Closed report.stop s₁ written b s' room' → s'.connection ≡ report.connection
  closed_same (broken f d) = refl
  closed_same (last end f d g h) = refl

  same : (a : Task) (b : Account) (s' : State) (input' room' : List ℕ) → GoesOn a report.stop s₁ input written b s' input' room' → s'.connection ≡ report.connection
  same task.Write b s' input' room' g = ap (λ (y : State). y.connection) g.0.is
  same task.Read b s' input' room' g = ap (λ (y : State). y.connection) g.0.is
  same task.End b s' input' room' g = closed_same g.0

  pub turned : (s' : State) (input' room' : List ℕ) → Valid s.connection t l p → Goes report.stop s₁ input written s' input' room'
      → Valid s'.connection t' l' p' × Turns s (lent t l p input room) s' (lent t' l' p' input' room')
  turned s' input' room' valid g = (
    subst (λ (c : Connection). Valid c t' l' p') (sym (same (next_task report.stop s.standing.ended) g.0 s' input' room' g.1)) (k.steps refl valid).valid,
    (g.0, record { live = live; report = report; written = written; runs = k; goes = g.1 }),
  )
