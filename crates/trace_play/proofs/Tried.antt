-- Where a standard input is played, that memory is of a wrong size is not told. Assumes nothing.
use Rattle.std.proofs.Common.{◌≡◌, refl, sym, ap, ◌∙◌, Bool, true, false, List, ℕ, Option, Some, None, Result, Ok, Err}
use Rattle.rules.proofs.Lists.{never}
use Rattle.std.specs.Prelude.{⊤}
use Rattle.std.specs.declared.io.Error.{Error}
use Rattle.trace.specs.declared.Stop.{Stop}
use Rattle.filter.specs.Account.{Account}
use Rattle.filter.specs.Parts.{after_read, after_write, work, holding}
use Rattle.filter.specs.declared.Standing.{Standing}
use Rattle.filter.specs.declared.Fault.{Fault}
use Rattle.filter.specs.declared.Fault.TheVariants.{Unread, Unwritten, Unlent}
use Rattle.trace_play.specs.Places.{next_task}
use Rattle.trace_play.specs.Plays.{Closed, broken, last, putting, GoesOn, Lent, Played, Plays, none, more, Performed, unread, unreached, played}
use Rattle.trace_play.specs.declared.State.{State}
use Rattle.trace_play.specs.declared.Task.{Task}
use Rattle.trace_play.specs.declared.Task.TheVariants as task

abbrev tried : Result ⊤ Fault → Bool
tried (Ok u) = true
tried (Err Unread) = true
tried (Err Unwritten) = true
tried (Err Unlent) = false

abbrev Tried : Standing → Type 0
Tried x = tried (work x) ≡ true

wrote : (x y : Standing) (written : Result ⊤ Error) → y ≡ after_write x written → Tried x → Tried y
wrote x y (Ok u) e h = ap (λ (v : Standing). tried (work v)) e ∙ h
wrote x y (Err f) e h = ap (λ (v : Standing). tried (work v)) e

read : (x y : Standing) (front : ℕ) (got : Result (Option ℕ) Error) → y ≡ after_read x front got → Tried x → Tried y
read x y front (Ok (Some n)) e h = ap (λ (v : Standing). tried (work v)) e ∙ h
read x y front (Ok None) e h = ap (λ (v : Standing). tried (work v)) e ∙ h
read x y front (Err f) e h = ap (λ (v : Standing). tried (work v)) e

closed : {why : Stop} {s : State} {room : List ℕ} {b : Account} {s' : State} {room' : List ℕ} → Closed why s room b s' room' → Tried s.standing → Tried s'.standing
closed {s = s} (broken {x = x} f d) h = wrote s.standing x f.written f.is h
closed {s = s} (last {x = x} {y = y} end f d t g) h = wrote (putting x end) y g.written g.is (wrote s.standing x f.written f.is h)

goes : (a : Task) (why : Stop) (s : State) (input room : List ℕ) (b : Account) (s' : State) (input' room' : List ℕ) → GoesOn a why s input room b s' input' room' → Tried s.standing → Tried s'.standing
goes task.Write why s input room b s' input' room' g h = wrote s.standing _ g.0.flushed.written g.0.flushed.is h
goes task.Read why s input room b s' input' room' g h = read s.standing _ _ g.0.fed.got g.0.fed.is h
goes task.End why s input room b s' input' room' g h = closed g.0 h

turned : {s : State} {m : Lent} {b : Account} {s' : State} {m' : Lent} → Played s m b s' m' → Tried s.standing → Tried s'.standing
turned {s} q h = goes (next_task q.report.stop s.standing.ended) _ _ _ _ _ _ _ _ q.goes h

plays : {s : State} {m : Lent} {b : Account} {s' : State} {m' : Lent} → Plays s m b s' m' → Tried s.standing → Tried s'.standing
plays none h = h
plays (more p q) h = turned q (plays p h)

pub never_unlent : {m : Lent} {b : Account} {m' : Lent} {r : Result ⊤ Fault} → Performed m b r m' → r ≡ Err Unlent → ⊥
never_unlent p e = never (sym (told p) ∙ ap tried e)
  where
    told : {m : Lent} {b : Account} {m' : Lent} {r : Result ⊤ Fault} → Performed m b r m' → tried r ≡ true
    told (unread have input) = refl
    told (unreached have ended input why r n h f o) = ap tried o.work ∙ wrote (putting (holding have ended) o.end) o.to o.flushed.written o.flushed.is refl
    told (played have ended input b r n h f q) = ap tried q.ended.work ∙ plays q.ended.plays refl
