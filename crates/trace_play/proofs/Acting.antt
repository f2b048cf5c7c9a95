-- What follows a run, by the task that its reason to stop asks for. Assumes nothing.
use Rattle.std.proofs.Common.{Option, Some, ◌≡◌, refl, sym, ap, ◌∙◌, false, List, ◌++◌, ℕ, ◌+◌, ◌-◌, ◌≤◌, arith, length, take, drop, length-append, length-drop, le-leb, Result, Ok, Err}
use lib.Seq.{take-append_seam}
use Rattle.rules.proofs.Lists.{never}
use Rattle.std.specs.Prelude.{⊤}
use Rattle.std.specs.declared.io.Error.{Error}
use Rattle.trace_lines.specs.Writing.{Writes, last_room}
use Rattle.trace.specs.Output.{Finishes, last_line}
use Rattle.trace.specs.declared.Stop.{Stop}
use Rattle.trace.specs.declared.Stop.TheVariants as stop
use Rattle.filter.specs.Account.{Account}
use Rattle.filter.specs.Parts.{after_write, done}
use Rattle.filter.specs.declared.Standing.{Standing}
use Rattle.trace_play.specs.Places.{end_of, next_task, Counted, Sound, Nears}
use Rattle.trace_play.specs.Plays.{Closed, broken, last, putting, Goes}
use Rattle.trace_play.specs.declared.State.{State}
use Rattle.trace_play.specs.declared.Task.TheVariants as task

-- ---- the last line

-- a text that is written at the room's start stands there
text-put : (o o' text : List ℕ) (r : Option ℕ) → 100 ≤ length o → length o' ≡ length o → Writes last_room o 0 text o' r → (take (end_of r) o' ≡ text) × (end_of r ≤ length o)
text-put o o' text r h e w =
    let z : 0 + length text ≡ length text = omega arith in
    let a : r ≡ Some (length text) = rw (le-leb 100 (length o) h, z) at w.answer in
    let l : o' ≡ text ++ drop (length text) o = rw (le-leb 100 (length o) h, z) at w.left in
    let n : length text + (length o - length text) ≡ length o = sym (length-append text (drop (length text) o) ∙ ap (λ (k : ℕ). length text + k) (length-drop (length text) o)) ∙ ap length (sym l) ∙ e in
    rw a (ap (take (length text)) l ∙ take-append_seam text (drop (length text) o), omega arith)

pub line_put : (why : Stop) (left byte applied growth : ℕ) (o o' : List ℕ) (r : Option ℕ) → 100 ≤ length o → length o' ≡ length o → Finishes why left byte applied growth o 0 o' r
    → (take (end_of r) o' ≡ last_line why left byte applied growth) × (end_of r ≤ length o)
line_put stop.Short left byte applied growth o o' r h e w = text-put o o' (last_line stop.Short left byte applied growth) r h e w
line_put stop.Bad left byte applied growth o o' r h e w = text-put o o' (last_line stop.Bad left byte applied growth) r h e w
line_put stop.Spent left byte applied growth o o' r h e w = text-put o o' (last_line stop.Spent left byte applied growth) r h e w
line_put stop.Full left byte applied growth o o' r h e w = rw w.0 (refl, omega arith)
line_put (stop.Wrong v) left byte applied growth o o' r h e w = text-put o o' (last_line (stop.Wrong v) left byte applied growth) r h e w
line_put stop.Size left byte applied growth o o' r h e w = text-put o o' (last_line stop.Size left byte applied growth) r h e w

-- ---- the task

module _ (s : State) (why : Stop) (input room : List ℕ) (sound : Sound (length input) (length room) s.standing) (counted : Counted s) where
  -- what `go_on` promises
  abbrev pub Acts : State → List ℕ → List ℕ → Type 0
  Acts s' input' room' = Sound (length input) (length room) s'.standing × (Nears s s' × (Counted s' × Goes why s input room s' input' room'))

  pub end-acts : next_task why s.standing.ended ≡ task.End → {b : Account} {s' : State} {room' : List ℕ} → Closed why s room b s' room' → Acts s' input room'
  end-acts e {b} {s'} {room'} c = (places c, (λ d. over c d, (still c, (b, rw e (c, refl)))))
    where
      written : (x y : Standing) (w : Result ⊤ Error) → y ≡ after_write x w → (y.at ≡ x.at) × (y.have ≡ x.have) × (y.put ≡ 0)
      written x y (Ok u) q = rw q (refl, refl, refl)
      written x y (Err e) q = rw q (refl, refl, refl)

      places : {b : Account} {s' : State} {room' : List ℕ} → Closed why s room b s' room' → Sound (length input) (length room) s'.standing
      places (broken {a} {x} f d) = let p = written s.standing x f.written f.is in (omega (arith, sound.0, p.0, p.1), omega (arith, sound.1, p.1), omega (arith, p.2))
      places (last {a} {b} {x} {y} end f d t g) =
          let p = written s.standing x f.written f.is in
          let q = written (putting x end) y g.written g.is in
          (omega (arith, sound.0, p.0, p.1, q.0, q.1), omega (arith, sound.1, p.1, q.1), omega (arith, q.2))

      still : {b : Account} {s' : State} {room' : List ℕ} → Closed why s room b s' room' → Counted s'
      still (broken {a} {x} f d) = (omega (arith, counted.0, (written s.standing x f.written f.is).0), counted.1)
      still (last {a} {b} {x} {y} end f d t g) = (omega (arith, counted.0, (written s.standing x f.written f.is).0, (written (putting x end) y g.written g.is).0), counted.1)

      over : {b : Account} {s' : State} {room' : List ℕ} → Closed why s room b s' room' → done s'.standing ≡ false → {A : Type 0} → A
      over (broken {a} {x} f d) h = never (sym d ∙ h)
      over (last {a} {b} {x} {y} end f d t g) h = never h
