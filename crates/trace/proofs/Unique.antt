-- Two answers that meet one run's promise are the same. Assumes nothing.
use Rattle.std.proofs.Common.{sym, ◌∙◌, Bool, List, ℕ}
use Rattle.connection.specs.declared.Connection.{Connection}
use Rattle.trace.specs.Runs.{Traced}
use Rattle.trace.specs.Turns.{RanAs, Runs, runs_from}
use Rattle.trace.specs.Unique.{SameRun, UniqueRun}
use Rattle.trace.specs.declared.Place.{Place}
use Rattle.trace.specs.declared.Report.{Report}

ran_same : (ran : Traced) (place : Place) (o : List ℕ) (r : Report) (t₁ l₁ p₁ o₁ : List ℕ) (q : Report) (t₂ l₂ p₂ o₂ : List ℕ)
    → RanAs ran place o r t₁ l₁ p₁ o₁ → RanAs ran place o q t₂ l₂ p₂ o₂ → SameRun r t₁ l₁ p₁ o₁ q t₂ l₂ p₂ o₂
ran_same ran place o r t₁ l₁ p₁ o₁ q t₂ l₂ p₂ o₂ x y = record {
  place = λ i. record { at = (x.at ∙ sym y.at) i; applied = (x.applied ∙ sym y.applied) i; put = (x.put ∙ sym y.put) i };
  stop = x.why ∙ sym y.why;
  out = x.out ∙ sym y.out;
  state = x.after ∙ sym y.after;
}

module _ (sized : Bool) (c : Connection) (t l p s o : List ℕ) (place : Place) (allowance : ℕ) (r : Report) (t₁ l₁ p₁ o₁ : List ℕ) (q : Report) (t₂ l₂ p₂ o₂ : List ℕ)
    (x : Runs sized c t l p s o place allowance r t₁ l₁ p₁ o₁) (y : Runs sized c t l p s o place allowance q t₂ l₂ p₂ o₂) where
  pub run-unique : UniqueRun sized c t l p r t₁ l₁ p₁ o₁ q t₂ l₂ p₂ o₂
  run-unique = record {
    steps = λ z v. ran_same (runs_from c t l p s o place allowance) place o r t₁ l₁ p₁ o₁ q t₂ l₂ p₂ o₂ (x.steps z v) (y.steps z v);
    wrong = λ w.
        let a = x.wrong w in
        let b = y.wrong w in
        record { report = a.0 ∙ sym b.0; table = a.1 ∙ sym b.1; links = a.2 ∙ sym b.2; pool = a.3 ∙ sym b.3; out = a.4 ∙ sym b.4 };
  }
