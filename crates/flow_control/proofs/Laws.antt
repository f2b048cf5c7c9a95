-- Laws of the windows: what a change leaves, and what the window step keeps. Assumes nothing.
use Rattle.std.proofs.Common.{◌≡◌, refl, Bool, true, false, cond, ℕ, ◌+◌, ◌-◌, ◌*◌, ◌≤◌, arith, le_refl, Option, Some, None}
use Rattle.frame.specs.Header.{initial_window}
use Rattle.flow_control.specs.Windows.{top, pace_of, budget, new_maximum, granted, unmoved}
use Rattle.flow_control.specs.Windows.{paced, is_due, next_window_update, with_receive, Moved}
use Rattle.flow_control.specs.declared.Due.{Due}
use Rattle.flow_control.specs.declared.Conditions.{Conditions}
use Rattle.flow_control.specs.declared.FlowController.{FlowController}
use Rattle.flow_control.specs.declared.Pace.{Pace}
use Rattle.flow_control.specs.declared.Pace.TheVariants.{Unmeasured, Late, Early}

-- the remote may send no more than the maximum leaves beside what is unread
abbrev pub Room : FlowController → ℕ → Type 0
Room f unread = f.receive_window + unread ≤ f.max_receive_window

-- both windows and the maximum are numbers of 32 bits
abbrev pub Fits : FlowController → Type 0
Fits f = (f.receive_window ≤ top) × (f.max_receive_window ≤ top) × (f.send_window ≤ top)

-- the bytes that an update grants
abbrev pub credit_of : Option Due → ℕ
credit_of None = 0
credit_of (Some d) = d.credit.0

-- ---- the window step

-- from f to g, and to the growth figure after
pub record Steps (f : FlowController) (c : Conditions) (g : FlowController) (after : ℕ) : Type 0 where
  -- the maximum never falls
  pub rises : Fits f → f.max_receive_window ≤ g.max_receive_window
  -- the rise is at most what is left of the budget
  pub within : g.max_receive_window ≤ f.max_receive_window + budget c
  -- the growth figure rises by the difference
  pub figure : after ≡ c.growth + (g.max_receive_window - f.max_receive_window)
  pub room : Fits f → Room f c.unread → Room g c.unread
  pub fits : Fits f → Fits g
  pub send : g.send_window ≡ f.send_window
  -- the noted time is the old one or the call's
  pub noted : (k : ℕ) → f.last_window_update ≤ k → c.time ≤ k → g.last_window_update ≤ k

module _ (f : FlowController) (c : Conditions) where
  -- no step at all
  pub still : Steps f c f c.growth
  still = record {
    rises = λ r. le_refl _;
    within = omega arith;
    figure = omega arith;
    room = λ r o. o;
    fits = λ r. r;
    send = refl;
    noted = λ k o n. o;
  }

  grants :
      (m after : ℕ) → (Fits f → (f.max_receive_window ≤ m) × (m ≤ top)) → m ≤ f.max_receive_window + budget c →
      after ≡ c.growth + (m - f.max_receive_window) → Steps f c (granted f m c) after
  grants m after h w e = record {
    rises = λ r. (h r).0;
    within = w;
    figure = e;
    room = λ r o. omega (arith, (h r).0);
    fits = λ r. (omega (arith, h r), (h r).1, r.2);
    send = refl;
    noted = λ k o n. n;
  }

  -- the outcome by whether an update is due, and its pace
  abbrev outcome : Bool → Pace → Moved
  outcome b p = cond b (paced p f c) (unmoved f c.growth)

  outcomes : (b : Bool) (p : Pace) → Steps f c (outcome b p).flow (outcome b p).granted.growth
  outcomes false p = still
  outcomes true Unmeasured = grants _ _ (λ r. (le_refl _, r.1)) (omega arith) (omega arith)
  outcomes true Late = grants _ _ (λ r. (le_refl _, r.1)) (omega arith) (omega arith)
  outcomes true Early = grants (new_maximum f.max_receive_window (budget c)) _ (λ r. (omega arith, omega arith)) (omega arith) refl

  credits : (b : Bool) (p : Pace) → (outcome b p).flow.receive_window ≡ f.receive_window + credit_of (outcome b p).granted.update
  credits false p = omega arith
  credits true Unmeasured = refl
  credits true Late = refl
  credits true Early = refl

  silent : (b : Bool) (p : Pace) → (outcome b p).granted.update ≡ None → outcome b p ≡ outcome false p
  silent false p e = refl
  silent true Unmeasured e = cc
  silent true Late e = cc
  silent true Early e = cc

  abbrev pace : Pace
  pace = pace_of c.round_trip f.last_window_update c.time

  abbrev taken : Moved
  taken = next_window_update f c

  pub steps : Steps f c taken.flow taken.granted.growth
  steps = outcomes (is_due f c.unread) pace

  -- the receive window rises by the credit that is granted
  pub credited : taken.flow.receive_window ≡ f.receive_window + credit_of taken.granted.update
  credited = credits (is_due f c.unread) pace

  pub credit-fits : Fits f → credit_of taken.granted.update ≤ top
  credit-fits h = omega (arith, credited, (steps.fits h).0)

  -- where no update is sent nothing changes
  pub unchanged : taken.granted.update ≡ None → taken ≡ unmoved f c.growth
  unchanged = silent (is_due f c.unread) pace

  -- the growth figure stays within the limit less 262,144 for each stream
  pub within-limit :
      c.growth ≤ c.limit - c.max_num_streams * initial_window → Fits f → taken.granted.growth ≤ c.limit - c.max_num_streams * initial_window
  within-limit h r = omega (arith, steps.within, steps.figure, steps.rises r)

-- ---- consume and increase

-- a body that is queued takes from the window what it adds to the unread bytes
pub consumed_room :
    (f : FlowController) (n unread : ℕ) → n ≤ f.receive_window → Room f unread →
    Room (with_receive f (f.receive_window - n)) (unread + n)
consumed_room f n unread h r = omega arith

-- bytes that are read leave more room
pub read_room : (f : FlowController) (unread n : ℕ) → Room f unread → Room f (unread - n)
read_room f unread n r = omega arith
