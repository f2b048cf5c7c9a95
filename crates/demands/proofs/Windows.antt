-- The window step keeps each stream within its maximum and the growth figure within the limit. Assumes nothing.
use Rattle.std.proofs.Common.{◌≡◌, ℕ, ◌+◌, ◌*◌, ◌≤◌, arith}
use Rattle.frame.specs.Header.{initial_window}
use Rattle.flow_control.specs.Windows.{next_window_update}
use Rattle.flow_control.specs.declared.Conditions.{Conditions}
use Rattle.flow_control.specs.declared.FlowController.{FlowController}
use Rattle.flow_control.proofs.Laws.{Fits, steps}
use Rattle.demands.proofs.Invariant.{Flows}

-- what the window step leaves of a stream's windows and of the growth figure
pub record Grows (f : FlowController) (unread growth limit m : ℕ) (g : FlowController) (after : ℕ) : Type 0 where
  pub flows : Flows g unread
  pub figure : after + f.max_receive_window ≡ growth + g.max_receive_window
  pub bounded : after + m * initial_window ≤ limit

module _ (f : FlowController) (c : Conditions) (h : Flows f c.unread) (b : c.growth + c.max_num_streams * initial_window ≤ c.limit) where
  fits : Fits f
  fits = (omega (arith, h.fits, h.high), h.high, h.sends)

  -- by the laws of the step
  pub window : Grows f c.unread c.growth c.limit c.max_num_streams (next_window_update f c).flow (next_window_update f c).granted.growth
  window =
      let s = steps f c in
      let rises = s.rises fits in
      let room = s.room fits (omega (arith, h.fits)) in
      record {
        flows = record { low = omega (arith, h.low, rises); high = (s.fits fits).1; fits = omega (arith, room); sends = (s.fits fits).2 };
        figure = omega (arith, s.figure, rises);
        bounded = omega (arith, s.figure, s.within, rises, b);
      }
