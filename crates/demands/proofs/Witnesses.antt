-- The runs of `specs/Witnesses.antt`, computed. Assumes nothing.
use Rattle.std.proofs.Common.{refl}
use Rattle.rules.specs.Frames.{ack_step, on_reset, make_at, make, syn_rules, syn_data, syn_update, take_at, known_data, known_update, data_rules, update_rules, pong_rules, ping_rules, frame_rules, on_header}
use Rattle.rules.specs.Calls.{open_at, open_rules, read_rest, read_with, window_step, read_rules, write_with, write_rules, close_rules, drop_at, drop_rules, ping_out, tick_rules}
use Rattle.rules.specs.Step.{on_decoded, step}
use Rattle.demands.specs.Demands.{new}
use Rattle.demands.proofs.Steps.{run_reaches}
use Rattle.demands.specs.Handles.{Stale}
use Rattle.demands.specs.Witnesses.{Runs, client, stales, stale_state}

pub runs : Runs
unfolding ack_step on_reset make_at make syn_rules syn_data syn_update take_at known_data known_update data_rules update_rules pong_rules ping_rules frame_rules on_header open_at open_rules read_rest read_with window_step read_rules write_with write_rules close_rules drop_at drop_rules ping_out tick_rules on_decoded step
runs = ((refl, refl), (refl, refl), (refl, refl), (refl, refl), (refl, refl), (refl, refl), (refl, refl), (refl, refl), (refl, refl), (refl, refl), (refl, refl), (refl, refl), (refl, refl), (refl, refl), (refl, refl), (refl, refl), (refl, refl), (refl, refl), (refl, refl))

-- the theorems on stale handles speak of a state that is reached
pub stale_is_reached : Stale stale_state 0 1
unfolding ack_step on_reset make_at make syn_rules syn_data syn_update take_at known_data known_update data_rules update_rules pong_rules ping_rules frame_rules on_header open_at open_rules read_rest read_with window_step read_rules write_with write_rules close_rules drop_at drop_rules ping_out tick_rules on_decoded step
stale_is_reached = record {
  reached = run_reaches (new (client 2 1048576 2 64) refl) stales;
  held = refl;
  gone = refl;
  listed = refl;
  same = refl;
}
