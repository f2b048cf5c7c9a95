-- What a new stream takes of its first frame, by the test that the rules make. Assumes nothing.
use Rattle.std.proofs.Common.{◌≡◌, refl, Bool, true, false, not, ℕ, ◌+◌, ltb, leb, leb-true, leb-false, lt-ltb, le-ltb, arith}
use Rattle.frame.specs.Header.{contains, fin, initial_window}
use Rattle.frame.specs.declared.header.Header.{Header}
use Rattle.frame.specs.declared.header.StreamId.{StreamId}
use Rattle.stream.specs.States.{finish}
use Rattle.stream.specs.Streams.{new_inbound, with_state, update_taken}
use Rattle.stream.specs.declared.State.TheVariants.{Open}
use Rattle.rules.specs.Frames.{opened_by}

-- above a bound is not up to it
pub over : (n bound : ℕ) → ltb bound n ≡ not (leb n bound)
over n bound = go (leb n bound) refl
  where
    go : (b : Bool) → leb n bound ≡ b → ltb bound n ≡ not b
    go true e = le-ltb bound n (leb-true n bound e)
    go false e = lt-ltb bound n (leb-false n bound e)

opened-by : (id : StreamId) (n now : ℕ) (f : Bool) → update_taken (new_inbound id initial_window now) (record { 0 = n }) f ≡ with_state (new_inbound id (n + initial_window) now) (finish f (Open false))
opened-by id n now true = let e : initial_window + n ≡ n + initial_window = omega arith in rw e
opened-by id n now false = let e : initial_window + n ≡ n + initial_window = omega arith in rw e

-- a first WindowUpdate makes what a new stream becomes by it
pub opened : (h : Header) (now : ℕ) → update_taken (new_inbound h.stream_id initial_window now) (record { 0 = h.length.0 }) (contains h.flags fin) ≡ opened_by h now
opened h now = opened-by h.stream_id h.length.0 now (contains h.flags fin)
