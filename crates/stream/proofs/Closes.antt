-- A close by whether the stream is Closed. Assumes nothing.
use Rattle.std.proofs.Common.{None, ◌≡◌, refl, true, false}
use Rattle.stream.specs.States.{is_closed}
use Rattle.stream.specs.Streams.{close_in, close_taken}
use Rattle.stream.specs.declared.State.{State}
use Rattle.stream.specs.declared.State.TheVariants.{Open, SendClosed, RecvClosed, Closed}
use Rattle.stream.specs.declared.Stream.{Stream}

pub once : (t : State) (s : Stream) → is_closed t ≡ true → close_in t s ≡ record { stream = s; sent = None }
once (Open a) s h = cc
once SendClosed s h = cc
once RecvClosed s h = cc
once Closed s h = refl

pub closes : (t : State) (s : Stream) → is_closed t ≡ false → close_in t s ≡ close_taken s
closes (Open a) s h = refl
closes SendClosed s h = refl
closes RecvClosed s h = refl
closes Closed s h = cc
