-- Pings are answered, pongs are taken and ticks send. Assumes nothing.
use Rattle.std.proofs.Common.{◌≡◌, refl, ap, inl, inr, Bool, true, [], arith, eq-eqb, le-leb}
use Rattle.frame.specs.Header.{session}
use Rattle.frame.specs.declared.header.StreamId.{StreamId}
use Rattle.frame.specs.declared.header.Tag.TheVariants as tag
use Rattle.rtt.proofs.Laws.{later-sum}
use Rattle.rules.specs.State.{Conn}
use Rattle.rules.specs.Frames.{is_known, answers_ping, pong_rules, ping_rules, frame_rules}
use Rattle.rules.specs.Calls.{ping_out, tick_rules}
use Rattle.rules.specs.Step.{step}
use Rattle.demands.specs.Progress.{PingedAt, PingIsAnswered, PongIsTaken, TickIsSent}
use Rattle.rules.proofs.Lists.{split}
use Rattle.demands.proofs.Invariant.{Inv}
use Rattle.demands.proofs.Steps.{reached}
use Rattle.demands.proofs.Answers.{timely, alive}
use Rattle.demands.proofs.Stale.{found_at}
use Rattle.demands.proofs.Framed.{framed}

answers : (c : Conn) → Inv c → (id : StreamId) → PingedAt c id → answers_ping c id ≡ true
answers c v id (inl e) = rw e
answers c v id (inr f) =
    split (λ (b : Bool). b ≡ true) (session id) (λ e. refl) (λ e. ap is_known (found_at c v id f.0 f.1 f.2))

pub ping_is_answered : PingIsAnswered
unfolding frame_rules ping_rules
ping_is_answered c m now head h d e plain t live there =
    rw (framed c now head [] h tag.Ping d e refl t live, plain, answers c (reached m) h.stream_id there)

pub pong_is_taken : PongIsTaken
unfolding frame_rules ping_rules pong_rules
pong_is_taken c m now sent head h d e acks t live awaited =
    let due = later-sum now c.config.interval (omega (arith, t)) (omega (arith, (reached m).allowed.interval)) in
    rw (framed c now head [] h tag.Ping d e refl t live, acks, awaited, eq-eqb h.length.0 h.length.0 refl, due)

pub tick_is_sent : TickIsSent
unfolding step tick_rules ping_out
tick_is_sent c now due t live waiting d = rw (timely c now _ t, alive c _ live, waiting, le-leb due now d)
