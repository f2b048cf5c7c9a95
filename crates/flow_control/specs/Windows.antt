-- The windows of one stream, and how its receive maximum grows. Sentences are document 01's; ℕ's minus stops at 0.
use Rattle.std.specs.Prelude.{Bool, cond, ℕ, ◌+◌, ◌-◌, ◌*◌, ◌/◌, min, ltb, leb, eqb, ⊤, Option, Some, None, Result, Ok, Err}
use Rattle.frame.specs.Header.{initial_window}
use Rattle.frame.specs.declared.header.Credit.{Credit}
use Rattle.rtt.specs.Pings.{elapsed}
use Rattle.flow_control.specs.declared.FlowController.{FlowController}
use Rattle.flow_control.specs.declared.Pace.{Pace}
use Rattle.flow_control.specs.declared.Pace.TheVariants.{Unmeasured, Late, Early}
use Rattle.flow_control.specs.declared.Reason.{Reason}
use Rattle.flow_control.specs.declared.Reason.TheVariants as reason
use Rattle.flow_control.specs.declared.Conditions.{Conditions}
use Rattle.flow_control.specs.declared.Granted.{Granted}
use Rattle.flow_control.specs.declared.InvalidWindowUpdate.{InvalidWindowUpdate}

-- the largest number of 32 bits
abbrev pub top : ℕ
top = 4294967295

abbrev pub credit : ℕ → Credit
credit n = record { 0 = n }

-- "its maximum and both windows are 262,144", "time noted (first noted at creation)"; the send window of an inbound stream
-- has the credit of its SYN added
abbrev pub fresh : ℕ → ℕ → FlowController
fresh send now = record {
  last_window_update = now;
  receive_window = initial_window;
  max_receive_window = initial_window;
  send_window = send;
}

-- ---- the window step

-- "Due = maximum - receive window - unread."
abbrev pub due : ℕ → FlowController → ℕ → ℕ
due maximum f unread = maximum - f.receive_window - unread

-- "If a round trip is known and elapsed < 2 x round trip": early. No round trip known, and late, are told apart.
abbrev pub pace_of : Option ℕ → ℕ → ℕ → Pace
pace_of None noted now = Unmeasured
pace_of (Some t) noted now = cond (ltb (elapsed noted now) (2 * t)) Early Late

-- what is left of the limit beyond 262,144 for each of M streams: "limit - M x 262,144 - growth figure"
abbrev pub budget : Conditions → ℕ
budget c = c.limit - c.max_num_streams * initial_window - c.growth

-- "new maximum = min(2 x maximum, 2^32-1, maximum + limit - M x 262,144 - growth figure)"
abbrev pub new_maximum : ℕ → ℕ → ℕ
new_maximum maximum spare = min (min (2 * maximum) top) (maximum + spare)

-- "Then a WindowUpdate carries due, receive window += due, time noted"
abbrev pub granted : FlowController → ℕ → Conditions → FlowController
granted f maximum c = record {
  last_window_update = c.time;
  receive_window = f.receive_window + due maximum f c.unread;
  max_receive_window = maximum;
  send_window = f.send_window;
}

-- the flow state after the window step, and what is told of it
pub record Moved : Type 0 where
  pub flow : FlowController
  pub granted : Granted

-- all that is due against `maximum` granted, with the growth figure after it, and why the maximum is that
abbrev pub moved : FlowController → ℕ → Conditions → ℕ → Reason → Moved
moved f maximum c growth why = record {
  flow = granted f maximum c;
  granted = record { growth = growth; update = Some (record { reason = why; credit = credit (due maximum f c.unread) }) };
}

-- grown by doubling, or held down by the budget or by 2^32-1, a rise of zero included
abbrev pub grown : ℕ → ℕ → Reason
grown old new = cond (eqb new (2 * old)) reason.Doubled reason.HeldDown

-- "the figure rises by the difference, due is taken afresh"
abbrev pub grow : FlowController → Conditions → ℕ → Moved
grow f c maximum = moved f maximum c (c.growth + (maximum - f.max_receive_window)) (grown f.max_receive_window maximum)

abbrev pub paced : Pace → FlowController → Conditions → Moved
paced Unmeasured f c = moved f f.max_receive_window c c.growth reason.Unmeasured
paced Late f c = moved f f.max_receive_window c c.growth reason.Late
paced Early f c = grow f c (new_maximum f.max_receive_window (budget c))

-- a step that grants nothing
abbrev pub unmoved : FlowController → ℕ → Moved
unmoved f growth = record { flow = f; granted = record { growth = growth; update = None } }

-- "Below half the maximum (rounded down): none."
abbrev pub is_due : FlowController → ℕ → Bool
is_due f unread = leb (f.max_receive_window / 2) (due f.max_receive_window f unread)

-- the window step: what is granted, the flow state after it, and the growth figure after it
abbrev pub next_window_update : FlowController → Conditions → Moved
next_window_update f c =
    cond (is_due f c.unread)
    (paced (pace_of c.round_trip f.last_window_update c.time) f c)
    (unmoved f c.growth)

-- "A dropped handle returns its growth once."
abbrev pub growth_returned : ℕ → FlowController → ℕ
growth_returned growth f = growth - (f.max_receive_window - initial_window)

-- ---- consume and increase

abbrev pub with_send : FlowController → ℕ → FlowController
with_send f n = record {
  last_window_update = f.last_window_update;
  receive_window = f.receive_window;
  max_receive_window = f.max_receive_window;
  send_window = n;
}

abbrev pub with_receive : FlowController → ℕ → FlowController
with_receive f n = record {
  last_window_update = f.last_window_update;
  receive_window = n;
  max_receive_window = f.max_receive_window;
  send_window = f.send_window;
}

-- the flow state after a change; as it was where a window cannot take it
pub record Settled : Type 0 where
  pub flow : FlowController
  pub verdict : Result ⊤ InvalidWindowUpdate

abbrev pub done : FlowController → Settled
done f = record { flow = f; verdict = Ok tt }

abbrev pub refused : FlowController → Settled
refused f = record { flow = f; verdict = Err (record {}) }

-- "the window falls by n", n being at most the window
abbrev pub consume_send : FlowController → ℕ → Settled
consume_send f n = cond (leb n f.send_window) (done (with_send f (f.send_window - n))) (refused f)

-- "send window past 2^32-1, code 1; else credit added"
abbrev pub increase_send : FlowController → Credit → Settled
increase_send f c =
    cond (leb (f.send_window + c.0) top)
    (done (with_send f (f.send_window + c.0)))
    (refused f)

-- "body above the receive window, code 1. Else the window falls by the body"
abbrev pub consume_receive : FlowController → ℕ → Settled
consume_receive f n =
    cond (leb n f.receive_window)
    (done (with_receive f (f.receive_window - n)))
    (refused f)
