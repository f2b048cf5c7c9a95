-- The proved examples of document 01 that speak of one stream: each row is what the definitions give and what the document says.
-- Assumes nothing.
use Rattle.std.proofs.Common.{Some, Result, Ok, Err, ◌≡◌, refl, Bool, true, false, cond, List, [], ◌∷◌, ℕ, eqb}
use Rattle.flow_control.specs.Windows.{credit, fresh, next_window_update, with_receive, Moved}
use Rattle.flow_control.proofs.Laws.{credit_of}
use Rattle.stream.specs.Streams.{new_inbound, on_window_update}
use Rattle.stream.specs.declared.Woken.{Woken}
use Rattle.flow_control.specs.declared.InvalidWindowUpdate.{InvalidWindowUpdate}

-- the window step of a new stream, noted at 0, with nothing unread, a round trip of 50 and a limit of 1,048,576 for one stream
step : ℕ → ℕ → Moved
step window now =
    next_window_update (with_receive (fresh 262144 0) window)
    (record { unread = 0; time = now; round_trip = Some 50; limit = 1048576; max_num_streams = 1; growth = 0 })

-- the send window of a new inbound stream after a credit; 0 for code 1
send_after : Result Woken InvalidWindowUpdate → ℕ
send_after (Ok w) = w.stream.flow.send_window
send_after (Err e) = 0

syn : ℕ → ℕ
syn c = send_after (on_window_update (new_inbound (record { 0 = 2 }) 262144 0) (credit c) false)

pub rows : List (ℕ × ℕ)
rows =
    -- "due 131,072 sent, 131,071 not"
    (credit_of (step 131072 100).granted.update, 131072) ∷
    (credit_of (step 131073 100).granted.update, 0) ∷
    -- "elapsed equal to 2 x round trip no growth"; one less doubles the maximum
    ((step 131072 100).flow.max_receive_window, 262144) ∷
    ((step 131072 99).flow.max_receive_window, 524288) ∷
    -- "SYN credit 4294705151 taken, 4294705152 code 1"
    (syn 4294705151, 4294967295) ∷
    (syn 4294705152, 0) ∷
    []

pub agree : List (ℕ × ℕ) → Bool
agree [] = true
agree (r ∷ rs) = cond (eqb r.0 r.1) (agree rs) false

pub examples : agree rows ≡ true
unfolding step send_after syn rows agree
examples = refl
