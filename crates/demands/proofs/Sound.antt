-- What is shown of every call, and its proof for the answers that all rules share. Assumes nothing.
use Rattle.std.proofs.Common.{◌≡◌, refl, sym, ap, ◌∙◌, subst, ◌≢◌, ◌⊎◌, inl, Bool, true, false, cond, List, [], ◌++◌, map, ℕ, ◌+◌, ◌*◌, ◌≤◌, ◌<◌, arith, le_refl, length, set, drop, eqb, eqb-true, eq-eqb, ne_eqb}
use lib.ListN.{length-map}
use Rattle.frame.specs.Header.{initial_window}
use Rattle.stream.specs.Streams.{closed, with_waits}
use Rattle.stream.specs.declared.Stream.{Stream}
use Rattle.stream.specs.declared.State.TheVariants.{Closed}
use Rattle.rules.specs.declared.Reply.{Reply}
use Rattle.rules.specs.Lists.{sum}
use Rattle.rules.specs.Replies.{Outcome, leaves_all, may_give}
use Rattle.rules.specs.State.{Entry, Conn, vacant, entry, one, is_own, unread_total}
use Rattle.rules.specs.Ending.{Effect, gives, refuse, end, ended, end_entry}
use Rattle.rules.specs.Calls.{growth_of}
use Rattle.demands.specs.Demands.{held_count}
use Rattle.demands.specs.History.{Event, nothing, made, accepted, gave_out, freed, put}
use Rattle.demands.specs.Theorems.{Bare}
use Rattle.demands.proofs.Lists.{true-not-false, at_set, get_d_map, sum-map, sum-map-none, sum-le, sum-add, sum-each}
use Rattle.demands.proofs.Invariant.{Flows, Good, Inv}

-- ---- bytes

abbrev pub bytes_of : List Entry → ℕ → List ℕ
bytes_of es j = (entry es j).bytes

-- the unread bytes that an event leaves
abbrev pub left : Event → (ℕ → List ℕ) → ℕ → List ℕ
left nothing f = f
left (made i body) f = put i body f
left (accepted i body) f = put i (f i ++ body) f
left (gave_out i bytes) f = put i (drop (length bytes) (f i)) f
left (freed i) f = put i [] f

pub put_same : {A : Type 0} (i : ℕ) (x : A) (f : ℕ → A) → put i x f i ≡ x
put_same i x f = rw (eq-eqb i i refl)

pub put_other : {A : Type 0} (i : ℕ) (x : A) (f : ℕ → A) (j : ℕ) → j ≢ i → put i x f j ≡ f j
put_other i x f j n = rw (ne_eqb i j (λ e. n (sym e)))

-- putting what is there changes nothing
pub same_put : (f : ℕ → List ℕ) (i j : ℕ) → put i (f i) f j ≡ f j
same_put f i j = go (eqb i j) refl
  where
    go : (b : Bool) → eqb i j ≡ b → cond b (f i) (f j) ≡ f j
    go true e = ap f (eqb-true i j e)
    go false e = refl

pub bytes-put : (es : List Entry) (i : ℕ) (x : Entry) → i < length es → (j : ℕ) → bytes_of (set es i x) j ≡ put i x.bytes (bytes_of es) j
bytes-put es i x h =
    at_set (λ j e. e.bytes ≡ put i x.bytes (bytes_of es) j) es i x vacant h
    (sym (put_same i x.bytes (bytes_of es)))
    (λ j n. sym (put_other i x.bytes (bytes_of es) j n))

pub bytes_same : (es : List Entry) (i : ℕ) (x : Entry) → i < length es → x.bytes ≡ bytes_of es i → (j : ℕ) → bytes_of (set es i x) j ≡ bytes_of es j
bytes_same es i x h e =
    at_set (λ j y. y.bytes ≡ bytes_of es j) es i x vacant h e (λ j n. refl)

-- a read may raise the growth figure and a drop lower it
abbrev pub moves : Event → Bool
moves nothing = false
moves (made i body) = false
moves (accepted i body) = false
moves (gave_out i bytes) = true
moves (freed i) = true

-- ---- what is shown of a call on c that gives and leaves r, the event being e

-- unless the call ends the connection, a held slot that it is not about stays as it is
abbrev pub Beside : Conn → (ℕ → Type 0) → Conn → Type 0
Beside c About d = d.ended ≡ c.ended → (j : ℕ) → (entry c.slots j).held ≡ true → (About j → ⊥) → entry d.slots j ≡ entry c.slots j

pub record Sound (c : Conn) (About : ℕ → Type 0) (e : Event) (r : Effect) : Type 0 where
  pub inv : Inv r.after
  pub config : r.after.config ≡ c.config
  pub next : c.next_id ≤ r.after.next_id
  pub refusal : leaves_all r.outcome.reply ≡ true → r.after ≡ c
  pub silent : may_give r.outcome.reply ≡ false → Bare r.outcome
  pub figure : (r.after.growth ≡ c.growth) ⊎ (moves e ≡ true)
  pub moved : (j : ℕ) → bytes_of r.after.slots j ≡ left e (bytes_of c.slots) j
  pub beside : Beside c About r.after

module _ (c : Conn) (About : ℕ → Type 0) (e : Event) where
  pub refused : Inv c → (r : Reply) → ((j : ℕ) → bytes_of c.slots j ≡ left e (bytes_of c.slots) j) → Sound c About e (refuse c r)
  refused v r b = record {
    inv = v;
    config = refl;
    next = le_refl _;
    refusal = λ t. refl;
    silent = λ t. (refl, refl, refl, refl, refl);
    figure = inl refl;
    moved = b;
    beside = λ q j h n. refl;
  }

  -- an answer with reply 0, 1 or 2
  pub done :
      (o : Outcome) (d : Conn) → may_give o.reply ≡ true → leaves_all o.reply ≡ false → Inv d → d.config ≡ c.config → c.next_id ≤ d.next_id → (d.growth ≡ c.growth) ⊎ (moves e ≡ true) →
      ((j : ℕ) → bytes_of d.slots j ≡ left e (bytes_of c.slots) j) → Beside c About d → Sound c About e (gives o d)
  done o d g l v k m f b s = record {
    inv = v;
    config = k;
    next = m;
    refusal = λ t. true-not-false t l;
    silent = λ t. true-not-false g t;
    figure = f;
    moved = b;
    beside = s;
  }

-- ---- ending

pub end_flow : (b : Bool) (s : Stream) → (cond b (closed s) (with_waits s false false)).flow ≡ s.flow
end_flow true s = refl
end_flow false s = refl

end_id : (b : Bool) (s : Stream) → (cond b (closed s) (with_waits s false false)).id ≡ s.id
end_id true s = refl
end_id false s = refl

end-state : (b : Bool) (s : Stream) → (b ≡ false → s.state ≡ Closed) → (cond b (closed s) (with_waits s false false)).state ≡ Closed
end-state true s h = refl
end-state false s h = h refl

end_good : (e : Entry) → Good e → Good (end_entry e)
end_good e g = record {
  free = λ h. ap end_entry (g.free h);
  holds = λ l. true-not-false l refl;
  closes = λ h l. end-state e.listed e.stream (g.closes h);
  flows = subst (λ f. Flows f (length e.bytes)) (sym (end_flow e.listed e.stream)) g.flows;
}

-- what holds of an entry that was ended holds of it in the table that was ended
pub at_end : (P : ℕ → Entry → Type 0) (es : List Entry) → ((j : ℕ) → P j (end_entry (entry es j))) → (j : ℕ) → P j (entry (map end_entry es) j)
at_end P es h j = subst (P j) (sym (get_d_map end_entry es j vacant refl)) (h j)

end_growth : (e : Entry) → growth_of (end_entry e) ≡ growth_of e
end_growth e = rw (end_flow e.listed e.stream)

module _ (c : Conn) (v : Inv c) where
  none-listed : (i : ℕ) → (entry (map end_entry c.slots) i).listed ≡ false
  none-listed = at_end (λ j e. e.listed ≡ false) c.slots (λ j. refl)

  pub ended-kept : Inv (ended c)
  ended-kept = record {
    allowed = v.allowed;
    size = length-map c.slots end_entry ∙ v.size;
    good = at_end (λ j e. Good e) c.slots (λ j. end_good (entry c.slots j) (v.good j));
    unique = λ i j l m e. true-not-false l (none-listed i);
    count = omega (arith, sum-map-none (λ (e : Entry). one e.listed) end_entry c.slots (λ e. refl));
    figure = v.figure ∙ sym (sum-map growth_of end_entry c.slots end_growth);
    bounded = v.bounded;
    room = omega (arith, v.room, sum-map (λ (e : Entry). length e.bytes) end_entry c.slots (λ e. refl));
    last = v.last;
    parity = v.parity;
    below =
        at_end (λ j e. e.held ≡ true → is_own c.config.mode e.stream.id ≡ true → e.stream.id.0 < c.next_id) c.slots
        (λ j h. rw (end_id (entry c.slots j).listed (entry c.slots j).stream) (v.below j h));
    quiet = λ t. none-listed;
  }

  pub ends : c.ended ≡ false → (About : ℕ → Type 0) (e : Event) (r : Reply) → leaves_all r ≡ false → e ≡ nothing → Sound c About e (end c r)
  ends live About e r l k = record {
    inv = ended-kept;
    config = refl;
    next = le_refl _;
    refusal = λ t. true-not-false t l;
    silent = λ t. (refl, refl, refl, refl, refl);
    figure = inl refl;
    moved = λ j. rw k (at_end (λ j x. x.bytes ≡ bytes_of c.slots j) c.slots (λ i. refl) j);
    beside = λ q. true-not-false (sym q) live;
  }

-- ---- room

-- what is open to the remote of a held stream
abbrev pub open_window : Entry → ℕ
open_window e = cond e.held e.stream.flow.receive_window 0

-- a held stream's receive window and unread bytes are within its maximum, a free slot has none
pub within : (e : Entry) → Good e → open_window e + length e.bytes ≤ cond e.held initial_window 0 + growth_of e
within e g = go e.held refl
  where
    go : (b : Bool) → e.held ≡ b → cond b e.stream.flow.receive_window 0 + length e.bytes ≤ cond b initial_window 0 + growth_of e
    go true h = omega (arith, g.flows.fits, g.flows.low)
    go false h = rw (g.free h) (omega arith)

-- no more bytes are open to the remote, or unread, than 262,144 for each handle and what was grown
pub capacity : (es : List Entry) → ((j : ℕ) → Good (entry es j)) → sum open_window es + unread_total es ≤ held_count es * initial_window + sum growth_of es
capacity es g =
    omega (
      arith,
      sum-le (λ (e : Entry). open_window e + length e.bytes) (λ e. cond e.held initial_window 0 + growth_of e) es vacant (λ j. within (entry es j) (g j)),
      sum-add open_window (λ (e : Entry). length e.bytes) es,
      sum-add (λ (e : Entry). cond e.held initial_window 0) growth_of es,
      sum-each (λ (e : Entry). e.held) initial_window es,
    )
