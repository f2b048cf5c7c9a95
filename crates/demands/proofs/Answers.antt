-- What reads and drops answer, and what a run of calls keeps. Assumes nothing.
use Rattle.std.proofs.Common.{◌≡◌, refl, ap, Bool, true, false, cond, List, [], ◌∷◌, ℕ, zero, suc, ◌+◌, ◌-◌, ◌%◌, ◌≤◌, arith, le_refl, length, take, ltb, le-ltb}
use Rattle.flow_control.specs.Windows.{top}
use Rattle.stream.specs.Streams as stream
use Rattle.stream.specs.declared.Updated.{Updated}
use Rattle.stream.specs.declared.ReadEnd.{ReadEnd}
use Rattle.stream.specs.declared.ReadEnd.TheVariants as reading
use Rattle.rules.specs.declared.Mode.{Mode}
use Rattle.rules.specs.declared.Mode.TheVariants.{Client, Server}
use Rattle.rules.specs.Settings.{last_time}
use Rattle.rules.specs.Lists.{Place, at, nowhere}
use Rattle.rules.specs.State.{Entry, Conn, entry, first_own, find, with_growth}
use Rattle.rules.specs.Ending.{Effect}
use Rattle.rules.specs.Calls.{growth_of, read_rest, read_with, read_rules, drop_at, drop_rules}
use Rattle.rules.specs.Step.{step, run}
use Rattle.rules.specs.Step as rules
use Rattle.demands.specs.Theorems.{last_own}
use Rattle.rules.proofs.Lists.{split}
use Rattle.demands.proofs.Invariant.{Inv}
use Rattle.demands.proofs.Steps.{sound}

-- ---- ids

-- an id of our parity that leaves room for the next is at most the last one
pub last-own : (m : Mode) (id : ℕ) → id + 2 ≤ top → id % 2 ≡ first_own m % 2 → id ≤ last_own m
last-own Client id t e = omega (arith, t)
last-own Server id t e = omega (arith, t, e)

-- ---- a run

pub run_rises : (c : Conn) → Inv c → (ks : List rules.Call) → c.next_id ≤ (run c ks).after.next_id
run_rises c v [] = le_refl _
run_rises c v (k ∷ ks) = omega (arith, (sound c v k).next, run_rises (step c k).after (sound c v k).inv ks)

-- ---- a read

take_again : (n : ℕ) (l : List ℕ) → take n l ≡ take (length (take n l)) l
take_again zero l = refl
take_again (suc n) [] = refl
take_again (suc n) (x ∷ l) = ap {B = List ℕ} (λ r. x ∷ r) (take_again n l)

-- what is given comes from the front of the unread bytes
abbrev Front : Entry → Effect → Type 0
Front e r = r.outcome.bytes ≡ take (length r.outcome.bytes) e.bytes

module _ (c : Conn) (i : ℕ) (e : Entry) (u : Updated) (n : ℕ) where
  front_rest : (r : ReadEnd) → Front e (read_rest c i e u n r)
  unfolding read_rest
  front_rest (reading.Done s) = take_again n e.bytes
  front_rest (reading.Wait s) = refl

module _ (c : Conn) (now i asked : ℕ) where
  pub front : Front (entry c.slots i) (step c (rules.read now i asked))
  unfolding step read_rules read_with
  front =
      split (Front (entry c.slots i)) (ltb last_time now) (λ t. refl) (λ t.
      split (Front (entry c.slots i)) (entry c.slots i).held
      (λ h.
      split (Front (entry c.slots i)) (cond c.ended (cond c.config.read_after_close false true) false) (λ d. refl)
      (λ d. front_rest c i (entry c.slots i) _ _ _))
      (λ h. refl))

-- where n bytes are to be read, they are given; where none, none is
module _ (c : Conn) (i : ℕ) (e : Entry) (u : Updated) (n : ℕ) where
  pub gives_all : (a b : Bool) → (a ≡ true → n ≡ 0) →
      (read_rest c i e u n (cond a (cond b (reading.Wait (stream.with_waits u.stream true u.stream.writer)) (reading.Done u.stream)) (reading.Done u.stream))).outcome.bytes ≡ take n e.bytes
  unfolding read_rest
  gives_all true true z = rw (z refl)
  gives_all true false z = refl
  gives_all false b z = refl

-- the tests of a call that passes them
pub timely : (c : Conn) (now : ℕ) (r : Effect) → now ≤ last_time → rules.timed c now r ≡ r
timely c now r t = rw (le-ltb last_time now t)

pub holds : (c : Conn) (i : ℕ) (r : Effect) → (entry c.slots i).held ≡ true → rules.holding c i r ≡ r
holds c i r h = rw h

pub alive : (c : Conn) (r : Effect) → c.ended ≡ false → rules.live c r ≡ r
alive c r e = rw e

-- ---- a drop

drop_figure : (c : Conn) (i g : ℕ) (p : Place) → (drop_at p (with_growth c g) i).after.growth ≡ g
unfolding drop_at
drop_figure c i g (at j) = refl
drop_figure c i g nowhere = refl

pub drop_returns : (c : Conn) (now i : ℕ) → now ≤ last_time → (entry c.slots i).held ≡ true → (step c (rules.drop now i)).after.growth ≡ c.growth - growth_of (entry c.slots i)
unfolding step drop_rules
drop_returns c now i t h =
    let e = entry c.slots i in
    rw (timely c now _ t, holds c i _ h) (drop_figure c i (c.growth - growth_of e) (find c.slots e.stream.id))
