-- Every call keeps the invariant, and a new connection has it. Assumes nothing.
use Rattle.std.proofs.Common.{Ok, Result, Err, ◌≡◌, refl, sym, ap, subst, true, false, List, [], ◌∷◌, ℕ, ◌≤◌, arith, length, replicate, ltb, leb, leb-true}
use lib.ListN.{length-replicate}
use Rattle.frame.specs.Wire.{decoded}
use Rattle.frame.specs.declared.header.HeaderDecodeError.{HeaderDecodeError}
use Rattle.frame.specs.declared.header.HeaderDecodeError.TheVariants as found
use Rattle.rules.specs.declared.Settings.{Settings}
use Rattle.rules.specs.declared.Config.{Config}
use Rattle.rules.specs.declared.Mode.{Mode}
use Rattle.rules.specs.declared.Mode.TheVariants.{Client, Server}
use Rattle.rules.specs.declared.Setting.TheVariants as setting
use Rattle.rules.specs.declared.Reply.TheVariants as reply
use Rattle.rules.specs.Settings.{within, last_time, permitted, checked}
use Rattle.rules.specs.State.{Entry, Conn, vacant, entry, one, initial, first_own}
use Rattle.rules.specs.Ending.{Effect, refuse}
use Rattle.rules.specs.Calls.{growth_of}
use Rattle.rules.specs.Step.{on_decoded, step}
use Rattle.rules.specs.Step as rules
use Rattle.demands.specs.Demands.{Reach, new, then}
use Rattle.demands.specs.Handles.{IsAbout, IsAboutDecoded}
use Rattle.demands.specs.History.{Event, nothing, gave_out, event, by_frame}
use Rattle.rules.proofs.Judging.{all_hold}
use Rattle.rules.proofs.Lists.{both, split}
use Rattle.demands.proofs.Lists.{true-not-false, getD-same, sum-none}
use Rattle.demands.proofs.Invariant.{Allowed, Inv, vacant_good}
use Rattle.demands.proofs.Sound.{Sound, left, same_put, bytes_of, refused, ends}
use Rattle.demands.proofs.Frames.{headers}
use Rattle.demands.proofs.Calls.{reads, writes, closes}
use Rattle.demands.proofs.Handles.{opens-stream, drops, ticks}
use Rattle.frame.specs.declared.header.Header.{Header}

-- ---- a call

module _ (c : Conn) (v : Inv c) where
  -- an event that leaves all bytes
  abbrev Still : Event → Type 0
  Still e = (j : ℕ) → bytes_of c.slots j ≡ left e (bytes_of c.slots) j

  -- a time, an ended connection and a handle that is not held are refused; else the rules decide
  timed-ok : (here : ℕ → Type 0) (e : Effect → Event) (now : ℕ) (next : Effect) → Still (e (refuse c reply.Time)) → Sound c here (e next) next → Sound c here (e (rules.timed c now next)) (rules.timed c now next)
  timed-ok here e now next n s = split (λ r. Sound c here (e r) r) (ltb last_time now) (λ t. refused c here _ v reply.Time n) (λ t. s)

  live-ok : (here : ℕ → Type 0) (e : Effect → Event) (next : Effect) → Still (e (refuse c reply.Closed)) → (c.ended ≡ false → Sound c here (e next) next) → Sound c here (e (rules.live c next)) (rules.live c next)
  live-ok here e next n s = split (λ r. Sound c here (e r) r) c.ended (λ t. refused c here _ v reply.Closed n) s

  holding-ok : (here : ℕ → Type 0) (e : Effect → Event) (i : ℕ) (next : Effect) → Still (e (refuse c reply.NotHeld)) → ((entry c.slots i).held ≡ true → Sound c here (e next) next) →
      Sound c here (e (rules.holding c i next)) (rules.holding c i next)
  holding-ok here e i next n s = split (λ r. Sound c here (e r) r) (entry c.slots i).held s (λ h. refused c here _ v reply.NotHeld n)

  decodes : (d : Result Header HeaderDecodeError) (body : List ℕ) (now : ℕ) → Sound c (IsAboutDecoded d c) (by_frame d c body (on_decoded d c body now).outcome) (on_decoded d c body now)
  unfolding on_decoded
  decodes (Err found.Size) body now = refused c _ _ v reply.Size (λ j. refl)
  decodes (Err (found.Version n)) body now =
      timed-ok _ (λ r. nothing) now _ (λ j. refl) (live-ok _ (λ r. nothing) _ (λ j. refl) (λ l. ends c v l _ _ reply.Version refl refl))
  decodes (Err (found.Type n)) body now =
      timed-ok _ (λ r. nothing) now _ (λ j. refl) (live-ok _ (λ r. nothing) _ (λ j. refl) (λ l. ends c v l _ _ reply.Type refl refl))
  decodes (Ok h) body now =
      let e : Effect → Event = λ r. by_frame (Ok h) c body r.outcome in
      timed-ok _ e now _ (λ j. refl) (live-ok _ e _ (λ j. refl) (λ l. headers c v l h body now))

  pub sound : (k : rules.Call) → Sound c (IsAbout c k) (event c k (step c k).outcome) (step c k)
  unfolding step
  sound (rules.tick now) = timed-ok _ (λ r. nothing) now _ (λ j. refl) (live-ok _ (λ r. nothing) _ (λ j. refl) (λ l. ticks c v now))
  sound (rules.frame now head body) = decodes (decoded head) body now
  sound (rules.open_stream now) =
      let e : Effect → Event = λ r. event c (rules.open_stream now) r.outcome in
      timed-ok _ e now _ (λ j. refl) (live-ok _ e _ (λ j. refl) (λ l. opens-stream c v l now))
  sound (rules.read now i asked) =
      let e : Effect → Event = λ r. event c (rules.read now i asked) r.outcome in
      let s : Still (gave_out i []) = λ j. sym (same_put (bytes_of c.slots) i j) in
      timed-ok _ e now _ s (holding-ok _ e i _ s (λ h. reads c v i h asked now))
  sound (rules.write now i given) = timed-ok _ (λ r. nothing) now _ (λ j. refl) (holding-ok _ (λ r. nothing) i _ (λ j. refl) (λ h. writes c v i h given))
  sound (rules.close now i) = timed-ok _ (λ r. nothing) now _ (λ j. refl) (holding-ok _ (λ r. nothing) i _ (λ j. refl) (λ h. closes c v i h))
  sound (rules.drop now i) =
      let e : Effect → Event = λ r. event c (rules.drop now i) r.outcome in
      timed-ok _ e now _ (λ j. refl) (holding-ok _ e i _ (λ j. refl) (λ h. drops c v i h))
  sound (rules.gone now) = timed-ok _ (λ r. nothing) now _ (λ j. refl) (live-ok _ (λ r. nothing) _ (λ j. refl) (λ l. ends c v l _ _ reply.Closed refl refl))

-- ---- a new connection

-- settings that are accepted are allowed, and the connection has them as they are
accepted_settings : (s : Settings) (c : Config) → checked s ≡ Ok c → Allowed c
accepted_settings s c e =
    let ok = all_hold permitted s c e in
    let part = both (leb 1 s.split) (leb s.split 4294967295) (ok.0 setting.Split) in
    let each = both (leb 1 s.interval) (leb s.interval last_time) (ok.0 setting.Interval) in
    let k = both (within 1 1024 s.slots) _ (ok.0 setting.Slots) in
    let w = both (leb 1 s.slots) (leb s.slots 1024) k.0 in
    let n = both (leb s.max_num_streams s.slots) _ k.1 in
    let p = both (leb s.pool 4294967295) _ (ok.0 setting.Pool) in
    subst Allowed (sym ok.1) (record {
      streams = leb-true _ _ (ok.0 setting.Streams);
      least = leb-true _ _ (ok.0 setting.Limit);
      splits = leb-true _ _ part.0;
      split = leb-true _ _ part.1;
      intervals = leb-true _ _ each.0;
      interval = leb-true _ _ each.1;
      first-time = leb-true _ _ (ok.0 setting.FirstTime);
      first-id = leb-true _ _ (ok.0 setting.FirstId);
      some = leb-true _ _ w.0;
      many = leb-true _ _ w.1;
      enough = leb-true _ _ n.0;
      pool = leb-true _ _ p.0;
    })

first-low : (m : Mode) → first_own m ≤ 4294967295
first-low Client = omega arith
first-low Server = omega arith

starts : (c : Config) → Allowed c → Inv (initial c)
starts c a =
    let es = replicate c.slots vacant in
    let all : (i : ℕ) → entry es i ≡ vacant = λ i. getD-same c.slots i vacant in
    let none : (i : ℕ) → (entry es i).listed ≡ false = λ i. rw (all i) in
    record {
      allowed = a;
      size = length-replicate c.slots vacant;
      good = λ i. rw (all i) vacant_good;
      unique = λ i j l m e. true-not-false l (none i);
      count = omega (arith, sum-none (λ (e : Entry). one e.listed) c.slots vacant refl);
      figure = sym (sum-none growth_of c.slots vacant refl);
      bounded = omega (arith, a.least);
      room = omega (arith, sum-none (λ (e : Entry). length e.bytes) c.slots vacant refl);
      last = first-low c.mode;
      parity = refl;
      below = λ i h o. true-not-false h (ap (λ (e : Entry). e.held) (all i));
      quiet = λ t. none;
    }

pub started : (s : Settings) (c : Config) → checked s ≡ Ok c → Inv (initial c)
started s c e = starts c (accepted_settings s c e)

pub reached : {c : Conn} → Reach c → Inv c
reached (new {c = c} s e) = started s c e
reached (then {c = c} r k) = (sound c (reached r) k).inv

pub run_reaches : {c : Conn} → Reach c → (ks : List rules.Call) → Reach (rules.run c ks).after
run_reaches r [] = r
run_reaches {c = c} r (k ∷ ks) = run_reaches {c = (rules.step c k).after} (then r k) ks
