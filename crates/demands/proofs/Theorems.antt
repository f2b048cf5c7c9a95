-- The demands, proved. The statements are those of `specs/Theorems.antt`. Assumes nothing.
use Rattle.std.proofs.Common.{Result, Ok, Err, ◌≡◌, refl, ap, ◌∙◌, ◌≢◌, ◌⊎◌, inl, inr, Bool, true, false, cond, List, ℕ, ◌+◌, ◌-◌, ◌*◌, ◌%◌, ◌≤◌, min, arith, length, take, eqb, eqb-true, le-ltb}
use Rattle.frame.specs.Header.{initial_window}
use Rattle.frame.specs.Wire.{decoded}
use Rattle.frame.specs.declared.header.Header.{Header}
use Rattle.frame.specs.declared.header.HeaderDecodeError.{HeaderDecodeError}
use Rattle.frame.specs.declared.header.HeaderDecodeError.TheVariants as found
use Rattle.stream.specs.States.{can_read}
use Rattle.rules.specs.State.{Entry, Conn, initial, vacant, entry, one, first_own, room}
use Rattle.rules.specs.Ending.{Effect}
use Rattle.rules.specs.Calls.{growth_of, read_rules, read_with, window_step}
use Rattle.rules.specs.Step.{step, run}
use Rattle.rules.specs.Step as rules
use Rattle.demands.specs.Demands.{Reach, then, held_count, ruled, would_open, would_queue, would_make, Overflows}
use Rattle.demands.specs.History.{event}
use Rattle.demands.specs.Theorems.{ended_for_reads, GrowthIsASum, GrowthIsWithin, GrowthIsReturned, GrowthStays, WindowsAreWithin, BytesAreKept, UnreadIsTheRest, ReadsGiveTheNext, ReadsGiveAll, EndedReadsGiveNone, UnreadIsWithin, Opened, SevenExactly, EightExactly, WouldOpenIsExact, RoomForHandles, RoomForM, UnqueuedNeedNoRoom, RoomForK, IdsAreOurs, IdsRise, IdsGoByTwo, NextIdIsAbove, ListedAreDistinct, ListedAreHeld, UnlistedAreClosed, FreeAreVacant, TableIsWithin, RefusalsChangeNothing, OnlyDoneGives, SettingsAreAllowed, SettingsStay}
use Rattle.rules.proofs.Lists.{split}
use Rattle.demands.proofs.Lists.{true-not-false, sum-eq, sum-count}
use Rattle.demands.proofs.Invariant.{Good, Inv}
use Rattle.demands.proofs.Sound.{moves}
use Rattle.demands.proofs.Steps.{sound, started, reached, run_reaches}
use Rattle.demands.proofs.Handles.{growth-part}
use Rattle.demands.proofs.Answers.{last-own, run_rises, front, gives_all, timely, holds, drop_returns}
use Rattle.demands.proofs.Bytes.{event_still, whole, rest}
use Rattle.demands.proofs.Turns.{gave, by_two_lem}
use Rattle.demands.proofs.Exact.{named, exact}
use Rattle.demands.proofs.Limits.{limits, queued-for, roomy}

-- ---- growth

-- a free slot has grown nothing
held-part : (e : Entry) → Good e → growth_of e ≡ cond e.held (growth_of e) 0
held-part e g = go e.held refl
  where
    go : (b : Bool) → e.held ≡ b → growth_of e ≡ cond b (growth_of e) 0
    go true h = refl
    go false h = ap growth_of (g.free h)

pub growth_is_a_sum : GrowthIsASum
growth_is_a_sum c r =
    let v = reached r in
    v.figure ∙ sum-eq growth_of (λ e. cond e.held (growth_of e) 0) c.slots vacant (λ j. held-part (entry c.slots j) (v.good j))

pub growth_is_within : GrowthIsWithin
growth_is_within c r = let v = reached r in (v.allowed.least, omega (arith, v.bounded))

pub growth_is_returned : GrowthIsReturned
growth_is_returned c r now i t h = (growth-part c (reached r) i h, drop_returns c now i t h)

pub growth_stays : GrowthStays
growth_stays c r k s = go (sound c (reached r) k).figure
  where
    go : ((step c k).after.growth ≡ c.growth) ⊎ (moves (event c k (step c k).outcome) ≡ true) → (step c k).after.growth ≡ c.growth
    go (inl e) = e
    go (inr m) = true-not-false m (event_still c k (step c k).outcome s)

-- ---- bytes

pub windows_are_within : WindowsAreWithin
windows_are_within c r i h = let f = ((reached r).good i).flows in (f.fits, f.low, f.high, f.sends)

pub bytes_are_kept : BytesAreKept
bytes_are_kept c h s i = whole s i

pub unread_is_the_rest : UnreadIsTheRest
unread_is_the_rest c h s i = rest s i

pub reads_give_the_next : ReadsGiveTheNext
reads_give_the_next c h s now i asked =
    let n = length (step c (rules.read now i asked)).outcome.bytes in
    front c now i asked ∙ ap (λ (l : List ℕ). take n l) (rest s i)

pub reads_give_all : ReadsGiveAll
unfolding step read_rules read_with
reads_give_all c now i asked t l h =
    let e = entry c.slots i in
    let n = min asked (length e.bytes) in
    let u = window_step c e now in
    rw (timely c now _ t, holds c i _ h)
    (split (λ (r : Effect). r.outcome.bytes ≡ take n e.bytes) (ended_for_reads c)
    (λ d. true-not-false d l)
    (λ d. gives_all c i e u n (eqb n 0) (can_read u.stream.state) (eqb-true n 0)))

pub ended_reads_give_none : EndedReadsGiveNone
unfolding step read_rules
ended_reads_give_none c now i asked t d h = rw (timely c now _ t, holds c i _ h, d)

pub unread_is_within : UnreadIsWithin
unread_is_within c r = (reached r).room

-- ---- slots and room

pub seven_exactly : SevenExactly
seven_exactly c r k = (limits c (reached r) k).seven

pub eight_exactly : EightExactly
eight_exactly c r k = (limits c (reached r) k).eight

-- a frame that makes a stream has a header
opened_as : (c : Conn) (now : ℕ) (body : List ℕ) (test : Header → Bool) (r : Effect) (d : Result Header HeaderDecodeError) → ruled d c now body test ≡ true → Opened c (named d) r → (h : Header) × (d ≡ Ok h) × Opened c h.stream_id r
opened_as c now body test r (Err found.Size) e o = true-not-false e refl
opened_as c now body test r (Err (found.Version n)) e o = true-not-false e refl
opened_as c now body test r (Err (found.Type n)) e o = true-not-false e refl
opened_as c now body test r (Ok h) e o = (h, refl, o)

pub would_open_is_exact : WouldOpenIsExact
unfolding step
would_open_is_exact c r now head body =
    let x = exact c (reached r) body now (decoded head) in (
      (λ e l p. opened_as c now body _ (step c (rules.frame now head body)) (decoded head) e (x.opened e l (rw (le-ltb (room c) (length body) p) (split (λ b. b ≡ false) (would_queue c now head body) (λ t. refl) (λ t. refl))))),
      x.same,
    )

-- a body that finds no room needs more handles than the pool was made for
no_room : (c : Conn) → Inv c → (n : ℕ) (k : rules.Call) →
    c.config.limit + n * initial_window ≤ c.config.pool + c.config.max_num_streams * initial_window →
    held_count c.slots ≤ n → (would_make c k ≡ true → held_count c.slots + 1 ≤ n) → Overflows c k → ⊥
no_room c v n (rules.tick now) p h o x = x
no_room c v n (rules.frame now head body) p h o x = roomy c v body n (would_open c now head body) x.1 (queued-for c v body now (decoded head) x.0) p h o
no_room c v n (rules.open_stream now) p h o x = x
no_room c v n (rules.read now i asked) p h o x = x
no_room c v n (rules.write now i given) p h o x = x
no_room c v n (rules.close now i) p h o x = x
no_room c v n (rules.drop now i) p h o x = x
no_room c v n (rules.gone now) p h o x = x

one_of : (b : Bool) → b ≡ true → one b ≡ 1
one_of b e = rw e

pub room_for_handles : RoomForHandles
room_for_handles c r n now head body h p e =
    no_room c (reached r) n (rules.frame now head body) p (omega (arith, h)) (λ o. omega (arith, h, one_of (would_open c now head body) o))
    ((eight_exactly c r (rules.frame now head body)).0 e).0

pub room_for_m : RoomForM
room_for_m c r now head body p h = room_for_handles c r c.config.max_num_streams now head body h (omega (arith, p))

pub unqueued_need_no_room : UnqueuedNeedNoRoom
unqueued_need_no_room c r now head body n e = true-not-false ((eight_exactly c r (rules.frame now head body)).0 e).0.0 n

pub room_for_k : RoomForK
room_for_k c r k p e =
    let v = reached r in
    let held = sum-count (λ (x : Entry). x.held) c.slots in
    let x = (eight_exactly c r k).0 e in
    let left : would_make c k ≡ true → held_count c.slots ≢ c.config.slots = λ o full. x.1 ((seven_exactly c r k).1 (o, full)) in
    no_room c v c.config.slots k (enough c.config.slots c.config.max_num_streams v.allowed.enough p) (omega (arith, held, v.size))
    (λ o. omega (arith, left o, held, v.size)) x.0
  where
    enough : (k m : ℕ) → m ≤ k → c.config.limit + (k - m) * initial_window ≤ c.config.pool → c.config.limit + k * initial_window ≤ c.config.pool + m * initial_window
    enough k m l q = omega (arith, l, q)

-- ---- ids and the table

pub ids_are_ours : IdsAreOurs
ids_are_ours c r now id g =
    let v = reached r in
    let o = gave c v now id g in
    let p : id % 2 ≡ first_own c.config.mode % 2 = rw o.0 v.parity in
    (last-own c.config.mode id (omega (arith, o.0, o.2)) p, p)

pub ids_rise : IdsRise
ids_rise c r now later a b ks g h =
    let d = (step c (rules.open_stream now)).after in
    let m : Reach d = then r (rules.open_stream now) in
    let first = gave c (reached r) now a g in
    let second = gave (run d ks).after (reached (run_reaches m ks)) later b h in
    omega (arith, first.0, first.1, second.0, run_rises d (reached m) ks)

pub ids_go_by_two : IdsGoByTwo
ids_go_by_two s c e ks = by_two_lem (initial c) (started s c e) ks

pub next_id_is_above : NextIdIsAbove
next_id_is_above c r = let v = reached r in (v.last, v.parity, v.below)

pub listed_are_distinct : ListedAreDistinct
listed_are_distinct c r = (reached r).unique

pub listed_are_held : ListedAreHeld
listed_are_held c r i = ((reached r).good i).holds

pub unlisted_are_closed : UnlistedAreClosed
unlisted_are_closed c r i = ((reached r).good i).closes

pub free_are_vacant : FreeAreVacant
free_are_vacant c r i = ((reached r).good i).free

pub table_is_within : TableIsWithin
table_is_within c r =
    let v = reached r in
    (v.count, omega (arith, sum-count (λ (x : Entry). x.held) c.slots, v.size), v.quiet)

-- ---- answers

pub refusals_change_nothing : RefusalsChangeNothing
refusals_change_nothing c r k = (sound c (reached r) k).refusal

pub only_done_gives : OnlyDoneGives
only_done_gives c r k = (sound c (reached r) k).silent

pub settings_are_allowed : SettingsAreAllowed
settings_are_allowed c r = let a = (reached r).allowed in (a.streams, a.least, a.splits, a.split, a.intervals, a.interval, a.first-time, a.first-id, a.some, a.many, a.enough, a.pool)

pub settings_stay : SettingsStay
settings_stay c r k = (sound c (reached r) k).config
