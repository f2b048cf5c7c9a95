-- The history: what was accepted is what was given and what is unread. Assumes nothing.
use Rattle.std.proofs.Common.{Option, Some, None, Result, Ok, Err, ◌≡◌, refl, sym, ap, ◌∙◌, Bool, true, false, cond, List, [], ◌++◌, append_assoc, ℕ, length, take, drop, take-append-drop, get_or, replicate, eqb}
use lib.Seq.{drop-append_seam}
use Rattle.frame.specs.Header.{contains, rst}
use Rattle.frame.specs.Wire.{decoded}
use Rattle.frame.specs.declared.header.Header.{Header}
use Rattle.frame.specs.declared.header.Tag.{Tag}
use Rattle.frame.specs.declared.header.Tag.TheVariants as tag
use Rattle.frame.specs.declared.header.HeaderDecodeError.{HeaderDecodeError}
use Rattle.frame.specs.declared.header.HeaderDecodeError.TheVariants as found
use Rattle.rules.specs.Lists.{Place, at, nowhere}
use Rattle.rules.specs.Replies.{Outcome}
use Rattle.rules.specs.State.{Entry, Conn, vacant}
use Rattle.rules.specs.Step.{step}
use Rattle.rules.specs.Step as rules
use Rattle.demands.specs.History.{Event, nothing, made, accepted, gave_out, freed, tells, brought, brought_to, by_frame, event, is_done, Heard, unheard, noted, Story, new, then}
use Rattle.demands.specs.Theorems.{moves_growth}
use Rattle.demands.proofs.Lists.{true-not-false, getD-same}
use Rattle.demands.proofs.Invariant.{Inv}
use Rattle.demands.proofs.Sound.{bytes_of, left, moves}
use Rattle.demands.proofs.Steps.{started, sound}
use Rattle.demands.proofs.Answers.{front}
use Rattle.rules.specs.declared.Slot.{Slot}

-- ---- which calls give bytes

tells_still : (w : Option Slot) (v : Option ℕ) (body : List ℕ) (e : Event) → moves e ≡ false → moves (tells w v body e) ≡ false
tells_still (Some i) (Some n) body e s = refl
tells_still (Some i) None body e s = s
tells_still None v body e s = s

data_still : (b : Bool) (body : List ℕ) (place : Place) → moves (cond b nothing (brought_to place body)) ≡ false
data_still true body place = refl
data_still false body (at i) = refl
data_still false body nowhere = refl

brought_still : (t : Tag) (h : Header) (body : List ℕ) (place : Place) → moves (brought t h body place) ≡ false
brought_still tag.Data h body place = data_still (contains h.flags rst) body place
brought_still tag.WindowUpdate h body place = refl
brought_still tag.Ping h body place = refl
brought_still tag.GoAway h body place = refl

cond_still : (b : Bool) (e : Event) → moves e ≡ false → moves (cond b e nothing) ≡ false
cond_still true e s = s
cond_still false e s = refl

frame_still : (d : Result Header HeaderDecodeError) (c : Conn) (body : List ℕ) (o : Outcome) → moves (by_frame d c body o) ≡ false
frame_still (Err found.Size) c body o = refl
frame_still (Err (found.Version n)) c body o = refl
frame_still (Err (found.Type n)) c body o = refl
frame_still (Ok h) c body o =
    cond_still (is_done o.reply) _ (tells_still o.slot o.value body _ (brought_still h.tag h body _))

pub event_still : (c : Conn) (k : rules.Call) (o : Outcome) → moves_growth k ≡ false → moves (event c k o) ≡ false
event_still c (rules.tick now) o s = refl
event_still c (rules.frame now head body) o s = frame_still (decoded head) c body o
event_still c (rules.open_stream now) o s = cond_still (is_done o.reply) _ (tells_still o.slot o.value [] nothing refl)
event_still c (rules.read now i asked) o s = true-not-false refl s
event_still c (rules.write now i given) o s = refl
event_still c (rules.close now i) o s = refl
event_still c (rules.drop now i) o s = true-not-false refl s
event_still c (rules.gone now) o s = refl

-- ---- what is given comes from the front

abbrev Fronts : Event → (ℕ → List ℕ) → Type 0
Fronts nothing f = Unit {0}
Fronts (made i body) f = Unit {0}
Fronts (accepted i body) f = Unit {0}
Fronts (gave_out i bytes) f = bytes ≡ take (length bytes) (f i)
Fronts (freed i) f = Unit {0}

still_fronts : (e : Event) (f : ℕ → List ℕ) → moves e ≡ false → Fronts e f
still_fronts nothing f s = tt
still_fronts (made i body) f s = tt
still_fronts (accepted i body) f s = tt
still_fronts (gave_out i bytes) f s = true-not-false refl s
still_fronts (freed i) f s = tt

drop-fronts : (b : Bool) (i : ℕ) (f : ℕ → List ℕ) → Fronts (cond b (freed i) nothing) f
drop-fronts true i f = tt
drop-fronts false i f = tt

quiet-fronts : (c : Conn) (k : rules.Call) → moves_growth k ≡ false → Fronts (event c k (step c k).outcome) (bytes_of c.slots)
quiet-fronts c k s = still_fronts (event c k (step c k).outcome) (bytes_of c.slots) (event_still c k (step c k).outcome s)

fronts : (c : Conn) (k : rules.Call) → Fronts (event c k (step c k).outcome) (bytes_of c.slots)
fronts c (rules.tick now) = tt
fronts c (rules.frame now head body) = quiet-fronts c (rules.frame now head body) refl
fronts c (rules.open_stream now) = quiet-fronts c (rules.open_stream now) refl
fronts c (rules.read now i asked) = front c now i asked
fronts c (rules.write now i given) = tt
fronts c (rules.close now i) = tt
fronts c (rules.drop now i) = drop-fronts (is_done (step c (rules.drop now i)).outcome.reply) i (bytes_of c.slots)
fronts c (rules.gone now) = tt

-- ---- one call

-- accepted is given and unread
abbrev Whole : Heard → List ℕ → Type 0
Whole h unread = h.taken ≡ h.given ++ unread

whole-put : (b : Bool) (x h : Heard) (y u : List ℕ) → Whole x y → Whole h u → Whole (cond b x h) (cond b y u)
whole-put true x h y u p q = p
whole-put false x h y u p q = q

whole-left : (e : Event) (h : ℕ → Heard) (f : ℕ → List ℕ) → ((i : ℕ) → Whole (h i) (f i)) → Fronts e f → (j : ℕ) → Whole (noted e h j) (left e f j)
whole-left nothing h f w t j = w j
whole-left (made i body) h f w t j = whole-put (eqb i j) (record { taken = body; given = [] }) (h j) body (f j) refl (w j)
whole-left (accepted i body) h f w t j =
    whole-put (eqb i j) _ (h j) _ (f j) (ap (λ (l : List ℕ). l ++ body) (w i) ∙ append_assoc (h i).given (f i) body) (w j)
whole-left (gave_out i bytes) h f w t j =
    let n = length bytes in
    let whole : bytes ++ drop n (f i) ≡ f i = ap (λ (l : List ℕ). l ++ drop n (f i)) t ∙ take-append-drop n (f i) in
    whole-put (eqb i j) _ (h j) _ (f j) (w i ∙ ap (λ (l : List ℕ). (h i).given ++ l) (sym whole) ∙ sym (append_assoc (h i).given bytes (drop n (f i)))) (w j)
whole-left (freed i) h f w t j = whole-put (eqb i j) unheard (h j) [] (f j) refl (w j)

-- ---- a story

pub story_kept : {c : Conn} {h : ℕ → Heard} → Story c h → Inv c
story_kept (new {c = c} s e) = started s c e
story_kept (then {c = c} s k) = (sound c (story_kept s) k).inv

nothing_yet : (n i : ℕ) → (get_or (replicate n vacant) i vacant).bytes ≡ []
nothing_yet n i = ap (λ (e : Entry). e.bytes) (getD-same n i vacant)

pub whole : {c : Conn} {h : ℕ → Heard} → Story c h → (i : ℕ) → Whole (h i) (bytes_of c.slots i)
whole (new {c = c} s e) i = sym (nothing_yet c.slots i)
whole (then {c = c} {h = h} s k) i =
    let e = event c k (step c k).outcome in
    rw ((sound c (story_kept s) k).moved i) (whole-left e h (bytes_of c.slots) (λ j. whole s j) (fronts c k) i)

pub rest : {c : Conn} {h : ℕ → Heard} → Story c h → (i : ℕ) → bytes_of c.slots i ≡ drop (length (h i).given) (h i).taken
rest {c} {h} s i = sym (ap (λ (l : List ℕ). drop (length (h i).given) l) (whole s i) ∙ drop-append_seam (h i).given (bytes_of c.slots i))
