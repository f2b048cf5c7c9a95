-- What lives is valid and reached, so every theorem of `demands` holds of it. Assumes nothing.
use Rattle.std.proofs.Common.{Result, Ok, Err, ◌≡◌, refl, sym, ap, ◌∙◌, Bool, true, false, List, [], ◌∷◌, ◌++◌, ℕ, ◌-◌, ◌<◌, arith, length, take, drop}
use Rattle.rules.specs.Settings.{checked}
use Rattle.connection.specs.declared.Done.{Done}
use Rattle.rules.specs.Replies as replies
use Rattle.rules.specs.Replies.{count_of}
use Rattle.rules.specs.State.{Conn}
use Rattle.rules.specs.Step.{Call, step, run, frame, read}
use Rattle.rules.specs.declared.Settings.{Settings}
use Rattle.rules.proofs.Judging.{numbers_beyond}
use Rattle.connection.proofs.Promises.{read_counted}
use Rattle.connection.specs.Abstract.{abs_of, Valid}
use Rattle.connection.specs.Promises.{Follows}
use Rattle.connection.specs.declared.Connection.{Connection}
use Rattle.connection_open.specs.Start.{Creates, number, sized}
use Rattle.connection_open.specs.declared.NotCreated.{NotCreated}
use Rattle.connection_open.specs.declared.NotCreated.TheVariants.{Wrong, Size}
use Rattle.trace.specs.Runs.{only, reads}
use Rattle.trace.specs.Turns.{runs_from, RanAs}
use Rattle.trace.specs.declared.Report.{Report}
use Rattle.trace.proofs.Steps.{steps}
use Rattle.demands.specs.Demands.{Reach}
use Rattle.demands.specs.Demands as reach
use Rattle.demands.specs.History.{Heard, Story}
use Rattle.demands.specs.History as story
use Rattle.demands.specs.Ledger.{Account, Books, booked_over}
use Rattle.demands.specs.Ledger as books
use Rattle.demands.proofs.Theorems.{growth_is_a_sum, growth_is_within, windows_are_within, unread_is_the_rest, reads_give_the_next, room_for_m}
use Rattle.demands.proofs.LedgerTheorems.{credit_is_a_ledger, sending_is_a_ledger, credit_is_within_the_limit, credit_is_within_for_handles, credit_in_the_table}
use Rattle.demands_of_code.specs.Credit.{accounts, Ledger, Credit, TableCredit}
use Rattle.demands_of_code.specs.Lives.{Lives, made, then, unsized, ran, unran, heard_over, Growth, Unread, Given, Room}
use Rattle.rules.specs.declared.Config.{Config}
use Rattle.rules.specs.declared.Setting.{Setting}

-- valid, and the rules' state has this history and these accounts
pub record Holds (c : Connection) (t l p : List ℕ) (h : ℕ → Heard) (b : ℕ → Account) : Type 0 where
  pub valid : Valid c t l p
  pub told : Story (abs_of c t l p) h
  pub kept : Books (abs_of c t l p) b

-- what was made was not refused
unmade : {A : Type 0} (c : Connection) (r : Result Connection NotCreated) → Ok c ≡ r → 0 < number r → A
unmade c r e n = absurd (omega (arith, ap number e, n))

-- a connection is made of settings that are in range
begins : (s : Settings) (t l p : List ℕ) (c : Connection) (t' l' p' : List ℕ) → Creates s t l p (Ok c) t' l' p'
    → (x : Result Config Setting) → checked s ≡ x → Holds c t' l' p' (λ i. story.unheard) (λ i. books.blank)
begins s t l p c t' l' p' m (Err w) e = unmade c (Err (Wrong w)) (m.wrong w e).0 (omega (arith, (numbers_beyond w).0))
begins s t l p c t' l' p' m (Ok k) e = go (sized k (length t) (length l) (length p)) refl
  where
    go : (b : Bool) → sized k (length t) (length l) (length p) ≡ b → Holds c t' l' p' (λ i. story.unheard) (λ i. books.blank)
    go true q = let n = m.made k e q in record { valid = n.0; told = rw n.1 (story.new s e); kept = rw n.1 (books.new s e) }
    go false q = unmade c (Err Size) (m.sizes k e q).0 (omega arith)

-- a history and accounts go on over any calls
goes_on : {c : Conn} {h : ℕ → Heard} → Story c h → (ks : List Call) → Story (run c ks).after (heard_over c ks h)
goes_on s [] = s
goes_on {c = c} {h = h} s (k ∷ ks) = goes_on {c = (step c k).after} (story.then s k) ks

keeps_on : {c : Conn} {b : ℕ → Account} → Books c b → (ks : List Call) → Books (run c ks).after (booked_over c ks b)
keeps_on s [] = s
keeps_on {c = c} {b = b} s (k ∷ ks) = keeps_on {c = (step c k).after} (books.then s k) ks

-- nothing changed
same : {c d : Connection} {t l p t' l' p' : List ℕ} {h : ℕ → Heard} {b : ℕ → Account} → d ≡ c → t' ≡ t → l' ≡ l → p' ≡ p → Holds c t l p h b → Holds d t' l' p' h b
same x y z w s = rw (x, y, z, w) s

pub lives : {c : Connection} {t l p : List ℕ} {h : ℕ → Heard} (a : Lives c t l p h) → Holds c t l p h (accounts a)
lives (made s m) = begins s _ _ _ _ _ _ _ m (checked s) refl
lives (then {c = c} {t = t} {l = l} {p = p} before k d t' l' p' promised) =
    let f : Follows c t l p (step (abs_of c t l p) k) d t' l' p' = promised.steps refl (lives before).valid in
    record { valid = f.valid; told = rw f.after (story.then (lives before).told k); kept = rw f.after (books.then (lives before).kept k) }
lives (unsized {c = c} before k d t' l' p' promised) =
    let e : d ≡ _ = promised.wrong refl in
    let kept = promised.refuses (rw e refl) in
    same kept.0 kept.1 kept.2 kept.3 (lives before)
lives (ran {c = c} {t = t} {l = l} {p = p} before s o place allowance r t' l' p' o' runs) =
    let f : RanAs (runs_from c t l p s o place allowance) place o r t' l' p' o' = runs.steps refl (lives before).valid in
    let ks = reads (runs_from c t l p s o place allowance).applied s place.at in
    let m = steps (allowance - place.applied) (abs_of c t l p) s place.at place.applied (only (length o - place.put)) in
    let e = f.after ∙ m.after in
    record { valid = f.valid; told = rw e (goes_on (lives before).told ks); kept = rw e (keeps_on (lives before).kept ks) }
lives (unran before s o place allowance r t' l' p' o' runs) =
    let kept = runs.wrong refl in
    same (ap (λ (x : Report). x.connection) kept.0) kept.1 kept.2 kept.3 (lives before)

story_reach : {c : Conn} {h : ℕ → Heard} → Story c h → Reach c
story_reach (story.new s e) = reach.new s e
story_reach (story.then s k) = reach.then (story_reach s) k

reached : {c : Connection} {t l p : List ℕ} {h : ℕ → Heard} → Lives c t l p h → Reach (abs_of c t l p)
reached a = story_reach (lives a).told

pub growth : Growth
growth c t l p h a =
    let w = growth_is_within (abs_of c t l p) (reached a) in
    (growth_is_a_sum (abs_of c t l p) (reached a), w.0, w.1)

pub unread : Unread
unread c t l p h a i held =
    (unread_is_the_rest (abs_of c t l p) h (lives a).told i, (windows_are_within (abs_of c t l p) (reached a) i held).0)

pub given : Given
given c t l p h a false time i out sent d t' l' p' out' sent' promised outputs =
    let none : count_of d.answer.value ≡ 0 = ap (λ (x : Done). count_of x.answer.value) (promised.wrong refl) in
    rw none (rw none at outputs.past)
given c t l p h a true time i out sent d t' l' p' out' sent' promised outputs =
    let f : Follows c t l p (step (abs_of c t l p) (read time i (length out))) d t' l' p' = promised.steps refl (lives a).valid in
    let bytes = (step (abs_of c t l p) (read time i (length out))).outcome.bytes in
    outputs.bytes refl (lives a).valid
    ∙ ap (λ (b : List ℕ). b ++ drop (length bytes) out) (reads_give_the_next (abs_of c t l p) h (lives a).told time i (length out))
    ∙ ap (λ (n : ℕ). take n (drop (length (h i).given) (h i).taken) ++ drop n out) (sym (read_counted c t l p time i (length out) d t' l' p' f))

pub room : Room
room c t l p h a large time head body few false d t' l' p' promised full =
    let z : ◌≡◌ {A = ℕ} 14 8 = ap (λ (x : Done). replies.number x.answer.reply) (sym (promised.wrong refl)) ∙ ap replies.number full in omega arith
room c t l p h a large time head body few true d t' l' p' promised full =
    let f : Follows c t l p (step (abs_of c t l p) (frame time head body)) d t' l' p' = promised.steps refl (lives a).valid in
    room_for_m (abs_of c t l p) (reached a) time head body large few (sym f.says.reply ∙ full)

pub ledger : Ledger
ledger c t l p h a i held =
    let b = (lives a).kept in
    (credit_is_a_ledger (abs_of c t l p) (accounts a) b i held, sending_is_a_ledger (abs_of c t l p) (accounts a) b i held)

pub credit : Credit
credit c t l p h a =
    let b = (lives a).kept in
    (credit_is_within_the_limit (abs_of c t l p) (accounts a) b, credit_is_within_for_handles (abs_of c t l p) (accounts a) b)

pub table_credit : TableCredit
table_credit c t l p h a = credit_in_the_table (abs_of c t l p) (accounts a) (lives a).kept
