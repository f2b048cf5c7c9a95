-- What the judgement of settings says of any ten numbers: the first wrong one in order is named, and none where every test holds. Assumes
-- nothing.
use Rattle.std.proofs.Common.{Result, Ok, Err, ◌≡◌, refl, sym, ap, subst, ◌∙◌, Bool, true, false, cond, List, [], ◌∷◌, ℕ, suc, ◌≤◌, ◌<◌, arith, eqb, ltb, leb, ltb-true, ltb-false}
use Rattle.rules.specs.Settings.{within, config_of, holds, setting_number, judged, in_order, checked_within, permitted, checked, FirstWrong}
use Rattle.rules.specs.declared.Settings.{Settings}
use Rattle.rules.specs.declared.Most.{Most}
use Rattle.rules.specs.declared.Config.{Config}
use Rattle.rules.specs.declared.Setting.{Setting}
use Rattle.rules.specs.declared.Setting.TheVariants as setting
use Rattle.rules.proofs.Lists.{never, both, split}

-- ---- the numbers

abbrev setting_at : ℕ → Setting
setting_at n =
    cond (eqb n 21) setting.Mode
    (cond (eqb n 22) setting.Streams
    (cond (eqb n 23) setting.Limit
    (cond (eqb n 24) setting.ReadAfterClose
    (cond (eqb n 25) setting.Split
    (cond (eqb n 26) setting.Interval
    (cond (eqb n 27) setting.FirstTime
    (cond (eqb n 28) setting.FirstId
    (cond (eqb n 29) setting.Slots
    setting.Pool))))))))

its_own : (w : Setting) → setting_at (setting_number w) ≡ w
its_own setting.Mode = refl
its_own setting.Streams = refl
its_own setting.Limit = refl
its_own setting.ReadAfterClose = refl
its_own setting.Split = refl
its_own setting.Interval = refl
its_own setting.FirstTime = refl
its_own setting.FirstId = refl
its_own setting.Slots = refl
its_own setting.Pool = refl

-- no two settings have one number
pub numbers_apart : (v w : Setting) → setting_number v ≡ setting_number w → v ≡ w
numbers_apart v w e = sym (its_own v) ∙ ap setting_at e ∙ its_own w

-- and none has one of 0 to 20
pub numbers_beyond : (w : Setting) → (20 < setting_number w) × (setting_number w < 31)
numbers_beyond setting.Mode = (omega arith, omega arith)
numbers_beyond setting.Streams = (omega arith, omega arith)
numbers_beyond setting.Limit = (omega arith, omega arith)
numbers_beyond setting.ReadAfterClose = (omega arith, omega arith)
numbers_beyond setting.Split = (omega arith, omega arith)
numbers_beyond setting.Interval = (omega arith, omega arith)
numbers_beyond setting.FirstTime = (omega arith, omega arith)
numbers_beyond setting.FirstId = (omega arith, omega arith)
numbers_beyond setting.Slots = (omega arith, omega arith)
numbers_beyond setting.Pool = (omega arith, omega arith)

-- ---- the first wrong one

-- these settings are numbered one after another, from n to the last number
abbrev Numbered : ℕ → List Setting → Type 0
Numbered n [] = n ≡ 31
Numbered n (w ∷ ws) = (setting_number w ≡ n) × Numbered (suc n) ws

numbered : Numbered 21 in_order
numbered = (refl, (refl, (refl, (refl, (refl, (refl, (refl, (refl, (refl, (refl, refl))))))))))

module _ (ok : Setting → Bool) where
  abbrev Before : ℕ → Type 0
  Before n = (v : Setting) → setting_number v < n → ok v ≡ true

  one_more : (n : ℕ) (w : Setting) → setting_number w ≡ n → ok w ≡ true → Before n → Before (suc n)
  one_more n w e h before v l = go (ltb (setting_number v) n) refl
    where
      go : (b : Bool) → ltb (setting_number v) n ≡ b → ok v ≡ true
      go true q = before v (ltb-true (setting_number v) n q)
      go false q = let f : setting_number v ≡ setting_number w = omega (arith, e, l, ltb-false (setting_number v) n q) in ap ok (numbers_apart v w f) ∙ h

  lowest : (n : ℕ) (w : Setting) → setting_number w ≡ n → ok w ≡ false → Before n → FirstWrong ok w
  lowest n w e h before = record { fails = h; least = λ v f. go v f (ltb (setting_number v) n) refl }
    where
      go : (v : Setting) → ok v ≡ false → (b : Bool) → ltb (setting_number v) n ≡ b → setting_number w ≤ setting_number v
      go v f true q = never (sym (before v (ltb-true (setting_number v) n q)) ∙ f)
      go v f false q = omega (arith, e, ltb-false (setting_number v) n q)

  -- what an answer says of the tests
  abbrev Says : Config → Result Config Setting → Type 0
  Says k (Err w) = FirstWrong ok w
  Says k (Ok c) = ((v : Setting) → ok v ≡ true) × (c ≡ k)

  says : (n : ℕ) (ws : List Setting) (k : Config) → Numbered n ws → Before n → Says k (judged ok ws (Ok k))
  says n [] k e before = (λ v. before v (omega (arith, e, (numbers_beyond v).1)), refl)
  says n (w ∷ ws) k e before =
      split (Says k) (ok w) (λ h. says (suc n) ws k e.1 (one_more n w e.0 h before)) (λ h. lowest n w e.0 h before)

module _ (m : Most) (s : Settings) where
  told : Says (holds m s) (config_of s) (checked_within m s)
  told = says (holds m s) 21 in_order (config_of s) numbered (λ v l. absurd (omega (arith, l, (numbers_beyond v).0)))

  -- The setting that is named is the first wrong one.
  pub first-wrong : (w : Setting) → checked_within m s ≡ Err w → FirstWrong (holds m s) w
  first-wrong w e = subst (Says (holds m s) (config_of s)) e told

  -- Where settings are accepted every test holds, and they are used as they are.
  pub all_hold : (k : Config) → checked_within m s ≡ Ok k → ((v : Setting) → holds m s v ≡ true) × (k ≡ config_of s)
  all_hold k e = subst (Says (holds m s) (config_of s)) e told

  -- The first wrong one is named, whatever else is wrong.
  pub wrong-named : (w : Setting) → FirstWrong (holds m s) w → checked_within m s ≡ Err w
  wrong-named w f = go (checked_within m s) refl
    where
      go : (c : Result Config Setting) → checked_within m s ≡ c → checked_within m s ≡ Err w
      go (Ok k) e = never (sym ((all_hold k e).0 w) ∙ f.fails)
      go (Err x) e =
          let g = first-wrong x e in
          let same : setting_number x ≡ setting_number w = omega (arith, g.least w f.fails, f.least x g.fails) in
          e ∙ ap Err (numbers_apart x w same)

  -- Where every test holds none is named.
  pub none_named : ((v : Setting) → holds m s v ≡ true) → checked_within m s ≡ Ok (config_of s)
  none_named h = go in_order
    where
      go : (ws : List Setting) → judged (holds m s) ws (Ok (config_of s)) ≡ Ok (config_of s)
      go [] = refl
      go (w ∷ ws) = rw (h w) (go ws)

  -- what a program permits, every connection does
  permits-all : ((v : Setting) → holds m s v ≡ true) → (v : Setting) → holds permitted s v ≡ true
  permits-all h setting.Mode = h setting.Mode
  permits-all h setting.Streams = h setting.Streams
  permits-all h setting.Limit = h setting.Limit
  permits-all h setting.ReadAfterClose = h setting.ReadAfterClose
  permits-all h setting.Split = h setting.Split
  permits-all h setting.Interval = h setting.Interval
  permits-all h setting.FirstTime = h setting.FirstTime
  permits-all h setting.FirstId = h setting.FirstId
  permits-all h setting.Slots =
      let a = both (within 1 1024 s.slots) _ (h setting.Slots) in
      let b = both (leb 1 s.slots) (leb s.slots 1024) a.0 in
      let c = both (leb s.max_num_streams s.slots) _ a.1 in
      rw (b.0, b.1, c.0)
  permits-all h setting.Pool = let a = both (leb s.pool 4294967295) _ (h setting.Pool) in rw a.0

pub permitted_too : (m : Most) (s : Settings) (k : Config) → checked_within m s ≡ Ok k → checked s ≡ Ok k
permitted_too m s k e = let a = all_hold m s k e in rw a.1 (none_named permitted s (permits-all m s a.0))
