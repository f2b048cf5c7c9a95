-- Accepted settings are in range, nothing is in a new table, and the number of a new connection says why there is none. Assumes nothing.
use Rattle.std.proofs.Common.{Result, Ok, Err, ◌≡◌, refl, sym, ap, ◌∙◌, Bool, true, false, cond, List, ℕ, zero, suc, arith, leb-true, leb, length, replicate}
use Rattle.rules.specs.Settings.{within, config_of, holds, setting_number, permitted, checked}
use Rattle.rules.specs.State.{entry, vacant}
use Rattle.rules.specs.declared.Settings.{Settings}
use Rattle.rules.specs.declared.Setting.{Setting}
use Rattle.rules.specs.declared.Setting.TheVariants as setting
use Rattle.rules.specs.declared.Config.{Config}
use Rattle.rules.proofs.Judging.{numbers_beyond, all_hold, wrong-named, none_named}
use Rattle.rules.proofs.Lists.{never, both, split}
use Rattle.connection_open.specs.Start.{number, sized, Begins, Ranged, Lays, Creates, Numbers}
use Rattle.connection_open.specs.declared.NotCreated.{NotCreated}
use Rattle.connection_open.specs.declared.NotCreated.TheVariants.{Size}
use Rattle.connection.specs.declared.Connection.{Connection}

-- ---- accepted settings are in range

pub fine_ranged : (s : Settings) (k : Config) → checked s ≡ Ok k → Ranged k
fine_ranged s k e =
    let ok = all_hold permitted s k e in
    let n = both (within 1 1024 s.slots) _ (ok.0 setting.Slots) in
    let w = both (leb 1 s.slots) (leb s.slots 1024) n.0 in
    let p = both (leb s.pool 4294967295) _ (ok.0 setting.Pool) in
    let low = leb-true 1 s.slots w.0 in
    let high = leb-true s.slots 1024 w.1 in
    let pool = leb-true s.pool 4294967295 p.0 in
    rw ok.1 (record { some = low; most = high; pooled = omega arith })

-- ---- nothing is in the table yet

pub entry-replicate : (n i : ℕ) → entry (replicate n vacant) i ≡ vacant
entry-replicate zero i = refl
entry-replicate (suc n) zero = refl
entry-replicate (suc n) (suc i) = entry-replicate n i

module _ (k : Config) (t l p : List ℕ) where
  pub wrong_size : sized k (length t) (length l) (length p) ≡ false → Lays k t l p (Err Size) t l p
  wrong_size e = record { sizes = λ h. (refl, refl, refl); made = λ h r. never (sym h ∙ e); pool = refl }

-- ---- the number

module _ (s : Settings) (t l p : List ℕ) (r : Result Connection NotCreated) (t' l' p' : List ℕ) (k : Creates s t l p r t' l' p') where
  made-number : (c : Config) (x : Result Connection NotCreated) → Begins c x t' l' p' → number x ≡ 0
  made-number c (Ok d) b = refl
  made-number c (Err e) b = absurd b

  sizes-number : ((w : Setting) → holds permitted s w ≡ true) → number r ≡ cond (sized (config_of s) (length t) (length l) (length p)) 0 14
  sizes-number h =
      let e = none_named permitted s h in
      split (λ n. number r ≡ n) (sized (config_of s) (length t) (length l) (length p)) (λ b. made-number _ r (k.made _ e b)) (λ b. ap number (k.sizes _ e b).0)

  all_held : number r ≡ 14 → (c : Result Config Setting) → checked s ≡ c → (w : Setting) → holds permitted s w ≡ true
  all_held n (Err v) e = let q : setting_number v ≡ 14 = sym (ap number (k.wrong v e).0) ∙ n in absurd (omega (arith, q, (numbers_beyond v).0))
  all_held n (Ok c) e = (all_hold permitted s c e).0

  only-size : (b : Bool) → ◌≡◌ {A = ℕ} (cond b 0 14) 14 → b ≡ false
  only-size true e = absurd (omega (arith, e))
  only-size false e = refl

  pub new-numbers : Numbers s t l p r
  new-numbers = record {
    wrong = λ w f. ap number (k.wrong w (wrong-named permitted s w f)).0;
    fine = sizes-number;
    size = λ n. let h = all_held n (checked s) refl in (h, only-size (sized (config_of s) (length t) (length l) (length p)) (sym (sizes-number h) ∙ n));
  }
