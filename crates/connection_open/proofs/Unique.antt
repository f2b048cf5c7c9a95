-- Two results that meet the promise of a new connection are the same. Assumes nothing.
use Rattle.std.proofs.Common.{Result, Ok, Err, ◌≡◌, refl, sym, ap, ◌∙◌, Bool, true, false, List, ℕ, ◌<◌, arith, length}
use Rattle.chunks.specs.declared.Queue.{Queue}
use Rattle.rules.specs.Settings.{checked}
use Rattle.rules.specs.State.{Entry, Conn, entry, vacant}
use Rattle.rules.specs.declared.Config.{Config}
use Rattle.rules.specs.declared.Settings.{Settings}
use Rattle.table.specs.Table.{row_at}
use Rattle.memory.proofs.Laws.{entry-held, counts_unique}
use Rattle.connection.specs.Abstract.{abs_of}
use Rattle.connection.specs.Unique.{Alike}
use Rattle.connection.proofs.Unique.{alike}
use Rattle.connection.specs.declared.Connection.{Connection}
use Rattle.connection_open.specs.Start.{sized, Begins, Creates}
use Rattle.connection_open.specs.Unique.{Same}
use Rattle.connection_open.specs.declared.NotCreated.{NotCreated}
use Rattle.connection_open.proofs.Starting.{entry-replicate}
use Rattle.rules.specs.declared.Setting.{Setting}

-- a new connection's queues have no block
no_queue : (k : Config) (c : Connection) (t l p : List ℕ) → Begins k (Ok c) t l p → (i : ℕ) → i < c.memory.slots → (row_at t c.memory.slots i).queue.from ≡ 0
no_queue k c t l p b i h =
    let e : entry (abs_of c t l p).slots i ≡ vacant = ap (λ (x : Conn). entry x.slots i) b.1 ∙ entry-replicate k.slots i in
    let free = sym (entry-held c.memory t l p b.0.memory i h) ∙ ap (λ (x : Entry). x.held) e in
    ap (λ (q : Queue). q.from) (b.0.memory.idle i h free)

made_alike : (k : Config) (c : Connection) (t l p : List ℕ) → Begins k (Ok c) t l p → (c' : Connection) (t' l' p' : List ℕ) → Begins k (Ok c') t' l' p'
    → Alike c t l p c' t' l' p'
made_alike k c t l p b c' t' l' p' b' =
    let same = b.1 ∙ sym b'.1 in
    let slots = (counts_unique c.memory t l p b.0.memory c'.memory t' l' p' b'.0.memory (ap (λ (x : Conn). x.slots) same)).0 in
    alike c t l p b.0 c' t' l' p' b'.0 same (λ i h. no_queue k c t l p b i h ∙ sym (no_queue k c' t' l' p' b' i (omega (arith, slots))))

made_same : (k : Config) (t l p : List ℕ) (r : Result Connection NotCreated) → Begins k r t l p → (t' l' p' : List ℕ) (r' : Result Connection NotCreated) → Begins k r' t' l' p' → Same r t l p r' t' l' p'
made_same k t l p (Ok c) b t' l' p' (Ok c') b' = made_alike k c t l p b c' t' l' p' b'
made_same k t l p (Ok c) b t' l' p' (Err e) b' = b'
made_same k t l p (Err e) b t' l' p' r' b' = absurd b

module _ (s : Settings) (t l p : List ℕ) (r : Result Connection NotCreated) (t₁ l₁ p₁ : List ℕ) (r' : Result Connection NotCreated) (t₂ l₂ p₂ : List ℕ)
    (x : Creates s t l p r t₁ l₁ p₁) (y : Creates s t l p r' t₂ l₂ p₂) where
  pools : p₁ ≡ p₂
  pools = x.pool ∙ sym y.pool

  fine : (k : Config) → checked s ≡ Ok k → (b : Bool) → sized k (length t) (length l) (length p) ≡ b → Same r t₁ l₁ p₁ r' t₂ l₂ p₂
  fine k e true h = made_same k t₁ l₁ p₁ r (x.made k e h) t₂ l₂ p₂ r' (y.made k e h)
  fine k e false h =
      let a = x.sizes k e h in
      let b = y.sizes k e h in
      rw a.0 (record { created = sym b.0; table = a.1 ∙ sym b.1; links = a.2 ∙ sym b.2; pool = pools })

  by-settings : (c : Result Config Setting) → checked s ≡ c → Same r t₁ l₁ p₁ r' t₂ l₂ p₂
  by-settings (Ok k) e = fine k e (sized k (length t) (length l) (length p)) refl
  by-settings (Err w) e =
      let a = x.wrong w e in
      let b = y.wrong w e in
      rw a.0 (record { created = sym b.0; table = a.1 ∙ sym b.1; links = a.2 ∙ sym b.2; pool = pools })

  pub new-unique : Same r t₁ l₁ p₁ r' t₂ l₂ p₂
  new-unique = by-settings (checked s) refl
