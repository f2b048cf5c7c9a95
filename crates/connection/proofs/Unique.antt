-- Two outcomes that meet one call's promise are the same. Assumes nothing.
use Rattle.std.proofs.Common.{◌≡◌, sym, ap, ◌∙◌, Bool, true, List, ℕ, ◌<◌}
use Rattle.rules.specs.Ending.{Effect}
use Rattle.rules.specs.Replies.{Outcome, leaves_all}
use Rattle.rules.specs.State.{Conn}
use Rattle.rules.specs.Step.{Call, step}
use Rattle.handlers.specs.declared.Answer.{Answer}
use Rattle.table.specs.Table.{row_at}
use Rattle.memory.specs.Moves.{Advances}
use Rattle.memory.specs.Slots.{slots_of}
use Rattle.memory.specs.Unique as memory
use Rattle.memory.specs.declared.Memory.{Memory}
use Rattle.memory.proofs.Unique as memories
use Rattle.connection.specs.Abstract.{abs_of, Valid}
use Rattle.connection.specs.Promises.{sent_after, Says, Follows, Promised}
use Rattle.connection.specs.Unique.{with_head, Alike, Same, Equal, Unique}
use Rattle.connection.specs.declared.Connection.{Connection}
use Rattle.connection.specs.declared.Done.{Done}

answers_same : (a b : Answer) (o : Outcome) → Says a o → Says b o → a ≡ b
answers_same a b o x y = λ i. record {
  reply = (x.reply ∙ sym y.reply) i;
  slot = (x.slot ∙ sym y.slot) i;
  value = (x.value ∙ sym y.value) i;
  sent = (x.sent ∙ sym y.sent) i;
  wakes = (x.wakes ∙ sym y.wakes) i;
}

-- ---- connections of one state

module _ (c : Connection) (t l p : List ℕ) (v : Valid c t l p) (c' : Connection) (t' l' p' : List ℕ) (v' : Valid c' t' l' p')
    (same : abs_of c t l p ≡ abs_of c' t' l' p') where
  pools : c.memory.pool ≡ c'.memory.pool
  pools = ap (λ (x : Conn). x.config.pool) same

  slots : slots_of c.memory t l p ≡ slots_of c'.memory t' l' p'
  slots = ap (λ (x : Conn). x.slots) same

  fields-same : memory.Alike c.memory t l p c'.memory t' l' p' → (b : ℕ) → with_head c b ≡ with_head c' b
  fields-same m b = λ i. record {
    config = record {
      mode = (same i).config.mode;
      max_num_streams = (same i).config.max_num_streams;
      limit = (same i).config.limit;
      read_after_close = (same i).config.read_after_close;
      split = (same i).config.split;
      interval = (same i).config.interval;
      first_time = (same i).config.first_time;
      first_id = (same i).config.first_id;
    };
    rtt = (same i).pings;
    ended = (same i).ended;
    next_id = (same i).next_id;
    open_wait = (same i).open_wait;
    growth = (same i).growth;
    memory = record { slots = m.slots i; pool = m.pool i; free = record { head = b; count = m.free i }; listed = m.listed i; unread = m.unread i };
  }

  -- whose queues start alike
  pub alike : ((i : ℕ) → i < c.memory.slots → (row_at t c.memory.slots i).queue.from ≡ (row_at t' c'.memory.slots i).queue.from) → Alike c t l p c' t' l' p'
  alike from =
      let m = memories.alike c.memory t l p v.memory c'.memory t' l' p' v'.memory pools slots from in
      record { state = same; fields = fields-same m; memory = m }

  -- from one memory and table
  advanced-alike : (m : Memory) (t₀ : List ℕ) → Advances m t₀ c.memory t → Advances m t₀ c'.memory t' → Alike c t l p c' t' l' p'
  advanced-alike m t₀ x y = alike (memories.from-same c.memory t l p v.memory c'.memory t' l' p' v'.memory pools slots m t₀ x y)

-- ---- outcomes of one rule

module _ (c : Connection) (t l p : List ℕ) (rule : Effect) (d : Done) (t₁ l₁ p₁ : List ℕ) (e : Done) (t₂ l₂ p₂ : List ℕ) where
  follows_same : Follows c t l p rule d t₁ l₁ p₁ → Follows c t l p rule e t₂ l₂ p₂ → Same d t₁ l₁ p₁ e t₂ l₂ p₂
  follows_same x y = record {
    answer = answers_same d.answer e.answer rule.outcome x.says y.says;
    alike =
        advanced-alike d.connection t₁ l₁ p₁ x.valid e.connection t₂ l₂ p₂ y.valid (x.after ∙ sym y.after) c.memory t
        x.advances y.advances;
  }

-- ---- outcomes of one call

module _ (sized : Bool) (c : Connection) (t l p : List ℕ) (call : Call) (d : Done) (t₁ l₁ p₁ : List ℕ) (e : Done) (t₂ l₂ p₂ : List ℕ)
    (x : Promised sized c t l p call d t₁ l₁ p₁) (y : Promised sized c t l p call e t₂ l₂ p₂) where
  -- what both leave as it was
  left : d.answer ≡ e.answer → leaves_all d.answer.reply ≡ true → Equal d t₁ l₁ p₁ e t₂ l₂ p₂
  left answer q =
      let a = x.refuses q in
      let b = y.refuses (rw answer at q) in
      record { done = λ i. record { connection = (a.0 ∙ sym b.0) i; answer = answer i }; table = a.1 ∙ sym b.1; links = a.2 ∙ sym b.2; pool = a.3 ∙ sym b.3 }

  steps : sized ≡ true → Valid c t l p → Same d t₁ l₁ p₁ e t₂ l₂ p₂
  steps s v = follows_same c t l p (step (abs_of c t l p) call) d t₁ l₁ p₁ e t₂ l₂ p₂ (x.steps s v) (y.steps s v)

  pub unique : Unique sized c t l p d t₁ l₁ p₁ e t₂ l₂ p₂
  unique = record {
    steps = steps;
    refuses = λ s v q. left (steps s v).answer q;
    wrong = λ w.
        let z : d ≡ e = x.wrong w ∙ sym (y.wrong w) in
        left (ap (λ (r : Done). r.answer) z) (rw (x.wrong w));
  }

-- ---- lent output

-- one answer gives one header
pub header_unique : (d e : Done) (s s₁ s₂ : List ℕ) → d.answer ≡ e.answer → s₁ ≡ sent_after d.answer.sent s → s₂ ≡ sent_after e.answer.sent s → s₁ ≡ s₂
header_unique d e s s₁ s₂ same x y = x ∙ ap (λ (a : Answer). sent_after a.sent s) same ∙ sym y
