-- The bytes that a read's step draws from a valid connection. Assumes nothing.
use Rattle.std.proofs.Common.{Option, Some, None, unwrap_or, ◌≡◌, refl, sym, ◌∙◌, true, List, [], ◌++◌, append-nil, ℕ, min, ◌≤◌, arith, length, take, drop, set, drop_of_length-le, length-take-le, drop_at}
use Rattle.rules.specs.Replies.{count_of, may_give}
use Rattle.rules.specs.State.{Entry, entry}
use Rattle.table.specs.declared.row.Row.{Row}
use Rattle.handlers.specs.Locals.{perform_read}
use Rattle.handlers.specs.declared.ReadStep.{ReadStep}
use Rattle.memory.specs.Moves.{held, Drained, Drains}
use Rattle.memory.specs.Slots.{slots_of}
use Rattle.memory.specs.declared.Memory.{Memory}
use Rattle.rules.proofs.Lists.{never}
use Rattle.connection.specs.Abstract.{abs_of, Valid}
use Rattle.connection.specs.Parts.{rebuilt, answered}
use Rattle.connection.specs.Promises.{Follows}
use Rattle.connection.specs.declared.Connection.{Connection}
use Rattle.connection.specs.declared.Done.{Done}
use Rattle.connection.proofs.Promises.{acted}
use Rattle.connection.proofs.Moving.{becomes-follows}
use Rattle.connection.proofs.Ids.{below_replaced}
use Rattle.connection_read.specs.Promises.{Reads, Draws}

-- the value counts itself, and none counts 0
pub counts : (v : Option ℕ) → unwrap_or v 0 ≡ count_of v
counts (Some n) = refl
counts None = refl

-- the connection with the step's growth and this memory, and what the step answers
abbrev pub taken : Connection → ReadStep → Memory → Done
taken c s m = answered (rebuilt c c.rtt c.ended c.next_id c.open_wait s.growth m) s.answer

-- n bytes at most are there on either side, so all n are drawn
all_drawn : (n a b : ℕ) → a ≡ n → n ≤ b → min a b ≡ n
all_drawn n a b e h = omega arith

module _ (c : Connection) (t l p : List ℕ) (i : ℕ) (s : ReadStep) (m' : Memory) (t' l' : List ℕ) where
  abbrev es : List Entry
  es = slots_of c.memory t l p

  abbrev x : Entry
  x = entry es i

  abbrev count : ℕ
  count = count_of s.answer.value

  drawn-follows : (v : Valid c t l p) (row : Row) (w : Draws c t l p i row s) (out out' : List ℕ) → Drained c.memory t l p i s.stream out count m' t' l' out'
      → Follows c t l p (perform_read (abs_of c t l p) (record { 0 = i }) x s) (taken c s m') t' l' p
  unfolding perform_read
  drawn-follows v row w out out' d =
      rw w.follows.held
      (becomes-follows c t l p m' (set es i (held s.stream x.listed (drop count x.bytes))) t' l' p d.moved
      c.rtt c.ended c.next_id c.open_wait s.growth v.fresh.parity
      (below_replaced c.config.mode c.next_id es i s.stream x.listed (drop count x.bytes) w.follows v.fresh.below)
      s.answer _ (record { reply = refl; slot = refl; value = refl; sent = refl; wakes = refl }))

  pub take-reads : (row : Row) → may_give s.answer.reply ≡ true → (Valid c t l p → Draws c t l p i row s)
      → (out : List ℕ) → count ≤ length out → (o : List ℕ) → length o ≡ length (take count out)
      → Drains c.memory t l p i row s.stream (take count out) m' t' l' o
      → Reads (λ y. perform_read y (record { 0 = i }) (entry y.slots i) s) c t l p out (taken c s m') t' l' (o ++ drop count out)
  unfolding perform_read
  take-reads row gives draws out room o same drains = record {
    handles = acted c t l p (λ y. perform_read y (record { 0 = i }) (entry y.slots i) s) (taken c s m') t' l' p gives
        (λ v. drawn-follows v row (draws v) (take count out) o (drained v));
    bytes = λ v.
        let none : drop count (take count out) ≡ [] = drop_of_length-le (take count out) {i = count} (omega (arith, front)) in
        rw ((drained v).gave, none, append-nil, length-take-le count x.bytes (draws v).unread);
    within = room;
    past = drop_at o (drop count out) count (same ∙ front);
    quiet = λ e. never (sym gives ∙ e);
  }
    where
      front : length (take count out) ≡ count
      front = length-take-le count out room

      drained : Valid c t l p → Drained c.memory t l p i s.stream (take count out) count m' t' l' o
      drained v =
          let w = draws v in
          rw (all_drawn count (length (take count out)) (length x.bytes) front w.unread) at (drains w.loaded v.memory w.below w.follows)
