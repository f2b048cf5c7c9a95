-- What ending leaves of a valid connection. Assumes nothing.
use Rattle.std.proofs.Common.{◌≡◌, refl, sym, ap, ◌∙◌, true, false, List, map, ℕ}
use lib.ListN.{get_or-map}
use Rattle.rules.specs.State.{Entry, entry, vacant}
use Rattle.rules.specs.Ending.{end, end_entry}
use Rattle.rules.specs.declared.Mode.{Mode}
use Rattle.rules.specs.declared.Reply.{Reply}
use Rattle.memory.specs.Moves.{Ends}
use Rattle.memory.specs.Slots.{slots_of}
use Rattle.memory.specs.declared.Memory.{Memory}
use Rattle.rules.proofs.Lists.{never}
use Rattle.connection.specs.Abstract.{abs_of, Valid}
use Rattle.connection.specs.Parts.{rebuilt, answered}
use Rattle.connection.specs.Promises.{bare_answer, Follows, Over}
use Rattle.connection.specs.declared.Connection.{Connection}
use Rattle.connection.specs.declared.Done.{Done}
use Rattle.connection.proofs.Ids.{Below}
use Rattle.connection.proofs.Moving.{becomes-follows}

-- a slot of an ended connection
pub entry-ended : (es : List Entry) (i : ℕ) → entry (map end_entry es) i ≡ end_entry (entry es i)
entry-ended es i = get_or-map end_entry es i vacant

-- nothing is in the table
none_below : (mode : Mode) (n : ℕ) (es : List Entry) → Below mode n (map end_entry es)
none_below mode n es i h o = never (sym h ∙ ap (λ (x : Entry). x.listed) (entry-ended es i))

module _ (c : Connection) (t : List ℕ) (m : Memory) (t' : List ℕ) (e : Ends c.memory t m t') (r : Reply) where
  abbrev d : Done
  d = answered (rebuilt c c.rtt true c.next_id false c.growth m) (bare_answer r true)

  end-follows : (l p : List ℕ) → Valid c t l p → Follows c t l p (end (abs_of c t l p) r) d t' l p
  end-follows l p v =
      becomes-follows c t l p m (map end_entry (slots_of c.memory t l p)) t' l p (e l p v.memory) c.rtt true c.next_id false c.growth
      v.fresh.parity (none_below c.config.mode c.next_id (slots_of c.memory t l p)) (bare_answer r true) _
      (record { reply = refl; slot = refl; value = refl; sent = refl; wakes = refl })

  pub end-handles : Over c t r (answered (rebuilt c c.rtt true c.next_id false c.growth m) (bare_answer r true)) t'
  end-handles l p goes = record {
    steps = end-follows l p;
    refuses = λ x. never (sym x ∙ goes);
    silent = λ x. refl;
  }
