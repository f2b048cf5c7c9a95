-- Settings from a longer part are the same, and where they lie. Assumes nothing.
use Rattle.std.proofs.Common.{Err, refl, inr, List, ◌++◌, ℕ, ◌+◌, ◌≤◌, arith}
use Rattle.trace_events.specs.Numbers.{Reading, ◌>>=◌, number_at}
use Rattle.trace_events.specs.Format.{settings_at}
use Rattle.trace_events.specs.Calls.{Spans, PreambleIn}
use Rattle.trace_events.proofs.Inside.{number-then}
use Rattle.trace_events.proofs.More.{Settles, number-then_more}
use Rattle.trace_events.specs.declared.Number.{Number}
use Rattle.trace_events.specs.declared.Preamble.{Preamble}
use Rattle.trace_events.specs.declared.Unreadable.TheVariants.{Short}

-- settings that are read, or unreadable, stay so whatever comes after
pub settings-more : (s m : List ℕ) → Settles (Err Short) (settings_at s) (settings_at (s ++ m))
unfolding settings_at
settings-more s m =
    number-then_more s m 0 _ _
    (λ mode. number-then_more s m mode.next _ _
    (λ streams. number-then_more s m streams.next _ _
    (λ limit. number-then_more s m limit.next _ _
    (λ after-close. number-then_more s m after-close.next _ _
    (λ split. number-then_more s m split.next _ _
    (λ interval. number-then_more s m interval.next _ _
    (λ first-time. number-then_more s m first-time.next _ _
    (λ first-id. number-then_more s m first-id.next _ _
    (λ slots. number-then_more s m slots.next _ _ (λ pool. inr refl))))))))))

-- what follows a number that is read below the first j bytes, of ten numbers of ten groups at most
next-in : (s : List ℕ) (j at : ℕ) (f : Number → Reading Preamble) → j ≤ 90 → at ≤ j
    → ((n : Number) → Spans s 0 (j + 10) n.next → PreambleIn s (f n)) → PreambleIn s (number_at s at >>= f)
next-in s j at f l h g = number-then s 100 (λ (p : Preamble). Spans s 0 100 p.next) at f (omega arith) (λ n i. g n (omega arith, i.1, omega arith))

pub settings_in : (s : List ℕ) → PreambleIn s (settings_at s)
unfolding settings_at
settings_in s =
    next-in s 0 0 _ (omega arith) (omega arith)
    (λ mode a. next-in s 10 mode.next _ (omega arith) a.2
    (λ streams b. next-in s 20 streams.next _ (omega arith) b.2
    (λ limit c. next-in s 30 limit.next _ (omega arith) c.2
    (λ after-close d. next-in s 40 after-close.next _ (omega arith) d.2
    (λ split e. next-in s 50 split.next _ (omega arith) e.2
    (λ interval f. next-in s 60 interval.next _ (omega arith) f.2
    (λ first-time g. next-in s 70 first-time.next _ (omega arith) g.2
    (λ first-id h. next-in s 80 first-id.next _ (omega arith) h.2
    (λ slots i. next-in s 90 slots.next _ (omega arith) i.2 (λ pool j. j))))))))))
