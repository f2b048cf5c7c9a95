-- One event: where it is not applied a run stops, and where it is, a run goes on after its line. Assumes nothing.
use Rattle.std.proofs.Common.{Option, Some, None, ◌≡◌, refl, sym, ap, ◌∙◌, List, ℕ, suc, ◌+◌, ◌-◌, ◌≤◌, ◌<◌, min, arith, length, take, length-take, take_all, eq-eqb, lt-ltb, le-ltb, Ok, Err}
use Rattle.frame.proofs.Wire.{length-wire}
use Rattle.frame.specs.Wire.{wire}
use Rattle.rules.specs.Replies.{Outcome}
use Rattle.rules.specs.State.{Conn}
use Rattle.rules.specs.Step.{step}
use Rattle.connection.specs.Abstract.{abs_of, Valid}
use Rattle.connection.specs.Promises.{Says, sent_after}
use Rattle.connection.specs.declared.Connection.{Connection}
use Rattle.connection.specs.declared.Done.{Done}
use Rattle.handlers.specs.declared.Answer.{Answer}
use Rattle.trace_events.specs.Format.{event_at}
use Rattle.trace_events.specs.Calls.{call, call_on, call_at, longest, Spans, Lies}
use Rattle.trace_events.specs.declared.Event.{Event}
use Rattle.trace_events.specs.declared.Kind.{Kind}
use Rattle.trace_events.specs.declared.Unreadable.{Unreadable}
use Rattle.trace_events.specs.declared.Unreadable.TheVariants.{Short, Bad}
use Rattle.trace_events.proofs.Inside.{event_in}
use Rattle.trace_lines.specs.Writing.{Stores, longest_line}
use Rattle.trace.specs.Runs.{Room, only, header_bytes, event_line, stopped, wrote, runs}
use Rattle.trace.specs.Applies.{bytes_read, Applies}
use Rattle.trace.specs.Turns.{header_size, shown_line, stop_of, Lacks, Goes}
use Rattle.trace.specs.declared.Stop.TheVariants as stop
use Rattle.frame.specs.declared.header.Header.{Header}

-- ---- no event

module _ (s : List ℕ) (at : ℕ) where
  pub none-halts : (why : Unreadable) → event_at s at ≡ Err why → (c : Conn) (k n : ℕ) (room : Room) → runs (suc k) c s at n room ≡ stopped c at (stop_of why)
  unfolding runs call_at
  none-halts Short h c k n room = rw h
  none-halts Bad h c k n room = rw h

  pub none-lacks : (why : Unreadable) → event_at s at ≡ Err why → (room put : ℕ) → Lacks (stop_of why) (length s) at room put
  none-lacks Short h room put = rw h at (event_in s at)
  none-lacks Bad h room put = tt

  -- ---- an event

  module _ (e : Event) (h : event_at s at ≡ Ok e) where
    called : call_at s at ≡ call (call_on s e) e.next
    unfolding call_at
    called = rw h

    pub lies : Spans s at (at + longest) e.next × Lies e.next e.kind
    lies = rw h at (event_in s at)

    pub full-halts : (left : ℕ) → left < longest_line → (c : Conn) (k n : ℕ) → runs (suc k) c s at n (only left) ≡ stopped c at stop.Full
    unfolding runs
    full-halts left l c k n = rw (called, lt-ltb left longest_line l)

    -- the run goes on after a line, where there was room for the longest
    went : (left : ℕ) → longest_line ≤ left → (a a' : Conn) (k n : ℕ) (line : List ℕ) (rest : ℕ) → line ≡ event_line (n + 1) (step a (call_on s e)).outcome
        → a' ≡ (step a (call_on s e)).after → left - length line ≡ rest → runs (suc k) a s at n (only left) ≡ wrote line (runs k a' s e.next (n + 1) (only rest))
    unfolding runs
    went left l a a' k n line rest i f g = rw (called, le-ltb left longest_line l, sym g, i, f)

-- ---- what a line shows

header_shown : (h : Option Header) (sent sent' : List ℕ) → length sent ≡ 12 → sent' ≡ sent_after h sent → take (header_size h) sent' ≡ header_bytes h
header_shown (Some h) sent sent' w e =
    let f : sent_after (Some h) sent ≡ wire h = rw (eq-eqb (length sent) 12 w) in
    ap (take 12) (e ∙ f) ∙ take_all 12 (wire h) (omega (arith, length-wire h))
header_shown None sent sent' w e = refl

bytes_shown : (n : ℕ) (bytes given : List ℕ) → take n bytes ≡ given → n ≡ length given → take (min n (length bytes)) bytes ≡ given
bytes_shown n bytes given e l =
    let m : min n (length bytes) ≡ n = sym (length-take n bytes) ∙ ap length e ∙ sym l in
    rw m e

line_shown : (number : ℕ) (k : Kind) (a : Answer) (sent' bytes' : List ℕ) (o : Outcome) → Says a o → take (header_size a.sent) sent' ≡ header_bytes o.header
    → take (min (bytes_read k a.value) (length bytes')) bytes' ≡ o.bytes → shown_line number k a sent' bytes' ≡ event_line number o
unfolding event_line
line_shown number k a sent' bytes' o says h b = rw (h, b, says.reply, says.slot, says.value, says.wakes)

module _ (c : Connection) (t l p sent s : List ℕ) (at number : ℕ) (o : List ℕ) (put : ℕ) (e : Event) (end : ℕ) (d : Done) (t' l' p' sent' bytes' o' : List ℕ)
    (h : event_at s at ≡ Ok e) (w : length sent ≡ 12) (room : longest_line ≤ length o - put)
    (a : Applies c t l p sent s e d t' l' p' sent' bytes') (written : Stores o put (shown_line number e.kind d.answer sent' bytes') o' end) (inside : end ≤ length o) where
  shown : Valid c t l p → shown_line number e.kind d.answer sent' bytes' ≡ event_line number (step (abs_of c t l p) (call_on s e)).outcome
  shown v =
      let x = a v w in
      line_shown number e.kind d.answer sent' bytes' _ x.follows.says
      (header_shown d.answer.sent sent sent' w x.header ∙ ap header_bytes x.follows.says.sent)
      (bytes_shown (bytes_read e.kind d.answer.value) bytes' _ x.bytes x.all)

  pub goes : Goes c t l p s at number o put d.connection e.next end t' l' p' o'
  goes = record {
    forward = (lies s at e h).0.0;
    reach = (lies s at e h).0.2;
    inside = (lies s at e h).0.1;
    written = omega (arith, written.next);
    room = inside;
    steps = λ v. record {
      line = shown_line number e.kind d.answer sent' bytes';
      valid = (a v w).follows.valid;
      goes = λ k n i.
          went s at e h (length o - put) room (abs_of c t l p) (abs_of d.connection t' l' p') k n (shown_line number e.kind d.answer sent' bytes') (length o - end)
          (shown v ∙ ap (λ (m : ℕ). event_line m (step (abs_of c t l p) (call_on s e)).outcome) (sym i))
          (a v w).follows.after (less-line (length o) put (length (shown_line number e.kind d.answer sent' bytes')) end written.next);
      ends = written.next;
      out = written.left;
    };
  }
    where
      less-line : (size put line end : ℕ) → end ≡ put + line → size - put - line ≡ size - end
      less-line size put line end e = omega (arith, e)
