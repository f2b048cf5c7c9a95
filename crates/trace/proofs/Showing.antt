-- With room for the longest line a line is written, inside the room. Assumes nothing.
use Rattle.std.proofs.Common.{Option, Some, None, unwrap_or, ◌≡◌, sym, ap, subst, ◌∙◌, List, append_assoc, ℕ, ◌+◌, ◌-◌, ◌≤◌, min, arith, length, take, drop, length-append, length-take, length-drop, length-take-le}
use Rattle.std.proofs.lemmas.List.Edits.{sets-eq}
use Rattle.handlers.specs.declared.Answer.{Answer}
use Rattle.trace_events.specs.declared.Kind.{Kind}
use Rattle.trace_lines.specs.Writing.{Stores, Writes, placed, line_room, longest_line}
use Rattle.trace_lines.proofs.Laws.{line_written}
use Rattle.trace.specs.Applies.{bytes_read}
use Rattle.trace.specs.Turns.{header_size, shown_line}
use Rattle.frame.specs.declared.header.Header.{Header}

-- what is placed in a room without changing its length fits into it
placed-fits : (o : List ℕ) (at : ℕ) (text : List ℕ) → at ≤ length o → length (placed o at text) ≡ length o → at + length text ≤ length o
placed-fits o at text h e =
    let f : length (placed o at text) ≡ at + (length text + (length o - (at + length text))) = rw (length-append, length-append, length-take-le at o h, length-drop) in
    omega (arith, f, e)

end_is : (a b : ℕ) → Some a ≡ Some b → a ≡ b
end_is a b e = cc

abbrev IsFull : Option ℕ → Type 0
IsFull None = Unit {0}
IsFull (Some e) = ⊥

header_most : (s : Option Header) → header_size s ≤ 12
header_most (Some h) = omega arith
header_most None = omega arith

module _ (k : Kind) (a : Answer) (sent bytes : List ℕ) (number : ℕ) (o : List ℕ) (put : ℕ) (o' : List ℕ)
    (h : length sent ≡ 12) (b : length bytes ≡ 16384) (room : put + longest_line ≤ length o) where
  abbrev Writ : Option ℕ → Type 0
  Writ r =
      Writes (line_room (length (take (header_size a.sent) sent)) (length (take (min (bytes_read k a.value) (length bytes)) bytes)))
      o put (shown_line number k a sent bytes) o' r

  written : (r : Option ℕ) → Writ r → (r ≡ Some (put + length (shown_line number k a sent bytes))) × (o' ≡ placed o put (shown_line number k a sent bytes))
  written r w =
      let m : header_size a.sent ≤ 12 = header_most a.sent in
      line_written (length (take (header_size a.sent) sent)) (length (take (min (bytes_read k a.value) (length bytes)) bytes))
      (rw length-take (omega (arith, m, h))) (rw length-take (omega (arith, b))) room w

  pub never-full : Writ None → ⊥
  never-full w = subst IsFull (written None w).0 tt

  ends : (end : ℕ) → Writ (Some end) → length o' ≡ length o → Stores o put (shown_line number k a sent bytes) o' end × (end ≤ length o)
  ends end w e = go (shown_line number k a sent bytes) (end_is _ _ (written (Some end) w).0) (written (Some end) w).1
    where
      go : (text : List ℕ) → end ≡ put + length text → o' ≡ placed o put text → Stores o put text o' end × (end ≤ length o)
      go text n q =
          let f : put + length text ≤ length o = placed-fits o put text (omega (arith, room)) (ap length (sym q) ∙ e) in (
            record { next = n; left = q ∙ sym (sets-eq text o put f ∙ append_assoc (take put o) text (drop (put + length text) o)); size = e },
            omega (arith, n, f),
          )

  -- the place after the line; there is always room
  pub shows : (r : Option ℕ) → Writ r → length o' ≡ length o → Stores o put (shown_line number k a sent bytes) o' (unwrap_or r put) × (unwrap_or r put ≤ length o)
  shows (Some end) w e = ends end w e
  shows None w e = absurd (never-full w)
