-- A row comes back from its key and its cells as it was, and any key and cells say a proper row. Assumes nothing.
use Rattle.std.proofs.Common.{Bool, true, false, cond, List, ◌≡◌, refl, sym, ◌∙◌, ℕ, ◌+◌, ◌*◌, ◌/◌, ◌%◌, ◌<◌, arith, lt-ltb, ltb-true, ltb, eqb}
use Rattle.stream.specs.declared.Flag.{Flag}
use Rattle.stream.specs.declared.Flag.TheVariants.{None, Syn, Ack}
use Rattle.stream.specs.declared.State.{State}
use Rattle.stream.specs.declared.State.TheVariants.{Open, SendClosed, RecvClosed, Closed}
use Rattle.stream.specs.declared.Stream.{Stream}
use Rattle.table.specs.Rows.{low, high, both, flag_number, flag_of, state_number, state_of, mark, marks, row_of, key_of, cells_of, end_stream, end_row, Proper}
use Rattle.table.specs.declared.row.Row.{Row}

low-both : (l h : ℕ) → l < 4294967296 → low (both l h) ≡ l
low-both l h p = omega arith

high-both : (l h : ℕ) → l < 4294967296 → h < 4294967296 → high (both l h) ≡ h
high-both l h p q = omega arith

low_own : (x : ℕ) → x < 4294967296 → low x ≡ x
low_own x p = omega arith

flag_back : (f : Flag) → flag_of (flag_number f) ≡ f
flag_back None = refl
flag_back Syn = refl
flag_back Ack = refl

flag_small : (f : Flag) → flag_number f < 4
flag_small None = omega arith
flag_small Syn = omega arith
flag_small Ack = omega arith

state_back : (s : State) → state_of (state_number s) ≡ s
state_back (Open true) = refl
state_back (Open false) = refl
state_back SendClosed = refl
state_back RecvClosed = refl
state_back Closed = refl

state_small : (s : State) → state_number s < 8
state_small (Open true) = omega arith
state_small (Open false) = omega arith
state_small SendClosed = omega arith
state_small RecvClosed = omega arith
state_small Closed = omega arith

mark_back : (b : Bool) → eqb (mark b) 1 ≡ b
mark_back true = refl
mark_back false = refl

mark_small : (b : Bool) → mark b < 2
mark_small true = omega arith
mark_small false = omega arith

-- the digits of a mixed number
module _ (f s r w : ℕ) (hf : f < 4) (hs : s < 8) (hr : r < 2) (hw : w < 2) where
  whole : f + 4 * s + 32 * r + 64 * w < 4294967296
  whole = omega arith

  digit-f : (f + 4 * s + 32 * r + 64 * w) % 4 ≡ f
  digit-f = omega arith

  digit-s : (f + 4 * s + 32 * r + 64 * w) / 4 % 8 ≡ s
  digit-s = omega arith

  digit-r : (f + 4 * s + 32 * r + 64 * w) / 32 % 2 ≡ r
  digit-r = omega arith

  digit-w : (f + 4 * s + 32 * r + 64 * w) / 64 % 2 ≡ w
  digit-w = omega arith

held_back : (listed held : Bool) (id : ℕ) → (listed ≡ true → held ≡ true) → ltb 0 (cond listed (id + 2) (cond held 1 0)) ≡ held
held_back true held id p = lt-ltb 0 (id + 2) (omega arith) ∙ sym (p refl)
held_back false true id p = refl
held_back false false id p = refl

listed_back : (listed held : Bool) (id : ℕ) → ltb 1 (cond listed (id + 2) (cond held 1 0)) ≡ listed
listed_back true held id = lt-ltb 1 (id + 2) (omega arith)
listed_back false true id = refl
listed_back false false id = refl

module _ (r : Row) (p : Proper r) where
  abbrev s : Stream
  s = r.stream

  digits : high (both s.id.0 (marks s)) ≡ marks s
  digits =
      high-both s.id.0 (marks s) p.id
      (whole (flag_number s.flag) (state_number s.state) (mark s.reader) (mark s.writer) (flag_small s.flag) (state_small s.state) (mark_small s.reader) (mark_small s.writer))

  pub packed : row_of (key_of r) (cells_of r) ≡ r
  packed =
      let f = flag_number s.flag in
      let n = state_number s.state in
      let a = mark s.reader in
      let b = mark s.writer in
      let hf = flag_small s.flag in
      let hn = state_small s.state in
      let ha = mark_small s.reader in
      let hb = mark_small s.writer in
      rw (
        held_back r.listed r.held s.id.0 p.held,
        listed_back r.listed r.held s.id.0,
        digits,
        digit-f f n a b hf hn ha hb,
        flag_back s.flag,
        digit-s f n a b hf hn ha hb,
        state_back s.state,
        digit-r f n a b hf hn ha hb,
        mark_back s.reader,
        digit-w f n a b hf hn ha hb,
        mark_back s.writer,
        low-both s.id.0 (marks s) p.id,
        low-both s.flow.receive_window s.flow.max_receive_window p.receive,
        high-both s.flow.receive_window s.flow.max_receive_window p.receive p.most,
        low_own s.flow.send_window p.send,
        low-both r.queue.head r.queue.tail p.head,
        high-both r.queue.head r.queue.tail p.head p.tail,
        low-both r.queue.from r.queue.unread p.from,
        high-both r.queue.from r.queue.unread p.from p.unread,
      )

pub proper_row_of : (key : ℕ) (cells : List ℕ) → Proper (row_of key cells)
proper_row_of key cells = record {
  id = omega arith;
  receive = omega arith;
  most = omega arith;
  send = omega arith;
  head = omega arith;
  tail = omega arith;
  from = omega arith;
  unread = omega arith;
  held = λ e. lt-ltb 0 key (omega (arith, ltb-true 1 key e));
}

-- out of the table, with the same id and windows
kept : (r : Row) (s : Stream) → Proper r → s.id ≡ r.stream.id → s.flow ≡ r.stream.flow
    → Proper (record { held = r.held; listed = false; stream = s; queue = r.queue })
kept r s p e f = record {
  id = rw e p.id;
  receive = rw f p.receive;
  most = rw f p.most;
  send = rw f p.send;
  head = p.head;
  tail = p.tail;
  from = p.from;
  unread = p.unread;
  held = λ h. let z : ◌≡◌ {A = ℕ} 0 1 = cc in absurd (omega arith);
}

end_id : (b : Bool) (s : Stream) → (end_stream b s).id ≡ s.id
end_id true s = refl
end_id false s = refl

end_flow : (b : Bool) (s : Stream) → (end_stream b s).flow ≡ s.flow
end_flow true s = refl
end_flow false s = refl

pub proper_end : (r : Row) → Proper r → Proper (end_row r)
proper_end r p = kept r (end_stream r.listed r.stream) p (end_id r.listed r.stream) (end_flow r.listed r.stream)

-- a key above 1 is an id's
pub key_listed : (listed held : Bool) (id : ℕ) → 1 < cond listed (id + 2) (cond held 1 0) → cond listed (id + 2) (cond held 1 0) ≡ id + 2
key_listed true held id h = refl
key_listed false true id h = absurd (omega arith)
key_listed false false id h = absurd (omega arith)
