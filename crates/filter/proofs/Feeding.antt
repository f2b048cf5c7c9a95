-- One read more: what stands from the start on is what was consumed of the input. Assumes nothing.
use Rattle.std.proofs.Common.{Option, Some, None, Result, Ok, Err, IfOk, ◌≡◌, refl, sym, ap, subst, ◌∙◌, Bool, true, false, cond, List, [], ◌++◌, ℕ, zero, suc, ◌+◌, ◌≤◌, ◌<◌, ◌==◌, ne_eqb, arith, length, take, drop, take-append-drop, take-take}
use Rattle.std.specs.Io.KnownBytes.{Keeps, Consumes, IsAtEnd, ReadConsumes}
use Rattle.std.proofs.KnownBytes.{Consumes-trans, Consumes-kept}
use Rattle.std.specs.Counts.{IsPrefixLen}
use Rattle.filter.specs.Parts.{Inside, answered, Brings, after_read, done, work, holding}
use Rattle.filter.specs.declared.Standing.{Standing}
use Rattle.filter.specs.declared.Fault.TheVariants.{Unread}

never : {A : Type 0} → true ≡ false → A
never e = absurd (subst (λ (b : Bool). cond b (Unit {0}) ⊥) e tt)

-- what was read of a reader since it had the bytes `old`
pub record Reading (size : ℕ) (old new : Option (List ℕ)) (input : List ℕ) (s : Standing) : Type 0 where
  pub inside : s.have ≤ size
  pub live : done s ≡ false → s ≡ holding s.have s.ended
  pub on : s.ended ≡ false → done s ≡ false
  pub failed : done s ≡ true → work s ≡ Err Unread
  pub consumed : Consumes old new (take s.have input)
  pub end : s.ended ≡ true → done s ≡ false → IsAtEnd new

-- who consumed nothing left all that was there
none-taken : (old new : Option (List ℕ)) → Consumes old new [] → Keeps old new
none-taken None new c = tt
none-taken (Some x) None c = absurd c
none-taken (Some x) (Some y) c = sym c

-- What a read's answer means is what the read took, where the bytes that it gave stand behind the first `have` of the buffer.
pub answered-brings :
    {E : Type 0} (old new : Option (List ℕ)) (have : ℕ) (input bytes : List ℕ) → ((n : ℕ) → n ≤ length bytes → drop have (take (have + n) input) ≡ take n bytes) → 0 < length bytes
    → (got : Result ℕ E) → IfOk got (λ (n : ℕ). IsPrefixLen n bytes) → ReadConsumes old new got bytes → Brings old new have input (answered got have)
answered-brings old new have input bytes behind room (Ok zero) l b = (none-taken old new b.0, b.1 refl room)
answered-brings old new have input bytes behind room (Ok (suc n)) l b =
    let more : (suc n == 0) ≡ false = ne_eqb (suc n) 0 (λ e. omega arith) in
    rw more (subst (Consumes old new) (sym (behind (suc n) l.0)) b.0)
answered-brings old new have input bytes behind room (Err e) l b = b

module _ (size : ℕ) (old mid new : Option (List ℕ)) (input input' : List ℕ) (h : ℕ) (f : h ≤ size) (c : Consumes old mid (take h input)) (same : take h input' ≡ take h input) where
  before : Consumes old mid (take h input')
  before = subst (Consumes old mid) (sym same) c

  pub one_more : {E : Type 0} (got : Result (Option ℕ) E) → Inside h size got → Brings mid new h input' got → Reading size old new input' (after_read (holding h false) h got)
  one_more (Ok (Some n)) i b =
      let whole : take h input' ++ drop h (take n input') ≡ take n input' =
      ap (λ (l : List ℕ). l ++ drop h (take n input')) (sym (take-take h n input' (omega (arith, i.0)))) ∙ take-append-drop h (take n input') in
      record {
        inside = i.1;
        live = λ d. refl;
        on = λ d. refl;
        failed = λ d. never (sym d);
        consumed = subst (Consumes old new) whole (Consumes-trans old mid new _ _ before b);
        end = λ d. never (sym d);
      }
  one_more (Ok None) i b = record {
    inside = f;
    live = λ d. refl;
    on = λ d. refl;
    failed = λ d. never (sym d);
    consumed = Consumes-kept old mid new _ before b.0;
    end = λ d e. b.1;
  }
  one_more (Err e) i b = record {
    inside = f;
    live = λ d. never d;
    on = λ d. never d;
    failed = λ d. refl;
    consumed = Consumes-kept old mid new _ before b;
    end = λ d e. never e;
  }
