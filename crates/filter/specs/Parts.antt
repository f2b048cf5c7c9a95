-- Where a program stands in its input and its output, before and after a read and a write.
use Rattle.std.specs.Prelude.{◌≡◌, ◌==◌, Bool, true, false, cond, List, [], ℕ, ◌+◌, ◌-◌, ◌≤◌, ◌<◌, leb, length, take, drop, Option, Some, None, Result, Ok, Err, ⊤}
use Rattle.std.specs.Io.KnownBytes.{Keeps, Consumes, IsAtEnd}
use Rattle.std.specs.declared.io.Error.{Error}
use Rattle.filter.specs.Account.{Account, reads, writes}
use Rattle.filter.specs.declared.Standing.{Standing}
use Rattle.filter.specs.declared.Fault.{Fault}
use Rattle.filter.specs.declared.Fault.TheVariants.{Unread, Unwritten}

-- nothing is read and nothing is put
abbrev pub first : Standing
first = record { at = 0; have = 0; put = 0; ended = false; done = false; work = Ok tt }

-- After a read behind the first `front` bytes, which are those not yet taken: there is more; or the input has ended; or the read failed, and
-- all is done.
abbrev pub after_read : {E : Type 0} → Standing → ℕ → Result (Option ℕ) E → Standing
after_read s front (Ok (Some n)) = record { at = 0; have = n; put = s.put; ended = s.ended; done = s.done; work = s.work }
after_read s front (Ok None) = record { at = 0; have = front; put = s.put; ended = true; done = s.done; work = s.work }
after_read s front (Err e) = record { at = 0; have = front; put = s.put; ended = true; done = true; work = Err Unread }

-- after a write of all that was put: where it failed, all is done
abbrev pub after_write : {E : Type 0} → Standing → Result ⊤ E → Standing
after_write s (Ok u) = record { at = s.at; have = s.have; put = 0; ended = s.ended; done = s.done; work = s.work }
after_write s (Err e) = record { at = s.at; have = s.have; put = 0; ended = s.ended; done = true; work = Err Unwritten }

-- whether all is done: the field, under the name that contracts use
abbrev pub done : Standing → Bool
done s = s.done

-- the work that reads and writes did, all of it where none failed: the field too
abbrev pub work : Standing → Result ⊤ Fault
work s = s.work

-- what was put is passed on to be written
pub record Flushed (s : Standing) (out : List ℕ) (b : Account) (s' : Standing) : Type 0 where
  pub written : Result ⊤ Error
  pub is : s' ≡ after_write s written
  pub puts : b ≡ writes (take s.put out)

abbrev pub Flushes : Standing → List ℕ → Standing → Type 0
Flushes s out s' = (b : Account) × Flushed s out b s'

-- the bytes between two places, which go before the next part; none where they are not all there
abbrev pub kept : List ℕ → ℕ → ℕ → List ℕ
kept s from to = cond (leb to (length s)) (take (to - from) (drop from s)) []

-- What the answer of a read means that had room for a byte: it failed; or it brought none, and the input has ended; or as many more are there
-- as it brought.
abbrev pub answered : {E : Type 0} → Result ℕ E → ℕ → Result (Option ℕ) E
answered (Ok n) have = Ok (cond (n == 0) None (Some (have + n)))
answered (Err e) have = Err e

-- bytes read, one or more, come after those that are there, inside the buffer
abbrev pub Inside : {E : Type 0} → ℕ → ℕ → Result (Option ℕ) E → Type 0
Inside have size (Ok (Some n)) = (have < n) × (n ≤ size)
Inside have size (Ok None) = Unit {0}
Inside have size (Err e) = Unit {0}

-- What a read takes of a reader whose bytes are known: those that come after the ones that were there; or it is at its end; or nothing.
abbrev pub Brings : {E : Type 0} → Option (List ℕ) → Option (List ℕ) → ℕ → List ℕ → Result (Option ℕ) E → Type 0
Brings old new have input (Ok (Some n)) = Consumes old new (drop have (take n input))
Brings old new have input (Ok None) = Keeps old new × IsAtEnd new
Brings old new have input (Err e) = Keeps old new

-- What was not taken of the input stands first in the buffer, and what a read brought comes after it.
pub record Fed (s : Standing) (input : List ℕ) (b : Account) (s' : Standing) (input' : List ℕ) : Type 0 where
  pub got : Result (Option ℕ) Error
  pub is : s' ≡ after_read s (length (kept input s.at s.have)) got
  pub inside : Inside (length (kept input s.at s.have)) (length input) got
  pub front : take (length (kept input s.at s.have)) input' ≡ kept input s.at s.have
  pub size : length input' ≡ length input
  pub brings : b ≡ reads (drop (length (kept input s.at s.have)) (take s'.have input'))

abbrev pub Feeds : Standing → List ℕ → Standing → List ℕ → Type 0
Feeds s input s' input' = (b : Account) × Fed s input b s' input'

-- what was read stands from the buffer's start on, and nothing is taken of it or put
abbrev pub holding : ℕ → Bool → Standing
holding have ended = record { at = 0; have = have; put = 0; ended = ended; done = false; work = Ok tt }

-- As many bytes are there as are asked for, or the input has ended; or a read failed.
pub record Fills (least size : ℕ) (s : Standing) : Type 0 where
  pub inside : s.have ≤ size
  pub live : done s ≡ false → s ≡ holding s.have s.ended
  pub enough : s.ended ≡ false → least ≤ s.have
  pub failed : done s ≡ true → work s ≡ Err Unread
