-- `trace_lines::put_decimal` meets its contract: the digits of n / 10 are stored, and one more after them. Assumes nothing.
use Rattle.trace_lines.proofs.Stored.{stores_one, stores_then}
use Rattle.trace_lines.proofs.Texts.{one_digit, digit_more, decimal-one, decimal_more}
use Rattle.std.proofs.Common.{arith}
use Rattle.trace_lines.proofs.+put_decimal.Goals as goal

pub bounds-out-at : goal.bounds-out-at
bounds-out-at t c = omega (arith, one_digit c.args.n c.if-n-lt10.true)

pub returns-then-n-lt10 : goal.returns-then-n-lt10
returns-then-n-lt10 t c = rw (c.digit.ensures, decimal-one _ c.if-n-lt10.true) (stores_one _ _ _)

pub put_decimal-p-requires : goal.put_decimal-p-requires
put_decimal-p-requires t c =
    let e = digit_more c.args.n c.if-n-lt10.false in
    (omega arith, omega arith)

pub bounds-out-p : goal.bounds-out-p
bounds-out-p t c = omega (arith, digit_more c.args.n c.if-n-lt10.false)

pub overflow_add-result-2 : goal.overflow_add-result-2
overflow_add-result-2 t c = omega (arith, digit_more c.args.n c.if-n-lt10.false)

pub returns : goal.returns
returns t c =
    rw (c.digit-2.ensures, decimal_more _ c.if-n-lt10.false)
    (stores_then c.put_decimal-p.ensures (stores_one _ _ _))
