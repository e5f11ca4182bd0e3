-- `lines::request::number_in` meets its contract. The invariant: the bytes passed are digits, and n is their number. Assumes nothing.
use Rattle.std.proofs.Common.{◌≤◌, get_or, length, sym, ap, ◌∙◌, arith, Some}
use Rattle.lines.specs.Request.{digit}
use Rattle.lines.proofs.Passed.{every-hit, every-miss, every-end, value-next, value-end, shape-length, bad-shape, bad-digit, good, digit-small, more-digits, few-digits}
use Rattle.lines.proofs.request.number_in.Goals as goal

pub returns-then-not-shaped : goal.returns-then-not-shaped
returns-then-not-shaped c = sym (bad-shape c.args.piece.now (sym c.shaped.ensures ∙ c.if-not-shaped.true))

pub returns-then-not-is_ascii_digit : goal.returns-then-not-is_ascii_digit
unfolding digit
returns-then-not-is_ascii_digit c =
    let l = c.loop-c in
    let p = c.args.piece.now in
    sym (bad-digit p (sym c.shaped.ensures ∙ c.if-not-shaped.false) (l.invariant.1 ∙ every-miss p l.c-index digit (omega arith) (sym c.is_ascii_digit.ensures.value ∙ c.if-not-is_ascii_digit.true)))

pub overflow_mul-n : goal.overflow_mul-n
overflow_mul-n c =
    let l = c.loop-c in
    omega (arith, few-digits l.n l.c-index l.invariant.0 (omega (arith, shape-length c.args.piece.now (sym c.shaped.ensures ∙ c.if-not-shaped.false))))

pub overflow_add-n : goal.overflow_add-n
overflow_add-n c =
    let l = c.loop-c in
    omega (arith, few-digits l.n l.c-index l.invariant.0 (omega (arith, shape-length c.args.piece.now (sym c.shaped.ensures ∙ c.if-not-shaped.false))))

pub loop-c-preserved : goal.loop-c-preserved
unfolding digit
loop-c-preserved c =
    let l = c.loop-c in
    let p = c.args.piece.now in (
      more-digits l.n l.c-index _ l.invariant.0 (omega (arith, c.from.ensures, digit-small (get_or p l.c-index 0) (sym c.is_ascii_digit.ensures.value ∙ c.if-not-is_ascii_digit.false))),
      l.invariant.1 ∙ every-hit p l.c-index digit (omega arith) (sym c.is_ascii_digit.ensures.value ∙ c.if-not-is_ascii_digit.false),
      rw c.from.ensures (l.invariant.2 ∙ value-next p l.c-index l.n (omega arith)),
    )

pub returns : goal.returns
returns c =
    let l = c.loop-c in
    let p = c.args.piece.now in
    let end : length p ≤ l.c-index = omega arith in
    sym (good p (sym c.shaped.ensures ∙ c.if-not-shaped.false) (l.invariant.1 ∙ every-end p l.c-index digit end)
    ∙ ap Some (l.invariant.2 ∙ value-end p l.c-index l.n end))
