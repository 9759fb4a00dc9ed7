use Rattle.std.proofs.Common.{rules, refl, sym, ◌∙◌, ◌≡◌, ◌+◌, Some, ap, arith, length}
use Rattle.arith.specs.Bounded.{every, every_more}
use Rattle.lines.specs.Number.{digit_at, value_of}
use Rattle.lines.specs.laws.NumberLaws.{value_more, number_empty, number_no_digit, number_over, number_is}
use Rattle.lines.proofs.number_of.Goals as goal

pub returns-then-is_empty : goal.returns-then-is_empty
returns-then-is_empty c = sym (number_empty c.args.text.now (search rules))

pub loop-byte-init : goal.loop-byte-init
unfolding every value_of
loop-byte-init c = (refl, refl, omega arith)

pub returns-then-not-is_ascii_digit : goal.returns-then-not-is_ascii_digit
returns-then-not-is_ascii_digit c =
    sym (number_no_digit c.args.text.now c.loop-byte.byte-index (omega arith) (sym c.if-not-is_ascii_digit.ensures.value))

pub returns-in_err-checked_mul : goal.returns-in_err-checked_mul
returns-in_err-checked_mul c =
    c.from_residual.ensures ∙ sym (number_over c.args.text.now (c.loop-byte.byte-index + 1) (omega arith) (omega (arith, value_more c.args.text.now c.loop-byte.byte-index, c.in_err-checked_mul.ensures)))

pub returns-in_err-value : goal.returns-in_err-value
returns-in_err-value c =
    c.from_residual-in_err-value.ensures ∙ sym (number_over c.args.text.now (c.loop-byte.byte-index + 1) (omega arith) (omega (arith, value_more c.args.text.now c.loop-byte.byte-index, c.in_ok-checked_mul.ensures, c.in_err-value.ensures)))

pub loop-byte-preserved : goal.loop-byte-preserved
loop-byte-preserved c =
    let more = value_more c.args.text.now c.loop-byte.byte-index in (
      every_more (digit_at c.args.text.now) c.loop-byte.byte-index c.loop-byte.invariant.0 (sym c.if-not-is_ascii_digit.ensures.value),
      omega (arith, more, c.in_ok-checked_mul.ensures, c.in_ok-value.ensures),
      omega (arith, c.in_ok-value.ensures),
    )

pub returns : goal.returns
returns c =
    let l = c.loop-byte in
    let e : l.byte-index ≡ length c.args.text.now = omega arith in
    ap Some l.invariant.1 ∙ sym (number_is c.args.text.now l.byte-index e (search rules) l.invariant.0 (omega arith))
