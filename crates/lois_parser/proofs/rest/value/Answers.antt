use Rattle.std.proofs.Common.{◌+◌, ◌*◌, sym, ap, ◌∙◌, drop, refl, arith}
use Rattle.lois_script.specs.Grammar.{decimal_behind}
use Rattle.lois_parser.proofs.Digits.{power_next, power_small, is_digit, one_digit, no_digits}
use Rattle.lois_parser.proofs.ReadableTokens.{number_parts}
use Rattle.lois_parser.proofs.rest.value.Goals as goal

pub loop-digit-init : goal.loop-digit-init
loop-digit-init c = (omega arith, refl)

pub overflow_mul-value : goal.overflow_mul-value
overflow_mul-value c =
    let short = (number_parts c.args.digits.now c.requires).0 in
    let bound = power_small c.loop-digit.digit-index (omega arith) in
    let below = c.loop-digit.invariant.0 in omega arith

pub overflow_add-value : goal.overflow_add-value
overflow_add-value c =
    let short = (number_parts c.args.digits.now c.requires).0 in
    let bound = power_small c.loop-digit.digit-index (omega arith) in
    let below = c.loop-digit.invariant.0 in
    let digit = is_digit c.args.digits.now c.loop-digit.digit-index (number_parts c.args.digits.now c.requires).1 c.loop-digit-test.true in
    let added = c.from.ensures in omega arith

pub loop-digit-preserved : goal.loop-digit-preserved
loop-digit-preserved c =
    let below = c.loop-digit.invariant.0 in
    let digit = is_digit c.args.digits.now c.loop-digit.digit-index (number_parts c.args.digits.now c.requires).1 c.loop-digit-test.true in
    let added = c.from.ensures in
    let next = power_next c.loop-digit.digit-index in (
      omega arith,
      ap (λ x. decimal_behind (10 * c.loop-digit.value + x) (drop (c.loop-digit.digit-index + 1) c.args.digits.now)) added ∙
          sym (one_digit c.loop-digit.value c.loop-digit.digit-index c.args.digits.now c.loop-digit-test.true) ∙ c.loop-digit.invariant.1,
    )

pub returns : goal.returns
returns c = sym (no_digits c.loop-digit.value c.loop-digit.digit-index c.args.digits.now (omega arith)) ∙ c.loop-digit.invariant.1
