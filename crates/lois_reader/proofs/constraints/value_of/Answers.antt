use Rattle.std.proofs.Common.{◌^◌, ◌∙◌, sym, get_or, refl}
use Rattle.lois_reader.proofs.Forms.{too_large, all_read}
use Rattle.lois_reader.proofs.constraints.value_of.Goals as goal

pub returns-in_err-value : goal.returns-in_err-value
returns-in_err-value c =
    let lost = too_large c.loop-digit.value c.loop-digit.digit-index (get_or c.args.digits.now c.loop-digit.digit-index 0) (2 ^ 64) c.args.digits.now c.loop-digit-test.true refl c.loop-digit.invariant.same (sym c.with_digit.ensures ∙ c.in_err-value.was) in
    cc

pub returns : goal.returns
returns c = all_read c.loop-digit.value c.loop-digit.digit-index (2 ^ 64) c.args.digits.now c.loop-digit-test.false c.loop-digit.invariant.fits c.loop-digit.invariant.same
