use Rattle.std.proofs.Common.{arith}
use Rattle.lois_constraint.specs.Signature.{bit_index}
use Rattle.lois_constraint.proofs.SignatureBits.{only_place}
use Rattle.lois_constraint.proofs.signature.bit.Goals as goal

pub returns-then-high-lt-LEVELS : goal.returns-then-high-lt-LEVELS
returns-then-high-lt-LEVELS c = λ i e.
    (c.if-low-lt-LEVELS.true, c.if-high-lt-LEVELS.true, only_place (bit_index c.args.low c.args.high) i (omega arith) e)
