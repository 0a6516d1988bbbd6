use Rattle.lois_constraint.proofs.SignatureBits.{meets_both}
use Rattle.lois_constraint.proofs.signature.SignatureMask.and.Goals as goal

pub returns : goal.returns
returns c = λ order one two. meets_both order _ _ _ _ one two
