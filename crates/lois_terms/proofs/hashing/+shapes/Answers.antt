use Rattle.std.proofs.Common.{arith}
use Rattle.lois_base.proofs.Parts.{term_within}
use Rattle.lois_terms.proofs.hashing.+shapes.Goals as goal

pub shape_of_parts-shape_of_term-requires : goal.shape_of_parts-shape_of_term-requires
shape_of_parts-shape_of_term-requires t c =
    omega (arith, term_within _ _ _ _ c.as_slice-part-items.ensures c.loop-part-test.true c.part-item.is)
