use Rattle.std.proofs.Common.{arith}
use Rattle.std.proofs.lemmas.Grind.{common_steps}
use Rattle.lois_vectors_sets.proofs.terms.shifted.Goals as goal

pub shift_term-requires : goal.shift_term-requires
shift_term-requires r c = (c.args.size, grind (arith, common_steps), grind (arith, common_steps), grind (arith, common_steps), grind (arith, common_steps))
