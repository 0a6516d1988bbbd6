use Rattle.std.proofs.Common.{◌+◌, arith}
use Rattle.lois_base.specs.Tree.{tree}
use Rattle.lois_terms.proofs.Heights.{not_deeper}
use Rattle.lois_terms.proofs.reading.+height.Goals as goal

pub height-returns-in-Tup-clause-values : goal.height-returns-in-Tup-clause-values
height-returns-in-Tup-clause-values t c =
    not_deeper (tree c.args.t.now) (c.greatest_height_of_parts.result + 1) (grind (arith, c.greatest_height_of_parts.ensures, c.in-Tup.is))

pub height-returns-in-Coll-clause-values : goal.height-returns-in-Coll-clause-values
height-returns-in-Coll-clause-values t c =
    not_deeper (tree c.args.t.now) (c.greatest_height_of_items.result + 1) (grind (arith, c.greatest_height_of_items.ensures, c.in-Coll.is))
