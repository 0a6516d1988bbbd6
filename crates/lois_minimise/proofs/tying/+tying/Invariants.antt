use Rattle.std.proofs.Common.{◌+◌, ◌*◌}
use Rattle.lois_base.specs.Data.{depth, terms_of}
use Rattle.lois_base.specs.ListDepth.{depth_of_terms}
use Rattle.lois_base.specs.Tree.{tree}
use Rattle.lois_relate.proofs.Parts.{terms_from}
use Rattle.lois_minimise.proofs.Ties.{PartsTied}
use Rattle.lois_minimise.proofs.tying.+tying.Given as goal

abbrev pub decreases-tie_terms : goal.decreases-tie_terms
decreases-tie_terms l = 2 * depth (tree l.one.now)

abbrev pub decreases-tie_parts : goal.decreases-tie_parts
decreases-tie_parts l = 2 * depth_of_terms l.terms.now + 1

abbrev pub invariant-tie_parts-loop-i : goal.invariant-tie_parts-loop-i
invariant-tie_parts-loop-i l =
    PartsTied (terms_of l.terms) (terms_of l.others) (terms_from l.parts l.i) (terms_from l.partners l.i) l.initial.ties.items l.ties.items
