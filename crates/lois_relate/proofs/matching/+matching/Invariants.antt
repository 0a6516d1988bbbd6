use Rattle.std.proofs.Common.{◌+◌, ◌*◌, ◌↔◌}
use Rattle.lois_base.specs.Data.{terms_of, comps_of, depth}
use Rattle.lois_base.specs.ListDepth.{depth_of_terms, depth_of_comps}
use Rattle.lois_base.specs.Tree.{tree}
use Rattle.lois_relate.specs.Alike.{PartsAlike, ItemsAlike}
use Rattle.lois_relate.proofs.Parts.{terms_from, comps_from}
use Rattle.lois_relate.proofs.matching.+matching.Given as goal

-- each call goes into a part of the first term, or on to a function of a lower rank
abbrev pub decreases-terms_match : goal.decreases-terms_match
decreases-terms_match l = 3 * depth (tree l.s.now)

abbrev pub decreases-parts_match : goal.decreases-parts_match
decreases-parts_match l = 3 * depth_of_terms l.terms.now + 1

abbrev pub decreases-sets_match : goal.decreases-sets_match
decreases-sets_match l = 3 * depth_of_comps l.comps.now + 2

abbrev pub decreases-comps_match : goal.decreases-comps_match
decreases-comps_match l = 3 * depth (tree l.comp.now.item) + 1

abbrev pub invariant-parts_match-loop-i : goal.invariant-parts_match-loop-i
invariant-parts_match-loop-i l =
    PartsAlike l.s_names l.t_names (terms_from l.parts l.i) (terms_from l.partners l.i) ↔ PartsAlike l.s_names l.t_names (terms_of l.terms) (terms_of l.others)

abbrev pub invariant-sets_match-loop-i : goal.invariant-sets_match-loop-i
invariant-sets_match-loop-i l =
    ItemsAlike l.s_names l.t_names (comps_from l.items l.i) (comps_from l.partners l.i) ↔ ItemsAlike l.s_names l.t_names (comps_of l.comps) (comps_of l.others)
