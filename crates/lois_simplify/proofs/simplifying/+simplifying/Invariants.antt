use Rattle.std.proofs.Common.{◌+◌, ◌*◌, map}
use Rattle.lois_base.specs.Data.{depth}
use Rattle.lois_base.specs.ListDepth.{depth_of_terms, depth_of_comps}
use Rattle.lois_base.specs.Tree.{tree, comp_of}
use Rattle.lois_simplify.specs.Simplification.{IsSimplification, set_of}
use Rattle.lois_simplify.specs.Rounds.{only}
use Rattle.lois_simplify.proofs.Tuples.{PartsSimplified}
use Rattle.lois_simplify.proofs.IrredundantComps.{LeanSoFar}
use Rattle.lois_simplify.proofs.simplifying.+simplifying.Given as goal

-- each call goes into a part of the term, or on to a function of a lower rank
abbrev pub decreases-simplified : goal.decreases-simplified
decreases-simplified g l = 6 * depth (tree l.term)

abbrev pub decreases-simplified_parts : goal.decreases-simplified_parts
decreases-simplified_parts g l = 6 * depth_of_terms l.parts + 1

abbrev pub decreases-irredundant_comps : goal.decreases-irredundant_comps
decreases-irredundant_comps g l = 6 * depth_of_comps l.comps + 3

abbrev pub decreases-irredundant_comp : goal.decreases-irredundant_comp
decreases-irredundant_comp g l = 6 * depth (tree l.comp.item) + 2

abbrev pub decreases-one_round : goal.decreases-one_round
decreases-one_round g l = 6 * depth (tree l.comp.item) + 1

abbrev pub invariant-simplified_parts-loop-part : goal.invariant-simplified_parts-loop-part
invariant-simplified_parts-loop-part g l =
    record {
      can_next : (goal.iterator-simplified_parts-loop-part g).can_next l.part-iterator;
      is_finite : (goal.iterator-simplified_parts-loop-part g).is_finite l.part-iterator;
      simplified : PartsSimplified l.brief l.under l.size (map tree l.yielded) l.simple;
      asked : g.D.Oracle.reaches l.fn.decider l.decider;
    }

abbrev pub invariant-irredundant_comps-loop-comp : goal.invariant-irredundant_comps-loop-comp
invariant-irredundant_comps-loop-comp g l =
    record {
      can_next : (goal.iterator-irredundant_comps-loop-comp g).can_next l.comp-iterator;
      is_finite : (goal.iterator-irredundant_comps-loop-comp g).is_finite l.comp-iterator;
      lean : LeanSoFar l.brief l.under l.size (map comp_of l.yielded) l.found;
      asked : g.D.Oracle.reaches l.fn.decider l.decider;
    }

abbrev pub invariant-irredundant_comp-rounds : goal.invariant-irredundant_comp-rounds
invariant-irredundant_comp-rounds g l =
    record {
      kept : IsSimplification l.under l.size (set_of (only (comp_of l.fn.comp))) (set_of (only (comp_of l.current)));
      asked : g.D.Oracle.reaches l.fn.decider l.decider;
    }

abbrev pub decreases-irredundant_comp-rounds : goal.decreases-irredundant_comp-rounds
decreases-irredundant_comp-rounds g l = l.current.binders
