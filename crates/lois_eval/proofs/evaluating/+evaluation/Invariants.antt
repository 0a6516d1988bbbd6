use Rattle.std.proofs.Common.{◌+◌, ◌*◌, take, map}
use Rattle.lois_base.specs.Data.{comps_of}
use Rattle.lois_meaning.specs.Expressions.{Makes, HasTruth}
use Rattle.lois_script.specs.View.{tree, cond_tree, binding_tree, exprs_of, conds_of}
use Rattle.lois_script.specs.Lists.{exprs_list, conds_list}
use Rattle.lois_eval.specs.Evaluated.{AreTermsOf, IsConstraintOf}
use Rattle.lois_eval.specs.Folded.{IsGatheredInside, IsFoundInside}
use Rattle.lois_eval.specs.Forms.{each_from, joint}
use Rattle.lois_eval.specs.WellFormed.{IsWellFormed, AreWellFormed, CondIsWellFormed}
use Rattle.lois_eval.proofs.Weights.{weight, weight_of_exprs, weight_of_binding, weight_of_cond, weight_of_conds, weight_from}
use Rattle.lois_eval.proofs.evaluating.+evaluation.Given as goal

-- each call goes into a part of the expression or condition, or on to a function of a lower rank
abbrev pub decreases-evaluated : goal.decreases-evaluated
decreases-evaluated g l = 4 * weight (tree l.e.now) + 1

abbrev pub decreases-made : goal.decreases-made
decreases-made g l = 4 * weight (tree l.e.now)

abbrev pub decreases-all_evaluated : goal.decreases-all_evaluated
decreases-all_evaluated g l = 4 * weight_of_exprs (exprs_of (exprs_list l.es.now)) + 2

abbrev pub decreases-gathered : goal.decreases-gathered
decreases-gathered g l = 4 * weight_from l.item.now l.bindings.now l.from l.condition.now + 2

abbrev pub decreases-gathered_here : goal.decreases-gathered_here
decreases-gathered_here g l = 4 * (weight (tree l.item.now) + weight_of_cond (cond_tree l.condition.now)) + 1

abbrev pub decreases-gathered_inside : goal.decreases-gathered_inside
decreases-gathered_inside g l = 4 * weight_from l.item.now l.bindings.now l.from l.condition.now + 3

abbrev pub decreases-decided : goal.decreases-decided
decreases-decided g l = 4 * weight_of_cond (cond_tree l.c.now)

abbrev pub decreases-all_decided : goal.decreases-all_decided
decreases-all_decided g l = 4 * weight_of_conds (conds_of (conds_list l.parts.now)) + 1

abbrev pub decreases-quantified : goal.decreases-quantified
decreases-quantified g l = 4 * (weight_of_binding (binding_tree l.binding.now) + weight_of_cond (cond_tree l.body.now)) + 2

abbrev pub decreases-found_inside : goal.decreases-found_inside
decreases-found_inside g l = 4 * weight_of_cond (cond_tree l.body.now) + 1

abbrev pub invariant-all_evaluated-loop-e : goal.invariant-all_evaluated-loop-e
invariant-all_evaluated-loop-e g l =
    record {
      terms : AreTermsOf l.context (exprs_of (map tree (take l.e-index l.e-items))) (AreWellFormed (exprs_of (exprs_list l.es))) l.values;
      asked : g.D.Oracle.reaches l.fn.decider l.decider;
    }

abbrev pub invariant-gathered_inside-loop-context : goal.invariant-gathered_inside-loop-context
invariant-gathered_inside-loop-context g l =
    record {
      comps : IsGatheredInside l.size (Makes (each_from l.item l.bindings l.from l.condition)) (IsWellFormed (each_from l.item l.bindings l.from l.condition)) (take l.context-index l.inner) (comps_of l.comps);
      asked : g.D.Oracle.reaches l.fn.decider l.decider;
    }

abbrev pub invariant-all_decided-loop-part : goal.invariant-all_decided-loop-part
invariant-all_decided-loop-part g l =
    record {
      constraint : IsConstraintOf l.context (HasTruth (joint l.every (conds_of (map cond_tree (take l.part-index l.part-items))))) (CondIsWellFormed (joint l.every (conds_of (conds_list l.parts)))) l.found;
      asked : g.D.Oracle.reaches l.fn.decider l.decider;
    }

abbrev pub invariant-found_inside-loop-context : goal.invariant-found_inside-loop-context
invariant-found_inside-loop-context g l =
    record {
      constraint : IsFoundInside l.size (HasTruth (cond_tree l.body)) l.wanted (CondIsWellFormed (cond_tree l.body)) (take l.context-index l.inner) l.found;
      asked : g.D.Oracle.reaches l.fn.decider l.decider;
    }

abbrev pub decreases-both_evaluated : goal.decreases-both_evaluated
decreases-both_evaluated g l = 4 * (weight (tree l.e.now) + weight (tree l.f.now)) + 3

abbrev pub decreases-side_evaluated : goal.decreases-side_evaluated
decreases-side_evaluated g l = 4 * weight (tree l.e.now) + 2
