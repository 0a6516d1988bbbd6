use Rattle.std.proofs.Common.{take, map}
use Rattle.lois_script.specs.View.{tree, exprs_of, binding_tree, cond_tree, conds_of}
use Rattle.lois_eval.specs.WellFormed.{AreWellFormed, CondsAreWellFormed}
use Rattle.lois_vectors_expressions.proofs.Placed.{LeadTo}
use Rattle.lois_vectors_expressions.proofs.standing.+standing.Given as goal

abbrev pub invariant-all_stand-loop-e : goal.invariant-all_stand-loop-e
invariant-all_stand-loop-e l = AreWellFormed (exprs_of (map tree (take l.e-index l.e-items))) l.ordered l.names

abbrev pub invariant-behind-loop-binding : goal.invariant-behind-loop-binding
invariant-behind-loop-binding l = LeadTo l.ordered l.names (map binding_tree (take l.binding-index l.binding-items)) l.inside

abbrev pub invariant-conditions_stand-loop-c : goal.invariant-conditions_stand-loop-c
invariant-conditions_stand-loop-c l = CondsAreWellFormed (conds_of (map cond_tree (take l.c-index l.c-items))) l.ordered l.names
