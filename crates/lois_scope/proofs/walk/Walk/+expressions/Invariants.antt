use Rattle.lois_script.specs.View.{tree, binding_tree, cond_tree}
use Rattle.lois_scope.specs.Walks.{seen}
use Rattle.lois_scope.proofs.Walked.{WalksOn, LeadsOn}
use Rattle.lois_scope.proofs.Lists.{expressions_break, conditions_break, bindings_break, bound_by}
use Rattle.lois_scope.proofs.walk.Walk.+expressions.Given as goal

abbrev pub invariant-expressions-loop-item : goal.invariant-expressions-loop-item
invariant-expressions-loop-item l = WalksOn tree expressions_break l.item-items l.item-index (seen l.initial.self) (seen l.self)

abbrev pub invariant-conditions-loop-condition : goal.invariant-conditions-loop-condition
invariant-conditions-loop-condition l = WalksOn cond_tree conditions_break l.condition-items l.condition-index (seen l.initial.self) (seen l.self)

abbrev pub invariant-bindings-loop-binding : goal.invariant-bindings-loop-binding
invariant-bindings-loop-binding l = LeadsOn binding_tree bindings_break bound_by l.binding-items l.binding-index (seen l.initial.self) (seen l.self)
