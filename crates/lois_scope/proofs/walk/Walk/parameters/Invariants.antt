use Rattle.lois_script.specs.Scope.{ParametersBreak, with_parameters}
use Rattle.lois_script.specs.View.{param_tree}
use Rattle.lois_scope.specs.Walks.{seen}
use Rattle.lois_scope.proofs.Walked.{LeadsOn}
use Rattle.lois_scope.proofs.walk.Walk.parameters.Given as goal

abbrev pub invariant-loop-parameter : goal.invariant-loop-parameter
invariant-loop-parameter l = LeadsOn param_tree ParametersBreak with_parameters l.parameter-items l.parameter-index (seen l.initial.self) (seen l.self)
