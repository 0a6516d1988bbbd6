use Rattle.std.proofs.Common.{refl, subst, List}
use Rattle.lois_script.specs.Scope.{ParametersBreak, with_parameters}
use Rattle.lois_script.specs.Tree.{ParamD}
use Rattle.lois_script.specs.View.{param_tree}
use Rattle.lois_scope.specs.Breaks.{kept_of}
use Rattle.lois_scope.specs.InScope.{made_of}
use Rattle.lois_scope.specs.Walks.{SeenD, seen, AdvancesScope}
use Rattle.lois_scope.specs.declared.names.Made.TheVariants.{Fixed}
use Rattle.lois_scope.proofs.Declared.{walked_and_declared}
use Rattle.lois_scope.proofs.Lists.{parameters_on, parameters_end, parameter_breaks}
use Rattle.lois_scope.proofs.walk.Walk.parameters.Goals as goal

pub loop-parameter-preserved : goal.loop-parameter-preserved
loop-parameter-preserved c =
    let next : SeenD = record { state = record { made = made_of c.declare.new.self; loops = c.declared.new.self.loops; ordered = c.declared.new.self.ordered }; kept = kept_of c.declared.new.self.first } in
    parameters_on c.as_slice-parameter-items.result.now c.loop-parameter.parameter-index c.parameter-item.result (seen c.args.self.now) (seen c.loop-parameter.self) next
    c.loop-parameter-test.true c.parameter-item.is
    (walked_and_declared (parameter_breaks (param_tree c.parameter-item.result)) c.parameter-item.result.name Fixed (seen c.loop-parameter.self) (seen c.declared.new.self) next c.declared.ensures.walked c.in_ok-declare.ensures.added refl refl refl tt)
    c.loop-parameter.invariant

pub returns : goal.returns
returns c = record {
  walked = subst (λ (ps : List ParamD). AdvancesScope (ParametersBreak ps) (with_parameters ps) (seen c.args.self.now) (seen c.loop-parameter.self)) c.as_slice-parameter-items.ensures.items
      (parameters_end c.as_slice-parameter-items.result.now c.loop-parameter.parameter-index (seen c.args.self.now) (seen c.loop-parameter.self) c.loop-parameter-test.false c.loop-parameter.invariant);
}
