use Rattle.std.proofs.Common.{refl}
use Rattle.lois_script.specs.View.{cond_tree}
use Rattle.lois_scope.specs.Breaks.{kept_of}
use Rattle.lois_scope.specs.InScope.{made_of}
use Rattle.lois_scope.specs.Walks.{SeenD, seen}
use Rattle.lois_scope.proofs.Loops.{enters}
use Rattle.lois_scope.proofs.Nodes.{on_ok}
use Rattle.lois_scope.proofs.walk.Walk.enter_loop.Goals as goal

pub returns : goal.returns
returns c = record {
  entered =
      let w = seen c.binding.new.self in
      let d : SeenD = record { state = record { made = made_of c.declare.new.self; loops = c.in_ok-self.field-0; ordered = c.binding.new.self.ordered }; kept = kept_of c.binding.new.self.first } in
      on_ok c.condition.result
      (λ h. enters c.args.binding.now (cond_tree c.args.guard.now) (seen c.args.self.now) w d (seen c.condition.new.self) c.requires.within c.in_ok-binding.ensures.walked c.in_ok-declare.ensures.added c.in_ok-self.ensures refl refl h)
      c.condition.ensures.walked;
}
