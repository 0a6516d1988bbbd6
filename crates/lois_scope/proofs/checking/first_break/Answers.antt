use Rattle.std.proofs.Common.{refl}
use Rattle.lois_script.specs.View.{script_tree}
use Rattle.lois_scope.specs.Breaks.{kept_of}
use Rattle.lois_scope.specs.InScope.{made_of}
use Rattle.lois_scope.specs.Walks.{SeenD, seen}
use Rattle.lois_scope.proofs.First.{walked_script, least_first, found_first}
use Rattle.lois_scope.proofs.checking.first_break.Goals as goal

pub returns : goal.returns
returns c = record {
  first =
      let script = script_tree c.args.script.now in
      let a : SeenD = record { state = record { made = made_of c.new.result; loops = 0; ordered = c.args.script.now.order }; kept = kept_of c.new-2.result } in
      found_first script c.block.new.self.first.found
      (least_first script (kept_of c.block.new.self.first)
      (walked_script script a (seen c.parameters.new.self) (seen c.block.new.self) c.new.ensures.empty refl refl c.new-2.ensures.none c.in_ok-parameters.ensures.walked c.in_ok-block.ensures.walked));
}
