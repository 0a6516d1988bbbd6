use Rattle.std.proofs.Common.{◌≡◌, ◌++◌, map}
use Rattle.lois_base.specs.FormulaView.{view, views}
use Rattle.lois_relate.proofs.building.append.Given as goal

abbrev pub invariant-loop-part : goal.invariant-loop-part
invariant-loop-part l = views l.parts ≡ views l.initial.parts ++ map view l.yielded
