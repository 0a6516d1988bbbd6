use Rattle.std.proofs.Common.{◌≡◌, map}
use Rattle.lois_base.specs.Tree.{comp_of}
use Rattle.lois_readable.proofs.joining.comps_from.Given as goal

abbrev pub invariant-loop-comp : goal.invariant-loop-comp
invariant-loop-comp l = l.comps ≡ map comp_of l.yielded
