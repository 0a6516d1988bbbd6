use Rattle.std.proofs.Common.{◌≡◌, ◌++◌, map}
use Rattle.lois_base.specs.Tree.{comp_of}
use Rattle.lois_context.proofs.content.appended.Given as goal

abbrev pub invariant-loop-comp : goal.invariant-loop-comp
invariant-loop-comp l = l.all ≡ l.initial.all ++ map comp_of l.yielded
