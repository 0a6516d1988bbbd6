use Rattle.std.proofs.Common.{◌≡◌, ◌++◌, map, take}
use Rattle.lois_base.specs.Tree.{comp_of}
use Rattle.lois_algebra.proofs.uniting.add_all.Given as goal

abbrev pub invariant-loop-comp : goal.invariant-loop-comp
invariant-loop-comp l = l.comps ≡ l.initial.comps ++ map comp_of (take l.comp-index l.comp-items)
