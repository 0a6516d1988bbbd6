use Rattle.std.proofs.Common.{◌≡◌, take, map}
use Rattle.lois_base.specs.Tree.{comp_of}
use Rattle.lois_terms.specs.Guarded.{guarded_comp}
use Rattle.lois_terms.proofs.guarding.guarded_comps.Given as goal

abbrev pub invariant-loop-comp : goal.invariant-loop-comp
invariant-loop-comp l = l.guarded ≡ map (guarded_comp l.c) (map comp_of (take l.comp-index l.comp-items))
