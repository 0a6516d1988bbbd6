use Rattle.std.proofs.Common.{List, take}
use Rattle.std.specs.List.{All, Contains}
use Rattle.lois_base.specs.declared.guards.Lit.{Lit}
use Rattle.lois_simplify.proofs.fixing.each_has.Given as goal

abbrev pub invariant-loop-cube : goal.invariant-loop-cube
invariant-loop-cube l = All (λ (k : List Lit). Contains k l.fn.lit) (take l.cube-index l.cube-items)
