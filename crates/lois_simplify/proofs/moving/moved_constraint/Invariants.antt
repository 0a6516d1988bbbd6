use Rattle.std.proofs.Common.{◌≡◌, take}
use Rattle.lois_base.specs.Rename.{rename_constraint}
use Rattle.lois_simplify.specs.Moved.{moved}
use Rattle.lois_simplify.proofs.moving.moved_constraint.Given as goal

abbrev pub invariant-loop-cube : goal.invariant-loop-cube
invariant-loop-cube l =
    l.moved ≡ rename_constraint (moved l.gone l.to) (take l.cube-index l.cube-items)
