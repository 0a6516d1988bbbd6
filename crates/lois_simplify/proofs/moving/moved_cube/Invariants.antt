use Rattle.std.proofs.Common.{◌≡◌, take}
use Rattle.lois_base.specs.Rename.{rename_cube}
use Rattle.lois_simplify.specs.Moved.{moved}
use Rattle.lois_simplify.proofs.moving.moved_cube.Given as goal

abbrev pub invariant-loop-lit : goal.invariant-loop-lit
invariant-loop-lit l = l.moved ≡ rename_cube (moved l.gone l.to) (take l.lit-index l.lit-items)
