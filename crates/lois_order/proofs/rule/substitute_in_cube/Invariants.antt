use Rattle.std.proofs.Common.{◌≡◌, ◌&&◌, List, map, drop}
use Rattle.lois_base.specs.Atom.{Atom}
use Rattle.lois_base.specs.Fits.{CubeFits}
use Rattle.lois_base.specs.Truth.{cube_holds}
use Rattle.lois_base.specs.OrderFree.{IsOrderFreeCube}
use Rattle.lois_order.specs.Equations.{renamed}
use Rattle.lois_order.proofs.rule.substitute_in_cube.Given as goal

abbrev pub invariant-loop-lit : goal.invariant-loop-lit
invariant-loop-lit l = record {
  holds : (c : List Atom) → cube_holds c (map (renamed l.from l.to) l.cube) ≡ (cube_holds c l.answer && cube_holds c (map (renamed l.from l.to) (drop l.lit-index l.lit-items)));
  levels : CubeFits l.from l.answer;
  order : IsOrderFreeCube l.cube → IsOrderFreeCube l.answer;
}
