use Rattle.std.proofs.Common.{◌≡◌, ◌&&◌, List, drop}
use Rattle.std.specs.List.{list_all}
use Rattle.lois_base.specs.Atom.{Atom}
use Rattle.lois_base.specs.Fits.{CubeFits}
use Rattle.lois_base.specs.Truth.{cube_holds}
use Rattle.lois_base.specs.OrderFree.{IsOrderFreeCube}
use Rattle.lois_order.specs.Bounds.{remains}
use Rattle.lois_order.proofs.rule.resolve_bounds.Given as goal

abbrev pub invariant-loop-lit : goal.invariant-loop-lit
invariant-loop-lit l = record {
  holds : (c : List Atom) → list_all (remains c l.level l.strict l.cube) l.cube ≡ (cube_holds c l.answer && list_all (remains c l.level l.strict l.cube) (drop l.lit-index l.lit-items));
  levels : CubeFits l.level l.answer;
  order : IsOrderFreeCube l.cube → IsOrderFreeCube l.answer;
}
