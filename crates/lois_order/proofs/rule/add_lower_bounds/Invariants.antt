use Rattle.std.proofs.Common.{◌≡◌, ◌&&◌, List, drop}
use Rattle.std.specs.List.{list_all}
use Rattle.lois_base.specs.Atom.{Atom}
use Rattle.lois_base.specs.Fits.{CubeFits}
use Rattle.lois_base.specs.Truth.{cube_holds}
use Rattle.lois_order.specs.Bounds.{is_below}
use Rattle.lois_order.proofs.rule.add_lower_bounds.Given as goal

abbrev pub invariant-loop-lit : goal.invariant-loop-lit
invariant-loop-lit l = record {
  holds : (c : List Atom) → (cube_holds c l.fn.answer && list_all (is_below c l.level l.step l.upper) l.cube) ≡ (cube_holds c l.answer && list_all (is_below c l.level l.step l.upper) (drop l.lit-index l.lit-items));
  levels : CubeFits l.level l.answer;
}
