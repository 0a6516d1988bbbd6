use Rattle.std.proofs.Common.{◌≡◌, ◌||◌, List, drop}
use Rattle.std.specs.List.{list_any}
use Rattle.lois_base.specs.Atom.{Atom}
use Rattle.lois_base.specs.Fits.{ConstraintFits}
use Rattle.lois_base.specs.Truth.{holds}
use Rattle.lois_base.specs.OrderFree.{IsOrderFreeCube, IsOrderFree}
use Rattle.lois_order.specs.Bounds.{is_met}
use Rattle.lois_order.proofs.rule.add_cases.Given as goal

abbrev pub invariant-loop-lit : goal.invariant-loop-lit
invariant-loop-lit l = record {
  holds : (c : List Atom) → (holds c l.fn.answer || list_any (is_met c l.level l.cube) l.cube) ≡ (holds c l.answer || list_any (is_met c l.level l.cube) (drop l.lit-index l.lit-items));
  levels : ConstraintFits l.level l.answer;
  order : IsOrderFreeCube l.cube → IsOrderFree l.fn.answer → IsOrderFree l.answer;
}
