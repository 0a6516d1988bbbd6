use Rattle.std.proofs.Common.{◌≡◌, ◌&&◌, List, take}
use Rattle.lois_base.specs.Atom.{Atom}
use Rattle.lois_base.specs.Truth.{holds}
use Rattle.lois_constraint.specs.Rules.{Rule, Obeys, ConstraintObeys}
use Rattle.lois_strict.specs.Literals.{with_less, with_equal, a_part_holds}
use Rattle.lois_strict.proofs.constraints.split_parts.Given as goal

abbrev pub invariant-loop-part : goal.invariant-loop-part
invariant-loop-part l = record {
  truth : (e : List Atom) → holds e l.split ≡ (holds e (take l.part-index l.part-items) && a_part_holds e l.fn.lit);
  rules : (rule : Rule) → ConstraintObeys rule l.parts → Obeys rule (with_less l.fn.lit) → Obeys rule (with_equal l.fn.lit) → ConstraintObeys rule l.split;
}
