use Rattle.std.proofs.Common.{◌≡◌, ◌&&◌, List, take}
use Rattle.lois_base.specs.Atom.{Atom}
use Rattle.lois_base.specs.Truth.{lit_holds, holds}
use Rattle.lois_constraint.specs.Rules.{Rule, Obeys, ConstraintObeys}
use Rattle.lois_strict.specs.Literals.{with_less}
use Rattle.lois_strict.proofs.constraints.less_parts.Given as goal

abbrev pub invariant-loop-part : goal.invariant-loop-part
invariant-loop-part l = record {
  truth : (e : List Atom) → holds e l.apart ≡ (holds e (take l.part-index l.part-items) && lit_holds e (with_less l.fn.lit));
  rules : (rule : Rule) → ConstraintObeys rule l.parts → Obeys rule (with_less l.fn.lit) → ConstraintObeys rule l.apart;
}
