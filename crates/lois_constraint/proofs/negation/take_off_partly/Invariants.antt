use Rattle.std.proofs.Common.{◌≡◌, not, ◌&&◌, List, take, IsTrue}
use Rattle.lois_base.specs.Atom.{Atom}
use Rattle.lois_base.specs.Truth.{holds}
use Rattle.lois_constraint.specs.Rules.{Rule, ConstraintObeys, IsKeptByDenial}
use Rattle.lois_constraint.proofs.negation.take_off_partly.Given as goal

abbrev pub invariant-loop-cube : goal.invariant-loop-cube
invariant-loop-cube l = record {
  part : (e : List Atom) → IsTrue (holds e l.rest) → IsTrue (holds e l.fn.antichain && not (holds e (take l.cube-index l.cube-items)));
  whole : IsTrue l.whole → (e : List Atom) → holds e l.rest ≡ (holds e l.fn.antichain && not (holds e (take l.cube-index l.cube-items)));
  rules : (rule : Rule) → IsKeptByDenial rule → ConstraintObeys rule l.fn.antichain → ConstraintObeys rule l.c → ConstraintObeys rule l.rest;
}
