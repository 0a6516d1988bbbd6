use Rattle.std.proofs.Common.{ℕ, ◌++◌, take, drop}
use Rattle.lois_base.specs.Fits.{CubeFits}
use Rattle.lois_base.specs.Validity.{IsStrictCube}
use Rattle.lois_constraint.specs.Entailment.{CubeIsSatisfiable, Entails}
use Rattle.lois_deciders.proofs.strict.strict_part.Given as goal

abbrev pub invariant-loop-index : goal.invariant-loop-index
invariant-loop-index l = record {
  strict : IsStrictCube l.part;
  entails : Entails l.part (take l.index l.literals);
  met : CubeIsSatisfiable l.cube → CubeIsSatisfiable (l.part ++ drop l.index l.literals);
  levels : (n : ℕ) → CubeFits n (take l.index l.literals) → CubeFits n l.part;
}
