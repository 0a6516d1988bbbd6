use Rattle.std.proofs.Common.{ℕ, take}
use Rattle.lois_base.specs.Fits.{CubeFits}
use Rattle.lois_base.specs.Validity.{IsStrictCube}
use Rattle.lois_constraint.specs.Entailment.{Entails}
use Rattle.lois_deciders.proofs.strict.tightest_part.Given as goal

abbrev pub invariant-loop-lit : goal.invariant-loop-lit
invariant-loop-lit l = record {
  strict : IsStrictCube l.part;
  entails : Entails l.part (take l.lit-index l.lit-items);
  levels : (n : ℕ) → CubeFits n (take l.lit-index l.lit-items) → CubeFits n l.part;
}
