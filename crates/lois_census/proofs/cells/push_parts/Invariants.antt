use Rattle.std.proofs.Common.{ℕ, Bool, take}
use Rattle.lois_base.specs.Fits.{LitFits}
use Rattle.lois_base.specs.Validity.{AdmitsLit}
use Rattle.lois_census.proofs.Parting.{PartsSoFar, PartsKeep}
use Rattle.lois_census.proofs.cells.push_parts.Given as goal

abbrev pub invariant-loop-lit : goal.invariant-loop-lit
invariant-loop-lit l = record {
  parts : PartsSoFar l.fn.cubes l.cube (take l.lit-index l.lit-items) l.cubes l.rest;
  fits : (n : ℕ) → PartsKeep (LitFits n) l.fn.cubes l.cube l.other l.cubes l.rest;
  operators : (o : Bool) → PartsKeep (AdmitsLit o) l.fn.cubes l.cube l.other l.cubes l.rest;
}
