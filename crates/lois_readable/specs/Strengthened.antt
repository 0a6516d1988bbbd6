-- Guards that speak of what surrounds them.
use Rattle.std.specs.Prelude.{ℕ, Bool, List}
use Rattle.lois_base.specs.Data.{CompD, comp}
use Rattle.lois_base.specs.Fits.{ConstraintFits}
use Rattle.lois_base.specs.Validity.{AdmitsComp, AdmitsConstraint}
use Rattle.lois_base.specs.declared.guards.Lit.{Lit}
use Rattle.lois_simplify.specs.Shortened.{EntailsUnder}

-- h holds where the guard g of the comprehension does, as far as u holds
pub record IsGuardFor (u g : List (List Lit)) (k : CompD) (h : List (List Lit)) : Type 0 where
  pub there : EntailsUnder u g h
  pub back : EntailsUnder u h g
  pub levels : (n : ℕ) → ConstraintFits n u → ConstraintFits n g → ConstraintFits n h
  pub operators : (ordered : Bool) → AdmitsComp ordered k → AdmitsConstraint ordered h

abbrev pub IsGuardWithin : List (List Lit) → CompD → List (List Lit) → Type 0
IsGuardWithin u (comp m g t) h = IsGuardFor u g (comp m g t) h
