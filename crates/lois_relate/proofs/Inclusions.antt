-- Two inclusions of sets that are the same.
use Rattle.std.proofs.Common.{◌≡◌, ℕ, List, subst}
use Rattle.lois_base.specs.Data.{coll, CompD, CompsD, comps_of}
use Rattle.lois_base.specs.FormulaData.{FormulaD, any, no_formulas}
use Rattle.lois_base.specs.FormulaTruth.{FormulaHolds}
use Rattle.lois_base.specs.Validity.{AdmitsItems}
use Rattle.lois_base.specs.Values.{SameAt, AllInAt}
use Rattle.lois_relate.specs.Built.{Defines}
use Rattle.lois_relate.specs.Named.{atoms_named}

-- f says where each member of the one set is in the other
abbrev pub IncludedIn : ℕ → List ℕ → List ℕ → List CompD → FormulaD → List CompD → Type 0
IncludedIn n sn tn cs f ss =
    Defines n (λ c. AllInAt (comps_of cs) (atoms_named sn c) (comps_of ss) (atoms_named tn c)) (λ o. AdmitsItems o (comps_of cs) × AdmitsItems o (comps_of ss)) f

-- where the one set is included nowhere, it is the same nowhere
pub sets_cut : (n : ℕ) (sn tn : List ℕ) (cs ss : CompsD) (f : FormulaD) → f ≡ any no_formulas → Defines n (λ c. AllInAt cs (atoms_named sn c) ss (atoms_named tn c)) (λ o. AdmitsItems o cs × AdmitsItems o ss) f → Defines n (λ c. SameAt (coll cs) (atoms_named sn c) (coll ss) (atoms_named tn c)) (λ o. AdmitsItems o cs × AdmitsItems o ss) f
sets_cut n sn tn cs ss f e there = record {
  truth = λ c k. (λ h. absurd (subst (FormulaHolds c) e h), λ h. (there.truth c k).1 h.0);
  levels = there.levels;
  operators = there.operators;
}
