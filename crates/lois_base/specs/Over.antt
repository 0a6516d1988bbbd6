-- What each operation asks of its arguments: levels below n, and the operators of the structure.
use Rattle.std.specs.Prelude.{ℕ, Bool, List}
use Rattle.lois_base.specs.declared.guards.Lit.{Lit}
use Rattle.lois_base.specs.Data.{TermD, TermsD, CompD, CompsD}
use Rattle.lois_base.specs.Fits.{Fits, PartsFit, CompFits, ItemsFit, ConstraintFits}
use Rattle.lois_base.specs.Validity.{AdmitsTerm, AdmitsParts, AdmitsComp, AdmitsItems, AdmitsConstraint}

pub record IsOver (ordered : Bool) (n : ℕ) (t : TermD) : Type 0 where
  pub levels : Fits n t
  pub operators : AdmitsTerm ordered t

pub record PartsAreOver (ordered : Bool) (n : ℕ) (ts : TermsD) : Type 0 where
  pub levels : PartsFit n ts
  pub operators : AdmitsParts ordered ts

pub record CompIsOver (ordered : Bool) (n : ℕ) (c : CompD) : Type 0 where
  pub levels : CompFits n c
  pub operators : AdmitsComp ordered c

pub record ItemsAreOver (ordered : Bool) (n : ℕ) (cs : CompsD) : Type 0 where
  pub levels : ItemsFit n cs
  pub operators : AdmitsItems ordered cs

pub record ConstraintIsOver (ordered : Bool) (n : ℕ) (g : List (List Lit)) : Type 0 where
  pub levels : ConstraintFits n g
  pub operators : AdmitsConstraint ordered g
