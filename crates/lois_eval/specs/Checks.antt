-- The faults of values that are no sets, no atoms, or too deep.
use Rattle.std.specs.Prelude.{◌≡◌, ℕ, Bool, List, [], take, IsTrue}
use Rattle.lois_base.specs.Atom.{Atom}
use Rattle.lois_base.specs.Data.{TermD, var}
use Rattle.lois_base.specs.Truth.{holds, sampled}
use Rattle.lois_base.specs.declared.guards.Lit.{Lit}
use Rattle.lois_deciders.specs.Satisfaction.{IsSmall}
use Rattle.lois_base.specs.Values.{point, IsDeeper}
use Rattle.lois_terms.specs.Collections.{IsColl}
use Rattle.lois_meaning.specs.Store.{depth_limit}
use Rattle.lois_meaning.specs.declared.faults.Fault.{Fault}
use Rattle.lois_answers.specs.declared.faults.FaultKind.TheVariants.{NotASet, NotAtoms, DepthLimit}
use Rattle.lois_answers.specs.declared.faults.FaultKind.{FaultKind}
use Rattle.lois_meaning.specs.declared.faults.Stop.{Stop}
use Rattle.lois_meaning.specs.declared.faults.Stop.TheVariants as Stops
use Rattle.lois_script.specs.declared.syntax.Pos.{Pos}
use Rattle.lois_context.specs.Choices.{IsAdmitted}
use Rattle.lois_context.specs.declared.contexts.Context.{Context}
use Rattle.lois_eval.specs.Throughout.{StandFor}

-- a fault with this place, kind and sample, and without elements
pub record IsFaultWith (at : Pos) (of_kind : FaultKind) (under : List ℕ) (f : Fault) : Type 0 where
  pub place : f.pos ≡ at
  pub kind : f.kind ≡ of_kind
  pub sample : f.sample.items ≡ under
  pub elements : f.elements ≡ []

-- the fault that the other one is, with the first n numbers of its sample
pub record IsTruncatedFrom (n : ℕ) (f g : Fault) : Type 0 where
  pub place : f.pos ≡ g.pos
  pub kind : f.kind ≡ g.kind
  pub sample : f.sample.items ≡ take n g.sample.items
  pub elements : f.elements ≡ g.elements

abbrev pub IsTruncated : ℕ → Fault → Stop → Type 0
IsTruncated n f (Stops.Fault g) = IsTruncatedFrom n f g
IsTruncated n f Stops.NoMemory = ⊥

-- the context admits the fault's sample, the fault has the place, and names no elements
pub record IsFaultAt (k : Context) (at : ℕ) (f : Fault) : Type 0 where
  pub admitted : IsAdmitted (sampled f.sample.items) k
  pub place : f.pos.offset ≡ at
  pub elements : f.elements ≡ []

pub record IsSetFault (k : Context) (t : TermD) (at : ℕ) (f : Fault) : Type 0 where
  pub fault : IsFaultAt k at f
  pub kind : f.kind ≡ NotASet
  pub no_set : IsColl t → ⊥

pub record IsAtomFault (k : Context) (t : TermD) (at : ℕ) (f : Fault) : Type 0 where
  pub fault : IsFaultAt k at f
  pub kind : f.kind ≡ NotAtoms
  pub no_atom : (i : ℕ) → t ≡ var i → ⊥

pub record IsDepthFault (ordered : Bool) (k : Context) (t : TermD) (at : ℕ) (f : Fault) : Type 0 where
  pub fault : IsFaultAt k at f
  pub kind : f.kind ≡ DepthLimit
  pub deep : (c : List Atom) → StandFor ordered c f → IsDeeper (point t c) depth_limit

-- n numbers below n at which both constraints hold
abbrev pub MeetsBoth : ℕ → List (List Lit) → List (List Lit) → List ℕ → Type 0
MeetsBoth n g h s = IsSmall n s × IsTrue (holds (sampled s) g) × IsTrue (holds (sampled s) h)
