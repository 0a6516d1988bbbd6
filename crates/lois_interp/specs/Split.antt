-- A fault whose elements are written without `<=`.
use Rattle.std.specs.Prelude.{◌≡◌, ℕ, Bool, List}
use Rattle.std.specs.List.{AllZip}
use Rattle.lois_base.specs.Atom.{Atom}
use Rattle.lois_base.specs.Data.{depth}
use Rattle.lois_base.specs.Fits.{Fits}
use Rattle.lois_base.specs.Validity.{AdmitsTerm, HasBoundedWidths, IsStrictTerm}
use Rattle.lois_base.specs.Values.{point, IsSame}
use Rattle.lois_answers.specs.ResultsData.{LineD}
use Rattle.lois_meaning.specs.declared.faults.Fault.{Fault}
use Rattle.lois_meaning.specs.declared.faults.Stop.{Stop}
use Rattle.lois_meaning.specs.declared.faults.Stop.TheVariants.{Fault as Faulted, NoMemory}

-- a line of the same name, whose term has no `<=` and the same value at each choice
pub record IsSplitLine (l r : LineD) : Type 0 where
  pub name : r.name ≡ l.name
  pub value : (c : List Atom) → IsSame (point l.term c) (point r.term c)
  pub strict : IsStrictTerm r.term
  pub levels : (n : ℕ) → Fits n l.term → Fits n r.term
  pub operators : (ordered : Bool) → AdmitsTerm ordered l.term → AdmitsTerm ordered r.term
  pub widths : HasBoundedWidths l.term → HasBoundedWidths r.term
  pub depth : depth r.term ≡ depth l.term

-- the same fault, with such elements
pub record IsSplitFault (f g : Fault) : Type 0 where
  pub pos : g.pos ≡ f.pos
  pub kind : g.kind ≡ f.kind
  pub sample : g.sample.items ≡ f.sample.items
  pub elements : AllZip IsSplitLine f.elements g.elements

-- the same of what a run has stopped for, which want of memory may be in the place of
abbrev pub IsSplitStop : Stop → Stop → Type 0
IsSplitStop (Faulted f) (Faulted g) = IsSplitFault f g
IsSplitStop NoMemory (Faulted g) = ⊥
IsSplitStop stop NoMemory = Unit {0}

-- the fault has the elements of one that is so, but split
abbrev pub IsSplitFrom : (Fault → Type 0) → Fault → Type 0
IsSplitFrom P g = (f : Fault) × P f × IsSplitFault f g
