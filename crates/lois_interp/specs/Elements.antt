-- How the set of a loop fails, and a fault with the element of a loop.
use Rattle.std.specs.Prelude.{◌≡◌, ℕ, ◌-◌, ◌⊎◌, List, ◌∷◌, length}
use Rattle.lois_base.specs.Data.{TermD}
use Rattle.lois_base.specs.Fits.{Fits}
use Rattle.lois_base.specs.Shift.{shift}
use Rattle.lois_script.specs.Tree.{ExprD}
use Rattle.lois_meaning.specs.Faults.{IsNoSet, OperandFails, Fails}
use Rattle.lois_meaning.specs.declared.faults.Fault.{Fault}
use Rattle.lois_meaning.specs.declared.faults.Stop.{Stop}
use Rattle.lois_meaning.specs.declared.faults.Stop.TheVariants.{Fault as Faulted, NoMemory}
use Rattle.lois_eval.specs.Throughout.{Failure}

-- the expression fails, or what it gives is no set
abbrev pub SetFails : ExprD → Failure
SetFails e s at k = Fails e s at k ⊎ OperandFails IsNoSet e s at k

-- The element is the item, with its own binders behind the numbers of the whole sample.
pub record NamesElement (x : List ℕ) (item : TermD) (size : ℕ) (f g : Fault) : Type 0 where
  pub pos : g.pos ≡ f.pos
  pub kind : g.kind ≡ f.kind
  pub sample : g.sample.items ≡ f.sample.items
  pub elements : g.elements ≡ record { name = x; term = shift size (length f.sample.items - size) item } ∷ f.elements
  pub levels : Fits (length f.sample.items) (shift size (length f.sample.items - size) item)

-- the same of what a run has stopped for, which want of memory may be in the place of
abbrev pub StopNamesElement : List ℕ → TermD → ℕ → Stop → Stop → Type 0
StopNamesElement x item size (Faulted f) (Faulted g) = NamesElement x item size f g
StopNamesElement x item size NoMemory (Faulted g) = ⊥
StopNamesElement x item size stop NoMemory = Unit {0}
