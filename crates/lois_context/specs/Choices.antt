-- Which choices of atoms a context admits, and what it may use.
use Rattle.std.specs.Prelude.{◌≡◌, Bool, List, length, IsTrue}
use Rattle.std.specs.List.{All}
use Rattle.std.specs.declared.option.Option.{Option}
use Rattle.std.specs.declared.option.Option.TheVariants.{Some, None}
use Rattle.lois_base.specs.Atom.{Atom}
use Rattle.lois_base.specs.Truth.{holds}
use Rattle.lois_base.specs.Validity.{AdmitsConstraint, AdmitsTerm, HasBoundedWidths}
use Rattle.lois_context.specs.declared.contexts.Context.{Context}

-- a choice of as many atoms as the context has levels, at which its constraint holds
abbrev pub IsAdmitted : List Atom → Context → Type 0
IsAdmitted c k = (length c ≡ k.size) × IsTrue (holds c k.«when»)

-- a context that may be missing admits the choice
abbrev pub IsAdmittedBy : List Atom → Option Context → Type 0
IsAdmittedBy c None = ⊥
IsAdmittedBy c (Some k) = IsAdmitted c k

-- only admitted operators occur in the context
pub record AdmitsContext (ordered : Bool) (k : Context) : Type 0 where
  pub «when» : AdmitsConstraint ordered k.«when»
  pub store : All (λ s. AdmitsTerm ordered s.term) k.store
  pub lines : All (λ l. AdmitsTerm ordered l.term) k.lines

-- each tuple in the context has 2 to 8 parts
pub record ContextHasBoundedWidths (k : Context) : Type 0 where
  pub store : All (λ s. HasBoundedWidths s.term) k.store
  pub lines : All (λ l. HasBoundedWidths l.term) k.lines
