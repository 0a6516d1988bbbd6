-- The terms of single forms of expressions.
use Rattle.std.specs.Prelude.{◌≡◌, ℕ, List, [], ◌∷◌, Option, Some, None, if◌then◌else◌, bytes_eq}
use Rattle.lois_base.specs.Data.{TermD, tup, CompD, comp}
use Rattle.lois_algebra.specs.Parts.{part_of}
use Rattle.lois_meaning.specs.declared.faults.Fault.{Fault}
use Rattle.lois_answers.specs.declared.faults.FaultKind.{FaultKind}
use Rattle.lois_answers.specs.declared.faults.FaultKind.TheVariants.{NotATuple, NoSuchPart}
use Rattle.lois_context.specs.Slots.{SlotD}
use Rattle.lois_context.specs.declared.contexts.Context.{Context}
use Rattle.lois_eval.specs.Checks.{IsFaultAt}

-- a member without binders and without a condition
abbrev pub bare : TermD → CompD
bare t = comp 0 ([] ∷ []) t

-- the term of the first slot with the name
abbrev pub term_held : List ℕ → List SlotD → Option TermD
term_held x [] = None
term_held x (s ∷ ss) = if (bytes_eq s.name x) then Some s.term else term_held x ss

abbrev pub IsHeldBy : List ℕ → List SlotD → TermD → Type 0
IsHeldBy x ss t = term_held x ss ≡ Some t

abbrev pub missing_part : TermD → FaultKind
missing_part (tup ts) = NoSuchPart
missing_part _ = NotATuple

pub record IsPartFault (k : Context) (t : TermD) (n : ℕ) (at : ℕ) (f : Fault) : Type 0 where
  pub fault : IsFaultAt k at f
  pub kind : f.kind ≡ missing_part t
  pub no_part : part_of t n ≡ None
