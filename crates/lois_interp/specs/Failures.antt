-- What the failure of a script says, and when there is none.
use Rattle.std.specs.Prelude.{ℕ, ◌≤◌, List, length, take}
use Rattle.std.specs.List.{All}
use Rattle.lois_base.specs.Atom.{Atom}
use Rattle.lois_base.specs.Data.{depth}
use Rattle.lois_base.specs.Validity.{AdmitsTerm, HasBoundedWidths, IsStrictTerm}
use Rattle.lois_answers.specs.declared.faults.FaultKind.{FaultKind}
use Rattle.lois_script.specs.Tree.{ScriptD}
use Rattle.lois_meaning.specs.Runs.{ScriptFails}
use Rattle.lois_meaning.specs.Store.{NamedValues, AreSameNamed}
use Rattle.lois_meaning.specs.declared.faults.Fault.{Fault}
use Rattle.lois_context.specs.Kept.{LinesFit}
use Rattle.lois_context.specs.LineValues.{line_values}
use Rattle.lois_eval.specs.Throughout.{StandFor}
use Rattle.lois_interp.specs.Interpreted.{IsChoiceOf, FailsBehindEnds}

-- at no choice of the parameters
abbrev pub ScriptFailsNowhere : ScriptD → Type 0
ScriptFailsNowhere s = (choice : List Atom) → IsChoiceOf s choice → (at : ℕ) (kind : FaultKind) (path : NamedValues) → ScriptFails s choice at kind path → ⊥

-- The atoms begin with a choice of the parameters, under which the script fails with the fault's place and kind along a path
-- that its elements name at all the atoms. The statements before the one with the place end at every choice.
pub record IsFailureAt (s : ScriptD) (f : Fault) (c : List Atom) : Type 0 where
  pub path : NamedValues
  pub failed : ScriptFails s (take (length s.parameters) c) f.pos.offset f.kind path
  pub first : FailsBehindEnds s (take (length s.parameters) c) f.pos.offset f.kind path
  pub named : AreSameNamed path (line_values c f.elements)

-- The script fails so at the fault's sample, and at all atoms that stand as its numbers do: that are equal where these are, and
-- over ordered atoms in the same order.
pub record IsFailureOf (s : ScriptD) (f : Fault) : Type 0 where
  pub enough : length s.parameters ≤ length f.sample.items
  pub fails_at : (c : List Atom) → StandFor s.ordered c f → IsFailureAt s f c
  pub levels : LinesFit (length f.sample.items) f.elements
  pub brackets : All (λ l. depth l.term ≤ 64) f.elements
  pub operators : All (λ l. AdmitsTerm s.ordered l.term) f.elements
  pub widths : All (λ l. HasBoundedWidths l.term) f.elements
  pub strict : All (λ l. IsStrictTerm l.term) f.elements
