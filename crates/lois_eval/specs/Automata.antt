-- Operations on automata and where an automaton accepts no word, throughout a context, with the faults of values that are unfit.
use Rattle.std.specs.Prelude.{◌≡◌, ℕ, ◌⊎◌, Bool, not, List, length}
use Rattle.lois_base.specs.Atom.{Atom}
use Rattle.lois_base.specs.Data.{TermD, terms_of}
use Rattle.lois_base.specs.Fits.{Fits, PartsFit, ConstraintFits}
use Rattle.lois_base.specs.Truth.{holds}
use Rattle.lois_base.specs.Validity.{AdmitsConstraint, AdmitsTerm, AdmitsParts, HasBoundedWidths, PartsHaveBoundedWidths}
use Rattle.lois_base.specs.Values.{PointValue, point}
use Rattle.lois_base.specs.declared.guards.Lit.{Lit}
use Rattle.lois_meaning.specs.Automata.{Automaton, IsAutomatonOf, IsAutomaton, Accepts}
use Rattle.lois_meaning.specs.Expressions.{IsResultOf, IsTruthOf, Gives}
use Rattle.lois_meaning.specs.Faults.{IsNoAutomaton}
use Rattle.lois_meaning.specs.Store.{NamedValues}
use Rattle.lois_script.specs.Tree.{ExprD}
use Rattle.lois_script.specs.View.{exprs_of}
use Rattle.lois_script.specs.declared.syntax.Operation.{Operation}
use Rattle.lois_script.specs.declared.syntax.Operation.TheVariants.{Reach, Product, Complement, Minimise}
use Rattle.lois_answers.specs.declared.faults.FaultKind.{FaultKind}
use Rattle.lois_meaning.specs.declared.faults.Fault.{Fault}
use Rattle.lois_context.specs.Choices.{IsAdmitted, AdmitsContext}
use Rattle.lois_context.specs.declared.contexts.Context.{Context}
use Rattle.lois_automata.specs.declared.verdicts.Verdict.{Verdict}
use Rattle.lois_automata.specs.declared.verdicts.Verdict.TheVariants.{Holds, Fails}
use Rattle.lois_script.specs.declared.syntax.Pos.{Pos}
use Rattle.lois_eval.specs.Throughout.{AreValuesThroughout, StandFor}
use Rattle.lois_eval.specs.Checks.{IsFaultAt, IsFaultWith}
use Rattle.lois_eval.specs.Operands.{IsAppliedThroughout}
use Rattle.lois_eval.specs.WellFormed.{arity}

-- the operations on one automaton, and those on any
abbrev pub IsOfOneAutomaton : Operation → Type 0
IsOfOneAutomaton Reach = Unit {0}
IsOfOneAutomaton Complement = Unit {0}
IsOfOneAutomaton Minimise = Unit {0}
IsOfOneAutomaton _ = ⊥

abbrev pub IsOfAutomata : Operation → Type 0
IsOfAutomata Product = Unit {0}
IsOfAutomata op = IsOfOneAutomaton op

-- whatever the operation makes is an automaton
abbrev pub MakesAutomaton : Operation → Type 0
MakesAutomaton op = (v : PointValue) (us : List PointValue) → IsResultOf v op us → IsAutomaton v

-- each value that the expression gives is an automaton
abbrev pub GivesAutomata : ExprD → Type 0
GivesAutomata e = (s : NamedValues) (v : PointValue) → Gives e s v → IsAutomaton v

-- as many operands as the operation takes, and their values, which fit the context
pub record AreOperands (o : Bool) (k : Context) (op : Operation) (es : List ExprD) (ts : List TermD) : Type 0 where
  pub operation : IsOfAutomata op
  pub operands : length es ≡ arity op
  pub count : length ts ≡ arity op
  pub given : AreValuesThroughout k (exprs_of es) ts
  pub levels : PartsFit k.size (terms_of ts)
  pub operators : AdmitsParts o (terms_of ts)
  pub context_operators : AdmitsContext o k

-- The term is what the operation makes of these values. It fits the context, and has only operators that the context and the
-- values have.
pub record IsOperationResult (k : Context) (op : Operation) (ts : List TermD) (t : TermD) : Type 0 where
  pub applied : IsAppliedThroughout k op ts t
  pub levels : Fits k.size t
  pub operators : (o : Bool) → AdmitsContext o k → AdmitsParts o (terms_of ts) → AdmitsTerm o t
  pub widths : PartsHaveBoundedWidths (terms_of ts) → HasBoundedWidths t

-- At each choice that the context admits the value is an automaton, and the constraint holds exactly where it accepts no word.
pub record IsEmptiness (k : Context) (t : TermD) (g : List (List Lit)) : Type 0 where
  pub truth : (c : List Atom) → IsAdmitted c k → (a : Automaton) × IsAutomatonOf (point t c) a × IsTruthOf (not (holds c g)) ((word : List PointValue) × Accepts a word)
  pub levels : ConstraintFits k.size g
  pub operators : (o : Bool) → AdmitsContext o k → AdmitsTerm o t → AdmitsConstraint o g

-- the value of t fails in this way at the fault's sample, and at all atoms that stand as its numbers do
pub record IsValueFault (ordered : Bool) (k : Context) (row : PointValue → FaultKind → Type 0) (t : TermD) (at : ℕ) (f : Fault) : Type 0 where
  pub fault : IsFaultAt k at f
  pub unfit : (c : List Atom) → StandFor ordered c f → row (point t c) f.kind

-- one of two values is no automaton, and the place is its place: the second only where the first is one throughout
abbrev pub IsProductFault : Bool → Context → TermD → ℕ → TermD → ℕ → Fault → Type 0
IsProductFault o k s at t there f =
    IsValueFault o k IsNoAutomaton s at f ⊎ (((c : List Atom) → IsAdmitted c k → IsAutomaton (point s c)) × IsValueFault o k IsNoAutomaton t there f)

-- the fault of a verdict that something fails, with its sample
abbrev pub IsFailureOfVerdict : Verdict → Pos → FaultKind → Fault → Type 0
IsFailureOfVerdict Holds at kind f = ⊥
IsFailureOfVerdict (Fails s) at kind f = IsFaultWith at kind s.items f
