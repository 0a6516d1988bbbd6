-- Where an automaton accepts no word, as a condition of the language.
use Rattle.std.proofs.Common.{◌↔◌, inr, Bool, true, false, not, List, refl}
use Rattle.std.specs.Bool.{IsTrue, IsFalse}
use Rattle.lois_base.specs.Atom.{Atom}
use Rattle.lois_base.specs.Data.{TermD}
use Rattle.lois_base.specs.Truth.{holds}
use Rattle.lois_base.specs.Values.{PointValue, point}
use Rattle.lois_base.specs.declared.guards.Lit.{Lit}
use Rattle.lois_automata.specs.Machines.{IsEmptyAt, AcceptsSomeAt}
use Rattle.lois_automata.specs.Throughout.{HoldsThroughout}
use Rattle.lois_meaning.specs.Automata.{Automaton, IsAutomatonOf, Accepts}
use Rattle.lois_meaning.specs.Expressions.{Gives, HasTruth, IsTruthOf}
use Rattle.lois_meaning.specs.Faults.{IsNoAutomaton, CondFails}
use Rattle.lois_meaning.specs.declared.faults.Fault.{Fault}
use Rattle.lois_script.specs.Tree.{ExprD, empty, pos}
use Rattle.lois_context.specs.Choices.{IsAdmitted, AdmitsContext}
use Rattle.lois_context.specs.declared.contexts.Context.{Context}
use Rattle.lois_eval.specs.Automata.{IsEmptiness, IsValueFault}
use Rattle.lois_eval.specs.Evaluated.{IsTermOf, IsConstraintOf}
use Rattle.lois_eval.specs.WellFormed.{IsWellFormed, CondIsWellFormed}
use Rattle.lois_eval.specs.Throughout.{IsFaultOf}
use Rattle.lois_eval.proofs.FaultsAt.{admitted_alike}

tells : (t : TermD) (c : List Atom) (b : Bool) → (IsTrue b → IsEmptyAt t c) → (IsFalse b → AcceptsSomeAt t c) → (a : Automaton) × IsAutomatonOf (point t c) a × IsTruthOf (not b) ((word : List PointValue) × Accepts a word)
tells t c true none some = let (a, is, never) = none refl in (a, is, λ h. never h.0 h.1)
tells t c false none some = some refl

module _ (k : Context) (t : TermD) where
  pub emptiness_of : (g : List (List Lit)) → HoldsThroughout k.size k.«when» (λ c. IsTrue (holds c g) ↔ IsEmptyAt t c) → HoldsThroughout k.size k.«when» (λ c. IsFalse (holds c g) → AcceptsSomeAt t c) → (c : List Atom) → IsAdmitted c k → (a : Automaton) × IsAutomatonOf (point t c) a × IsTruthOf (not (holds c g)) ((word : List PointValue) × Accepts a word)
  emptiness_of g none some c h = tells t c (holds c g) (none c h.0 h.1).0 (some c h.0 h.1)

  module _ (e : ExprD) (own : IsTermOf k (Gives e) (IsWellFormed e) t) where
    pub empty_decided : (g : List (List Lit)) → IsEmptiness k t g → IsConstraintOf k (HasTruth (empty e)) (CondIsWellFormed (empty e)) g
    empty_decided g h = record {
      truth = λ c a. let (m, is, words) = h.truth c a in (point t c, m, own.value c a, is, words);
      levels = h.levels;
      operators = λ o placed. h.operators o placed.operators (own.operators o (record { names = placed.names; operators = placed.operators }));
    }

    pub empty_fails : (o : Bool) (f : Fault) → AdmitsContext o k → IsValueFault o k IsNoAutomaton t (pos e) f → IsFaultOf o k (CondFails (empty e)) f
    empty_fails o f admits h = record {
      admitted = λ c stand. admitted_alike o k f.sample.items c admits stand h.fault.admitted;
      failure = λ c stand. inr (h.fault.place, point t c, own.value c (admitted_alike o k f.sample.items c admits stand h.fault.admitted), h.unfit c stand);
      elements = h.fault.elements;
    }
