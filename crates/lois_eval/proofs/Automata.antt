-- Values that are automata, or unfit for an operation on automata, throughout a context.
use Rattle.std.proofs.Common.{◌≡◌, ℕ, inl, inr, Bool, List, [], ◌∷◌, length, refl, sym, subst, ◌∙◌}
use Rattle.std.proofs.lemmas.List.{length-map}
use Rattle.std.specs.Prelude.{Result, OnOk}
use Rattle.lois_base.specs.Atom.{Atom, whole}
use Rattle.lois_base.specs.Data.{TermD, terms_of}
use Rattle.lois_base.specs.Patterns.{AreAlike}
use Rattle.lois_base.specs.Truth.{sampled}
use Rattle.lois_base.specs.Values.{PointValue, point}
use Rattle.lois_base.specs.declared.guards.Lit.{Lit}
use Rattle.lois_deciders.proofs.Oracle.{on_ok}
use Rattle.lois_meaning.specs.Automata.{Automaton, IsAutomatonOf, IsComplete}
use Rattle.lois_meaning.specs.Expressions.{IsValidOperand, IsResultOf, Gives}
use Rattle.lois_meaning.specs.Faults.{IsNoAutomaton, IsInvalidOperand}
use Rattle.lois_meaning.specs.declared.faults.Fault.{Fault}
use Rattle.lois_answers.specs.declared.faults.FaultKind.{FaultKind}
use Rattle.lois_answers.specs.declared.faults.FaultKind.TheVariants.{NotAutomaton, NotDeterministic, NotComplete}
use Rattle.lois_automata.specs.Machines.{IsAutomatonAt, IsCompleteAt, IsCompleteDeterministicAt}
use Rattle.lois_automata.specs.Deterministic.{IsDeterministicAt}
use Rattle.lois_automata.specs.Throughout.{HoldsThroughout}
use Rattle.lois_automata.specs.Verdicts.{IsVerdictOn}
use Rattle.lois_automata.specs.declared.verdicts.Verdict.{Verdict}
use Rattle.lois_automata.specs.declared.verdicts.Verdict.TheVariants.{Holds, Fails}
use Rattle.lois_script.specs.Tree.{ExprD, pos}
use Rattle.lois_script.specs.View.{exprs_of}
use Rattle.lois_script.specs.declared.syntax.Operation.{Operation}
use Rattle.lois_script.specs.declared.syntax.Operation.TheVariants.{Union, Inter, Minus, Flatten, Reach, Product, Complement, Minimise}
use Rattle.lois_script.specs.declared.syntax.Pos.{Pos}
use Rattle.lois_meaning.proofs.Alike.{parts_one}
use Rattle.lois_base.specs.Fits.{Fits}
use Rattle.lois_base.specs.Validity.{AdmitsTerm}
use Rattle.lois_context.specs.Choices.{IsAdmitted, AdmitsContext}
use Rattle.lois_context.specs.Slots.{store_at}
use Rattle.lois_context.specs.declared.contexts.Context.{Context}
use Rattle.lois_eval.specs.Automata.{GivesAutomata, IsOfOneAutomaton, IsOfAutomata, IsOperationResult, IsValueFault, IsProductFault, IsFailureOfVerdict}
use Rattle.lois_eval.specs.Operands.{IsAppliedThroughout, IsUnfitFault}
use Rattle.lois_eval.specs.Throughout.{IsValueThroughout, AreValuesThroughout}
use Rattle.lois_eval.specs.WellFormed.{arity}
use Rattle.lois_base.proofs.Moves.{alike_sym}
use Rattle.lois_eval.proofs.AlikeMachines.{automaton_alike, deterministic_alike, complete_alike}
use Rattle.lois_eval.proofs.Conditions.{two_given}
use Rattle.lois_eval.proofs.FaultsAt.{admitted_alike, fault_at}

-- an automaton has one list of five sets
pub one_machine : (v : PointValue) (a b : Automaton) → IsAutomatonOf v a → IsAutomatonOf v b → a ≡ b
one_machine v a b is own =
    let five : a.states ∷ a.letters ∷ a.steps ∷ a.initial ∷ a.final ∷ [] ≡ b.states ∷ b.letters ∷ b.steps ∷ b.initial ∷ b.final ∷ [] = parts_one v.term_of v.choice (a.states ∷ a.letters ∷ a.steps ∷ a.initial ∷ a.final ∷ []) (b.states ∷ b.letters ∷ b.steps ∷ b.initial ∷ b.final ∷ []) is.five own.five in
    let e1 : a.states ≡ b.states = cc in
    let e2 : a.letters ≡ b.letters = cc in
    let e3 : a.steps ≡ b.steps = cc in
    let e4 : a.initial ≡ b.initial = cc in
    let e5 : a.final ≡ b.final = cc in
    subst (λ z. a ≡ record { states = b.states; letters = b.letters; steps = b.steps; initial = b.initial; final = z }) e5
    (subst (λ z. a ≡ record { states = b.states; letters = b.letters; steps = b.steps; initial = z; final = a.final }) e4
    (subst (λ z. a ≡ record { states = b.states; letters = b.letters; steps = z; initial = a.initial; final = a.final }) e3
    (subst (λ z. a ≡ record { states = b.states; letters = z; steps = a.steps; initial = a.initial; final = a.final }) e2
    (subst (λ z. a ≡ record { states = z; letters = a.letters; steps = a.steps; initial = a.initial; final = a.final }) e1 refl))))

-- ---- the values of operands

-- of an expression that gives nothing else each value is an automaton
pub given_throughout : (k : Context) (e : ExprD) (t : TermD) → GivesAutomata e → IsValueThroughout k e t → HoldsThroughout k.size k.«when» (IsAutomatonAt t)
given_throughout k e t gives given c n h = gives (store_at c k.store) (point t c) (given c (n, h))

-- the values of one operand, and of two
pub one_given : (k : Context) (e : ExprD) (t : TermD) → AreValuesThroughout k (exprs_of (e ∷ [])) (t ∷ []) → IsValueThroughout k e t
one_given k e t given c a =
    let (v, more, is, own, others) = given c a in
    let first : v ≡ point t c = cc in
    subst (Gives e (store_at c k.store)) first own

pub both_given : (k : Context) (e f : ExprD) (s t : TermD) → AreValuesThroughout k (exprs_of (e ∷ f ∷ [])) (s ∷ t ∷ []) → IsValueThroughout k e s × IsValueThroughout k f t
both_given k e f s t given =
    let both = λ (c : List Atom) (a : IsAdmitted c k). two_given e f (store_at c k.store) (point s c) (point t c) (given c a) in
    (λ c a. (both c a).0, λ c a. (both c a).1)

-- ---- what the checks say

-- where a verdict has to be that a property holds throughout
pub on_holds : {A E : Type 0} (r : Result A E) (v : Verdict) (P : Verdict → Type 0) → OnOk r (v ≡ Holds) → P v → OnOk r (P Holds)
on_holds r v P h p = on_ok r (v ≡ Holds) (P Holds) (λ e. subst P e p) h

module _ (n : ℕ) (u : List (List Lit)) (t : TermD) where
  pub is_whole : HoldsThroughout n u (IsDeterministicAt t) → HoldsThroughout n u (IsCompleteAt t) → HoldsThroughout n u (IsCompleteDeterministicAt t)
  is_whole single total c k h =
      let (a, is, one) = single c k h in
      let (b, own, all) = total c k h in
      (a, is, one, subst IsComplete (one_machine (point t c) b a own is) all)

  pub whole_automaton : HoldsThroughout n u (IsCompleteDeterministicAt t) → HoldsThroughout n u (IsAutomatonAt t)
  whole_automaton is c k h = let w = is c k h in (w.0, w.1)

-- what isn't so at numbers isn't so at atoms that stand as they do
abbrev Stays : Bool → ℕ → (List Atom → Type 0) → Type 0
Stays o n P = (c d : List Atom) → length c ≡ n → AreAlike o c d → P c → P d

module _ (o : Bool) (k : Context) (t : TermD) (fits : Fits k.size t) (admits : AdmitsTerm o t) (context : AdmitsContext o k) where
  -- the fault at a sample at which a property fails
  failed_value : (P : List Atom → Type 0) → Stays o k.size P → (row : PointValue → FaultKind → Type 0) (at : Pos) (kind : FaultKind) → ((c : List Atom) → IsAdmitted c k → (P c → ⊥) → row (point t c) kind) → (v : Verdict) → IsVerdictOn k.size k.«when» P v → (f : Fault) → IsFailureOfVerdict v at kind f → IsValueFault o k row t at.offset f
  failed_value P stays row at kind to Holds verdict f h = absurd h
  failed_value P stays row at kind to (Fails s) verdict f h =
      let a : IsAdmitted (sampled s.items) k = (length-map s.items whole ∙ verdict.count, verdict.admitted) in
      record {
        fault = fault_at k at kind s.items a f h;
        unfit = λ c stand.
            let alike : AreAlike o (sampled s.items) c = subst (λ z. AreAlike o (sampled z) c) h.sample stand in
            let there : IsAdmitted c k = admitted_alike o k s.items c context alike a in
            subst (row (point t c)) (sym h.kind) (to c there (λ p. verdict.broken (stays c (sampled s.items) there.0 (alike_sym o (sampled s.items) c alike) p)));
      }

  pub no_automaton : (at : Pos) (v : Verdict) → IsVerdictOn k.size k.«when» (IsAutomatonAt t) v → (f : Fault) → IsFailureOfVerdict v at NotAutomaton f → IsValueFault o k IsNoAutomaton t at.offset f
  no_automaton at = failed_value (IsAutomatonAt t) (λ c d n. automaton_alike o k.size c d n t fits admits) IsNoAutomaton at NotAutomaton (λ c a none. (refl, none))

  pub not_deterministic : HoldsThroughout k.size k.«when» (IsAutomatonAt t) → (at : Pos) (v : Verdict) → IsVerdictOn k.size k.«when» (IsDeterministicAt t) v → (f : Fault) → IsFailureOfVerdict v at NotDeterministic f → IsValueFault o k (IsInvalidOperand Minimise) t at.offset f
  not_deterministic automaton at = failed_value (IsDeterministicAt t) (λ c d n. deterministic_alike o k.size c d n t fits admits) (IsInvalidOperand Minimise) at NotDeterministic (λ c a none.
      let (m, is) = automaton c a.0 a.1 in
      inr (inl (refl, m, is, λ one. none (m, is, one))))

  pub not_complete : HoldsThroughout k.size k.«when» (IsDeterministicAt t) → (at : Pos) (v : Verdict) → IsVerdictOn k.size k.«when» (IsCompleteAt t) v → (f : Fault) → IsFailureOfVerdict v at NotComplete f → IsValueFault o k (IsInvalidOperand Minimise) t at.offset f
  not_complete single at = failed_value (IsCompleteAt t) (λ c d n. complete_alike o k.size c d n t fits admits) (IsInvalidOperand Minimise) at NotComplete (λ c a none.
      let (m, is, one) = single c a.0 a.1 in
      inr (inr (refl, m, is, one, λ all. none (m, is, all))))

module _ (k : Context) (t : TermD) where
  pub value_fault_weaker : (o : Bool) (P Q : PointValue → FaultKind → Type 0) (at : ℕ) (f : Fault) → ((v : PointValue) (kind : FaultKind) → P v kind → Q v kind) → IsValueFault o k P t at f → IsValueFault o k Q t at f
  value_fault_weaker o P Q at f to h = record { fault = h.fault; unfit = λ c stand. to (point t c) f.kind (h.unfit c stand) }

  -- ---- what the operations make

  pub one_applied : (op : Operation) (r : TermD) → HoldsThroughout k.size k.«when» (λ c. IsValidOperand (point t c) op) → HoldsThroughout k.size k.«when» (λ c. IsResultOf (point r c) op (point t c ∷ [])) → IsAppliedThroughout k op (t ∷ []) r
  one_applied op r fit made c a = ((fit c a.0 a.1, tt), made c a.0 a.1)

  pub two_applied : (op : Operation) (s r : TermD) → HoldsThroughout k.size k.«when» (λ c. IsValidOperand (point t c) op) → HoldsThroughout k.size k.«when» (λ c. IsValidOperand (point s c) op) → HoldsThroughout k.size k.«when» (λ c. IsResultOf (point r c) op (point t c ∷ point s c ∷ [])) → IsAppliedThroughout k op (t ∷ s ∷ []) r
  two_applied op s r fit other made c a = ((fit c a.0 a.1, (other c a.0 a.1, tt)), made c a.0 a.1)

-- ---- the operands

pub made_of : (k : Context) (op own : Operation) (ts us : List TermD) (r : TermD) → op ≡ own → ts ≡ us → IsOperationResult k own us r → IsOperationResult k op ts r
made_of k op own ts us r is are h = subst (λ z. IsOperationResult k z ts r) (sym is) (subst (λ z. IsOperationResult k own z r) (sym are) h)

pub of_automata : (op : Operation) → (op ≡ Union → ⊥) → (op ≡ Inter → ⊥) → (op ≡ Minus → ⊥) → (op ≡ Flatten → ⊥) → IsOfAutomata op
of_automata Reach a b c d = tt
of_automata Product a b c d = tt
of_automata Complement a b c d = tt
of_automata Minimise a b c d = tt
of_automata Union a b c d = absurd (a refl)
of_automata Inter a b c d = absurd (b refl)
of_automata Minus a b c d = absurd (c refl)
of_automata Flatten a b c d = absurd (d refl)

pub of_one_automaton : (op : Operation) → IsOfAutomata op → (op ≡ Product → ⊥) → IsOfOneAutomaton op × (arity op ≡ 1)
of_one_automaton Reach h other = (tt, refl)
of_one_automaton Complement h other = (tt, refl)
of_one_automaton Minimise h other = (tt, refl)
of_one_automaton Product h other = absurd (other refl)
of_one_automaton Union h other = absurd h
of_one_automaton Inter h other = absurd h
of_one_automaton Minus h other = absurd h
of_one_automaton Flatten h other = absurd h

module _ (o : Bool) (k : Context) (op : Operation) (es : List ExprD) (ts : List TermD) (x : Fault) where
  pub one_unfit : (e : ExprD) (t : TermD) → es ≡ e ∷ [] → ts ≡ t ∷ [] → IsValueFault o k (IsInvalidOperand op) t (pos e) x → IsUnfitFault o k op (exprs_of es) (terms_of ts) x
  one_unfit e t operands values h = subst (λ z. IsUnfitFault o k op (exprs_of es) (terms_of z) x) (sym values) (subst (λ z. IsUnfitFault o k op (exprs_of z) (terms_of (t ∷ [])) x) (sym operands) (record {
    admitted = h.fault.admitted;
    first = inl (h.fault.place, h.unfit);
    elements = h.fault.elements;
  }))

pub product_unfit : (o : Bool) (k : Context) (es : List ExprD) (ts : List TermD) (x : Fault) (e f : ExprD) (s t : TermD) → es ≡ e ∷ f ∷ [] → ts ≡ s ∷ t ∷ [] → IsProductFault o k s (pos e) t (pos f) x → IsUnfitFault o k Product (exprs_of es) (terms_of ts) x
product_unfit o k es ts x e f s t operands values h = subst (λ z. IsUnfitFault o k Product (exprs_of es) (terms_of z) x) (sym values) (subst (λ z. IsUnfitFault o k Product (exprs_of z) (terms_of (s ∷ t ∷ [])) x) (sym operands) (of h))
  where
    of : IsProductFault o k s (pos e) t (pos f) x → IsUnfitFault o k Product (exprs_of (e ∷ f ∷ [])) (terms_of (s ∷ t ∷ [])) x
    of (inl h) = record {
      admitted = h.fault.admitted;
      first = inl (h.fault.place, h.unfit);
      elements = h.fault.elements;
    }
    of (inr (left, h)) = record {
      admitted = h.fault.admitted;
      first = inr (left, inl (h.fault.place, h.unfit));
      elements = h.fault.elements;
    }
