-- Operands that give values fail nowhere, and valid ones are unfit nowhere, so a fault behind them is of the leftmost.
use Rattle.std.proofs.Common.{◌≡◌, ℕ, Bool, inl, inr, List, [], ◌∷◌, sym, subst}
use Rattle.std.specs.Prelude.{Result, IfErr}
use Rattle.lois_base.specs.Atom.{Atom}
use Rattle.lois_base.specs.Data.{TermD, TermsD, no_terms, term, terms_of}
use Rattle.lois_base.specs.Truth.{sampled}
use Rattle.lois_base.specs.Values.{PointValue, point, IsSame}
use Rattle.lois_answers.specs.declared.faults.FaultKind.{FaultKind}
use Rattle.lois_meaning.proofs.Automata.{suits_fit}
use Rattle.lois_meaning.proofs.Determined.{given_same}
use Rattle.lois_meaning.proofs.NotBoth.{gives_fails}
use Rattle.lois_meaning.specs.Expressions.{AreValidOperands, Gives, GiveAll, Makes}
use Rattle.lois_meaning.specs.Faults.{IsInvalidOperand, OperandFails, Fails, SomeFails}
use Rattle.lois_meaning.specs.Kinds.{part_values}
use Rattle.lois_meaning.specs.Store.{NamedValues}
use Rattle.lois_meaning.specs.declared.faults.Fault.{Fault}
use Rattle.lois_meaning.specs.declared.faults.Stop.{Stop}
use Rattle.lois_script.specs.Tree.{ExprD, atoms, var, tag, tuple, listed, each, part, apply, ExprsD, no_exprs, expr, CondD, pos}
use Rattle.lois_script.specs.declared.syntax.Operation.{Operation}
use Rattle.lois_context.specs.Choices.{IsAdmitted, AdmitsContext}
use Rattle.lois_context.specs.Slots.{store_at}
use Rattle.lois_context.specs.declared.contexts.Context.{Context}
use Rattle.lois_eval.specs.Evaluated.{IsTermOf}
use Rattle.lois_eval.specs.LeftToRight.{IsOfLeftmostUnfit, IsOfUnfitIfNoneFails, IsOfLeftmost, IsOfLeftmostOperand, IsOfLeftmostSide}
use Rattle.lois_eval.specs.Operands.{IsAtFirstUnfit, IsUnfitFault}
use Rattle.lois_eval.specs.Throughout.{IsValueThroughout, AreValuesThroughout, Failure, FailsNowhere, IsFaultOf, IfFault, StandFor}
use Rattle.lois_eval.specs.WellFormed.{IsWellFormed}
use Rattle.lois_eval.proofs.FaultsAt.{admitted_alike, alike_itself}

-- at each choice that the context admits the expressions give some values
abbrev pub AreGiven : Context → ExprsD → Type 0
AreGiven k es = (c : List Atom) → IsAdmitted c k → (vs : List PointValue) × GiveAll es (store_at c k.store) vs

pub values_given : (k : Context) (es : ExprsD) (ts : List TermD) → AreValuesThroughout k es ts → AreGiven k es
values_given k es ts h = λ c a. (part_values (terms_of ts) c, h c a)

pub given_nowhere : (k : Context) (e : ExprD) → ((c : List Atom) → IsAdmitted c k → (v : PointValue) × Gives e (store_at c k.store) v) → FailsNowhere k (Fails e)
given_nowhere k e h = λ c a at kind bad. let (v, own) = h c a in gives_fails e (store_at c k.store) v at kind own bad

pub first_nowhere : (k : Context) (e : ExprD) (es : ExprsD) → AreGiven k (expr e es) → FailsNowhere k (Fails e)
first_nowhere k e es h = given_nowhere k e (λ c a. let (vs, all) = h c a in let (v, more, is, own, rest) = all in (v, own))

pub rest_given : (k : Context) (e : ExprD) (es : ExprsD) → AreGiven k (expr e es) → AreGiven k es
rest_given k e es h = λ c a. let (vs, all) = h c a in let (v, more, is, own, rest) = all in (more, rest)

-- a value that the way to be unfit holds of nowhere
pub fit_nowhere : (k : Context) (row : PointValue → FaultKind → Type 0) (e : ExprD) → ((c : List Atom) → IsAdmitted c k → (v : PointValue) × Gives e (store_at c k.store) v × ((w : PointValue) (kind : FaultKind) → IsSame v w → row w kind → ⊥)) → FailsNowhere k (OperandFails row e)
fit_nowhere k row e h = λ c a at kind (place, w, other, bad). let (v, own, never) = h c a in never w kind (given_same e (store_at c k.store) v w own other) bad

-- the values of the first operand, and of those behind it
cons_given : (e : ExprD) (es : ExprsD) (s : NamedValues) (v : PointValue) (vs : List PointValue) → GiveAll (expr e es) s (v ∷ vs) → Gives e s v × GiveAll es s vs
cons_given e es s v vs (w, more, is, own, rest) =
    let first : w ≡ v = cc in
    let others : more ≡ vs = cc in
    (subst (Gives e s) first own, subst (GiveAll es s) others rest)

module _ (o : Bool) (k : Context) where
  -- a fault of a failure is at some choice
  pub fails_somewhere : {A : Type 0} (fails : Failure) (f : Fault) → IsFaultOf o k fails f → FailsNowhere k fails → A
  fails_somewhere fails f h none =
      let own = alike_itself o f.sample.items in
      absurd (none (sampled f.sample.items) (h.admitted (sampled f.sample.items) own) f.pos.offset f.kind (h.failure (sampled f.sample.items) own))

  -- where all give values none fails
  pub none_fails : (es : ExprsD) (f : Fault) → AreGiven k es → IsOfLeftmost o k es f
  none_fails no_exprs f h = tt
  none_fails (expr e es) f h = inr (first_nowhere k e es h, none_fails es f (rest_given k e es h))

  -- where all are valid none is unfit
  valid_nowhere : (op : Operation) (es : ExprsD) (f : Fault) → ((c : List Atom) → IsAdmitted c k → (vs : List PointValue) × GiveAll es (store_at c k.store) vs × AreValidOperands vs op) → IsOfLeftmostUnfit o k (IsInvalidOperand op) es f
  valid_nowhere op no_exprs f h = tt
  valid_nowhere op (expr e es) f h = inr (
    fit_nowhere k (IsInvalidOperand op) e (λ c a.
        let (vs, all, valid) = h c a in
        let (v, more, is, own, rest) = all in
        let both = subst (λ z. AreValidOperands z op) is valid in
        (v, own, λ w kind same bad. suits_fit op v w kind same both.0 bad)),
    valid_nowhere op es f (λ c a.
        let (vs, all, valid) = h c a in
        let (v, more, is, own, rest) = all in
        (more, rest, (subst (λ z. AreValidOperands z op) is valid).1)),
  )

  -- an expression that makes a value has operands that give theirs, and they are valid
  pub own_fault : (e : ExprD) (t : TermD) (f : Fault) → IsTermOf k (Makes e) (IsWellFormed e) t → IsOfLeftmostOperand o k e f
  own_fault (atoms p) t f made = tt
  own_fault (var p x) t f made = tt
  own_fault (tag p x) t f made = tt
  own_fault (each p item bs c) t f made = tt
  own_fault (tuple p es) t f made = none_fails es f (λ c a. let (us, vs, given, parts, same) = made.value c a in (us, given))
  own_fault (listed p es) t f made = none_fails es f (λ c a. let (us, given, rest) = made.value c a in (us, given))
  own_fault (apply p op es) t f made = (
    none_fails es f (λ c a. let (us, given, valid, result) = made.value c a in (us, given)),
    λ none. valid_nowhere op es f (λ c a. let (us, given, valid, result) = made.value c a in (us, given, valid)),
  )
  own_fault (part p e n) t f made = inr (given_nowhere k e (λ c a. let (u, us, own, parts, is) = made.value c a in (u, own)))

  -- an operand whose value is unfit
  pub unfit_operand : (row : PointValue → FaultKind → Type 0) (e : ExprD) (t : TermD) (f : Fault) → AdmitsContext o k → IsValueThroughout k e t → IsAdmitted (sampled f.sample.items) k → f.pos.offset ≡ pos e → ((c : List Atom) → StandFor o c f → row (point t c) f.kind) → f.elements ≡ [] → IsFaultOf o k (OperandFails row e) f
  unfit_operand row e t f admits given a place bad plain = record {
    admitted = λ c stand. admitted_alike o k f.sample.items c admits stand a;
    failure = λ c stand. (place, point t c, given c (admitted_alike o k f.sample.items c admits stand a), bad c stand);
    elements = plain;
  }

  -- the first unfit one of operands that give the values of these terms
  first_unfit : (op : Operation) (es : ExprsD) (ts : TermsD) (f : Fault) → AdmitsContext o k → ((c : List Atom) → IsAdmitted c k → GiveAll es (store_at c k.store) (part_values ts c)) → IsAdmitted (sampled f.sample.items) k → f.elements ≡ [] → IsAtFirstUnfit o k op es ts f → IsOfLeftmostUnfit o k (IsInvalidOperand op) es f
  first_unfit op (expr e es) (term t ts) f admits given a plain (inl (place, bad)) =
      inl (unfit_operand (IsInvalidOperand op) e t f admits (λ c own. (cons_given e es (store_at c k.store) (point t c) (part_values ts c) (given c own)).0) a place bad plain)
  first_unfit op (expr e es) (term t ts) f admits given a plain (inr (valid, rest)) =
      let both = λ (c : List Atom) (own : IsAdmitted c k). cons_given e es (store_at c k.store) (point t c) (part_values ts c) (given c own) in
      inr (
        fit_nowhere k (IsInvalidOperand op) e (λ c own. (point t c, (both c own).0, λ w kind same bad. suits_fit op (point t c) w kind same (valid c own) bad)),
        first_unfit op es ts f admits (λ c own. (both c own).1) a plain rest,
      )
  first_unfit op (expr e es) no_terms f admits given a plain h = absurd h
  first_unfit op no_exprs ts f admits given a plain h = absurd h

  -- the fault of an operation whose operands have values
  pub unfit_fault : (p : ℕ) (op : Operation) (es : ExprsD) (ts : List TermD) (f : Fault) → AdmitsContext o k → AreValuesThroughout k es ts → IsUnfitFault o k op es (terms_of ts) f → IsOfLeftmostOperand o k (apply p op es) f
  unfit_fault p op es ts f admits given h =
      (none_fails es f (values_given k es ts given), λ none. first_unfit op es (terms_of ts) f admits given h.admitted h.elements h.first)

  -- the fault of an operand that fails by itself
  pub fault_of_operand : (row : PointValue → FaultKind → Type 0) (es : ExprsD) (f : Fault) → IsFaultOf o k (SomeFails es) f → IsOfLeftmost o k es f → IsOfLeftmost o k es f × IsOfUnfitIfNoneFails o k row es f
  fault_of_operand row es f fault h = (h, λ none. fails_somewhere (SomeFails es) f fault none)

  -- of an expression that is this one
  pub leftmost_as : {A : Type 0} (e d : ExprD) (r : Result A Stop) → e ≡ d → IfErr r (λ s. IfFault s (IsOfLeftmostOperand o k d)) → IfErr r (λ s. IfFault s (IsOfLeftmostOperand o k e))
  leftmost_as e d r is h = subst (λ z. IfErr r (λ s. IfFault s (IsOfLeftmostOperand o k z))) (sym is) h

  -- of the sides of a condition that is this one
  pub sides_leftmost : {A : Type 0} (c d : CondD) (r : Result A Stop) → c ≡ d → IfErr r (λ s. IfFault s (IsOfLeftmostSide o k d)) → IfErr r (λ s. IfFault s (IsOfLeftmostSide o k c))
  sides_leftmost c d r is h = subst (λ z. IfErr r (λ s. IfFault s (IsOfLeftmostSide o k z))) (sym is) h
