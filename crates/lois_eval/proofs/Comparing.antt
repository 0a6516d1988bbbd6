-- Comparisons of two expressions: the values of their sides, and how they fail.
use Rattle.std.proofs.Common.{◌≡◌, ℕ, ◌⊎◌, Bool, inl, inr, List, [], ◌∷◌, sym, subst}
use Rattle.lois_base.specs.Atom.{Atom}
use Rattle.lois_base.specs.Data.{TermD, var}
use Rattle.lois_base.specs.Truth.{atom_at}
use Rattle.lois_base.specs.Values.{PointValue, point, IsSame}
use Rattle.lois_base.proofs.Order.{equal_refl}
use Rattle.lois_meaning.specs.Faults.{IsNoAtom, IsNoSet, OperandFails, SomeOperandFails, FailsBehind, Fails, SomeFails, CondFails}
use Rattle.lois_meaning.proofs.Alike.{is_set_same, is_atom_same}
use Rattle.lois_meaning.specs.Kinds.{IsAtomAt, IsAtomValue, IsSet}
use Rattle.lois_meaning.specs.Store.{NamedValues}
use Rattle.lois_answers.specs.declared.faults.FaultKind.{FaultKind}
use Rattle.lois_meaning.specs.declared.faults.Fault.{Fault}
use Rattle.lois_script.specs.Tree.{ExprD, CondD, below, member, included, pos}
use Rattle.lois_context.specs.Choices.{AdmitsContext}
use Rattle.lois_context.specs.declared.contexts.Context.{Context}
use Rattle.lois_terms.specs.Collections.{IsColl}
use Rattle.lois_eval.specs.Checks.{IsFaultAt, IsSetFault, IsAtomFault}
use Rattle.lois_eval.specs.Compared.{IsBelowFault}
use Rattle.lois_eval.specs.Evaluated.{AreTermsOf}
use Rattle.lois_eval.specs.Forms.{two, sides_of}
use Rattle.lois_eval.specs.LeftToRight.{IsOfLeftmostUnfit, IsOfLeftmost, IsOfLeftmostSide}
use Rattle.lois_eval.specs.WellFormed.{IsWellFormed, AreWellFormed, CondIsWellFormed, names_of}
use Rattle.lois_eval.specs.Throughout.{IsFaultOf}
use Rattle.lois_eval.proofs.Conditions.{sides, no_set_fails}
use Rattle.lois_eval.proofs.FaultsAt.{admitted_alike, fault_weaker, fault_within}
use Rattle.lois_eval.proofs.LeftToRight.{values_given, none_fails, fit_nowhere, unfit_operand}
use Rattle.lois_eval.proofs.TermKinds.{set_at, no_set_at, atom_term}

-- the values of the sides of a condition that is this one
pub sides_as : (k : Context) (c d : CondD) (ts : List TermD) → c ≡ d → AreTermsOf k (sides_of c) (CondIsWellFormed c) ts → AreTermsOf k (sides_of d) (CondIsWellFormed d) ts
sides_as k c d ts is h = subst (λ z. AreTermsOf k (sides_of z) (CondIsWellFormed z) ts) is h

-- an atom is one at each choice
is_atom : (t : TermD) (c : List Atom) → (i : ℕ) × (t ≡ var i) → (a : Atom) × IsAtomValue (point t c) a
is_atom t c (i, e) = (atom_at c i, subst (λ z. IsAtomAt z c (atom_at c i)) (sym e) (equal_refl (atom_at c i)))

no_atom : (t : TermD) (at : ℕ) (k : Context) (f : Fault) → IsAtomFault k t at f → (c : List Atom) → IsNoAtom (point t c) f.kind
no_atom t at k f h c = (h.kind, λ a is. let (i, e) = atom_term t c a is in h.no_atom i e)

module _ (k : Context) (e f : ExprD) (s t : TermD) (stands : Bool → List (List ℕ) → Type 0) (both : AreTermsOf k (two e f) stands (s ∷ t ∷ [])) (x : Fault) (o : Bool) (admits : AdmitsContext o k) where
  -- the left side is unfit, or it is fit and the right one isn't
  module _ (fit : PointValue → Type 0) (row : PointValue → FaultKind → Type 0) where
    left_fails : IsFaultAt k (pos e) x → ((c : List Atom) → row (point s c) x.kind) → IsFaultOf o k (SomeOperandFails fit row (two e f)) x
    left_fails h bad = record {
      admitted = λ c stand. admitted_alike o k x.sample.items c admits stand h.admitted;
      failure = λ c stand. (point s c ∷ point t c ∷ [], both.values c (admitted_alike o k x.sample.items c admits stand h.admitted), inl (h.place, bad c));
      elements = h.elements;
    }

    right_fails : IsFaultAt k (pos f) x → ((c : List Atom) → fit (point s c)) → ((c : List Atom) → row (point t c) x.kind) → IsFaultOf o k (SomeOperandFails fit row (two e f)) x
    right_fails h left bad = record {
      admitted = λ c stand. admitted_alike o k x.sample.items c admits stand h.admitted;
      failure = λ c stand. (point s c ∷ point t c ∷ [], both.values c (admitted_alike o k x.sample.items c admits stand h.admitted), inr (left c, inl (h.place, bad c)));
      elements = h.elements;
    }

  pub below_fails : (p : ℕ) → IsBelowFault k s (pos e) t (pos f) x → IsFaultOf o k (CondFails (below p e f)) x
  below_fails p h = fault_weaker o k (SomeOperandFails (λ v. (a : Atom) × IsAtomValue v a) IsNoAtom (two e f)) (CondFails (below p e f)) x (λ s at kind bad. inr (inr bad)) (of h)
    where
      of : IsBelowFault k s (pos e) t (pos f) x → IsFaultOf o k (SomeOperandFails (λ v. (a : Atom) × IsAtomValue v a) IsNoAtom (two e f)) x
      of (inl h) = left_fails (λ v. (a : Atom) × IsAtomValue v a) IsNoAtom h.fault (no_atom s (pos e) k x h)
      of (inr (one, h)) = right_fails (λ v. (a : Atom) × IsAtomValue v a) IsNoAtom h.fault (λ c. is_atom s c one) (no_atom t (pos f) k x h)

  pub member_fails : IsSetFault k t (pos f) x → IsFaultOf o k (CondFails (member e f)) x
  member_fails h =
      fault_within o k (OperandFails IsNoSet f) (CondFails (member e f)) x (λ c a at kind bad. inr (inr (point s c, (sides k e f s t stands both c a).0, bad)))
      (no_set_fails o k f t x admits (λ c a. (sides k e f s t stands both c a).1) h)

  pub included_fails_left : IsSetFault k s (pos e) x → IsFaultOf o k (CondFails (included e f)) x
  included_fails_left h =
      fault_weaker o k (SomeOperandFails IsSet IsNoSet (two e f)) (CondFails (included e f)) x (λ s at kind bad. inr (inr bad))
      (left_fails IsSet IsNoSet h.fault (λ c. (h.kind, no_set_at s c h.no_set)))

  pub included_fails_right : IsColl s → IsSetFault k t (pos f) x → IsFaultOf o k (CondFails (included e f)) x
  included_fails_right left h =
      fault_weaker o k (SomeOperandFails IsSet IsNoSet (two e f)) (CondFails (included e f)) x (λ s at kind bad. inr (inr bad))
      (right_fails IsSet IsNoSet h.fault (λ c. set_at s c left) (λ c. (h.kind, no_set_at t c h.no_set)))

  -- the side is the leftmost unfit one; where both give values neither fails by itself
  neither_fails : IsOfLeftmost o k (two e f) x
  neither_fails = none_fails o k (two e f) x (values_given k (two e f) (s ∷ t ∷ []) both.values)

  unfit_left : (row : PointValue → FaultKind → Type 0) → IsFaultAt k (pos e) x → ((c : List Atom) → row (point s c) x.kind) → IsOfLeftmostUnfit o k row (two e f) x
  unfit_left row h bad = inl (unfit_operand o k row e s x admits (λ c a. (sides k e f s t stands both c a).0) h.admitted h.place (λ c stand. bad c) h.elements)

  unfit_right : (row : PointValue → FaultKind → Type 0) → IsFaultAt k (pos f) x → ((c : List Atom) (w : PointValue) (kind : FaultKind) → IsSame (point s c) w → row w kind → ⊥) → ((c : List Atom) → row (point t c) x.kind) → IsOfLeftmostUnfit o k row (two e f) x
  unfit_right row h fit bad = inr (
    fit_nowhere k row e (λ c a. (point s c, (sides k e f s t stands both c a).0, fit c)),
    inl (unfit_operand o k row f t x admits (λ c a. (sides k e f s t stands both c a).1) h.admitted h.place (λ c stand. bad c) h.elements),
  )

  pub below_leftmost : (p : ℕ) → IsBelowFault k s (pos e) t (pos f) x → IsOfLeftmostSide o k (below p e f) x
  below_leftmost p (inl h) = (neither_fails, λ none. unfit_left IsNoAtom h.fault (no_atom s (pos e) k x h))
  below_leftmost p (inr (one, h)) = (neither_fails, λ none. unfit_right IsNoAtom h.fault (λ c w kind same bad. let (a, is) = is_atom s c one in bad.1 a (is_atom_same (point s c) w a same is)) (no_atom t (pos f) k x h))

  pub member_leftmost : IsOfLeftmostSide o k (member e f) x
  member_leftmost = neither_fails

  pub included_leftmost_left : IsSetFault k s (pos e) x → IsOfLeftmostSide o k (included e f) x
  included_leftmost_left h = (neither_fails, λ none. unfit_left IsNoSet h.fault (λ c. (h.kind, no_set_at s c h.no_set)))

  pub included_leftmost_right : IsColl s → IsSetFault k t (pos f) x → IsOfLeftmostSide o k (included e f) x
  included_leftmost_right left h =
      (neither_fails, λ none. unfit_right IsNoSet h.fault (λ c w kind same bad. bad.1 (is_set_same (point s c) w same (set_at s c left))) (λ c. (h.kind, no_set_at t c h.no_set)))

-- a condition fails where its left side does, and where its right one does behind a value of the left one
pub sides_fail : (o : Bool) (k : Context) (c d : CondD) (e f : ExprD) (x : Fault) → c ≡ d → ((s : NamedValues) (at : ℕ) (kind : FaultKind) → Fails e s at kind ⊎ FailsBehind e (Fails f) s at kind → CondFails d s at kind) → IsFaultOf o k (SomeFails (two e f)) x → IsFaultOf o k (CondFails c) x
sides_fail o k c d e f x is to h =
    subst (λ z. IsFaultOf o k (CondFails z) x) (sym is) (fault_weaker o k (SomeFails (two e f)) (CondFails d) x (λ s at kind bad. to s at kind (of s at kind bad)) h)
  where
    of : (s : NamedValues) (at : ℕ) (kind : FaultKind) → SomeFails (two e f) s at kind → Fails e s at kind ⊎ FailsBehind e (Fails f) s at kind
    of s at kind (inl a) = inl a
    of s at kind (inr (v, g, inl b)) = inr (v, g, b)
    of s at kind (inr (v, g, inr (w, h, none))) = absurd none

-- the values of two expressions that are the sides of a condition
pub sides_from : (k : Context) (c d : CondD) (e f : ExprD) (ts : List TermD) → c ≡ d → sides_of d ≡ two e f → ((o : Bool) (xs : List (List ℕ)) → CondIsWellFormed d o xs → IsWellFormed e o xs × IsWellFormed f o xs) → AreTermsOf k (two e f) (AreWellFormed (two e f)) ts → AreTermsOf k (sides_of c) (CondIsWellFormed c) ts
sides_from k c d e f ts is both stands h =
    subst (λ z. AreTermsOf k (sides_of z) (CondIsWellFormed z) ts) (sym is)
    (subst (λ z. AreTermsOf k z (CondIsWellFormed d) ts) (sym both) (record {
      count = h.count;
      values = h.values;
      levels = h.levels;
      operators = λ o p. let q = stands o (names_of k.store) p.names in h.operators o (record { names = (q.0, (q.1, tt)); operators = p.operators });
      widths = h.widths;
    }))
