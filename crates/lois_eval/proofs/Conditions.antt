-- Which truth each form of conditions has, from what is known of its parts.
use Rattle.std.proofs.Common.{◌≡◌, ℕ, Bool, true, false, not as opposite, ◌&&◌, ◌||◌, if◌then◌else◌, ◌↔◌, List, [], ◌∷◌, ◌++◌, length, refl, sym, ap, subst, ◌∙◌}
use Rattle.std.proofs.lemmas.Bool.{false≢true}
use Rattle.std.specs.Bool.{IsTrue, IsFalse}
use Rattle.lois_base.specs.Atom.{Atom}
use Rattle.lois_base.specs.Data.{TermD}
use Rattle.lois_base.specs.Fits.{ConstraintFits}
use Rattle.lois_base.specs.Truth.{atom_at, holds}
use Rattle.lois_base.specs.Validity.{AdmitsConstraint, AdmitsTerm}
use Rattle.lois_base.specs.Values.{PointValue, point, IsSame, IsIn, IsIncluded}
use Rattle.lois_base.specs.declared.guards.Lit.{Lit}
use Rattle.lois_base.proofs.Order.{equal_refl}
use Rattle.lois_meaning.specs.Expressions.{Gives, GiveAll, HasTruth, IsTruthOf}
use Rattle.lois_meaning.specs.Faults.{IsNoSet, OperandFails}
use Rattle.lois_meaning.specs.Kinds.{IsAtomAt}
use Rattle.lois_meaning.specs.Store.{NamedValues}
use Rattle.lois_script.specs.Tree.{ExprD, CondD, same, differ, below, member, included, not, no_conds, pos}
use Rattle.lois_script.specs.View.{conds_of}
use Rattle.lois_meaning.specs.declared.faults.Fault.{Fault}
use Rattle.lois_context.specs.Choices.{IsAdmitted, AdmitsContext}
use Rattle.lois_context.specs.Slots.{store_at}
use Rattle.lois_context.specs.declared.contexts.Context.{Context}
use Rattle.lois_terms.specs.Collections.{IsColl as IsSetTerm}
use Rattle.lois_eval.specs.Checks.{IsSetFault}
use Rattle.lois_eval.specs.Compared.{AreAtomsBelow}
use Rattle.lois_eval.specs.Evaluated.{AreTermsOf, IsConstraintOf}
use Rattle.lois_eval.specs.Forms.{joint, two}
use Rattle.lois_eval.specs.WellFormed.{IsWellFormedIn, CondIsWellFormed}
use Rattle.lois_eval.specs.Throughout.{IsFaultOf}
use Rattle.lois_eval.proofs.FaultsAt.{admitted_alike}
use Rattle.lois_eval.proofs.TermKinds.{set_at, no_set_at}
use Rattle.lois_eval.proofs.Parts.{have_truths_more, list_all-more, list_any-more}

truth_as : (b : Bool) (P : Type 0) → IsTrue b ↔ P → IsTruthOf b P
truth_as true P h = h.0 refl
truth_as false P h = λ p. false≢true (h.1 p)

untruth_as : (b : Bool) (P : Type 0) → IsFalse b ↔ P → IsTruthOf (opposite b) P
untruth_as true P h = λ p. false≢true (sym (h.1 p))
untruth_as false P h = h.0 refl

twice : (b : Bool) → opposite (opposite b) ≡ b
twice true = refl
twice false = refl

pub two_given : (e f : ExprD) (st : NamedValues) (v w : PointValue) → GiveAll (two e f) st (v ∷ w ∷ []) → Gives e st v × Gives f st w
two_given e f st v w (a, more, p, g, (b, rest, q, h, r)) =
    let first : v ≡ a = cc in
    let others : w ∷ [] ≡ more = cc in
    let second : w ∷ [] ≡ b ∷ rest = others ∙ q in
    let is : w ≡ b = cc in
    (subst (Gives e st) (sym first) g, subst (Gives f st) (sym is) h)

module _ (k : Context) (e f : ExprD) (s t : TermD) where
  pub sides : (stands : Bool → List (List ℕ) → Type 0) → AreTermsOf k (two e f) stands (s ∷ t ∷ []) → (c : List Atom) → IsAdmitted c k → Gives e (store_at c k.store) (point s c) × Gives f (store_at c k.store) (point t c)
  sides stands both c a = two_given e f (store_at c k.store) (point s c) (point t c) (both.values c a)

  pub same_decided : (g : List (List Lit)) → AreTermsOf k (two e f) (CondIsWellFormed (same e f)) (s ∷ t ∷ []) → ((c : List Atom) → length c ≡ k.size → IsTrue (holds c g) ↔ IsSame (point s c) (point t c)) → ConstraintFits k.size g → ((o : Bool) → AdmitsTerm o s → AdmitsTerm o t → AdmitsConstraint o g) → IsConstraintOf k (HasTruth (same e f)) (CondIsWellFormed (same e f)) g
  same_decided g both truth fits admits = record {
    truth = λ c a. let h = sides (CondIsWellFormed (same e f)) both c a in (point s c, point t c, h.0, h.1, truth_as (holds c g) (IsSame (point s c) (point t c)) (truth c a.0));
    levels = fits;
    operators = λ o h. let p = both.operators o h in admits o p.0 p.1.0;
  }

  pub differ_decided : (g : List (List Lit)) → AreTermsOf k (two e f) (CondIsWellFormed (differ e f)) (s ∷ t ∷ []) → ((c : List Atom) → length c ≡ k.size → IsFalse (holds c g) ↔ IsSame (point s c) (point t c)) → ConstraintFits k.size g → ((o : Bool) → AdmitsTerm o s → AdmitsTerm o t → AdmitsConstraint o g) → IsConstraintOf k (HasTruth (differ e f)) (CondIsWellFormed (differ e f)) g
  differ_decided g both truth fits admits = record {
    truth = λ c a. let h = sides (CondIsWellFormed (differ e f)) both c a in
        (point s c, point t c, h.0, h.1, untruth_as (holds c g) (IsSame (point s c) (point t c)) (truth c a.0));
    levels = fits;
    operators = λ o h. let p = both.operators o h in admits o p.0 p.1.0;
  }

  pub below_decided : (p : ℕ) (g : List (List Lit)) → AreTermsOf k (two e f) (CondIsWellFormed (below p e f)) (s ∷ t ∷ []) → AreAtomsBelow s t g → ConstraintFits k.size g → AdmitsConstraint true g → IsConstraintOf k (HasTruth (below p e f)) (CondIsWellFormed (below p e f)) g
  below_decided p g both atoms fits admits = record {
    truth = λ c a. let h = sides (CondIsWellFormed (below p e f)) both c a in (
      point s c,
      point t c,
      atom_at c atoms.left,
      atom_at c atoms.right,
      h.0,
      h.1,
      subst (λ z. IsAtomAt z c (atom_at c atoms.left)) (sym atoms.left_is) (equal_refl (atom_at c atoms.left)),
      subst (λ z. IsAtomAt z c (atom_at c atoms.right)) (sym atoms.right_is) (equal_refl (atom_at c atoms.right)),
      atoms.truth c,
    );
    levels = fits;
    operators = λ o h. subst (λ z. AdmitsConstraint z g) (sym h.names.0) admits;
  }

  pub member_decided : (g : List (List Lit)) → AreTermsOf k (two e f) (CondIsWellFormed (member e f)) (s ∷ t ∷ []) → IsSetTerm t → ((c : List Atom) → length c ≡ k.size → IsTrue (holds c g) ↔ IsIn (point s c) (point t c)) → ConstraintFits k.size g → ((o : Bool) → AdmitsTerm o s → AdmitsTerm o t → AdmitsConstraint o g) → IsConstraintOf k (HasTruth (member e f)) (CondIsWellFormed (member e f)) g
  member_decided g both set truth fits admits = record {
    truth = λ c a. let h = sides (CondIsWellFormed (member e f)) both c a in (point s c, point t c, h.0, h.1, set_at t c set, truth_as (holds c g) (IsIn (point s c) (point t c)) (truth c a.0));
    levels = fits;
    operators = λ o h. let p = both.operators o h in admits o p.0 p.1.0;
  }

  pub included_decided : (g : List (List Lit)) → AreTermsOf k (two e f) (CondIsWellFormed (included e f)) (s ∷ t ∷ []) → IsSetTerm s → IsSetTerm t → ((c : List Atom) → length c ≡ k.size → IsTrue (holds c g) ↔ IsIncluded (point s c) (point t c)) → ConstraintFits k.size g → ((o : Bool) → AdmitsTerm o s → AdmitsTerm o t → AdmitsConstraint o g) → IsConstraintOf k (HasTruth (included e f)) (CondIsWellFormed (included e f)) g
  included_decided g both one set truth fits admits = record {
    truth = λ c a. let h = sides (CondIsWellFormed (included e f)) both c a in (point s c, point t c, h.0, h.1, set_at s c one, set_at t c set, truth_as (holds c g) (IsIncluded (point s c) (point t c)) (truth c a.0));
    levels = fits;
    operators = λ o h. let p = both.operators o h in admits o p.0 p.1.0;
  }

-- an operand that is no set
pub no_set_fails : (o : Bool) (k : Context) (e : ExprD) (t : TermD) (f : Fault) → AdmitsContext o k → ((c : List Atom) → IsAdmitted c k → Gives e (store_at c k.store) (point t c)) → IsSetFault k t (pos e) f → IsFaultOf o k (OperandFails IsNoSet e) f
no_set_fails o k e t f admits given h = record {
  admitted = λ c stand. admitted_alike o k f.sample.items c admits stand h.fault.admitted;
  failure = λ c stand. (h.fault.place, point t c, given c (admitted_alike o k f.sample.items c admits stand h.fault.admitted), (h.kind, no_set_at t c h.no_set));
  elements = h.fault.elements;
}

pub not_decided : (k : Context) (c : CondD) (g r : List (List Lit)) → IsConstraintOf k (HasTruth c) (CondIsWellFormed c) g → ((d : List Atom) → holds d r ≡ opposite (holds d g)) → ConstraintFits k.size r → ((o : Bool) → AdmitsConstraint o g → AdmitsConstraint o r) → IsConstraintOf k (HasTruth (not c)) (CondIsWellFormed (not c)) r
not_decided k c g r held denied fits admits = record {
  truth = λ d a. subst (HasTruth c (store_at d k.store)) (sym (ap opposite (denied d) ∙ twice (holds d g))) (held.truth d a);
  levels = fits;
  operators = λ o h. admits o (held.operators o (record { names = h.names; operators = h.operators }));
}

-- ---- all of the conditions, or one of them

module _ (k : Context) (stands : Bool → List (List ℕ) → Type 0) where
  pub joint_none : (every : Bool) (g : List (List Lit)) → ((c : List Atom) → holds c g ≡ every) → ConstraintFits k.size g → ((o : Bool) → AdmitsConstraint o g) → IsConstraintOf k (HasTruth (joint every no_conds)) stands g
  joint_none every g truth fits admits = record {
    truth = λ c a. subst (HasTruth (joint every no_conds) (store_at c k.store)) (sym (truth c)) (start every (store_at c k.store));
    levels = fits;
    operators = λ o h. admits o;
  }
    where
      start : (every : Bool) (s : NamedValues) → HasTruth (joint every no_conds) s every
      start true s = ([], refl, refl)
      start false s = ([], refl, refl)

  pub joint_more : (every : Bool) (cs : List CondD) (c : CondD) (g h r : List (List Lit)) → IsConstraintOf k (HasTruth (joint every (conds_of cs))) stands g → IsConstraintOf k (HasTruth c) (CondIsWellFormed c) h →
      ((d : List Atom) → holds d r ≡ (if every then holds d g && holds d h else holds d g || holds d h)) → ((n : ℕ) → ConstraintFits n g → ConstraintFits n h → ConstraintFits n r) → ((o : Bool) → AdmitsConstraint o g → AdmitsConstraint o h → AdmitsConstraint o r) →
      ((o : Bool) → IsWellFormedIn stands o k → IsWellFormedIn (CondIsWellFormed c) o k) → IsConstraintOf k (HasTruth (joint every (conds_of (cs ++ c ∷ [])))) stands r
  joint_more every cs c g h r so_far own truth fits admits placed = record {
    truth = λ d a. step every d (truth d) (so_far.truth d a) (own.truth d a);
    levels = fits k.size so_far.levels own.levels;
    operators = λ o p. admits o (so_far.operators o p) (own.operators o (placed o p));
  }
    where
      step : (every : Bool) (d : List Atom) → holds d r ≡ (if every then holds d g && holds d h else holds d g || holds d h) → HasTruth (joint every (conds_of cs)) (store_at d k.store) (holds d g) → HasTruth c (store_at d k.store) (holds d h) → HasTruth (joint every (conds_of (cs ++ c ∷ []))) (store_at d k.store) (holds d r)
      step true d is (bs, truths, b) one =
          (bs ++ holds d h ∷ [], have_truths_more cs c (store_at d k.store) bs (holds d h) truths one, is ∙ (ap (λ z. z && holds d h) b ∙ sym (list_all-more bs (holds d h))))
      step false d is (bs, truths, b) one =
          (bs ++ holds d h ∷ [], have_truths_more cs c (store_at d k.store) bs (holds d h) truths one, is ∙ (ap (λ z. z || holds d h) b ∙ sym (list_any-more bs (holds d h))))
