-- A loop over a set as a whole: the comprehension or the quantifier of its first binder, with levels, operators and widths, and
-- its faults.
use Rattle.std.proofs.Common.{◌≡◌, ℕ, ◌≤◌, Bool, true, false, not as opposite, if◌then◌else◌, List, [], ◌∷◌, ◌++◌, take, sym, subst, ◌∙◌}
use Rattle.std.specs.List.{All, Contains}
use Rattle.std.proofs.lemmas.List.Elements.{All-cons, All-head, All-tail, All-contains, All-contains_itself, All-weaker}
use Rattle.std.specs.Prelude.{IsFalse, bytes_eq}
use Rattle.lois_base.specs.Atom.{Atom}
use Rattle.lois_base.specs.Data.{TermD, coll, CompsD}
use Rattle.lois_base.specs.Fits.{ConstraintFits}
use Rattle.lois_base.specs.Patterns.{AreAlike}
use Rattle.lois_base.specs.Truth.{holds, sampled}
use Rattle.lois_base.specs.Validity.{AdmitsConstraint}
use Rattle.lois_base.specs.Values.{PointValue, point, IsMember}
use Rattle.lois_base.specs.declared.guards.Lit.{Lit}
use Rattle.lois_meaning.specs.Expressions.{Makes, Gives, HasTruth}
use Rattle.lois_meaning.specs.Faults.{Breaks, CondFails}
use Rattle.lois_meaning.specs.Kinds.{IsSet}
use Rattle.lois_meaning.specs.Store.{stored}
use Rattle.lois_script.specs.Tree.{ExprD, each, BindingsD, bind, binding, CondD, exists, every}
use Rattle.lois_meaning.specs.declared.faults.Fault.{Fault}
use Rattle.lois_meaning.proofs.Failures.{breaks_move, cond_fails_move}
use Rattle.lois_context.specs.Choices.{IsAdmitted, AdmitsContext}
use Rattle.lois_context.specs.Entered.{AreEntered, IsLoopContext}
use Rattle.lois_context.specs.Slots.{SlotD, IsNew, slot_name, store_at}
use Rattle.lois_context.specs.declared.contexts.Context.{Context}
use Rattle.lois_terms.specs.Collections.{IsColl as IsSetTerm}
use Rattle.lois_eval.specs.Checks.{IsTruncatedFrom}
use Rattle.lois_eval.specs.Evaluated.{IsTermOf, IsConstraintOf, HasMembersOnlyWhereAdmitted}
use Rattle.lois_eval.specs.Folded.{IsGatheredInside, IsFoundInside, IsFaultInside}
use Rattle.lois_eval.specs.Forms.{quantifier}
use Rattle.lois_eval.specs.WellFormed.{IsWellFormedIn, IsUnnamed, IsWellFormed, CondIsWellFormed, names_of}
use Rattle.lois_eval.specs.Throughout.{Failure, StandFor, IsFaultOf}
use Rattle.lois_eval.proofs.Binders.{each_binder_breaks, exists_binder_fails, every_binder_fails}
use Rattle.lois_eval.proofs.Inside.{fails_outside}
use Rattle.lois_eval.proofs.TermKinds.{set_at}
use Rattle.lois_eval.proofs.Loops.{loop_makes, loop_exists, loop_every, loop_within}

-- a name that is none of those in scope is new in the store
pub unnamed_new : (x : List ℕ) (ss : List SlotD) → IsUnnamed x (names_of ss) → IsNew x ss
unnamed_new x [] h = λ i s l. h i (slot_name s) l
unnamed_new x (s ∷ ss) h =
    All-cons (λ s. IsFalse (bytes_eq s.name x)) s ss
    (All-head (λ y. IsFalse (bytes_eq y x)) s.name (names_of ss) h)
    (unnamed_new x ss (All-tail (λ y. IsFalse (bytes_eq y x)) s.name (names_of ss) h))

-- the fault outside
pub of_cut : (o : Bool) (k : Context) (fails : Failure) (f g : Fault) → IsTruncatedFrom k.size f g → ((c : List Atom) → AreAlike o (sampled (take k.size g.sample.items)) c → IsAdmitted c k × fails (store_at c k.store) g.pos.offset g.kind) → g.elements ≡ [] → IsFaultOf o k fails f
of_cut o k fails f g cut at none = record {
  admitted = λ c stand. (at c (as_cut c stand)).0;
  failure = λ c stand.
      let here : fails (store_at c k.store) g.pos.offset g.kind = (at c (as_cut c stand)).1 in
      let there : fails (store_at c k.store) f.pos.offset g.kind = subst (λ p. fails (store_at c k.store) p.offset g.kind) (sym cut.place) here in
      subst (λ z. fails (store_at c k.store) f.pos.offset z) (sym cut.kind) there;
  elements = cut.elements ∙ none;
}
  where
    as_cut : (c : List Atom) → StandFor o c f → AreAlike o (sampled (take k.size g.sample.items)) c
    as_cut c stand = subst (λ z. AreAlike o (sampled z) c) cut.sample stand

module _ (k : Context) (x : List ℕ) (t : TermD) (ds : List Context) (is_set : IsSetTerm t) (entered : AreEntered k x t ds) where
  pub all_longer : All (λ d. k.size ≤ d.size) ds
  all_longer = All-weaker (IsLoopContext k x) (λ d. k.size ≤ d.size) (λ d inside. inside.longer) ds entered.inside

  -- inside the name is in scope too
  pub placed_inside : (o : Bool) (S : Bool → List (List ℕ) → Type 0) → All (AdmitsContext o) ds → S o (names_of k.store ++ x ∷ []) → All (IsWellFormedIn S o) ds
  placed_inside o S admits stands =
      All-weaker (Contains ds) (IsWellFormedIn S o) (λ d there. record {
        names = subst (S o) (sym (All-contains (IsLoopContext k x) ds d entered.inside there).names) stands;
        operators = All-contains (AdmitsContext o) ds d admits there;
      }) ds (All-contains_itself ds)

  set_value : (c : List Atom) → IsSet (point t c)
  set_value c = set_at t c is_set

  module _ (q : ℕ) (e : ExprD) (elements : IsTermOf k (Gives e) (IsWellFormed e) t) where
    pub each_loop : (p : ℕ) (item : ExprD) (rest : BindingsD) (cond : CondD) (ks : CompsD) → IsGatheredInside k.size (Makes (each 0 item rest cond)) (IsWellFormed (each 0 item rest cond)) ds ks →
        IsTermOf k (Makes (each p item (bind (binding q x e) rest) cond)) (IsWellFormed (each p item (bind (binding q x e) rest) cond)) (coll ks)
    each_loop p item rest cond ks gathered = record {
      value = loop_makes k x t ds entered q e elements.value set_value p item rest cond (IsWellFormed (each 0 item rest cond)) ks gathered;
      levels = gathered.levels;
      operators = λ o h. gathered.operators o (placed_inside o (IsWellFormed (each 0 item rest cond)) (entered.operators o h.operators (elements.operators o (record { names = h.names.0.0; operators = h.operators }))) (h.names.0.2, h.names.1, h.names.2));
      widths = λ h. gathered.widths (entered.widths h (elements.widths h));
    }

    pub each_loop_within : (item : ExprD) (rest : BindingsD) (cond : CondD) (ks : CompsD) → IsGatheredInside k.size (Makes (each 0 item rest cond)) (IsWellFormed (each 0 item rest cond)) ds ks → HasMembersOnlyWhereAdmitted k (coll ks)
    each_loop_within item rest cond ks gathered =
        loop_within k x t ds entered (Makes (each 0 item rest cond)) (IsWellFormed (each 0 item rest cond)) ks gathered

    pub each_loop_fails : (o : Bool) (p : ℕ) (item : ExprD) (rest : BindingsD) (cond : CondD) (f g : Fault) → IsFaultInside o ds (Breaks (each 0 item rest cond)) g → IsTruncatedFrom k.size f g → IsFaultOf o k (Breaks (each p item (bind (binding q x e) rest) cond)) f
    each_loop_fails o p item rest cond f g inside cut =
        of_cut o k (Breaks (each p item (bind (binding q x e) rest) cond)) f g cut (λ c alike.
        let (a, (m, is, h)) = fails_outside k x t ds entered o (Breaks (each 0 item rest cond)) (λ s u at kind same b. breaks_move (each 0 item rest cond) s u at kind same b) g inside c alike in
        (a, each_binder_breaks q x e (store_at c k.store) (point t c) (elements.value c a) (set_value c) p item rest cond m is g.pos.offset g.kind h)) inside.2.elements

    pub quantifier_loop_fails : (o some : Bool) (cond : CondD) (f g : Fault) → IsFaultInside o ds (CondFails cond) g → IsTruncatedFrom k.size f g → IsFaultOf o k (CondFails (quantifier some (binding q x e) cond)) f
    quantifier_loop_fails o some cond f g inside cut =
        of_cut o k (CondFails (quantifier some (binding q x e) cond)) f g cut (λ c alike.
        let (a, (m, is, h)) = fails_outside k x t ds entered o (CondFails cond) (λ s u at kind same b. cond_fails_move cond s u at kind same b) g inside c alike in
        (a, whole some c (elements.value c a) m is h)) inside.2.elements
      where
        whole : (some : Bool) (c : List Atom) → Gives e (store_at c k.store) (point t c) → (m : PointValue) → IsMember m (point t c) → CondFails cond (stored x m (store_at c k.store)) g.pos.offset g.kind → CondFails (quantifier some (binding q x e) cond) (store_at c k.store) g.pos.offset g.kind
        whole true c gives m is h = exists_binder_fails q x e (store_at c k.store) (point t c) gives (set_value c) cond m is g.pos.offset g.kind h
        whole false c gives m is h = every_binder_fails q x e (store_at c k.store) (point t c) gives (set_value c) cond m is g.pos.offset g.kind h

    pub quantifier_loop : (some : Bool) (cond : CondD) (g r : List (List Lit)) → IsFoundInside k.size (HasTruth cond) some (CondIsWellFormed cond) ds g → ((c : List Atom) → holds c r ≡ (if some then holds c g else opposite (holds c g))) → ConstraintFits k.size r → ((o : Bool) → AdmitsConstraint o g → AdmitsConstraint o r) →
        IsConstraintOf k (HasTruth (quantifier some (binding q x e) cond)) (CondIsWellFormed (quantifier some (binding q x e) cond)) r
    quantifier_loop true cond g r found is fits admits = record {
      truth = λ c a. subst (HasTruth (exists (binding q x e) cond) (store_at c k.store)) (sym (is c)) (loop_exists k x t ds entered q e elements.value set_value cond (CondIsWellFormed cond) g found c a);
      levels = fits;
      operators = λ o h. admits o (found.operators o (placed_inside o (CondIsWellFormed cond) (entered.operators o h.operators (elements.operators o (record { names = h.names.0; operators = h.operators }))) h.names.2));
    }
    quantifier_loop false cond g r found is fits admits = record {
      truth = λ c a. subst (HasTruth (every (binding q x e) cond) (store_at c k.store)) (sym (is c)) (loop_every k x t ds entered q e elements.value set_value cond (CondIsWellFormed cond) g found c a);
      levels = fits;
      operators = λ o h. admits o (found.operators o (placed_inside o (CondIsWellFormed cond) (entered.operators o h.operators (elements.operators o (record { names = h.names.0; operators = h.operators }))) h.names.2));
    }
