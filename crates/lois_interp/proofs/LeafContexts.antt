-- Statements that hold no others, from what their steps have answered.
use Rattle.std.proofs.Common.{◌≡◌, ℕ, ◌⊎◌, inl, inr, Bool, true, false, List, [], ◌∷◌, Some, IsTrue, if◌then◌else◌, bytes_eq, refl, sym, ap, ◌∙◌, subst}
use Rattle.std.proofs.lemmas.List.{length-map}
use Rattle.std.proofs.lemmas.List.Elements.{Contains-append_left, Contains-append_right, Contains-push}
use Rattle.lois_base.specs.Atom.{Atom, whole}
use Rattle.lois_base.specs.Data.{TermD, var, tag, tup, coll}
use Rattle.lois_base.specs.Fits.{ConstraintFits}
use Rattle.lois_base.specs.Patterns.{AreAlike}
use Rattle.lois_base.specs.Truth.{holds, sampled}
use Rattle.lois_base.specs.Values.{PointValue, point, IsDeeper}
use Rattle.lois_base.specs.declared.guards.Lit.{Lit}
use Rattle.lois_base.specs.Validity.{AdmitsConstraint}
use Rattle.lois_base.proofs.Truths.{holds_alike}
use Rattle.lois_deciders.specs.Satisfiability.{IsCounterexample}
use Rattle.lois_answers.specs.declared.faults.FaultKind.TheVariants.{NotASet, Assertion, DepthLimit}
use Rattle.lois_script.specs.Scope.{unknown, again}
use Rattle.lois_script.specs.Tree.{ExprD, CondD, «let», assign, add, assert, print}
use Rattle.lois_script.specs.declared.syntax.Pos.{Pos}
use Rattle.lois_eval.proofs.FaultsAt.{own_sample, admitted_alike}
use Rattle.lois_meaning.specs.Expressions.{Gives, HasTruth}
use Rattle.lois_meaning.specs.Faults.{IsNoSet, Fails, CondFails}
use Rattle.lois_meaning.specs.Kinds.{IsSetTerm}
use Rattle.lois_meaning.specs.Runs.{IsSetWith}
use Rattle.lois_meaning.specs.Store.{looked_up, depth_limit}
use Rattle.lois_meaning.specs.declared.faults.Fault.{Fault}
use Rattle.lois_terms.specs.Collections.{IsColl}
use Rattle.lois_context.specs.Choices.{IsAdmitted, AdmitsContext}
use Rattle.lois_context.specs.Slots.{SlotD, IsNew, store_at}
use Rattle.lois_context.specs.declared.contexts.Context.{Context}
use Rattle.lois_eval.specs.WellFormed.{names_of, IsNamed, IsWellFormedIn, IsWellFormed, CondIsWellFormed}
use Rattle.lois_eval.specs.Throughout.{IsFaultOf}
use Rattle.lois_eval.specs.Checks.{IsFaultWith, IsDepthFault}
use Rattle.lois_interp.specs.Failed.{FailsWithin}
use Rattle.lois_interp.specs.Looped.{Holds}
use Rattle.lois_interp.specs.Run.{stmt_run}
use Rattle.lois_interp.specs.WellScoped.{StmtIsWellScoped}
use Rattle.lois_interp.proofs.ForFails.{bare_within}
use Rattle.lois_interp.proofs.ForTurns.{new_in_store}
use Rattle.lois_interp.proofs.WellFormed.{named_in, expr_may, cond_may}

-- ---- names
-- a name in scope holds a term
pub held_named : (x : List ℕ) (ss : List SlotD) → IsNamed x (names_of ss) → (t : TermD) × Holds x ss t
held_named x [] h = absurd h
held_named x (s ∷ ss) h = go (bytes_eq s.name x) refl h (held_named x ss)
  where
    go : (p : Bool) → bytes_eq s.name x ≡ p → IsTrue (bytes_eq s.name x) ⊎ IsNamed x (names_of ss) → (IsNamed x (names_of ss) → (t : TermD) × Holds x ss t) → (t : TermD) × Holds x (s ∷ ss) t
    go true e h later = (
      s.term,
      record {
        value = λ y. ap (λ p. if p then Some (point s.term y) else looked_up x (store_at y ss)) e;
        slot = (s, Contains-append_left (s ∷ []) ss s (Contains-push [] s), refl);
      },
    )
    go false e (inl is) later = let bad : true ≡ false = sym is ∙ e in absurd (cc)
    go false e (inr there) later =
        let r = later there in (
          r.0,
          record {
            value = λ y. ap (λ p. if p then Some (point s.term y) else looked_up x (store_at y ss)) e ∙ r.1.value y;
            slot = (r.1.slot.0, Contains-append_right (s ∷ []) ss r.1.slot.0 r.1.slot.1, r.1.slot.2);
          },
        )

-- ---- where the parts stand
module _ (p : ℕ) (x : List ℕ) (e : ExprD) (o : Bool) (k : Context) where
  pub let_set : IsWellFormedIn (StmtIsWellScoped («let» p x e)) o k → IsWellFormedIn (IsWellFormed e) o k
  let_set h = let may = h.names in record { names = expr_may e o (names_of k.store) (record { scope = may.scope; named = may.named; order = may.order; unbroken = λ rule at bad. may.unbroken rule at (inr bad); form = may.form }); operators = h.operators }

  pub let_new : IsWellFormedIn (StmtIsWellScoped («let» p x e)) o k → IsNew x k.store
  let_new h = let may = h.names in new_in_store x may.scope.names k.store may.named (λ r is. may.unbroken again p (inl (refl, refl, r, is)))

  pub assign_set : IsWellFormedIn (StmtIsWellScoped (assign p x e)) o k → IsWellFormedIn (IsWellFormed e) o k
  assign_set h = let may = h.names in record { names = expr_may e o (names_of k.store) (record { scope = may.scope; named = may.named; order = may.order; unbroken = λ rule at bad. may.unbroken rule at (inr bad); form = may.form }); operators = h.operators }

  pub assign_named : IsWellFormedIn (StmtIsWellScoped (assign p x e)) o k → IsNamed x (names_of k.store)
  assign_named h = let may = h.names in subst (IsNamed x) may.named (named_in x may.scope.names (λ none. may.unbroken unknown p (inl (inl (refl, refl, none)))))

  pub add_set : IsWellFormedIn (StmtIsWellScoped (add e p x)) o k → IsWellFormedIn (IsWellFormed e) o k
  add_set h = let may = h.names in record { names = expr_may e o (names_of k.store) (record { scope = may.scope; named = may.named; order = may.order; unbroken = λ rule at bad. may.unbroken rule at (inl bad); form = may.form }); operators = h.operators }

  pub add_named : IsWellFormedIn (StmtIsWellScoped (add e p x)) o k → IsNamed x (names_of k.store)
  add_named h = let may = h.names in subst (IsNamed x) may.named (named_in x may.scope.names (λ none. may.unbroken unknown p (inr (inl (refl, refl, none)))))

pub assert_cond : (p : ℕ) (c : CondD) (o : Bool) (k : Context) → IsWellFormedIn (StmtIsWellScoped (assert p c)) o k → IsWellFormedIn (CondIsWellFormed c) o k
assert_cond p c o k h = let may = h.names in record { names = cond_may c o (names_of k.store) (record { scope = may.scope; named = may.named; order = may.order; unbroken = may.unbroken; form = may.form }); operators = h.operators }

pub print_named : (p q : ℕ) (x : List ℕ) (o : Bool) (k : Context) → IsWellFormedIn (StmtIsWellScoped (print p q x)) o k → IsNamed x (names_of k.store)
print_named p q x o k h = let may = h.names in subst (IsNamed x) may.named (named_in x may.scope.names (λ none. may.unbroken unknown q (inr (refl, refl, none))))

-- ---- faults
pub let_fails : (ordered : Bool) (p : ℕ) (x : List ℕ) (e : ExprD) (k : Context) (f : Fault) → IsFaultOf ordered k (Fails e) f → FailsWithin ordered (stmt_run («let» p x e)) k f
let_fails ordered p x e k f h = bare_within ordered (Fails e) (stmt_run («let» p x e)) k f (λ s at kind bad. (bad, refl)) h

pub assign_fails : (ordered : Bool) (p : ℕ) (x : List ℕ) (e : ExprD) (k : Context) (f : Fault) → IsFaultOf ordered k (Fails e) f → FailsWithin ordered (stmt_run (assign p x e)) k f
assign_fails ordered p x e k f h = bare_within ordered (Fails e) (stmt_run (assign p x e)) k f (λ s at kind bad. (bad, refl)) h

pub add_fails : (ordered : Bool) (p : ℕ) (x : List ℕ) (e : ExprD) (k : Context) (f : Fault) → IsFaultOf ordered k (Fails e) f → FailsWithin ordered (stmt_run (add e p x)) k f
add_fails ordered p x e k f h = bare_within ordered (Fails e) (stmt_run (add e p x)) k f (λ s at kind bad. (refl, inl bad)) h

set_term : (t : TermD) → IsSetTerm t → IsColl t
set_term (var i) h = absurd h
set_term (tag i) h = absurd h
set_term (tup ts) h = absurd h
set_term (coll ks) h = (ks, refl)

module _ (at : Pos) (x : List ℕ) (e : ExprD) (k : Context) (t : TermD) (held : (a : List Atom) → looked_up x (store_at a k.store) ≡ Some (point t a)) (f : Fault) (ordered : Bool) (admits : AdmitsContext ordered k) where
  pub add_no_set : (v : TermD) → ((a : List Atom) → IsAdmitted a k → Gives e (store_at a k.store) (point v a)) → (IsColl t → ⊥) → IsFaultWith at NotASet k.sample f → FailsWithin ordered (stmt_run (add e at.offset x)) k f
  add_no_set v gives none h =
      let adm : IsAdmitted (sampled f.sample.items) k = subst (λ z. IsAdmitted (sampled z) k) (sym h.sample) (own_sample k) in
      bare_within ordered (λ s place kind. (place ≡ at.offset) × (old w : PointValue) × (looked_up x s ≡ Some old) × Gives e s w × IsNoSet old kind) (stmt_run (add e at.offset x)) k f (λ s place kind bad. (refl, inr (inl bad))) (record {
        admitted = λ a stand. admitted_alike ordered k f.sample.items a admits stand adm;
        failure = λ a stand. (ap (λ z. z.offset) h.place, point t a, point v a, held a, gives a (admitted_alike ordered k f.sample.items a admits stand adm), (h.kind, λ set. none (set_term t set)));
        elements = h.elements;
      })

  pub add_too_deep : (v new : TermD) → ((a : List Atom) → IsAdmitted a k → Gives e (store_at a k.store) (point v a)) → ((a : List Atom) → IsSetWith (point new a) (point t a) (point v a)) → IsDepthFault ordered k new at.offset f → FailsWithin ordered (stmt_run (add e at.offset x)) k f
  add_too_deep v new gives joined h =
      bare_within ordered (λ s place kind. (place ≡ at.offset) × (kind ≡ DepthLimit) × (old w more : PointValue) × (looked_up x s ≡ Some old) × Gives e s w × IsSetWith more old w × IsDeeper more depth_limit) (stmt_run (add e at.offset x)) k f (λ s place kind bad. (refl, inr (inr bad))) (record {
        admitted = λ a stand. admitted_alike ordered k f.sample.items a admits stand h.fault.admitted;
        failure = λ a stand. (h.fault.place, h.kind, point t a, point v a, point new a, held a, gives a (admitted_alike ordered k f.sample.items a admits stand h.fault.admitted), joined a, h.deep a stand);
        elements = h.fault.elements;
      })

pub assert_fails : (ordered : Bool) (p : ℕ) (c : CondD) (k : Context) (f : Fault) → IsFaultOf ordered k (CondFails c) f → FailsWithin ordered (stmt_run (assert p c)) k f
assert_fails ordered p c k f h = bare_within ordered (CondFails c) (stmt_run (assert p c)) k f (λ s at kind bad. inl (bad, refl)) h

-- the sample is a choice at which the condition is false
pub assertion_fails : (ordered : Bool) (at : Pos) (c : CondD) (k : Context) (g : List (List Lit)) (sample : List ℕ) (f : Fault) → AdmitsContext ordered k → AdmitsConstraint ordered g → ((a : List Atom) → IsAdmitted a k → HasTruth c (store_at a k.store) (holds a g)) → ConstraintFits k.size g → IsCounterexample k.size k.«when» g sample → IsFaultWith at Assertion sample f → FailsWithin ordered (stmt_run (assert at.offset c)) k f
assertion_fails ordered at c k g sample f context admits truth fits parts h =
    let adm : IsAdmitted (sampled sample) k = (length-map sample whole ∙ parts.0.count, parts.1) in
    bare_within ordered (λ s place kind. HasTruth c s false × (place ≡ at.offset) × (kind ≡ Assertion)) (stmt_run (assert at.offset c)) k f (λ s place kind bad. inr (bad.0, bad.1, bad.2, refl)) (record {
      admitted = λ a stand. admitted_alike ordered k f.sample.items a context stand (subst (λ z. IsAdmitted (sampled z) k) (sym h.sample) adm);
      failure = λ a stand.
          let alike : AreAlike ordered (sampled sample) a = subst (λ z. AreAlike ordered (sampled z) a) h.sample stand in
          let unmet : holds a g ≡ false = sym (holds_alike ordered (sampled sample) a alike g (subst (λ n. ConstraintFits n g) (sym adm.0) fits) admits) ∙ parts.2 in
          (subst (HasTruth c (store_at a k.store)) unmet (truth a (admitted_alike ordered k sample a context alike adm)), ap (λ z. z.offset) h.place, h.kind);
      elements = h.elements;
    })
