-- A loop fails as the fault says that comes from inside of it.
use Rattle.std.proofs.Common.{◌≡◌, ℕ, zero, suc, ◌≤◌, inl, inr, ◌↔◌, Bool, true, List, [], ◌∷◌, ◌++◌, length, take, drop, Some, refl, sym, ap, ◌∙◌, subst, arith}
use Rattle.std.specs.List.{All, Contains}
use Rattle.std.proofs.lemmas.List.{take-append-drop, length-take}
use Rattle.std.proofs.Math.Seq.{take-length}
use Rattle.std.proofs.lemmas.List.Elements.{All-contains, All-nil}
use Rattle.lois_base.specs.Atom.{Atom}
use Rattle.lois_base.specs.Data.{TermD, depth}
use Rattle.lois_base.specs.Fits.{Fits}
use Rattle.lois_base.specs.Validity.{AdmitsTerm, HasBoundedWidths}
use Rattle.lois_base.specs.Values.{PointValue, point, IsMember}
use Rattle.lois_context.specs.Choices.{IsAdmitted, ContextHasBoundedWidths}
use Rattle.lois_context.specs.Entered.{IsHeldInside, ExtendsContext}
use Rattle.lois_context.specs.Slots.{store_at}
use Rattle.lois_context.specs.LineValues.{line_values}
use Rattle.lois_context.specs.declared.contexts.Context.{Context}
use Rattle.lois_eval.specs.WellFormed.{IsWellFormedIn}
use Rattle.lois_eval.specs.Throughout.{Failure, IsFaultOf}
use Rattle.lois_answers.specs.ResultsData.{LineD}
use Rattle.lois_interp.specs.Failed.{AreElements, FailsAt, FailsWithin}
use Rattle.lois_interp.specs.WellScoped.{StmtIsWellScoped, TurnIsWellScoped}
use Rattle.lois_interp.proofs.Compose.{elements_from}
use Rattle.lois_interp.specs.Run.{Run, stmt_run}
use Rattle.lois_interp.specs.Looped.{FailsInsideAt, FailsInside}
use Rattle.lois_meaning.specs.Expressions.{Gives, HasTruth}
use Rattle.lois_meaning.specs.Faults.{CondFails}
use Rattle.lois_meaning.specs.Runs.{ListFails}
use Rattle.lois_meaning.specs.Store.{NamedValues, named, looked_up, stored, AreSameNamed}
use Rattle.lois_script.specs.Tree.{ExprD, CondD, StmtsD, binding, for}
use Rattle.lois_meaning.specs.declared.faults.Fault.{Fault}
use Rattle.lois_answers.specs.declared.faults.FaultKind.{FaultKind}
use Rattle.lois_meaning.proofs.Failures.{cond_fails_move}
use Rattle.lois_meaning.proofs.Moves.{truth_from}
use Rattle.lois_meaning.proofs.Runs.{list_fails_move}

pub take_in : {X : Type 0} (n m : ℕ) (s : List X) → n ≤ m → take n (take m s) ≡ take n s
take_in zero m s le = refl
take_in (suc n) zero s le = absurd (omega arith)
take_in (suc n) (suc m) [] le = refl
take_in (suc n) (suc m) (x ∷ s) le = ap (λ z. x ∷ z) (take_in n m s (omega arith))

-- the first n atoms, and those behind them up to the m-th
first_parts : (n m : ℕ) (c : List Atom) → n ≤ m → take m c ≡ take n c ++ drop n (take m c)
first_parts n m c le = sym (take-append-drop n (take m c)) ∙ ap (λ z. z ++ drop n (take m c)) (take_in n m c le)

length_first : (n m : ℕ) (c : List Atom) → n ≤ m → length (take m c) ≡ m → length (take n c) ≡ n
length_first n m c le e = omega (arith, length-take m c, length-take n c)

-- no elements
pub no_elements : (stands : Bool → List (List ℕ) → Type 0) (k : Context) (n : ℕ) → AreElements stands k n []
no_elements stands k n = record {
  levels = All-nil (λ (l : LineD). Fits n l.term);
  brackets = All-nil (λ (l : LineD). depth l.term ≤ 64);
  operators = λ o p. All-nil (λ (l : LineD). AdmitsTerm o l.term);
  widths = λ w. All-nil (λ (l : LineD). HasBoundedWidths l.term);
}

-- a failure outside of every loop
pub bare_within : (ordered : Bool) (fails : Failure) (more : Run) (k : Context) (f : Fault) → ((s : NamedValues) (at : ℕ) (kind : FaultKind) → fails s at kind → more.fails s at kind []) → IsFaultOf ordered k fails f → FailsWithin ordered more k f
bare_within ordered fails more k f to h = record {
  fails_at = λ c stand.
      let adm = h.admitted c stand in
      let all : take k.size c ≡ c = subst (λ n. take n c ≡ c) adm.0 (take-length c) in
      record {
        admitted = subst (λ z. IsAdmitted z k) (sym all) adm;
        path = [];
        failed = subst (λ z. more.fails (store_at z k.store) f.pos.offset f.kind []) (sym all) (to (store_at c k.store) f.pos.offset f.kind (h.failure c stand));
        named = subst (λ z. AreSameNamed [] (line_values c z)) (sym h.elements) tt;
      };
  elements = subst (AreElements more.stands k (length f.sample.items)) (sym h.elements) (no_elements more.stands k (length f.sample.items));
}

module _ (e : ExprD) (x : List ℕ) (c : CondD) (body : StmtsD) (p : ℕ) (before : Context) (t : TermD) (inside : List Context)
    (gives : (a : List Atom) → IsAdmitted a before → Gives e (store_at a before.store) (point t a))
    (members : (a : List Atom) → IsAdmitted a before → (u : PointValue) → IsMember u (point t a) ↔ IsHeldInside inside x a u)
    (goes_on : All (ExtendsContext before x) inside) where
  loop_fails_at : (d : Context) (f : Fault) → Contains inside d → before.size ≤ d.size → (s : List Atom) → FailsInsideAt x c body d f s → FailsAt (stmt_run (for (binding p x e) c body)) before f s
  loop_fails_at d f there le s h =
      let a = take before.size s in
      let further = drop before.size (take d.size s) in
      let parts : take d.size s ≡ a ++ further = first_parts before.size d.size s le in
      let count : length a ≡ before.size = length_first before.size d.size s le h.admitted.0 in
      let adm_d : IsAdmitted (a ++ further) d = subst (λ z. IsAdmitted z d) parts h.admitted in
      let goes : ExtendsContext before x d = All-contains (ExtendsContext before x) inside d goes_on there in
      let adm : IsAdmitted a before = goes.outside a further count adm_d in
      let held = subst (λ z. looked_up x (store_at z d.store) ≡ Some h.member) parts h.held in
      let member : IsMember h.member (point t a) = (members a adm h.member).1 (d, there, further, adm_d, held) in
      let same : AreSameNamed (store_at (a ++ further) d.store) (stored x h.member (store_at a before.store)) = goes.store a further count adm_d h.member held in
      record {
        admitted = adm;
        path = named x h.member ∷ h.rest;
        failed = elim h.failed [
          | inl q ↦ inr (inr (inl (
            point t a,
            h.member,
            gives a adm,
            member,
            cond_fails_move c (store_at (a ++ further) d.store) (stored x h.member (store_at a before.store)) f.pos.offset f.kind same (subst (λ z. CondFails c (store_at z d.store) f.pos.offset f.kind) parts q.0),
            ap (λ z. named x h.member ∷ z) q.1,
          )))
          | inr q ↦ inr (inr (inr (
            point t a,
            h.member,
            h.rest,
            gives a adm,
            member,
            truth_from c (store_at (a ++ further) d.store) (stored x h.member (store_at a before.store)) true same (subst (λ z. HasTruth c (store_at z d.store) true) parts q.0),
            list_fails_move body (store_at (a ++ further) d.store) (stored x h.member (store_at a before.store)) f.pos.offset f.kind h.rest same (subst (λ z. ListFails body (store_at z d.store) f.pos.offset f.kind h.rest) parts q.1),
            refl,
          )))
        ];
        named = h.path;
      }

  pub loop_fails : (ordered : Bool) (d : Context) (f : Fault) → Contains inside d → before.size ≤ d.size →
      ((o : Bool) → IsWellFormedIn (StmtIsWellScoped (for (binding p x e) c body)) o before → IsWellFormedIn (TurnIsWellScoped c body) o d) → (ContextHasBoundedWidths before → ContextHasBoundedWidths d) →
      FailsInside ordered x c body d f → FailsWithin ordered (stmt_run (for (binding p x e) c body)) before f
  loop_fails ordered d f there le placed widths inside_fails = record {
    fails_at = λ s stand. loop_fails_at d f there le s (inside_fails.fails_at s stand);
    elements = elements_from (TurnIsWellScoped c body) (StmtIsWellScoped (for (binding p x e) c body)) before d (length f.sample.items) f.elements placed widths inside_fails.elements;
  }
