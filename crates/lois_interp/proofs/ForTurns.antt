-- A loop, from what its steps have answered.
use Rattle.std.proofs.Common.{◌≡◌, ℕ, inl, inr, Bool, List, [], ◌∷◌, ◌++◌, map, Some, refl, sym, ap, ◌∙◌, subst, bytes_eq}
use Rattle.std.specs.Bool.{IsFalse}
use Rattle.std.specs.List.{All, Contains}
use Rattle.std.proofs.lemmas.List.{map-append}
use Rattle.std.proofs.lemmas.List.Elements.{All-contains, All-weaker}
use Rattle.lois_base.specs.Values.{point}
use Rattle.lois_constraint.proofs.Shifting.{All-of_map}
use Rattle.lois_script.specs.Scope.{RoleD, again, DeclaredD, role_of, farther, entered, with_binder}
use Rattle.lois_script.specs.Tree.{ExprD, CondD, StmtsD, binding, for}
use Rattle.lois_meaning.specs.declared.faults.Fault.{Fault}
use Rattle.lois_context.specs.Choices.{AdmitsContext, ContextHasBoundedWidths}
use Rattle.lois_context.specs.Entered.{ExtendsContext}
use Rattle.lois_context.specs.Joined.{IsEnd}
use Rattle.lois_context.specs.Slots.{SlotD, IsNew, slot_name}
use Rattle.lois_context.specs.declared.contexts.Context.{Context}
use Rattle.lois_eval.specs.WellFormed.{names_of, IsWellFormedIn, IsWellFormed}
use Rattle.lois_eval.specs.Throughout.{IsFaultOf}
use Rattle.lois_interp.specs.Assigned.{ListAssigns}
use Rattle.lois_interp.specs.Elements.{SetFails}
use Rattle.lois_interp.specs.Entered.{StandsInside, IsEntered}
use Rattle.lois_interp.specs.Failed.{FailsWithin}
use Rattle.lois_interp.specs.Looped.{LoopRuns, FailsInside, HoldsElement}
use Rattle.lois_interp.specs.Reached.{RunsAs}
use Rattle.lois_interp.specs.Run.{stmt_run}
use Rattle.lois_interp.specs.WellScoped.{declared_name, StmtIsWellScoped, TurnIsWellScoped}
use Rattle.lois_interp.specs.Tidied.{IsBehindLoop}
use Rattle.lois_interp.proofs.EndsAreEnds.{NoneAssigned, none_assigned}
use Rattle.lois_interp.proofs.ForEnds.{IsLoop}
use Rattle.lois_interp.proofs.ForFails.{bare_within, loop_fails}
use Rattle.lois_interp.proofs.ForRuns.{all_ends, loop_runs}
use Rattle.lois_interp.proofs.WellFormed.{unnamed_in, expr_may}
use Rattle.lois_interp.proofs.Unassigned.{body_unassigned}

farther_names : (ds : List DeclaredD) → map declared_name (map farther ds) ≡ map declared_name ds
farther_names [] = refl
farther_names (d ∷ ds) = ap (λ z. d.name ∷ z) (farther_names ds)

-- a name that may be declared is new in the store
pub new_in_store : (x : List ℕ) (ds : List DeclaredD) (ss : List SlotD) → map declared_name ds ≡ map slot_name ss → ((r : RoleD) → role_of x ds ≡ Some r → ⊥) → IsNew x ss
new_in_store x ds ss e h = All-of_map (λ n. IsFalse (bytes_eq n x)) slot_name ss (subst (All (λ n. IsFalse (bytes_eq n x))) e (unnamed_in x ds h))

-- ---- where the parts of a loop stand
module _ (p : ℕ) (x : List ℕ) (e : ExprD) (c : CondD) (body : StmtsD) where
  pub for_set : (o : Bool) (names : List (List ℕ)) → StmtIsWellScoped (for (binding p x e) c body) o names → IsWellFormed e o names
  for_set o names may = expr_may e o names (record { scope = may.scope; named = may.named; order = may.order; unbroken = λ rule at h. may.unbroken rule at (inl (inr h)); form = may.form.0 })

  pub for_turn : (o : Bool) (names : List (List ℕ)) → StmtIsWellScoped (for (binding p x e) c body) o names → TurnIsWellScoped c body o (names ++ x ∷ [])
  for_turn o names may = record {
    scope = with_binder (binding p x e) (entered may.scope);
    named = map-append declared_name (map farther may.scope.names) _ ∙ ap (λ z. z ++ x ∷ []) (farther_names may.scope.names ∙ may.named);
    order = may.order;
    unbroken = λ rule at h. may.unbroken rule at (inr h);
    form = (may.form.1, may.form.2);
  }

  module _ (before : Context) where
    pub set_placed : (o : Bool) → IsWellFormedIn (StmtIsWellScoped (for (binding p x e) c body)) o before → IsWellFormedIn (IsWellFormed e) o before
    set_placed o h = record { names = for_set o (names_of before.store) h.names; operators = h.operators }

    pub inside_placed : (o : Bool) (d : Context) → IsWellFormedIn (StmtIsWellScoped (for (binding p x e) c body)) o before → StandsInside e x before d → IsWellFormedIn (TurnIsWellScoped c body) o d
    inside_placed o d h s = record {
      names = subst (TurnIsWellScoped c body o) (sym s.named) (for_turn o (names_of before.store) h.names);
      operators = s.operators o (set_placed o h);
    }

    -- the set fails, or is none
    pub for_fails_set : (ordered : Bool) (f : Fault) → IsFaultOf ordered before (SetFails e) f → FailsWithin ordered (stmt_run (for (binding p x e) c body)) before f
    for_fails_set ordered f h =
        bare_within ordered (SetFails e) (stmt_run (for (binding p x e) c body)) before f (λ s at k bad. elim bad [ inl q ↦ inl (q, refl) | inr q ↦ inr (inl (q, refl)) ]) h

    module _ (o : Bool) (placed : IsWellFormedIn (StmtIsWellScoped (for (binding p x e) c body)) o before) where
      may : StmtIsWellScoped (for (binding p x e) c body) o (names_of before.store)
      may = placed.names

      pub for_new : IsNew x before.store
      for_new = new_in_store x may.scope.names before.store may.named (λ r h. may.unbroken again p (inl (inl (refl, refl, r, h))))

      none : NoneAssigned (ListAssigns body) before.store
      none = none_assigned (ListAssigns body) before.store (λ y there.
          body_unassigned (binding p x e) body may.scope y (subst (λ z. Contains z y) (sym may.named) there) (λ rule at k. may.unbroken rule at (inr (inr k))))

      module _ (inside : List Context) (entered : IsEntered e x before inside) where
        pub inside_may : All (IsWellFormedIn (TurnIsWellScoped c body) o) inside
        inside_may = All-weaker (StandsInside e x before) (IsWellFormedIn (TurnIsWellScoped c body) o) (λ d s. inside_placed o d placed s) inside entered.stand

        pub inside_elements : All (λ d. HoldsElement x d.store) inside
        inside_elements = All-weaker (StandsInside e x before) (λ d. HoldsElement x d.store) (λ d s. s.element) inside entered.stand

        pub for_fails_inside : (f : Fault) → (d : Context) × Contains inside d × FailsInside o x c body d f → FailsWithin o (stmt_run (for (binding p x e) c body)) before f
        for_fails_inside f (d, there, h) =
            let s = All-contains (StandsInside e x before) inside d entered.stand there in
            loop_fails e x c body p before entered.elements inside entered.gives entered.members
            (All-weaker (StandsInside e x before) (ExtendsContext before x) (λ q s. s.goes_on) inside entered.stand) o d f there
            s.end.size (λ r q. inside_placed r d q s) s.widths h

        module _ (ends : List Context) (runs : LoopRuns c body inside ends) where
          pub for_ends : All (IsEnd before) ends
          for_ends = all_ends c body before inside ends none (All-weaker (StandsInside e x before) (IsEnd before) (λ q s. s.end) inside entered.stand) runs

          pub ends_admit : (r : Bool) → IsWellFormedIn (StmtIsWellScoped (for (binding p x e) c body)) r before → All (AdmitsContext r) ends
          ends_admit r q = runs.operators r (All-weaker (StandsInside e x before) (IsWellFormedIn (TurnIsWellScoped c body) r) (λ d s. inside_placed r d q s) inside entered.stand)

          loop : IsLoop e x c body before entered.elements inside ends
          loop = record {
            gives = entered.gives;
            set = entered.set;
            members = entered.members;
            goes_on = All-weaker (StandsInside e x before) (ExtendsContext before x) (λ q s. s.goes_on) inside entered.stand;
            named = λ d there y. let s = All-contains (StandsInside e x before) inside d entered.stand there in (point s.element.item y, s.element.held.value y);
            runs = runs;
          }

          pub for_runs : (r : Context) → IsBehindLoop before ends r → RunsAs (stmt_run (for (binding p x e) c body)) before (r ∷ [])
          for_runs r behind =
              loop_runs e x c body p before r behind.store entered.elements inside ends loop behind.joined behind.members behind.tidied behind.size behind.«when» behind.lines
              (λ q h. behind.operators q h.operators (ends_admit q h))
              (λ w. behind.widths w (runs.widths (All-weaker (StandsInside e x before) ContextHasBoundedWidths (λ d s. s.widths w) inside entered.stand)))
