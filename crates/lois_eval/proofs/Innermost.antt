-- The innermost part of a comprehension, behind all binders: the item where the condition is true, and nothing elsewhere.
use Rattle.std.proofs.Common.{◌≡◌, ◌+◌, ◌<◌, ◌^◌, Bool, true, false, inl, inr, ◌↔◌, List, [], ◌∷◌, refl, sym, ap, subst, ◌∙◌, arith}
use Rattle.std.proofs.lemmas.Bool.{false≢true, false_from_ne_true}
use Rattle.std.proofs.lemmas.List.{append-nil}
use Rattle.std.specs.Bool.{IsTrue}
use Rattle.std.specs.List.{All}
use Rattle.lois_base.specs.Atom.{Atom}
use Rattle.lois_base.specs.Data.{TermD, coll, comp, no_comps, comps_of}
use Rattle.lois_base.specs.Fits.{ConstraintFits, Fits}
use Rattle.lois_base.specs.Truth.{holds}
use Rattle.lois_base.specs.Validity.{AdmitsConstraint, HasBoundedWidths}
use Rattle.lois_base.specs.Values.{PointValue, point, MakesAt, IsSame, IsIn}
use Rattle.lois_base.specs.declared.guards.Lit.{Lit}
use Rattle.lois_base.proofs.Connectives.{both_true}
use Rattle.lois_base.proofs.Members.{member_in}
use Rattle.lois_meaning.specs.Expressions.{Makes, Gives, HasTruth}
use Rattle.lois_script.specs.Tree.{ExprD, each, no_bindings, CondD}
use Rattle.lois_context.specs.Choices.{IsAdmitted, AdmitsContext}
use Rattle.lois_context.specs.Slots.{store_at}
use Rattle.lois_context.specs.Sides.{IsSide}
use Rattle.lois_context.specs.declared.contexts.Context.{Context}
use Rattle.lois_eval.specs.Evaluated.{IsTermOf, IsConstraintOf, HasMembersOnlyWhereAdmitted}
use Rattle.lois_eval.specs.WellFormed.{IsWellFormed, CondIsWellFormed, names_of}
use Rattle.lois_eval.proofs.Binders.{each_true, each_false}

module _ (k : Context) (item : ExprD) (c : CondD) (g : List (List Lit)) (held : IsConstraintOf k (HasTruth c) (CondIsWellFormed c) g) where
  pub here_none : ((d : List Atom) → IsAdmitted d k → IsTrue (holds d g) → ⊥) → IsTermOf k (Makes (each 0 item no_bindings c)) (IsWellFormed (each 0 item no_bindings c)) (coll no_comps)
  here_none none = record {
    value = λ d a. each_false 0 item c (store_at d k.store) (point (coll no_comps) d) (subst (HasTruth c (store_at d k.store)) (false_from_ne_true (holds d g) (none d a)) (held.truth d a)) tt (λ w (u, m, s). m);
    levels = tt;
    operators = λ o h. tt;
    widths = λ h. tt;
  }

  module _ (d : Context) (t : TermD) (side : IsSide k (λ c. holds c g) d) (value : IsTermOf d (Gives item) (IsWellFormed item) t) where
    -- the one member, where the side admits
    in_one : (a : List Atom) (w : PointValue) → IsIn w (point (coll (comps_of (comp 0 d.«when» t ∷ []))) a) ↔ (IsTrue (holds a d.«when») × IsSame w (point t a))
    in_one a w = (λ (u, m, s). elim m [ inl q ↦ one u q s | inr q ↦ absurd q ], λ (h, s). (point t a, inl ([], record { count = refl; guard = subst (λ z. IsTrue (holds z d.«when»)) (sym (append-nil a)) h }, refl, sym (append-nil a)), s))
      where
        one : (u : PointValue) → MakesAt u.term_of u.choice (comp 0 d.«when» t) a → IsSame w u → IsTrue (holds a d.«when») × IsSame w (point t a)
        one u ([], is, p, q) s = (subst (λ z. IsTrue (holds z d.«when»)) (append-nil a) is.guard, subst (λ z. IsSame w z) (ap (λ y. point y u.choice) p ∙ ap (point t) (q ∙ append-nil a)) s)
        one u (x ∷ e, is, p, q) s = absurd (omega (arith, is.count))

    side_holds : (a : List Atom) → IsTrue (holds a d.«when») ↔ (IsTrue (holds a k.«when») × IsTrue (holds a g))
    side_holds a =
        let both = both_true (holds a k.«when») (holds a g) in
        (λ h. both.0 (sym (side.«when» a) ∙ h), λ h. side.«when» a ∙ both.1 h)

    pub here_one : k.size < 2 ^ 64 → ((o : Bool) → AdmitsContext o k → AdmitsConstraint o g → AdmitsContext o d) → IsTermOf k (Makes (each 0 item no_bindings c)) (IsWellFormed (each 0 item no_bindings c)) (coll (comps_of (comp 0 d.«when» t ∷ [])))
    here_one room kept = record {
      value = λ a adm. go a adm (holds a g) refl;
      levels =
          let e : d.size ≡ k.size + 0 = omega (arith, side.size) in
          ((omega arith, subst (λ z. ConstraintFits z d.«when») e d.levels, subst (λ z. Fits z t) e value.levels), tt);
      operators = λ o h.
          let inside = kept o h.operators (held.operators o (record { names = h.names.2; operators = h.operators })) in
          ((inside.«when», value.operators o (record { names = subst (λ z. IsWellFormed item o (names_of z)) (sym side.store) h.names.1; operators = inside })), tt);
      widths = λ h. (value.widths (record { store = subst (λ z. All (λ s. HasBoundedWidths s.term) z) (sym side.store) h.store; lines = subst (λ z. All (λ s. HasBoundedWidths s.term) z) (sym side.lines) h.lines }), tt);
    }
      where
        go : (a : List Atom) → IsAdmitted a k → (b : Bool) → holds a g ≡ b → Makes (each 0 item no_bindings c) (store_at a k.store) (point (coll (comps_of (comp 0 d.«when» t ∷ []))) a)
        go a adm true h =
            let inside : IsAdmitted a d = (adm.0 ∙ sym side.size, (side_holds a).1 (adm.1, h)) in
            each_true 0 item c (store_at a k.store) (point (coll (comps_of (comp 0 d.«when» t ∷ []))) a) (subst (HasTruth c (store_at a k.store)) h (held.truth a adm)) (point t a)
            (subst (λ z. Gives item (store_at a z) (point t a)) side.store (value.value a inside))
            (tt, λ w. (λ y. ((in_one a w).0 y).1, λ y. (in_one a w).1 (inside.1, y)))
        go a adm false h =
            each_false 0 item c (store_at a k.store) (point (coll (comps_of (comp 0 d.«when» t ∷ []))) a) (subst (HasTruth c (store_at a k.store)) h (held.truth a adm)) tt
            (λ w y. false≢true (sym h ∙ ((side_holds a).0 ((in_one a w).0 y).0).1))

    pub here_within : HasMembersOnlyWhereAdmitted k (coll (comps_of (comp 0 d.«when» t ∷ [])))
    here_within a l w m = (l, ((side_holds a).0 ((in_one a w).0 (member_in w (point (coll (comps_of (comp 0 d.«when» t ∷ []))) a) m)).0).0)
