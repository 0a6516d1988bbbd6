-- A comprehension by the first of the bindings that are left, and without any; a quantifier by its binding.
use Rattle.std.proofs.Common.{◌≡◌, ℕ, ◌+◌, ◌<◌, ◌^◌, Bool, true, false, not as opposite, if◌then◌else◌, inl, inr, List, [], ◌∷◌, ◌++◌, length, get_or, drop, map, refl, sym, ap, subst, ◌∙◌, arith}
use Rattle.std.specs.Bool.{IsTrue}
use Rattle.std.specs.List.{All}
use Rattle.std.proofs.lemmas.Bool.{and_parts}
use Rattle.std.proofs.lemmas.List.{drop_all}
use Rattle.lois_base.specs.Atom.{Atom}
use Rattle.lois_base.specs.Data.{TermD, coll, comp, CompsD, no_comps, comps_of}
use Rattle.lois_base.specs.Fits.{ConstraintFits}
use Rattle.lois_base.specs.Truth.{holds}
use Rattle.lois_base.specs.Validity.{AdmitsConstraint}
use Rattle.lois_base.specs.declared.guards.Lit.{Lit}
use Rattle.lois_terms.specs.Collections.{IsColl as IsSetTerm}
use Rattle.lois_base.proofs.Viewed.{rest_is}
use Rattle.lois_script.specs.Tree.{each, BindingsD, no_bindings, bind, binding, pos}
use Rattle.lois_script.specs.View.{tree, cond_tree, binding_tree, bindings_of}
use Rattle.lois_script.specs.declared.syntax.Binding.{Binding}
use Rattle.lois_script.specs.declared.syntax.Cond.{Cond}
use Rattle.lois_script.specs.declared.syntax.Expr.{Expr}
use Rattle.lois_script.proofs.Views.{binding_is}
use Rattle.lois_meaning.specs.Expressions.{Makes, Gives, HasTruth}
use Rattle.lois_meaning.specs.Faults.{Fails, Breaks, CondFails, IsNoSet, OperandFails}
use Rattle.lois_meaning.specs.declared.faults.Fault.{Fault}
use Rattle.lois_context.specs.Choices.{IsAdmitted, AdmitsContext}
use Rattle.lois_context.specs.Entered.{AreEntered}
use Rattle.lois_context.specs.Sides.{IsSide}
use Rattle.lois_context.specs.Slots.{IsNew, store_at}
use Rattle.lois_context.specs.declared.contexts.Context.{Context}
use Rattle.lois_eval.specs.Checks.{IsSetFault, IsTruncatedFrom}
use Rattle.lois_eval.specs.Evaluated.{IsTermOf, IsConstraintOf, HasMembersOnlyWhereAdmitted}
use Rattle.lois_eval.specs.Folded.{IsGatheredInside, IsFoundInside, IsFaultInside}
use Rattle.lois_eval.specs.Forms.{each_from, quantifier}
use Rattle.lois_eval.specs.WellFormed.{IsWellFormedIn, IsUnnamed, IsWellFormed, CondIsWellFormed, names_of}
use Rattle.lois_eval.specs.Throughout.{IsFaultOf}
use Rattle.lois_eval.proofs.Conditions.{no_set_fails}
use Rattle.lois_eval.proofs.Innermost.{here_none, here_one, here_within}
use Rattle.lois_eval.proofs.FaultsAt.{fault_weaker}
use Rattle.lois_eval.proofs.Weights.{weight, weight_of_bindings, weight_of_cond, weight_from}
use Rattle.lois_eval.proofs.Wholes.{unnamed_new, placed_inside, each_loop, each_loop_within, each_loop_fails, quantifier_loop, quantifier_loop_fails}

-- ---- the first binding that is left

module _ (k : Context) (item : Expr) (bs : List Binding) (i : ℕ) (b : Binding) (c : Cond) (l : i < length bs) (is : b ≡ get_or bs i b) where
  abbrev rest : BindingsD
  rest = bindings_of (map binding_tree (drop (i + 1) bs))

  first_is : each_from item bs i c ≡ each 0 (tree item) (bind (binding b.pos.offset b.name (tree b.from)) rest) (cond_tree c)
  first_is =
      ap (λ z. each 0 (tree item) (bindings_of (map binding_tree z)) (cond_tree c)) (rest_is bs i b l is) ∙
      ap (λ z. each 0 (tree item) (bind z rest) (cond_tree c)) (binding_is b)

  pub first_weight : weight_from item bs (i + 1) c + weight (tree b.from) < weight_from item bs i c
  first_weight =
      let e : weight_from item bs i c ≡ weight (tree item) + weight_of_bindings (bind (binding b.pos.offset b.name (tree b.from)) rest) + weight_of_cond (cond_tree c) =
      ap (λ z. weight (tree item) + weight_of_bindings (bindings_of (map binding_tree z)) + weight_of_cond (cond_tree c)) (rest_is bs i b l is) ∙
      ap (λ z. weight (tree item) + weight_of_bindings (bind z rest) + weight_of_cond (cond_tree c)) (binding_is b) in
      omega (arith, e)

  unfolded : (o : Bool) → IsWellFormedIn (IsWellFormed (each_from item bs i c)) o k → IsWellFormedIn (IsWellFormed (each 0 (tree item) (bind (binding b.pos.offset b.name (tree b.from)) rest) (cond_tree c))) o k
  unfolded o h = subst (λ z. IsWellFormedIn (IsWellFormed z) o k) first_is h

  pub first_placed : (o : Bool) → IsWellFormedIn (IsWellFormed (each_from item bs i c)) o k → IsWellFormedIn (IsWellFormed (tree b.from)) o k
  first_placed o h = record { names = (unfolded o h).names.0.0; operators = h.operators }

  pub first_new : (o : Bool) → IsWellFormedIn (IsWellFormed (each_from item bs i c)) o k → IsNew b.name k.store
  first_new o h = unnamed_new b.name k.store (unfolded o h).names.0.1

  pub first_set_fails : (o : Bool) (f : Fault) → IsFaultOf o k (Fails (tree b.from)) f → IsFaultOf o k (Breaks (each_from item bs i c)) f
  first_set_fails o f h =
      subst (λ z. IsFaultOf o k (Breaks z) f) (sym first_is)
      (fault_weaker o k (Fails (tree b.from)) (Breaks (each 0 (tree item) (bind (binding b.pos.offset b.name (tree b.from)) rest) (cond_tree c))) f (λ s at kind bad. inl (inl bad)) h)

  module _ (t : TermD) (elements : IsTermOf k (Gives (tree b.from)) (IsWellFormed (tree b.from)) t) where
    pub first_no_set : (o : Bool) (f : Fault) → AdmitsContext o k → IsSetFault k t (pos (tree b.from)) f → IsFaultOf o k (Breaks (each_from item bs i c)) f
    first_no_set o f admits h =
        subst (λ z. IsFaultOf o k (Breaks z) f) (sym first_is)
        (fault_weaker o k (OperandFails IsNoSet (tree b.from)) (Breaks (each 0 (tree item) (bind (binding b.pos.offset b.name (tree b.from)) rest) (cond_tree c))) f (λ s at kind h. inl (inr (inl h)))
        (no_set_fails o k (tree b.from) t f admits elements.value h))

    module _ (ds : List Context) (set : IsSetTerm t) (entered : AreEntered k b.name t ds) where
      pub first_inside : (o : Bool) → IsWellFormedIn (IsWellFormed (each_from item bs i c)) o k → All (IsWellFormedIn (IsWellFormed (each_from item bs (i + 1) c)) o) ds
      first_inside o h =
          let n = (unfolded o h).names in
          placed_inside k b.name t ds set entered o (IsWellFormed (each_from item bs (i + 1) c)) (entered.operators o h.operators (elements.operators o (first_placed o h))) (n.0.2, n.1, n.2)

      pub first_loop : (ks : CompsD) → IsGatheredInside k.size (Makes (each_from item bs (i + 1) c)) (IsWellFormed (each_from item bs (i + 1) c)) ds ks → IsTermOf k (Makes (each_from item bs i c)) (IsWellFormed (each_from item bs i c)) (coll ks)
      first_loop ks gathered =
          subst (λ z. IsTermOf k (Makes z) (IsWellFormed z) (coll ks)) (sym first_is) (each_loop k b.name t ds set entered b.pos.offset (tree b.from) elements 0 (tree item) (bindings_of (map binding_tree (drop (i + 1) bs))) (cond_tree c) ks gathered)

      pub first_within : (ks : CompsD) → IsGatheredInside k.size (Makes (each_from item bs (i + 1) c)) (IsWellFormed (each_from item bs (i + 1) c)) ds ks → HasMembersOnlyWhereAdmitted k (coll ks)
      first_within ks gathered = each_loop_within k b.name t ds set entered b.pos.offset (tree b.from) elements (tree item) (bindings_of (map binding_tree (drop (i + 1) bs))) (cond_tree c) ks gathered

      pub first_fails : (o : Bool) (f g : Fault) → IsFaultInside o ds (Breaks (each_from item bs (i + 1) c)) g → IsTruncatedFrom k.size f g → IsFaultOf o k (Breaks (each_from item bs i c)) f
      first_fails o f g inside cut =
          subst (λ z. IsFaultOf o k (Breaks z) f) (sym first_is) (each_loop_fails k b.name t ds set entered b.pos.offset (tree b.from) elements o 0 (tree item) (bindings_of (map binding_tree (drop (i + 1) bs))) (cond_tree c) f g inside cut)

-- ---- no binding is left

module _ (k : Context) (item : Expr) (bs : List Binding) (c : Cond) where
  last_is : each_from item bs (length bs) c ≡ each 0 (tree item) no_bindings (cond_tree c)
  last_is = ap (λ z. each 0 (tree item) (bindings_of (map binding_tree z)) (cond_tree c)) (drop_all (length bs) bs (omega arith))

  pub last_placed : (o : Bool) → IsWellFormedIn (IsWellFormed (each_from item bs (length bs) c)) o k → IsWellFormedIn (CondIsWellFormed (cond_tree c)) o k
  last_placed o h = record { names = (subst (λ z. IsWellFormedIn (IsWellFormed z) o k) last_is h).names.2; operators = h.operators }

  module _ (g : List (List Lit)) (held : IsConstraintOf k (HasTruth (cond_tree c)) (CondIsWellFormed (cond_tree c)) g) where
    pub last_none : ((d : List Atom) → IsAdmitted d k → IsTrue (holds d g) → ⊥) → (t : TermD) → t ≡ coll no_comps → IsTermOf k (Makes (each_from item bs (length bs) c)) (IsWellFormed (each_from item bs (length bs) c)) t
    last_none none t is =
        subst (IsTermOf k (Makes (each_from item bs (length bs) c)) (IsWellFormed (each_from item bs (length bs) c))) (sym is)
        (subst (λ z. IsTermOf k (Makes z) (IsWellFormed z) (coll no_comps)) (sym last_is) (here_none k (tree item) (cond_tree c) g held none))

    module _ (d : Context) (side : IsSide k (λ c. holds c g) d) (kept : (o : Bool) → AdmitsContext o k → AdmitsConstraint o g → AdmitsContext o d) where
      pub last_item_placed : (o : Bool) → IsWellFormedIn (IsWellFormed (each_from item bs (length bs) c)) o k → IsWellFormedIn (IsWellFormed (tree item)) o d
      last_item_placed o h =
          let p = subst (λ z. IsWellFormedIn (IsWellFormed z) o k) last_is h in record {
            names = subst (λ z. IsWellFormed (tree item) o (names_of z)) (sym side.store) p.names.1;
            operators = kept o h.operators (held.operators o (last_placed o h));
          }

      pub last_one : (t : TermD) (ks : CompsD) → IsTermOf d (Gives (tree item)) (IsWellFormed (tree item)) t → k.size < 2 ^ 64 → ks ≡ comps_of (comp 0 d.«when» t ∷ []) → IsTermOf k (Makes (each_from item bs (length bs) c)) (IsWellFormed (each_from item bs (length bs) c)) (coll ks)
      last_one t ks value room is =
          subst (λ z. IsTermOf k (Makes (each_from item bs (length bs) c)) (IsWellFormed (each_from item bs (length bs) c)) (coll z)) (sym is)
          (subst (λ z. IsTermOf k (Makes z) (IsWellFormed z) (coll (comps_of (comp 0 d.«when» t ∷ [])))) (sym last_is) (here_one k (tree item) (cond_tree c) g held d t side value room kept))

      pub last_within : (t : TermD) (ks : CompsD) → IsTermOf d (Gives (tree item)) (IsWellFormed (tree item)) t → ks ≡ comps_of (comp 0 d.«when» t ∷ []) → HasMembersOnlyWhereAdmitted k (coll ks)
      last_within t ks value is = subst (λ z. HasMembersOnlyWhereAdmitted k (coll z)) (sym is) (here_within k (tree item) (cond_tree c) g held d t side value)

      pub last_item_fails : (o : Bool) (f : Fault) → IsFaultOf o d (Fails (tree item)) f → IsFaultOf o k (Breaks (each_from item bs (length bs) c)) f
      last_item_fails o f h =
          subst (λ z. IsFaultOf o k (Breaks z) f) (sym last_is) (record {
            admitted = λ s stand. (admits s (h.admitted s stand)).0;
            failure = λ s stand.
                let both = admits s (h.admitted s stand) in
                inr (inr (store_at s k.store, refl, subst (HasTruth (cond_tree c) (store_at s k.store)) both.1 (held.truth s both.0), subst (λ z. Fails (tree item) (store_at s z) f.pos.offset f.kind) side.store (h.failure s stand)));
            elements = h.elements;
          })
        where
          admits : (s : List Atom) → IsAdmitted s d → IsAdmitted s k × (holds s g ≡ true)
          admits s a = let q = and_parts (holds s k.«when») (holds s g) (sym (side.«when» s) ∙ a.1) in ((a.0 ∙ side.size, q.0), q.1)

-- ---- the binding of a quantifier

module _ (k : Context) (some : Bool) (b : Binding) (c : Cond) where
  quantifier_is : quantifier some (binding_tree b) (cond_tree c) ≡ quantifier some (binding b.pos.offset b.name (tree b.from)) (cond_tree c)
  quantifier_is = ap (λ z. quantifier some z (cond_tree c)) (binding_is b)

  parts : (o : Bool) (xs : List (List ℕ)) → CondIsWellFormed (quantifier some (binding b.pos.offset b.name (tree b.from)) (cond_tree c)) o xs → IsWellFormed (tree b.from) o xs × IsUnnamed b.name xs × CondIsWellFormed (cond_tree c) o (xs ++ b.name ∷ [])
  parts o xs h = of some h
    where
      of : (some : Bool) → CondIsWellFormed (quantifier some (binding b.pos.offset b.name (tree b.from)) (cond_tree c)) o xs → IsWellFormed (tree b.from) o xs × IsUnnamed b.name xs × CondIsWellFormed (cond_tree c) o (xs ++ b.name ∷ [])
      of true h = (h.0, h.1, h.2)
      of false h = (h.0, h.1, h.2)

  at_parts : (o : Bool) → IsWellFormedIn (CondIsWellFormed (quantifier some (binding_tree b) (cond_tree c))) o k → IsWellFormed (tree b.from) o (names_of k.store) × IsUnnamed b.name (names_of k.store) × CondIsWellFormed (cond_tree c) o (names_of k.store ++ b.name ∷ [])
  at_parts o h = parts o (names_of k.store) (subst (λ z. IsWellFormedIn (CondIsWellFormed z) o k) quantifier_is h).names

  pub bound_placed : (o : Bool) → IsWellFormedIn (CondIsWellFormed (quantifier some (binding_tree b) (cond_tree c))) o k → IsWellFormedIn (IsWellFormed (tree b.from)) o k
  bound_placed o h = record { names = (at_parts o h).0; operators = h.operators }

  pub bound_new : (o : Bool) → IsWellFormedIn (CondIsWellFormed (quantifier some (binding_tree b) (cond_tree c))) o k → IsNew b.name k.store
  bound_new o h = unnamed_new b.name k.store (at_parts o h).1

  of_binding : (o : Bool) (f : Fault) → IsFaultOf o k (CondFails (quantifier some (binding b.pos.offset b.name (tree b.from)) (cond_tree c))) f → IsFaultOf o k (CondFails (quantifier some (binding_tree b) (cond_tree c))) f
  of_binding o f h = subst (λ z. IsFaultOf o k (CondFails z) f) (sym quantifier_is) h

  module _ (t : TermD) (elements : IsTermOf k (Gives (tree b.from)) (IsWellFormed (tree b.from)) t) where
    pub bound_no_set : (o : Bool) (f : Fault) → AdmitsContext o k → IsSetFault k t (pos (tree b.from)) f → IsFaultOf o k (CondFails (quantifier some (binding_tree b) (cond_tree c))) f
    bound_no_set o f admits h = of_binding o f (fault_weaker o k (OperandFails IsNoSet (tree b.from)) (CondFails (quantifier some (binding b.pos.offset b.name (tree b.from)) (cond_tree c))) f (λ s at kind x. of some s at kind x) (no_set_fails o k (tree b.from) t f admits elements.value h))
      where
        of : (some : Bool) (s : _) (at : ℕ) (kind : _) → OperandFails IsNoSet (tree b.from) s at kind → CondFails (quantifier some (binding b.pos.offset b.name (tree b.from)) (cond_tree c)) s at kind
        of true s at kind x = inr (inl x)
        of false s at kind x = inr (inl x)

    module _ (ds : List Context) (set : IsSetTerm t) (entered : AreEntered k b.name t ds) where
      pub bound_inside : (o : Bool) → IsWellFormedIn (CondIsWellFormed (quantifier some (binding_tree b) (cond_tree c))) o k → All (IsWellFormedIn (CondIsWellFormed (cond_tree c)) o) ds
      bound_inside o h =
          placed_inside k b.name t ds set entered o (CondIsWellFormed (cond_tree c)) (entered.operators o h.operators (elements.operators o (bound_placed o h))) (at_parts o h).2

      pub bound_loop : (g r : List (List Lit)) → IsFoundInside k.size (HasTruth (cond_tree c)) some (CondIsWellFormed (cond_tree c)) ds g → ((d : List Atom) → holds d r ≡ (if some then holds d g else opposite (holds d g))) → ConstraintFits k.size r → ((o : Bool) → AdmitsConstraint o g → AdmitsConstraint o r) →
          IsConstraintOf k (HasTruth (quantifier some (binding_tree b) (cond_tree c))) (CondIsWellFormed (quantifier some (binding_tree b) (cond_tree c))) r
      bound_loop g r found is fits admits =
          subst (λ z. IsConstraintOf k (HasTruth z) (CondIsWellFormed z) r) (sym quantifier_is) (quantifier_loop k b.name t ds set entered b.pos.offset (tree b.from) elements some (cond_tree c) g r found is fits admits)

      pub bound_fails : (o : Bool) (f g : Fault) → IsFaultInside o ds (CondFails (cond_tree c)) g → IsTruncatedFrom k.size f g → IsFaultOf o k (CondFails (quantifier some (binding_tree b) (cond_tree c))) f
      bound_fails o f g inside cut = of_binding o f (quantifier_loop_fails k b.name t ds set entered b.pos.offset (tree b.from) elements o some (cond_tree c) f g inside cut)
