-- Sets of at most one member.
use Rattle.std.proofs.Common.{◌≡◌, ℕ, ◌⊎◌, inl, inr, ◌↔◌, List, [], ◌∷◌, ◌++◌, length, get_or, map, ap, append-nil, refl, sym, subst, ◌∙◌, arith}
use Rattle.std.specs.Bool.{IsTrue, IsFalse}
use Rattle.lois_base.specs.Atom.{Atom}
use Rattle.lois_base.specs.Data.{TermD, coll, comp, CompsD, no_comps, more, comps_of, CompD}
use Rattle.lois_base.specs.FormulaData.{FormulaD}
use Rattle.lois_base.specs.FormulaTruth.{FormulaHolds}
use Rattle.lois_base.specs.Truth.{holds}
use Rattle.lois_base.specs.Validity.{AdmitsConstraint, AdmitsTerm, AdmitsComp, AdmitsItems}
use Rattle.lois_base.specs.Tree.{comp_of}
use Rattle.lois_base.specs.Values.{MemberAt, SameAt, EachInAt}
use Rattle.lois_base.specs.declared.guards.Lit.{Lit}
use Rattle.lois_base.specs.declared.values.Comp.{Comp}
use Rattle.lois_base.proofs.Order.{test}
use Rattle.lois_base.proofs.Same.{same_at_sym}
use Rattle.lois_base.proofs.Choices.{no_atoms}
use Rattle.lois_relate.specs.Built.{Defines, IsBoth, IsImplied}
use Rattle.lois_relate.specs.Named.{atoms_named}
use Rattle.lois_relate.specs.Singles.{IsSingleItem}
use Rattle.lois_relate.proofs.Sets.{sets_same}

abbrev alone : List (List Lit) → TermD → CompsD
alone g t = more (comp 0 g t) no_comps

-- what is to hold where the item with the guard g is there
each_alone : (g : List (List Lit)) (t : TermD) (d : List Atom) (h : List (List Lit)) (s : TermD) (d' : List Atom) → EachInAt (comp 0 g t) d (alone h s) d' ↔ (IsTrue (holds d g) → IsTrue (holds d' h) × SameAt t d s d')
each_alone g t d h s d' = (there, back)
  where
    found : (w : TermD) (x : List Atom) → MemberAt w x (alone h s) d' → IsTrue (holds d' h) × (w ≡ s) × (x ≡ d')
    found w x (inl (e, y, p, q)) =
        let nil : d' ++ e ≡ d' = subst (λ z. d' ++ z ≡ d') (sym (no_atoms e y.count)) (append-nil d') in
        (subst (λ z. IsTrue (holds z h)) nil y.guard, p, q ∙ nil)
    found w x (inr m) = absurd m

    there : EachInAt (comp 0 g t) d (alone h s) d' → IsTrue (holds d g) → IsTrue (holds d' h) × SameAt t d s d'
    there each y =
        let i = each [] (record { count = refl; guard = subst (λ z. IsTrue (holds z g)) (sym (append-nil d)) y }) in
        let f : IsTrue (holds d' h) × (i.0 ≡ s) × (i.1 ≡ d') = found i.0 i.1 i.2 in
        (f.0, subst (λ z. SameAt t z s d') (append-nil d) (subst (λ z. SameAt t (d ++ []) s z) f.2 (subst (λ z. SameAt t (d ++ []) z i.1) f.1 i.3)))

    back : (IsTrue (holds d g) → IsTrue (holds d' h) × SameAt t d s d') → EachInAt (comp 0 g t) d (alone h s) d'
    back gives = λ e y.
        let nil : d ++ e ≡ d = subst (λ z. d ++ z ≡ d) (sym (no_atoms e y.count)) (append-nil d) in
        let p = gives (subst (λ z. IsTrue (holds z g)) nil y.guard) in (
          s,
          d' ++ [],
          inl ([], record { count = refl; guard = subst (λ z. IsTrue (holds z h)) (sym (append-nil d')) p.0 }, refl, refl),
          subst (λ z. SameAt t z s (d' ++ [])) (sym nil) (subst (λ z. SameAt t d s z) (sym (append-nil d')) p.1),
        )

alone_same : (g : List (List Lit)) (t : TermD) (d : List Atom) (h : List (List Lit)) (s : TermD) (d' : List Atom) → SameAt (coll (alone g t)) d (coll (alone h s)) d' ↔ ((IsTrue (holds d g) → IsTrue (holds d' h) × SameAt t d s d') × (IsTrue (holds d' h) → IsTrue (holds d g)))
alone_same g t d h s d' =
    let forth = each_alone g t d h s d' in
    let rear = each_alone h s d' g t d in
    let sets = sets_same (alone g t) d (alone h s) d' in (
      λ x. let y = sets.0 x in (forth.0 y.0.0, λ p. (rear.0 y.1.0 p).0),
      λ x. sets.1 ((forth.1 x.0, tt), (rear.1 (λ p. (x.1 p, same_at_sym t d s d' (x.0 (x.1 p)).1)), tt)),
    )

module _ (n : ℕ) (sn tn : List ℕ) (g h : List (List Lit)) (t s : TermD) (e i j i' j' b x y r : FormulaD) where
  pub singles_say : Defines n (λ c. SameAt t (atoms_named sn c) s (atoms_named tn c)) (λ o. AdmitsTerm o t × AdmitsTerm o s) e → Defines n (λ c. IsTrue (holds (atoms_named sn c) g)) (λ o. AdmitsConstraint o g) i → Defines n (λ c. IsTrue (holds (atoms_named tn c) h)) (λ o. AdmitsConstraint o h) j → i' ≡ i → j' ≡ j → IsBoth j e b → IsImplied i b x → IsImplied j' i' y → IsBoth x y r → Defines n (λ c. SameAt (coll (alone g t)) (atoms_named sn c) (coll (alone h s)) (atoms_named tn c)) (λ o. AdmitsComp o (comp 0 g t) × AdmitsComp o (comp 0 h s)) r
  singles_say equal own other own_copy other_copy both forth rear_copied all = record {
    truth = λ c k. (
      λ p. let q = (all.truth c).0 p in
          (alone_same g t (atoms_named sn c) h s (atoms_named tn c)).1 (there c k ((forth.truth c).0 q.0), rear_there c k ((rear.truth c).0 q.1)),
      λ p. let q = (alone_same g t (atoms_named sn c) h s (atoms_named tn c)).0 p in
          (all.truth c).1 ((forth.truth c).1 (back c k q.0 (test (holds (atoms_named sn c) g))), (rear.truth c).1 (rear_back c k q.1 (test (holds (atoms_named tn c) h)))),
    );
    levels = all.levels n (forth.levels n own.levels (both.levels n other.levels equal.levels)) (rear.levels n other.levels own.levels);
    operators = λ o a. all.operators o (forth.operators o (own.operators o a.0.0) (both.operators o (other.operators o a.1.0) (equal.operators o (a.0.1, a.1.1)))) (rear.operators o (other.operators o a.1.0) (own.operators o a.0.0));
  }
    where
      rear : IsImplied j i y
      rear = subst (λ z. IsImplied z i y) other_copy (subst (λ z. IsImplied j' z y) own_copy rear_copied)

      there : (c : List Atom) → length c ≡ n → (FormulaHolds c i → ⊥) ⊎ FormulaHolds c b → IsTrue (holds (atoms_named sn c) g) → IsTrue (holds (atoms_named tn c) h) × SameAt t (atoms_named sn c) s (atoms_named tn c)
      there c k (inl p) z = absurd (p ((own.truth c k).1 z))
      there c k (inr p) z = let q = (both.truth c).0 p in ((other.truth c k).0 q.0, (equal.truth c k).0 q.1)

      rear_there : (c : List Atom) → length c ≡ n → (FormulaHolds c j → ⊥) ⊎ FormulaHolds c i → IsTrue (holds (atoms_named tn c) h) → IsTrue (holds (atoms_named sn c) g)
      rear_there c k (inl p) z = absurd (p ((other.truth c k).1 z))
      rear_there c k (inr p) z = (own.truth c k).0 p

      back : (c : List Atom) → length c ≡ n → (IsTrue (holds (atoms_named sn c) g) → IsTrue (holds (atoms_named tn c) h) × SameAt t (atoms_named sn c) s (atoms_named tn c)) → IsTrue (holds (atoms_named sn c) g) ⊎ IsFalse (holds (atoms_named sn c) g) → (FormulaHolds c i → ⊥) ⊎ FormulaHolds c b
      back c k q (inl z) = let p = q z in inr ((both.truth c).1 ((other.truth c k).1 p.0, (equal.truth c k).1 p.1))
      back c k q (inr z) = inl (λ p. let w : IsTrue (holds (atoms_named sn c) g) = (own.truth c k).0 p in absurd (cc))

      rear_back : (c : List Atom) → length c ≡ n → (IsTrue (holds (atoms_named tn c) h) → IsTrue (holds (atoms_named sn c) g)) → IsTrue (holds (atoms_named tn c) h) ⊎ IsFalse (holds (atoms_named tn c) h) → (FormulaHolds c j → ⊥) ⊎ FormulaHolds c i
      rear_back c k q (inl z) = inr ((own.truth c k).1 (q z))
      rear_back c k q (inr z) = inl (λ p. let w : IsTrue (holds (atoms_named tn c) h) = (other.truth c k).0 p in absurd (cc))

-- the same of the lists that have these comprehensions alone
pub singles_sets : (n : ℕ) (sn tn : List ℕ) (vs ws : List CompD) (k q : CompD) (f : FormulaD) → vs ≡ k ∷ [] → ws ≡ q ∷ [] → Defines n (λ c. SameAt (coll (more k no_comps)) (atoms_named sn c) (coll (more q no_comps)) (atoms_named tn c)) (λ o. AdmitsComp o k × AdmitsComp o q) f → Defines n (λ c. SameAt (coll (comps_of vs)) (atoms_named sn c) (coll (comps_of ws)) (atoms_named tn c)) (λ o. AdmitsItems o (comps_of vs) × AdmitsItems o (comps_of ws)) f
singles_sets n sn tn vs ws k q f e d says =
    subst (λ z. Defines n (λ c. SameAt (coll (comps_of z)) (atoms_named sn c) (coll (comps_of ws)) (atoms_named tn c)) (λ o. AdmitsItems o (comps_of z) × AdmitsItems o (comps_of ws)) f) (sym e) (subst (λ z. Defines n (λ c. SameAt (coll (comps_of (k ∷ []))) (atoms_named sn c) (coll (comps_of z)) (atoms_named tn c)) (λ o. AdmitsItems o (comps_of (k ∷ [])) × AdmitsItems o (comps_of z)) f) (sym d) (record {
      truth = says.truth;
      levels = says.levels;
      operators = λ o h. says.operators o (h.0.0, h.1.0);
    }))

one_item : {X : Type 0} (xs : List X) (x : X) → length xs ≡ 1 → x ≡ get_or xs 0 x → xs ≡ x ∷ []
one_item [] x l e = absurd (omega arith)
one_item (y ∷ []) x l e = ap (λ z. z ∷ []) (sym e)
one_item (y ∷ (z ∷ xs)) x l e = absurd (omega arith)

pub only_comp : (ks : List Comp) (vs : List CompD) (k : Comp) → map comp_of ks ≡ vs → length ks ≡ 1 → k ≡ get_or ks 0 k → vs ≡ comp_of k ∷ []
only_comp ks vs k m l e = sym m ∙ ap (map comp_of) (one_item ks k l e)

single_length : (ks : List Comp) → IsSingleItem (comps_of (map comp_of ks)) → length ks ≡ 1
single_length [] h = absurd h
single_length (k ∷ []) h = refl
single_length (k ∷ (q ∷ ks)) h = absurd h

pub not_single : (ks : List Comp) (vs : List CompD) → map comp_of ks ≡ vs → (length ks ≡ 1 → ⊥) → IsSingleItem (comps_of vs) → ⊥
not_single ks vs m differ h = differ (single_length ks (subst (λ z. IsSingleItem (comps_of z)) (sym m) h))

pub bare_say : (n : ℕ) (sn tn : List ℕ) (m k : ℕ) (g h : List (List Lit)) (t s : TermD) (f : FormulaD) → m ≡ 0 → k ≡ 0 → Defines n (λ c. SameAt (coll (alone g t)) (atoms_named sn c) (coll (alone h s)) (atoms_named tn c)) (λ o. AdmitsComp o (comp 0 g t) × AdmitsComp o (comp 0 h s)) f → Defines n (λ c. SameAt (coll (more (comp m g t) no_comps)) (atoms_named sn c) (coll (more (comp k h s) no_comps)) (atoms_named tn c)) (λ o. AdmitsComp o (comp m g t) × AdmitsComp o (comp k h s)) f
bare_say n sn tn m k g h t s f e d says =
    subst (λ z. Defines n (λ c. SameAt (coll (more (comp z g t) no_comps)) (atoms_named sn c) (coll (more (comp k h s) no_comps)) (atoms_named tn c)) (λ o. AdmitsComp o (comp z g t) × AdmitsComp o (comp k h s)) f) (sym e) (subst (λ z. Defines n (λ c. SameAt (coll (alone g t)) (atoms_named sn c) (coll (more (comp z h s) no_comps)) (atoms_named tn c)) (λ o. AdmitsComp o (comp 0 g t) × AdmitsComp o (comp z h s)) f) (sym d) says)
