-- Terms that are written alike have the same value, and sets of which comprehensions are.
use Rattle.std.proofs.Common.{◌≡◌, ℕ, suc, ◌-◌, ◌<◌, ◌≤◌, Bool, false, ◌&&◌, ◌||◌, ◌⊎◌, inl, inr, ◌↔◌, List, [], ◌∷◌, ◌++◌, length, get_or, map, refl, sym, ap, subst, ◌∙◌, append-nil, arith}
use Rattle.std.proofs.lemmas.Bool.{cases_lt, false≢true}
use Rattle.std.proofs.lemmas.List.{get_or_append_left, get_or-append_right, append_assoc}
use Rattle.std.specs.Bool.{IsTrue, MatchBool}
use Rattle.lois_base.specs.Atom.{Atom, equal, whole}
use Rattle.lois_base.specs.Data.{TermD, var, tag, tup, coll, TermsD, no_terms, term, CompD, comp, CompsD, no_comps, more, terms_of, comps_of}
use Rattle.lois_base.specs.FormulaData.{FormulaD, all, no_formulas}
use Rattle.lois_base.specs.Truth.{atom_at, op_holds, lit_holds, cube_holds, holds}
use Rattle.lois_base.specs.Tree.{tree, comp_of}
use Rattle.lois_base.specs.Values.{MakesAt, MemberAt, SameAt, SamePartsAt, AllInAt, EachInAt}
use Rattle.lois_base.specs.declared.guards.Lit.{Lit}
use Rattle.lois_base.specs.declared.values.Comp.{Comp}
use Rattle.lois_base.specs.declared.values.Term.{Term}
use Rattle.lois_base.proofs.Order.{equal_refl}
use Rattle.lois_base.proofs.Same.{same_at_sym}
use Rattle.lois_base.proofs.NumberTests.{less_true, less_false}
use Rattle.lois_relate.specs.Alike.{LevelsMatch, LitsMatch, CubesMatch, GuardsMatch, TermsAlike, PartsAlike, CompsAlike, ItemsAlike, IsListed}
use Rattle.lois_relate.specs.Built.{Defines}
use Rattle.lois_relate.specs.Named.{atoms_named}
use Rattle.lois_relate.proofs.Names.{length-chosen, atom_chosen}
use Rattle.lois_relate.proofs.Sets.{sets_same}

module _ (sn tn : List ℕ) (c : List Atom) where
  -- with atoms e for the binders inside of the terms
  abbrev left : List Atom → List Atom
  left e = atoms_named sn c ++ e

  abbrev right : List Atom → List Atom
  right e = atoms_named tn c ++ e

  left_more : (e x : List Atom) → left e ++ x ≡ left (e ++ x)
  left_more e x = append_assoc (atoms_named sn c) e x

  right_more : (e x : List Atom) → right e ++ x ≡ right (e ++ x)
  right_more e x = append_assoc (atoms_named tn c) e x

  named_at : (names : List ℕ) (e : List Atom) (i : ℕ) → i < length names → atom_at (atoms_named names c ++ e) i ≡ atom_at c (get_or names i 0)
  named_at names e i l =
      let m : i < length (atoms_named names c) = omega (arith, length-chosen names c) in
      get_or_append_left (atoms_named names c) e (whole 0) i m ∙ atom_chosen names c i l

  inner_at : (names : List ℕ) (e : List Atom) (i : ℕ) → length names ≤ i → atom_at (atoms_named names c ++ e) i ≡ atom_at e (i - length names)
  inner_at names e i l = get_or-append_right (atoms_named names c) e (length names) i (whole 0) (length-chosen names c) l

  abbrev Named : ℕ → ℕ → Type 0
  Named i j = (j < length tn) × (get_or sn i 0 ≡ get_or tn j 0)

  abbrev Inner : ℕ → ℕ → Type 0
  Inner i j = (length tn ≤ j) × (i - length sn ≡ j - length tn)

  level_same : (e : List Atom) (i j : ℕ) → LevelsMatch sn tn i j → atom_at (left e) i ≡ atom_at (right e) j
  level_same e i j h = go (cases_lt i (length sn))
    where
      go : i < length sn ⊎ length sn ≤ i → atom_at (left e) i ≡ atom_at (right e) j
      go (inl l) =
          let p : Named i j = subst (λ b. MatchBool b (Named i j) (Inner i j)) (less_true i (length sn) l) h in
          named_at sn e i l ∙ ap (λ k. atom_at c k) p.1 ∙ sym (named_at tn e j p.0)
      go (inr l) =
          let p : Inner i j = subst (λ b. MatchBool b (Named i j) (Inner i j)) (less_false i (length sn) l) h in
          inner_at sn e i l ∙ ap (λ k. atom_at e k) p.1 ∙ sym (inner_at tn e j p.0)

  lit_same : (e : List Atom) (l m : Lit) → LitsMatch sn tn l m → lit_holds (left e) l ≡ lit_holds (right e) m
  lit_same e l m h =
      ap (λ o. op_holds o (atom_at (left e) l.left) (atom_at (left e) l.right)) h.0 ∙ ap (λ a. op_holds m.op a (atom_at (left e) l.right)) (level_same e l.left m.left h.1) ∙ ap (λ a. op_holds m.op (atom_at (right e) m.left) a) (level_same e l.right m.right h.2)

  cube_same : (e : List Atom) (k q : List Lit) → CubesMatch sn tn k q → cube_holds (left e) k ≡ cube_holds (right e) q
  cube_same e [] [] h = refl
  cube_same e (l ∷ k) (m ∷ q) h =
      ap (λ b. b && cube_holds (left e) k) (lit_same e l m h.0) ∙ ap (λ b. lit_holds (right e) m && b) (cube_same e k q h.1)
  cube_same e [] (m ∷ q) h = absurd h
  cube_same e (l ∷ k) [] h = absurd h

  guard_same : (e : List Atom) (g r : List (List Lit)) → GuardsMatch sn tn g r → holds (left e) g ≡ holds (right e) r
  guard_same e [] [] h = refl
  guard_same e (k ∷ g) (q ∷ r) h =
      ap (λ b. b || holds (left e) g) (cube_same e k q h.0) ∙ ap (λ b. cube_holds (right e) q || b) (guard_same e g r h.1)
  guard_same e [] (q ∷ r) h = absurd h
  guard_same e (k ∷ g) [] h = absurd h

  guard_there : (e x : List Atom) (g r : List (List Lit)) → GuardsMatch sn tn g r → IsTrue (holds (left e ++ x) g) → IsTrue (holds (right e ++ x) r)
  guard_there e x g r h y =
      subst (λ z. IsTrue (holds z r)) (sym (right_more e x)) (sym (guard_same (e ++ x) g r h) ∙ subst (λ z. IsTrue (holds z g)) (left_more e x) y)

  guard_back : (e x : List Atom) (g r : List (List Lit)) → GuardsMatch sn tn g r → IsTrue (holds (right e ++ x) r) → IsTrue (holds (left e ++ x) g)
  guard_back e x g r h y =
      subst (λ z. IsTrue (holds z g)) (sym (left_more e x)) (guard_same (e ++ x) g r h ∙ subst (λ z. IsTrue (holds z r)) (right_more e x) y)

  mutual
    alike_same : (t s : TermD) (e : List Atom) → TermsAlike sn tn t s → SameAt t (left e) s (right e)
    alike_same (var i) (var j) e h =
        subst (λ a. IsTrue (equal (atom_at (left e) i) a)) (level_same e i j h) (equal_refl (atom_at (left e) i))
    alike_same (tag n) (tag k) e h = h
    alike_same (tup ts) (tup ss) e h = parts_same ts ss e h
    alike_same (coll cs) (coll ks) e h =
        (sets_same cs (left e) ks (right e)).1 (all_alike cs ks e h ks (λ w x m. m), all_alike_back cs ks e h cs (λ w x m. m))
    alike_same _ _ e h = absurd h

    parts_same : (ts ss : TermsD) (e : List Atom) → PartsAlike sn tn ts ss → SamePartsAt ts (left e) ss (right e)
    parts_same no_terms no_terms e h = tt
    parts_same (term t ts) (term s ss) e h = (alike_same t s e h.0, parts_same ts ss e h.1)
    parts_same _ _ e h = absurd h

    all_alike : (cs ks : CompsD) (e : List Atom) → ItemsAlike sn tn cs ks → (whole : CompsD) → ((w : TermD) (x : List Atom) → MemberAt w x ks (right e) → MemberAt w x whole (right e)) → AllInAt cs (left e) whole (right e)
    all_alike no_comps no_comps e h whole within = tt
    all_alike (more k cs) (more q ks) e h whole within =
        (each_alike k q e h.0 whole (λ w x m. within w x (inl m)), all_alike cs ks e h.1 whole (λ w x m. within w x (inr m)))
    all_alike _ _ e h whole within = absurd h

    all_alike_back : (cs ks : CompsD) (e : List Atom) → ItemsAlike sn tn cs ks → (whole : CompsD) → ((w : TermD) (x : List Atom) → MemberAt w x cs (left e) → MemberAt w x whole (left e)) → AllInAt ks (right e) whole (left e)
    all_alike_back no_comps no_comps e h whole within = tt
    all_alike_back (more k cs) (more q ks) e h whole within =
        (each_alike_back k q e h.0 whole (λ w x m. within w x (inl m)), all_alike_back cs ks e h.1 whole (λ w x m. within w x (inr m)))
    all_alike_back _ _ e h whole within = absurd h

    each_alike : (k q : CompD) (e : List Atom) → CompsAlike sn tn k q → (whole : CompsD) → ((w : TermD) (x : List Atom) → MakesAt w x q (right e) → MemberAt w x whole (right e)) → EachInAt k (left e) whole (right e)
    each_alike (comp m g t) (comp n r s) e h whole within = λ x y. (
      s,
      right e ++ x,
      within s (right e ++ x) (x, record { count = y.count ∙ h.0; guard = guard_there e x g r h.1 y.guard }, refl, refl),
      subst (λ z. SameAt t z s (right e ++ x)) (sym (left_more e x)) (subst (λ z. SameAt t (left (e ++ x)) s z) (sym (right_more e x)) (alike_same t s (e ++ x) h.2)),
    )

    each_alike_back : (k q : CompD) (e : List Atom) → CompsAlike sn tn k q → (whole : CompsD) → ((w : TermD) (x : List Atom) → MakesAt w x k (left e) → MemberAt w x whole (left e)) → EachInAt q (right e) whole (left e)
    each_alike_back (comp m g t) (comp n r s) e h whole within = λ x y.
        let same : SameAt t (left e ++ x) s (right e ++ x) = subst (λ z. SameAt t z s (right e ++ x)) (sym (left_more e x)) (subst (λ z. SameAt t (left (e ++ x)) s z) (sym (right_more e x)) (alike_same t s (e ++ x) h.2)) in (
          t,
          left e ++ x,
          within t (left e ++ x) (x, record { count = y.count ∙ sym h.0; guard = guard_back e x g r h.1 y.guard }, refl, refl),
          same_at_sym t (left e ++ x) s (right e ++ x) same,
        )

  -- without further atoms
  pub sets_alike : (cs ks : CompsD) → ItemsAlike sn tn cs ks → SameAt (coll cs) (atoms_named sn c) (coll ks) (atoms_named tn c)
  sets_alike cs ks h =
      subst (λ z. SameAt (coll cs) z (coll ks) (atoms_named tn c)) (append-nil (atoms_named sn c)) (subst (λ z. SameAt (coll cs) (left []) (coll ks) z) (append-nil (atoms_named tn c)) (alike_same (coll cs) (coll ks) [] h))

  each_at : (k q : CompD) → CompsAlike sn tn k q → (whole : CompsD) → ((w : TermD) (x : List Atom) → MakesAt w x q (atoms_named tn c) → MemberAt w x whole (atoms_named tn c)) → EachInAt k (atoms_named sn c) whole (atoms_named tn c)
  each_at k q h whole within =
      let nil : right [] ≡ atoms_named tn c = append-nil (atoms_named tn c) in
      let there : EachInAt k (left []) whole (right []) = each_alike k q [] h whole (λ w x m. subst (λ z. MemberAt w x whole z) (sym nil) (within w x (subst (λ z. MakesAt w x q z) nil m))) in
      subst (λ z. EachInAt k z whole (atoms_named tn c)) (append-nil (atoms_named sn c)) (subst (λ z. EachInAt k (left []) whole z) nil there)

  -- a comprehension that the other set has too
  listed_within : (k : CompD) (qs whole : CompsD) → IsListed sn tn k qs → ((w : TermD) (x : List Atom) → MemberAt w x qs (atoms_named tn c) → MemberAt w x whole (atoms_named tn c)) → EachInAt k (atoms_named sn c) whole (atoms_named tn c)
  listed_within k no_comps whole h within = absurd h
  listed_within k (more q qs) whole (inl h) within = each_at k q h whole (λ w x m. within w x (inl m))
  listed_within k (more q qs) whole (inr h) within = listed_within k qs whole h (λ w x m. within w x (inr m))

  pub listed_each : (k : CompD) (qs : CompsD) → IsListed sn tn k qs → EachInAt k (atoms_named sn c) qs (atoms_named tn c)
  listed_each k qs h = listed_within k qs qs h (λ w x m. m)

pub always_says : (n : ℕ) (Q : List Atom → Type 0) (A : Bool → Type 0) (f : FormulaD) → f ≡ all no_formulas → ((c : List Atom) → Q c) → Defines n Q A f
always_says n Q A f e each =
    subst (Defines n Q A) (sym e) (record { truth = λ c k. (λ h. each c, λ h. tt); levels = tt; operators = λ o h. tt })

-- lists of other lengths don't match
module _ (sn tn : List ℕ) where
  cubes_as_long : (k q : List Lit) → CubesMatch sn tn k q → length k ≡ length q
  cubes_as_long [] [] h = refl
  cubes_as_long (l ∷ k) (m ∷ q) h = ap suc (cubes_as_long k q h.1)
  cubes_as_long [] (m ∷ q) h = absurd h
  cubes_as_long (l ∷ k) [] h = absurd h

  guards_as_long : (g r : List (List Lit)) → GuardsMatch sn tn g r → length g ≡ length r
  guards_as_long [] [] h = refl
  guards_as_long (k ∷ g) (q ∷ r) h = ap suc (guards_as_long g r h.1)
  guards_as_long [] (q ∷ r) h = absurd h
  guards_as_long (k ∷ g) [] h = absurd h

  parts_as_long : (ts ss : List Term) → PartsAlike sn tn (terms_of (map tree ts)) (terms_of (map tree ss)) → length ts ≡ length ss
  parts_as_long [] [] h = refl
  parts_as_long (t ∷ ts) (s ∷ ss) h = ap suc (parts_as_long ts ss h.1)
  parts_as_long [] (s ∷ ss) h = absurd h
  parts_as_long (t ∷ ts) [] h = absurd h

  items_as_long : (ks qs : List Comp) → ItemsAlike sn tn (comps_of (map comp_of ks)) (comps_of (map comp_of qs)) → length ks ≡ length qs
  items_as_long [] [] h = refl
  items_as_long (k ∷ ks) (q ∷ qs) h = ap suc (items_as_long ks qs h.1)
  items_as_long [] (q ∷ qs) h = absurd h
  items_as_long (k ∷ ks) [] h = absurd h

  pub cubes_apart : (k q k' q' : List Lit) → k' ≡ k → q' ≡ q → (length k' ≡ length q' → ⊥) → IsTrue false ↔ CubesMatch sn tn k q
  cubes_apart k q k' q' e f differ =
      (λ h. absurd (false≢true h), λ h. absurd (differ (ap length e ∙ cubes_as_long k q h ∙ sym (ap length f))))

  pub guards_apart : (g r g' r' : List (List Lit)) → g' ≡ g → r' ≡ r → (length g' ≡ length r' → ⊥) → IsTrue false ↔ GuardsMatch sn tn g r
  guards_apart g r g' r' e f differ =
      (λ h. absurd (false≢true h), λ h. absurd (differ (ap length e ∙ guards_as_long g r h ∙ sym (ap length f))))

  pub parts_not_alike : (ts ss : List Term) (vs ws : List TermD) → map tree ts ≡ vs → map tree ss ≡ ws → (length ts ≡ length ss → ⊥) → IsTrue false ↔ PartsAlike sn tn (terms_of vs) (terms_of ws)
  parts_not_alike ts ss vs ws e f differ = (
    λ h. absurd (false≢true h),
    λ h. absurd (differ (parts_as_long ts ss (subst (λ z. PartsAlike sn tn (terms_of z) (terms_of (map tree ss))) (sym e) (subst (λ z. PartsAlike sn tn (terms_of vs) (terms_of z)) (sym f) h)))),
  )

  pub items_not_alike : (ks qs : List Comp) (vs ws : List CompD) → map comp_of ks ≡ vs → map comp_of qs ≡ ws → (length ks ≡ length qs → ⊥) → IsTrue false ↔ ItemsAlike sn tn (comps_of vs) (comps_of ws)
  items_not_alike ks qs vs ws e f differ = (
    λ h. absurd (false≢true h),
    λ h. absurd (differ (items_as_long ks qs (subst (λ z. ItemsAlike sn tn (comps_of z) (comps_of (map comp_of qs))) (sym e) (subst (λ z. ItemsAlike sn tn (comps_of vs) (comps_of z)) (sym f) h)))),
  )
