-- Comprehensions with one item have the members of the one whose guard holds where one of theirs does.
use Rattle.std.proofs.Common.{◌≡◌, ℕ, zero, suc, ◌+◌, ◌⊎◌, inl, inr, Bool, ◌||◌, ◌<◌, List, [], ◌∷◌, ◌++◌, length, get_or, map, Option, refl, sym, ap, ◌∙◌, subst, arith}
use Rattle.std.specs.Prelude.{Some, set, slice_get}
use Rattle.std.specs.List.{Contains}
use Rattle.std.specs.Option.{option_map}
use Rattle.std.proofs.lemmas.List.{map-append, map-set}
use Rattle.std.proofs.lemmas.Option.{slice_get-map, slice_get_read}
use Rattle.std.proofs.lemmas.Bool.{or_cases, or_left, or_right}
use Rattle.std.proofs.lemmas.List.Elements.{All-nil, All-cons, Contains-append_left, Contains-append_right, Contains-append_cases}
use Rattle.lois_base.specs.Atom.{Atom}
use Rattle.lois_base.specs.Data.{TermD, CompD, comp, comps_of}
use Rattle.lois_base.specs.Fits.{LitFits, CubeFits, ConstraintFits}
use Rattle.lois_base.specs.Truth.{holds}
use Rattle.lois_base.specs.Validity.{AdmitsConstraint}
use Rattle.lois_base.specs.Values.{MakesAt, InAt}
use Rattle.lois_base.specs.declared.guards.Lit.{Lit}
use Rattle.lois_base.specs.Tree.{tree, comp_of}
use Rattle.lois_base.specs.declared.values.Comp.{Comp}
use Rattle.lois_readable.specs.Joined.{IsKept, HasSameItemAt}
use Rattle.lois_simplify.specs.Simplification.{IsSameWhere, IsSimplification, set_of}
use Rattle.lois_simplify.proofs.Kept.{kept_refl, kept_trans, kept-append, alike_kept}
use Rattle.lois_simplify.proofs.Members.{contains_first, contains_later, contains_cases, member_in, sets_same}
use Rattle.lois_simplify.proofs.OneRound.{item_kept}

abbrev always : List (List Lit)
always = [] ∷ []

-- ---- what is kept, step by step and list after list
pub same_kept : (t : TermD) → IsKept t t
same_kept t = record { everywhere = λ n. kept_refl always n t }

pub then_kept : (t s r : TermD) → IsKept t s → IsKept s r → IsKept t r
then_kept t s r a b =
    record { everywhere = λ n. kept_trans always n t s r (a.everywhere n) (b.everywhere n) }

beside_kept : (ps rs bs qs : List CompD) → IsKept (set_of ps) (set_of rs) → IsKept (set_of bs) (set_of qs) → IsKept (set_of (ps ++ bs)) (set_of (rs ++ qs))
beside_kept ps rs bs qs p q =
    record { everywhere = λ n. kept-append always n ps rs bs qs (p.everywhere n) (q.everywhere n) }

-- what stands for a term everywhere does so where u holds
pub kept_where : (u : List (List Lit)) (n : ℕ) (t r : TermD) → IsKept t r → IsSimplification u n t r
kept_where u n t r k = let kept = k.everywhere n in record {
  value = λ c l o. kept.value c l refl;
  levels = kept.levels;
  operators = kept.operators;
  widths = kept.widths;
  depth = kept.depth;
}

always_fits : (n : ℕ) → ConstraintFits n always
always_fits n = All-cons (CubeFits n) [] [] (All-nil (LitFits n)) (All-nil (CubeFits n))

pub item_joined : (m : ℕ) (g : List (List Lit)) (t s : TermD) → IsKept t s → IsKept (set_of (comp m g t ∷ [])) (set_of (comp m g s ∷ []))
item_joined m g t s kept = record {
  everywhere = λ n. item_kept always n m g g t s (always_fits n) (λ d. refl) (kept_where g (n + m) t s kept);
}

-- those that are done, and one more
pub one_put : (done more before after : List CompD) (k own : CompD) → more ≡ done ++ k ∷ [] → IsKept (set_of done) (set_of before) → IsKept (set_of (k ∷ [])) (set_of (own ∷ [])) → IsKept (set_of (before ++ own ∷ [])) (set_of after) → IsKept (set_of more) (set_of after)
one_put done more before after k own e seen kept put =
    subst (λ z. IsKept (set_of z) (set_of after)) (sym e)
    (then_kept (set_of (done ++ k ∷ [])) (set_of (before ++ own ∷ [])) (set_of after) (beside_kept done before (k ∷ []) (own ∷ []) seen kept) put)

-- ---- two guards
-- h holds where one of the two does, and speaks of nothing else
pub record IsEither (g d h : List (List Lit)) : Type 0 where
  pub truth : (e : List Atom) → holds e h ≡ (holds e g || holds e d)
  pub levels : (n : ℕ) → ConstraintFits n g → ConstraintFits n d → ConstraintFits n h
  pub operators : (o : Bool) → AdmitsConstraint o g → AdmitsConstraint o d → AdmitsConstraint o h

module _ (m : ℕ) (g d h : List (List Lit)) (t : TermD) (either : IsEither g d h) where
  two_same : (u : List (List Lit)) (n : ℕ) → IsSameWhere u n (set_of (comp m g t ∷ comp m d t ∷ [])) (set_of (comp m h t ∷ []))
  two_same u n c l o = sets_same (comp m g t ∷ comp m d t ∷ []) (comp m h t ∷ []) c c there back
    where
      there : (w : TermD) (x : List Atom) → MakesAt w x (comp m g t) c ⊎ (MakesAt w x (comp m d t) c ⊎ ⊥) → InAt w x (comps_of (comp m h t ∷ [])) c
      there w x (inl (e, i, a, b)) =
          member_in (comp m h t ∷ []) w x c (inl (e, record { count = i.count; guard = either.truth (c ++ e) ∙ or_left (holds (c ++ e) g) (holds (c ++ e) d) i.guard }, a, b))
      there w x (inr (inl (e, i, a, b))) =
          member_in (comp m h t ∷ []) w x c (inl (e, record { count = i.count; guard = either.truth (c ++ e) ∙ or_right (holds (c ++ e) g) (holds (c ++ e) d) i.guard }, a, b))
      there w x (inr (inr f)) = absurd f

      back : (w : TermD) (x : List Atom) → MakesAt w x (comp m h t) c ⊎ ⊥ → InAt w x (comps_of (comp m g t ∷ comp m d t ∷ [])) c
      back w x (inr f) = absurd f
      back w x (inl (e, i, a, b)) =
          member_in (comp m g t ∷ comp m d t ∷ []) w x c
          (elim (or_cases (holds (c ++ e) g) (holds (c ++ e) d) (sym (either.truth (c ++ e)) ∙ i.guard)) [
            | inl is ↦ inl (e, record { count = i.count; guard = is }, a, b)
            | inr is ↦ inr (inl (e, record { count = i.count; guard = is }, a, b))
          ])

  two_joined : IsKept (set_of (comp m g t ∷ comp m d t ∷ [])) (set_of (comp m h t ∷ []))
  two_joined = record {
    everywhere = λ n. record {
      value = two_same always n;
      levels = λ w. (((w.0).0, either.levels (n + m) (w.0).1 ((w.1).0).1, (w.0).2), tt);
      operators = λ o w. ((either.operators o (w.0).0 ((w.1).0).0, (w.0).1), tt);
      widths = λ w. (w.0, tt);
      depth = omega arith;
    };
  }

  -- the last one goes to the first
  to_first : (ks : List CompD) → IsKept (set_of ((comp m g t ∷ ks) ++ comp m d t ∷ [])) (set_of ((comp m g t ∷ comp m d t ∷ []) ++ ks))
  to_first ks = record {
    everywhere = λ n. alike_kept always n ((comp m g t ∷ ks) ++ comp m d t ∷ []) ((comp m g t ∷ comp m d t ∷ []) ++ ks)
        (λ z i. elim (contains_cases (comp m g t) z (ks ++ comp m d t ∷ []) i) [
          | inl e ↦ subst (Contains (comp m g t ∷ comp m d t ∷ ks)) e (contains_first (comp m g t) (comp m d t ∷ ks))
          | inr k ↦ contains_later (comp m g t) z (comp m d t ∷ ks) (elim (Contains-append_cases ks (comp m d t ∷ []) z k) [
            | inl a ↦ contains_later (comp m d t) z ks a
            | inr b ↦ elim (contains_cases (comp m d t) z [] b) [
              | inl e ↦ subst (Contains (comp m d t ∷ ks)) e (contains_first (comp m d t) ks)
              | inr x ↦ absurd (omega (arith, x.1))
            ]
          ])
        ])
        (λ z i. elim (contains_cases (comp m g t) z (comp m d t ∷ ks) i) [
          | inl e ↦ subst (Contains (comp m g t ∷ (ks ++ comp m d t ∷ []))) e (contains_first (comp m g t) (ks ++ comp m d t ∷ []))
          | inr k ↦ contains_later (comp m g t) z (ks ++ comp m d t ∷ []) (elim (contains_cases (comp m d t) z ks k) [
            | inl e ↦ Contains-append_right ks (comp m d t ∷ []) z (subst (Contains (comp m d t ∷ [])) e (contains_first (comp m d t) []))
            | inr a ↦ Contains-append_left ks (comp m d t ∷ []) z a
          ])
        ]);
  }

  first_joined : (ks : List CompD) → IsKept (set_of ((comp m g t ∷ ks) ++ comp m d t ∷ [])) (set_of (comp m h t ∷ ks))
  first_joined ks =
      then_kept (set_of ((comp m g t ∷ ks) ++ comp m d t ∷ [])) (set_of ((comp m g t ∷ comp m d t ∷ []) ++ ks)) (set_of (comp m h t ∷ ks)) (to_first ks) (beside_kept (comp m g t ∷ comp m d t ∷ []) (comp m h t ∷ []) ks ks two_joined (same_kept (set_of ks)))

  -- the last one goes into the one at p
  pub last_joined : (ks : List CompD) (p : ℕ) → slice_get ks p ≡ Some (comp m g t) → IsKept (set_of (ks ++ comp m d t ∷ [])) (set_of (set ks p (comp m h t)))
  last_joined [] p e = absurd (cc)
  last_joined (k ∷ ks) zero e =
      let is : k ≡ comp m g t = cc in
      subst (λ z. IsKept (set_of ((z ∷ ks) ++ comp m d t ∷ [])) (set_of (comp m h t ∷ ks))) (sym is) (first_joined ks)
  last_joined (k ∷ ks) (suc p) e =
      beside_kept (k ∷ []) (k ∷ []) (ks ++ comp m d t ∷ []) (set ks p (comp m h t)) (same_kept (set_of (k ∷ []))) (last_joined ks p e)

-- ---- what is put behind others, or into one of them
pub put_last : (xs ys : List Comp) (k : Comp) → ys ≡ xs ++ k ∷ [] → IsKept (set_of (map comp_of xs ++ comp_of k ∷ [])) (set_of (map comp_of ys))
put_last xs ys k e =
    subst (λ z. IsKept (set_of (map comp_of xs ++ comp_of k ∷ [])) (set_of z)) (sym (ap (map comp_of) e ∙ map-append comp_of xs (k ∷ []))) (same_kept (set_of (map comp_of xs ++ comp_of k ∷ [])))

-- an item of a list as contracts see it
pub viewed_at : (xs : List Comp) (p : ℕ) (o : Comp) → p < length xs → o ≡ get_or xs p o → slice_get (map comp_of xs) p ≡ Some (comp_of o)
viewed_at xs p o l e =
    slice_get-map comp_of xs p ∙ ap (option_map comp_of) (slice_get_read xs (length xs) p o refl l e)

pub put_into : (xs : List Comp) (p : ℕ) (k o : Comp) (h : List (List Lit)) → HasSameItemAt (comp_of k) (map comp_of xs) p → p < length xs → o ≡ get_or xs p o → IsEither o.guard k.guard h → IsKept (set_of (map comp_of xs ++ comp_of k ∷ [])) (set_of (map comp_of (set xs p (record { binders = k.binders; guard = h; item = k.item }))))
put_into xs p k o h at l e either =
    let there = viewed_at xs p o l e in
    let same : slice_get (map comp_of xs) p ≡ Some (comp k.binders o.guard (tree k.item)) = same_item k o (slice_get (map comp_of xs) p) at.0 at.1 there in
    subst (λ z. IsKept (set_of (map comp_of xs ++ comp_of k ∷ [])) (set_of z)) (sym (map-set comp_of xs p (record { binders = k.binders; guard = h; item = k.item })))
    (last_joined k.binders o.guard k.guard h (tree k.item) either (map comp_of xs) p same)
  where
    same_item : (k o : Comp) (found : Option CompD) (g : List (List Lit)) → found ≡ Some (comp k.binders g (tree k.item)) → found ≡ Some (comp_of o) → found ≡ Some (comp k.binders o.guard (tree k.item))
    same_item k o found g a b =
        let guard : g ≡ o.guard = cc in
        a ∙ ap (λ z. Some (comp k.binders z (tree k.item))) guard
