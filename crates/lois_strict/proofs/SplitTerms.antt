-- A term with each guard split has the same value, and what it is made of obeys the same bounds.
use Rattle.std.proofs.Common.{◌≡◌, ℕ, ◌+◌, ◌<◌, suc, max, Bool, List, [], ◌∷◌, ◌++◌, length, get_or, take, map, refl, sym, ◌∙◌, ap, subst}
use Rattle.std.proofs.lemmas.List.{take_more, map-append}
use mathlib.Core.Logic.{inl, inr}
use Rattle.std.specs.Bool.{IsTrue}
use Rattle.lois_base.specs.Atom.{Atom}
use Rattle.lois_base.specs.Data.{TermD, var, tag, tup, coll, TermsD, no_terms, term, terms_of, CompD, comp, CompsD, no_comps, more, comps_of, depth, depth_of_parts, depth_of_items}
use Rattle.lois_base.specs.Fits.{Fits, PartsFit, CompFits, ItemsFit}
use Rattle.lois_base.specs.Tree.{tree, comp_of}
use Rattle.lois_base.specs.Truth.{atom_at}
use Rattle.lois_base.specs.Validity.{AdmitsTerm, AdmitsParts, AdmitsItems, IsStrictTerm, PartsAreStrict, ItemsAreStrict, count_of_parts, HasBoundedWidths, PartsHaveBoundedWidths, ItemsHaveBoundedWidths}
use Rattle.lois_base.specs.Values.{IsExtension, MakesAt, MemberAt, SameAt, SamePartsAt, AllInAt, EachInAt, SomeIsAt, OneIsAt}
use Rattle.lois_base.specs.declared.guards.Lit.{Lit}
use Rattle.lois_base.specs.declared.values.Comp.{Comp}
use Rattle.lois_base.specs.declared.values.Term.{Term}
use Rattle.lois_base.proofs.Order.{equal_refl}
use Rattle.lois_strict.specs.Split.{IsSplit, TermIsSplit, PartsAreSplit, CompIsSplit, ItemsAreSplit}

-- ---- one part more, one comprehension more
part_split : (ts ss : List TermD) (t s : TermD) → PartsAreSplit (terms_of ts) (terms_of ss) → TermIsSplit t s → PartsAreSplit (terms_of (ts ++ t ∷ [])) (terms_of (ss ++ s ∷ []))
part_split [] [] t s h g = (g, tt)
part_split [] (b ∷ ss) t s h g = absurd h
part_split (a ∷ ts) [] t s h g = absurd h
part_split (a ∷ ts) (b ∷ ss) t s h g = (h.0, part_split ts ss t s h.1 g)

item_split : (ks ls : List CompD) (k l : CompD) → ItemsAreSplit (comps_of ks) (comps_of ls) → CompIsSplit k l → ItemsAreSplit (comps_of (ks ++ k ∷ [])) (comps_of (ls ++ l ∷ []))
item_split [] [] k l h g = (g, tt)
item_split [] (b ∷ ls) k l h g = absurd h
item_split (a ∷ ks) [] k l h g = absurd h
item_split (a ∷ ks) (b ∷ ls) k l h g = (h.0, item_split ks ls k l h.1 g)

-- one more of those that were read
module _ (i : ℕ) where
  pub parts_read : (ts : List Term) (ss rs : List TermD) (x y : Term) → i < length ts → x ≡ get_or ts i x → rs ≡ ss ++ tree y ∷ [] → PartsAreSplit (terms_of (map tree (take i ts))) (terms_of ss) → TermIsSplit (tree x) (tree y) → PartsAreSplit (terms_of (map tree (take (i + 1) ts))) (terms_of rs)
  parts_read ts ss rs x y b is grown h g =
      let seen : List TermD = map tree (take i ts) in
      let read : map tree (take (i + 1) ts) ≡ seen ++ tree x ∷ [] = ap (map tree) (take_more ts i x b) ∙ (map-append tree (take i ts) (get_or ts i x ∷ []) ∙ ap (λ (z : Term). seen ++ tree z ∷ []) (sym is)) in
      subst (λ (zs : List TermD). PartsAreSplit (terms_of zs) (terms_of rs)) (sym read) (subst (λ (zs : List TermD). PartsAreSplit (terms_of (seen ++ tree x ∷ [])) (terms_of zs)) (sym grown) (part_split seen ss (tree x) (tree y) h g))

  pub items_read : (ks : List Comp) (ls rs : List CompD) (x y : Comp) → i < length ks → x ≡ get_or ks i x → rs ≡ ls ++ comp_of y ∷ [] → ItemsAreSplit (comps_of (map comp_of (take i ks))) (comps_of ls) → CompIsSplit (comp_of x) (comp_of y) → ItemsAreSplit (comps_of (map comp_of (take (i + 1) ks))) (comps_of rs)
  items_read ks ls rs x y b is grown h g =
      let seen : List CompD = map comp_of (take i ks) in
      let read : map comp_of (take (i + 1) ks) ≡ seen ++ comp_of x ∷ [] = ap (map comp_of) (take_more ks i x b) ∙ (map-append comp_of (take i ks) (get_or ks i x ∷ []) ∙ ap (λ (z : Comp). seen ++ comp_of z ∷ []) (sym is)) in
      subst (λ (zs : List CompD). ItemsAreSplit (comps_of zs) (comps_of rs)) (sym read) (subst (λ (zs : List CompD). ItemsAreSplit (comps_of (seen ++ comp_of x ∷ [])) (comps_of zs)) (sym grown) (item_split seen ls (comp_of x) (comp_of y) h g))

-- ---- the same value
module _ (c e : List Atom) (m n : ℕ) (g r : List (List Lit)) (same : n ≡ m) (h : IsSplit g r) where
  split_extension : IsExtension c m g e → IsExtension c n r e
  split_extension x = record { count = x.count ∙ sym same; guard = subst IsTrue (sym (h.truth (c ++ e))) x.guard }

  whole_extension : IsExtension c n r e → IsExtension c m g e
  whole_extension x = record { count = x.count ∙ same; guard = subst IsTrue (h.truth (c ++ e)) x.guard }

mutual
  pub split_is_same : (t s : TermD) (c : List Atom) → TermIsSplit t s → SameAt t c s c
  split_is_same (var i) (var j) c h = subst (λ k. SameAt (var i) c (var k) c) (sym h) (equal_refl (atom_at c i))
  split_is_same (tag n) (tag k) c h = sym h
  split_is_same (tup ts) (tup ss) c h = parts_are_same ts ss c h
  split_is_same (coll ks) (coll ls) c h = (all_are_in ks ls c ls (λ w x m. m) h, λ w x m. some_is ks ls c w x h m)
  split_is_same _ _ c h = absurd h

  parts_are_same : (ts ss : TermsD) (c : List Atom) → PartsAreSplit ts ss → SamePartsAt ts c ss c
  parts_are_same no_terms no_terms c h = tt
  parts_are_same (term t ts) (term s ss) c h = (split_is_same t s c h.0, parts_are_same ts ss c h.1)
  parts_are_same _ _ c h = absurd h

  all_are_in : (ks ls : CompsD) (c : List Atom) (ss : CompsD) → ((w : TermD) (x : List Atom) → MemberAt w x ls c → MemberAt w x ss c) → ItemsAreSplit ks ls → AllInAt ks c ss c
  all_are_in no_comps no_comps c ss within h = tt
  all_are_in (more k ks) (more l ls) c ss within h =
      (each_is_in k l c ss (λ w x m. within w x (inl m)) h.0, all_are_in ks ls c ss (λ w x m. within w x (inr m)) h.1)
  all_are_in _ _ c ss within h = absurd h

  each_is_in : (k l : CompD) (c : List Atom) (ss : CompsD) → ((w : TermD) (x : List Atom) → MakesAt w x l c → MemberAt w x ss c) → CompIsSplit k l → EachInAt k c ss c
  each_is_in (comp m g t) (comp n r s) c ss within h =
      λ e x. (s, c ++ e, within s (c ++ e) (e, split_extension c e m n g r h.0 h.1 x, refl, refl), split_is_same t s (c ++ e) h.2)

  some_is : (ks ls : CompsD) (c : List Atom) (w : TermD) (x : List Atom) → ItemsAreSplit ks ls → MemberAt w x ls c → SomeIsAt ks c w x
  some_is no_comps no_comps c w x h m = absurd m
  some_is (more k ks) (more l ls) c w x h (inl m) = inl (one_is k l c w x h.0 m)
  some_is (more k ks) (more l ls) c w x h (inr m) = inr (some_is ks ls c w x h.1 m)
  some_is _ _ c w x h m = absurd h

  one_is : (k l : CompD) (c : List Atom) (w : TermD) (x : List Atom) → CompIsSplit k l → MakesAt w x l c → OneIsAt k c w x
  one_is (comp m g t) (comp n r s) c w x h made =
      let e = made.0 in
      (e, whole_extension c e m n g r h.0 h.1 made.1, subst (λ y. SameAt t (c ++ e) w y) (sym made.3) (subst (λ v. SameAt t (c ++ e) v (c ++ e)) (sym made.2) (split_is_same t s (c ++ e) h.2)))

-- ---- no `<=`
mutual
  pub split_is_strict : (t s : TermD) → TermIsSplit t s → IsStrictTerm s
  split_is_strict (var i) (var j) h = tt
  split_is_strict (tag n) (tag k) h = tt
  split_is_strict (tup ts) (tup ss) h = parts_are_strict ts ss h
  split_is_strict (coll ks) (coll ls) h = items_are_strict ks ls h
  split_is_strict _ _ h = absurd h

  parts_are_strict : (ts ss : TermsD) → PartsAreSplit ts ss → PartsAreStrict ss
  parts_are_strict no_terms no_terms h = tt
  parts_are_strict (term t ts) (term s ss) h = (split_is_strict t s h.0, parts_are_strict ts ss h.1)
  parts_are_strict _ _ h = absurd h

  items_are_strict : (ks ls : CompsD) → ItemsAreSplit ks ls → ItemsAreStrict ls
  items_are_strict no_comps no_comps h = tt
  items_are_strict (more (comp m g t) ks) (more (comp n r s) ls) h =
      ((h.0.1.strict, split_is_strict t s h.0.2), items_are_strict ks ls h.1)
  items_are_strict _ _ h = absurd h

-- ---- levels
mutual
  pub split_fits : (t s : TermD) (n : ℕ) → TermIsSplit t s → Fits n t → Fits n s
  split_fits (var i) (var j) n h f = subst (λ k. Fits n (var k)) (sym h) f
  split_fits (tag k) (tag l) n h f = tt
  split_fits (tup ts) (tup ss) n h f = parts_fit ts ss n h f
  split_fits (coll ks) (coll ls) n h f = items_fit ks ls n h f
  split_fits _ _ n h f = absurd h

  parts_fit : (ts ss : TermsD) (n : ℕ) → PartsAreSplit ts ss → PartsFit n ts → PartsFit n ss
  parts_fit no_terms no_terms n h f = tt
  parts_fit (term t ts) (term s ss) n h f = (split_fits t s n h.0 f.0, parts_fit ts ss n h.1 f.1)
  parts_fit _ _ n h f = absurd h

  items_fit : (ks ls : CompsD) (n : ℕ) → ItemsAreSplit ks ls → ItemsFit n ks → ItemsFit n ls
  items_fit no_comps no_comps n h f = tt
  items_fit (more k ks) (more l ls) n h f = (comp_fits k l n h.0 f.0, items_fit ks ls n h.1 f.1)
  items_fit _ _ n h f = absurd h

  comp_fits : (k l : CompD) (n : ℕ) → CompIsSplit k l → CompFits n k → CompFits n l
  comp_fits (comp m g t) (comp o r s) n h f =
      subst (λ (b : ℕ). CompFits n (comp b r s)) (sym h.0) (f.0, h.1.levels (n + m) f.1, split_fits t s (n + m) h.2 f.2)

-- ---- operators
mutual
  pub split_admits : (t s : TermD) (o : Bool) → TermIsSplit t s → AdmitsTerm o t → AdmitsTerm o s
  split_admits (var i) (var j) o h a = tt
  split_admits (tag k) (tag l) o h a = tt
  split_admits (tup ts) (tup ss) o h a = parts_admit ts ss o h a
  split_admits (coll ks) (coll ls) o h a = items_admit ks ls o h a
  split_admits _ _ o h a = absurd h

  parts_admit : (ts ss : TermsD) (o : Bool) → PartsAreSplit ts ss → AdmitsParts o ts → AdmitsParts o ss
  parts_admit no_terms no_terms o h a = tt
  parts_admit (term t ts) (term s ss) o h a = (split_admits t s o h.0 a.0, parts_admit ts ss o h.1 a.1)
  parts_admit _ _ o h a = absurd h

  items_admit : (ks ls : CompsD) (o : Bool) → ItemsAreSplit ks ls → AdmitsItems o ks → AdmitsItems o ls
  items_admit no_comps no_comps o h a = tt
  items_admit (more (comp m g t) ks) (more (comp n r s) ls) o h a =
      ((h.0.1.operators o a.0.0, split_admits t s o h.0.2 a.0.1), items_admit ks ls o h.1 a.1)
  items_admit _ _ o h a = absurd h

-- ---- widths
parts_are_as_many : (ts ss : TermsD) → PartsAreSplit ts ss → count_of_parts ss ≡ count_of_parts ts
parts_are_as_many no_terms no_terms h = refl
parts_are_as_many (term t ts) (term s ss) h = ap suc (parts_are_as_many ts ss h.1)
parts_are_as_many _ _ h = absurd h

mutual
  pub split_is_bounded : (t s : TermD) → TermIsSplit t s → HasBoundedWidths t → HasBoundedWidths s
  split_is_bounded (var i) (var j) h b = tt
  split_is_bounded (tag k) (tag l) h b = tt
  split_is_bounded (tup ts) (tup ss) h b =
      let e = parts_are_as_many ts ss h in (rw e b.0, rw e b.1, parts_are_bounded ts ss h b.2)
  split_is_bounded (coll ks) (coll ls) h b = items_are_bounded ks ls h b
  split_is_bounded _ _ h b = absurd h

  parts_are_bounded : (ts ss : TermsD) → PartsAreSplit ts ss → PartsHaveBoundedWidths ts → PartsHaveBoundedWidths ss
  parts_are_bounded no_terms no_terms h b = tt
  parts_are_bounded (term t ts) (term s ss) h b = (split_is_bounded t s h.0 b.0, parts_are_bounded ts ss h.1 b.1)
  parts_are_bounded _ _ h b = absurd h

  items_are_bounded : (ks ls : CompsD) → ItemsAreSplit ks ls → ItemsHaveBoundedWidths ks → ItemsHaveBoundedWidths ls
  items_are_bounded no_comps no_comps h b = tt
  items_are_bounded (more (comp m g t) ks) (more (comp n r s) ls) h b =
      (split_is_bounded t s h.0.2 b.0, items_are_bounded ks ls h.1 b.1)
  items_are_bounded _ _ h b = absurd h

-- ---- depth
mutual
  pub split_is_as_deep : (t s : TermD) → TermIsSplit t s → depth s ≡ depth t
  split_is_as_deep (var i) (var j) h = refl
  split_is_as_deep (tag k) (tag l) h = refl
  split_is_as_deep (tup ts) (tup ss) h = ap suc (parts_are_as_deep ts ss h)
  split_is_as_deep (coll ks) (coll ls) h = ap suc (items_are_as_deep ks ls h)
  split_is_as_deep _ _ h = absurd h

  parts_are_as_deep : (ts ss : TermsD) → PartsAreSplit ts ss → depth_of_parts ss ≡ depth_of_parts ts
  parts_are_as_deep no_terms no_terms h = refl
  parts_are_as_deep (term t ts) (term s ss) h =
      ap (λ n. max n (depth_of_parts ss)) (split_is_as_deep t s h.0) ∙ ap (max (depth t)) (parts_are_as_deep ts ss h.1)
  parts_are_as_deep _ _ h = absurd h

  items_are_as_deep : (ks ls : CompsD) → ItemsAreSplit ks ls → depth_of_items ls ≡ depth_of_items ks
  items_are_as_deep no_comps no_comps h = refl
  items_are_as_deep (more (comp m g t) ks) (more (comp n r s) ls) h =
      ap (λ n. max n (depth_of_items ls)) (split_is_as_deep t s h.0.2) ∙ ap (max (depth t)) (items_are_as_deep ks ls h.1)
  items_are_as_deep _ _ h = absurd h
