-- What `get` tells of the list that it looks into.
use Rattle.std.proofs.Common.{◌≡◌, ℕ, zero, suc, ◌+◌, ◌≤◌, List, [], ◌∷◌, drop, ◌<◌, length, get_or, map, refl, arith, add-one, subst, sym}
use Rattle.std.specs.List.{slice_get}
use Rattle.std.specs.declared.option.Option.TheVariants.{Some}
use Rattle.lois_base.specs.Data.{TermD, tup, coll, CompD, terms_of, comps_of}
use Rattle.lois_base.specs.ListDepth.{depth_of_terms, depth_of_comps}
use Rattle.lois_base.specs.Depth.{deep_le-depth}
use Rattle.lois_base.specs.Tree.{tree, comp_of}
use Rattle.lois_base.specs.declared.values.Comp.{Comp}
use Rattle.lois_base.specs.declared.values.Term.{Term}
use Rattle.lois_base.specs.declared.values.Comps.TheDeep.{deep-Term, deep-Comp}

module _ {X : Type 0} where
  pub drop_at : (xs : List X) (i : ℕ) (x : X) → Some x ≡ slice_get xs i → drop i xs ≡ x ∷ drop (i + 1) xs
  drop_at [] i x e = absurd (cc)
  drop_at (y ∷ xs) zero x e = cc
  drop_at (y ∷ xs) (suc i) x e = rw add-one (rw add-one at (drop_at xs i x e))

pub deep_at : (ts : List Term) (i : ℕ) (t : Term) → i < length ts → deep-Term (get_or ts i t) ≤ depth_of_terms (map tree ts)
deep_at [] i t l = omega arith
deep_at (u ∷ ts) zero t l = omega (arith, deep_le-depth u)
deep_at (u ∷ ts) (suc i) t l = omega (arith, deep_at ts i t (omega arith))

-- an item of a slice of terms is less deep than the terms
pub term_within : (ts : List Term) (vs : List TermD) (i : ℕ) (t : Term) → map tree ts ≡ vs → i < length ts → t ≡ get_or ts i t → deep-Term t ≤ depth_of_terms vs
term_within ts vs i t m l e = subst (λ v. deep-Term t ≤ depth_of_terms v) m (subst (λ u. deep-Term u ≤ depth_of_terms (map tree ts)) (sym e) (deep_at ts i t l))

pub deep_comp_at : (cs : List Comp) (i : ℕ) (c : Comp) → i < length cs → deep-Comp (get_or cs i c) ≤ depth_of_comps (map comp_of cs)
deep_comp_at [] i c l = omega arith
deep_comp_at (d ∷ cs) zero c l = omega (arith, deep_le-depth d.item)
deep_comp_at (d ∷ cs) (suc i) c l = omega (arith, deep_comp_at cs i c (omega arith))

pub comp_item_within : (cs : List Comp) (vs : List CompD) (i : ℕ) (c : Comp) → map comp_of cs ≡ vs → i < length cs → c ≡ get_or cs i c → deep-Comp c ≤ depth_of_comps vs
comp_item_within cs vs i c m l e = subst (λ v. deep-Comp c ≤ depth_of_comps v) m (subst (λ d. deep-Comp d ≤ depth_of_comps (map comp_of cs)) (sym e) (deep_comp_at cs i c l))

-- a tuple and a set tell the lists apart that they are made of
terms_same : (ts ss : List TermD) → terms_of ts ≡ terms_of ss → ts ≡ ss
terms_same [] [] e = refl
terms_same [] (s ∷ ss) e = absurd (cc)
terms_same (t ∷ ts) [] e = absurd (cc)
terms_same (t ∷ ts) (s ∷ ss) e =
    let rest : terms_of ts ≡ terms_of ss = cc in
    let rests : ts ≡ ss = terms_same ts ss rest in
    cc

comps_same : (cs ks : List CompD) → comps_of cs ≡ comps_of ks → cs ≡ ks
comps_same [] [] e = refl
comps_same [] (k ∷ ks) e = absurd (cc)
comps_same (c ∷ cs) [] e = absurd (cc)
comps_same (c ∷ cs) (k ∷ ks) e =
    let rest : comps_of cs ≡ comps_of ks = cc in
    let rests : cs ≡ ks = comps_same cs ks rest in
    cc

pub tuples_same : (ts ss : List TermD) → tup (terms_of ts) ≡ tup (terms_of ss) → ts ≡ ss
tuples_same ts ss e = let parts : terms_of ts ≡ terms_of ss = cc in terms_same ts ss parts

pub sets_same : (cs ks : List CompD) → coll (comps_of cs) ≡ coll (comps_of ks) → cs ≡ ks
sets_same cs ks e = let items : comps_of cs ≡ comps_of ks = cc in comps_same cs ks items
