-- The parts of a tuple and the comprehensions of a set, one by one.
use Rattle.std.proofs.Common.{◌≡◌, ℕ, zero, suc, ◌+◌, ◌<◌, ◌≤◌, Bool, List, [], ◌∷◌, length, get_or, drop, map, refl, sym, ap, subst, ◌∙◌, arith}
use Rattle.std.proofs.lemmas.List.{drop_all}
use Rattle.lois_base.specs.Data.{TermD, TermsD, term, terms_of, CompD, CompsD, no_comps, more, comps_of, depth}
use Rattle.lois_base.specs.ListDepth.{depth_of_terms, depth_of_comps}
use Rattle.lois_base.specs.Fits.{Fits, PartsFit, CompFits, ItemsFit}
use Rattle.lois_base.specs.Tree.{tree, comp_of}
use Rattle.lois_base.specs.Validity.{AdmitsTerm, AdmitsParts, AdmitsComp, AdmitsItems, HasBoundedWidths, PartsHaveBoundedWidths, CompHasBoundedWidths, ItemsHaveBoundedWidths}
use Rattle.lois_base.specs.declared.values.Comp.{Comp}
use Rattle.lois_base.specs.declared.values.Term.{Term}
use Rattle.lois_base.proofs.Viewed.{rest_is}

-- the parts from an index on
abbrev pub terms_from : List Term → ℕ → TermsD
terms_from ts i = terms_of (map tree (drop i ts))

abbrev pub comps_from : List Comp → ℕ → CompsD
comps_from cs i = comps_of (map comp_of (drop i cs))

pub terms_are : (ts : List Term) (i : ℕ) (t : Term) → i < length ts → t ≡ get_or ts i t → terms_from ts i ≡ term (tree t) (terms_from ts (i + 1))
terms_are ts i t l is = ap (λ xs. terms_of (map tree xs)) (rest_is ts i t l is)

pub comps_are : (cs : List Comp) (i : ℕ) (k : Comp) → i < length cs → k ≡ get_or cs i k → comps_from cs i ≡ more (comp_of k) (comps_from cs (i + 1))
comps_are cs i k l is = ap (λ xs. comps_of (map comp_of xs)) (rest_is cs i k l is)

pub no_comps_left : (cs : List Comp) (i : ℕ) → length cs ≤ i → comps_from cs i ≡ no_comps
no_comps_left cs i l = ap (λ xs. comps_of (map comp_of xs)) (drop_all i cs l)

-- what holds of each
module _ (P : TermD → Type 0) (Each : TermsD → Type 0) (split : (t : TermD) (ts : TermsD) → Each (term t ts) → P t × Each ts) where
  part_at : (ts : List Term) (i : ℕ) (d : Term) → i < length ts → Each (terms_of (map tree ts)) → P (tree (get_or ts i d))
  part_at [] i d l h = absurd (omega arith)
  part_at (t ∷ ts) zero d l h = (split (tree t) (terms_of (map tree ts)) h).0
  part_at (t ∷ ts) (suc i) d l h = part_at ts i d (omega arith) (split (tree t) (terms_of (map tree ts)) h).1

  pub part_has : (ts : List Term) (vs : List TermD) (i : ℕ) (t : Term) → map tree ts ≡ vs → i < length ts → t ≡ get_or ts i t → Each (terms_of vs) → P (tree t)
  part_has ts vs i t m l e h =
      subst (λ u. P (tree u)) (sym e) (part_at ts i t l (subst (λ v. Each (terms_of v)) (sym m) h))

module _ (P : CompD → Type 0) (Each : CompsD → Type 0) (split : (k : CompD) (ks : CompsD) → Each (more k ks) → P k × Each ks) where
  comp_at : (ks : List Comp) (i : ℕ) (d : Comp) → i < length ks → Each (comps_of (map comp_of ks)) → P (comp_of (get_or ks i d))
  comp_at [] i d l h = absurd (omega arith)
  comp_at (k ∷ ks) zero d l h = (split (comp_of k) (comps_of (map comp_of ks)) h).0
  comp_at (k ∷ ks) (suc i) d l h = comp_at ks i d (omega arith) (split (comp_of k) (comps_of (map comp_of ks)) h).1

  pub comp_has : (ks : List Comp) (vs : List CompD) (i : ℕ) (k : Comp) → map comp_of ks ≡ vs → i < length ks → k ≡ get_or ks i k → Each (comps_of vs) → P (comp_of k)
  comp_has ks vs i k m l e h =
      subst (λ u. P (comp_of u)) (sym e) (comp_at ks i k l (subst (λ v. Each (comps_of v)) (sym m) h))

-- an item of a slice
pub record IsPartOf (vs : List TermD) (t : Term) : Type 0 where
  pub depth : depth (tree t) ≤ depth_of_terms vs
  pub fits : (n : ℕ) → PartsFit n (terms_of vs) → Fits n (tree t)
  pub admits : (o : Bool) → AdmitsParts o (terms_of vs) → AdmitsTerm o (tree t)
  pub widths : PartsHaveBoundedWidths (terms_of vs) → HasBoundedWidths (tree t)

pub record IsCompOf (vs : List CompD) (k : Comp) : Type 0 where
  pub depth : depth (tree k.item) ≤ depth_of_comps vs
  pub fits : (n : ℕ) → ItemsFit n (comps_of vs) → CompFits n (comp_of k)
  pub admits : (o : Bool) → AdmitsItems o (comps_of vs) → AdmitsComp o (comp_of k)
  pub widths : ItemsHaveBoundedWidths (comps_of vs) → CompHasBoundedWidths (comp_of k)

depth_at : (ts : List Term) (i : ℕ) (d : Term) → i < length ts → depth (tree (get_or ts i d)) ≤ depth_of_terms (map tree ts)
depth_at [] i d l = omega arith
depth_at (t ∷ ts) zero d l = omega arith
depth_at (t ∷ ts) (suc i) d l = omega (arith, depth_at ts i d (omega arith))

item_depth_at : (ks : List Comp) (i : ℕ) (d : Comp) → i < length ks → depth (tree (get_or ks i d).item) ≤ depth_of_comps (map comp_of ks)
item_depth_at [] i d l = omega arith
item_depth_at (k ∷ ks) zero d l = omega arith
item_depth_at (k ∷ ks) (suc i) d l = omega (arith, item_depth_at ks i d (omega arith))

pub is_part_of : (ts : List Term) (vs : List TermD) (i : ℕ) (t : Term) → map tree ts ≡ vs → i < length ts → t ≡ get_or ts i t → IsPartOf vs t
is_part_of ts vs i t m l e = record {
  depth = subst (λ v. depth (tree t) ≤ depth_of_terms v) m (subst (λ u. depth (tree u) ≤ depth_of_terms (map tree ts)) (sym e) (depth_at ts i t l));
  fits = λ n h. part_has (λ x. Fits n x) (λ x. PartsFit n x) (λ x xs p. p) ts vs i t m l e h;
  admits = λ o h. part_has (λ x. AdmitsTerm o x) (λ x. AdmitsParts o x) (λ x xs p. p) ts vs i t m l e h;
  widths = λ h. part_has HasBoundedWidths PartsHaveBoundedWidths (λ x xs p. p) ts vs i t m l e h;
}

pub is_comp_of : (ks : List Comp) (vs : List CompD) (i : ℕ) (k : Comp) → map comp_of ks ≡ vs → i < length ks → k ≡ get_or ks i k → IsCompOf vs k
is_comp_of ks vs i k m l e = record {
  depth = subst (λ v. depth (tree k.item) ≤ depth_of_comps v) m (subst (λ u. depth (tree u.item) ≤ depth_of_comps (map comp_of ks)) (sym e) (item_depth_at ks i k l));
  fits = λ n h. comp_has (λ x. CompFits n x) (λ x. ItemsFit n x) (λ x xs p. p) ks vs i k m l e h;
  admits = λ o h. comp_has (λ x. AdmitsComp o x) (λ x. AdmitsItems o x) (λ x xs p. p) ks vs i k m l e h;
  widths = λ h. comp_has CompHasBoundedWidths ItemsHaveBoundedWidths (λ x xs p. p) ks vs i k m l e h;
}

pub as_many_items : (ts us : List Term) (vs ws : List TermD) → map tree ts ≡ vs → map tree us ≡ ws → length vs ≡ length ws → length ts ≡ length us
as_many_items ts us vs ws m k e = sym (len ts) ∙ ap length m ∙ e ∙ sym (ap length k) ∙ len us
  where
    len : (xs : List Term) → length (map tree xs) ≡ length xs
    len [] = refl
    len (x ∷ xs) = ap suc (len xs)
