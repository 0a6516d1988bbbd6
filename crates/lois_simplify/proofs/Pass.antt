-- One pass over comprehensions that drops each of those that the others cover.
use Rattle.std.proofs.Common.{◌≡◌, ℕ, ◌+◌, ◌-◌, ◌<◌, List, [], ◌∷◌, ◌++◌, length, get_or, set, take, drop, map, sym, ap, ◌∙◌, subst, append_assoc, length-drop, arith}
use Rattle.std.specs.Prelude.{Bool}
use Rattle.std.specs.List.{Contains}
use Rattle.std.proofs.lemmas.List.{take_all, drop-set-lt, drop-drop, drop-map}
use Rattle.std.proofs.lemmas.List.Elements.{Contains-append_left, Contains-append_right}
use Rattle.lois_base.specs.Data.{CompD, comps_of}
use Rattle.lois_base.specs.Fits.{ItemsFit}
use Rattle.lois_base.specs.Tree.{comp_of}
use Rattle.lois_base.specs.Validity.{AdmitsItems}
use Rattle.lois_base.specs.declared.guards.Lit.{Lit}
use Rattle.lois_base.specs.declared.values.Comp.{Comp}
use Rattle.lois_base.proofs.Viewed.{rest_is}
use Rattle.lois_terms.specs.Shapes.{item_shape}
use Rattle.lois_simplify.specs.Covered.{IsCovered}
use Rattle.lois_simplify.specs.Simplification.{IsSimplification, set_of}
use Rattle.lois_simplify.specs.Lean.{HasOwn, EachHasOwn}
use Rattle.lois_simplify.proofs.Beside.{skip_one, own_without, own_with, without_covered}
use Rattle.lois_simplify.proofs.Kept.{kept_refl, kept_trans, fewer_kept}
use Rattle.lois_simplify.proofs.Members.{contains_first, items_fit_each, each_fits_items, items_admit_each, each_admits_items}

-- what is kept so far, and what is still to come
pub record UncoveredSoFar (u : List (List Lit)) (n : ℕ) (whole kept coming : List CompD) : Type 0 where
  pub value : IsSimplification u n (set_of whole) (set_of (kept ++ coming))
  pub only : (k : CompD) → Contains (kept ++ coming) k → Contains whole k
  pub own : EachHasOwn u n [] kept coming

pub to_the_end : {X : Type 0} (xs : List X) (i : ℕ) → take (length xs - i) (drop i xs) ≡ drop i xs
to_the_end xs i = take_all (length xs - i) (drop i xs) (omega (arith, length-drop i xs))

-- the shapes of the rest, once the next one is moved away and y stands in its place
pub next_shapes : (shapes : List ℕ) (items now : List Comp) (i : ℕ) (y : Comp) → now ≡ set items i y → drop i shapes ≡ map item_shape (map comp_of (drop i items)) → drop (i + 1) shapes ≡ map item_shape (map comp_of (drop (i + 1) now))
next_shapes shapes items now i y e is =
    let rest : drop (i + 1) now ≡ drop (i + 1) items = ap (drop (i + 1)) e ∙ drop-set-lt (i + 1) items i y (omega arith) in
    sym (drop-drop 1 i shapes)
    ∙ ap (drop 1) is
    ∙ drop-map item_shape 1 (map comp_of (drop i items))
    ∙ ap (map item_shape) (drop-map comp_of 1 (drop i items) ∙ ap (map comp_of) (drop-drop 1 i items ∙ sym rest))

module _ (u : List (List Lit)) (n : ℕ) (whole : List CompD) where
  pub uncovered_begin : UncoveredSoFar u n whole [] whole
  uncovered_begin = record { value = kept_refl u n (set_of whole); only = λ k h. h; own = tt }

  -- the next one is moved away, and y stands in its place
  pub next_moved : (kept : List CompD) (items now : List Comp) (i : ℕ) (x there y : Comp) → i < length items → x ≡ there → there ≡ get_or items i there → now ≡ set items i y → UncoveredSoFar u n whole kept (map comp_of (drop i items)) → UncoveredSoFar u n whole kept (comp_of x ∷ map comp_of (drop (i + 1) now))
  next_moved kept items now i x there y l is at e so_far =
      let found : x ≡ get_or items i x = subst (λ z. z ≡ get_or items i z) (sym is) at in
      let rest : drop (i + 1) now ≡ drop (i + 1) items = ap (drop (i + 1)) e ∙ drop-set-lt (i + 1) items i y (omega arith) in
      subst (λ z. UncoveredSoFar u n whole kept (comp_of x ∷ map comp_of z)) (sym rest)
      (subst (UncoveredSoFar u n whole kept) (ap (map comp_of) (rest_is items i x l found)) so_far)

  module _ (kept coming : List CompD) (k : CompD) (so_far : UncoveredSoFar u n whole kept (k ∷ coming)) where
    pub next_is_there : Contains whole k
    next_is_there =
        so_far.only k (Contains-append_right kept (k ∷ coming) k (contains_first k coming))

    pub others_are_there : (j : CompD) → Contains (kept ++ coming) j → Contains whole j
    others_are_there j h = so_far.only j (skip_one u n kept coming k j h)

    kept_there : (j : CompD) → Contains kept j → Contains whole j
    kept_there j h = others_are_there j (Contains-append_left kept coming j h)

    coming_there : (j : CompD) → Contains coming j → Contains whole j
    coming_there j h = others_are_there j (Contains-append_right kept coming j h)

    pub kept_fit : ItemsFit n (comps_of whole) → ItemsFit n (comps_of kept)
    kept_fit f = each_fits_items n kept (λ j h. items_fit_each n whole j f (kept_there j h))

    pub coming_fit : ItemsFit n (comps_of whole) → ItemsFit n (comps_of coming)
    coming_fit f = each_fits_items n coming (λ j h. items_fit_each n whole j f (coming_there j h))

    pub kept_admit : (o : Bool) → AdmitsItems o (comps_of whole) → AdmitsItems o (comps_of kept)
    kept_admit o f = each_admits_items o kept (λ j h. items_admit_each o whole j f (kept_there j h))

    pub coming_admit : (o : Bool) → AdmitsItems o (comps_of whole) → AdmitsItems o (comps_of coming)
    coming_admit o f = each_admits_items o coming (λ j h. items_admit_each o whole j f (coming_there j h))

    pub next_dropped : IsCovered u n (kept ++ coming) k → UncoveredSoFar u n whole kept coming
    next_dropped covered = record {
      value = kept_trans u n (set_of whole) (set_of (kept ++ k ∷ coming)) (set_of (kept ++ coming)) so_far.value
          (fewer_kept u n (kept ++ k ∷ coming) (kept ++ coming) (skip_one u n kept coming k) (without_covered u n kept coming k covered));
      only = others_are_there;
      own = own_without u n [] kept coming k so_far.own;
    }

    pub next_kept : HasOwn u n (kept ++ coming) k → UncoveredSoFar u n whole (kept ++ k ∷ []) coming
    next_kept own = record {
      value = subst (λ z. IsSimplification u n (set_of whole) (set_of z)) (sym (append_assoc kept (k ∷ []) coming)) so_far.value;
      only = subst (λ z. (j : CompD) → Contains z j → Contains whole j) (sym (append_assoc kept (k ∷ []) coming)) so_far.only;
      own = own_with u n [] kept coming k so_far.own own;
    }
