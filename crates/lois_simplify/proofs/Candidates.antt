-- Those whose items have one shape can stand for all, where membership of that item is asked.
use Rattle.std.proofs.Common.{◌≡◌, ℕ, ◌+◌, ◌-◌, ◌<◌, ◌⊎◌, inl, inr, Bool, true, false, if◌then◌else◌, nat_lt, List, [], ◌∷◌, ◌++◌, length, map, take, drop, get_or, zero, suc, Option, None, Some, slice_get, option_map, option_to_list, refl, sym, ap, ◌∙◌, subst, arith}
use Rattle.std.proofs.lemmas.Bool.Decides.{nat_tests}
use Rattle.std.specs.List.{All, Contains}
use Rattle.std.proofs.lemmas.List.Elements.{All-contains, All-more, All-weaker, Contains-append_left, Contains-append_right, Contains-append_cases}
use Rattle.std.proofs.lemmas.Option.{none-some, slice_get-get_or, slice_get-map, slice_get_within, get_or_from_slice_get}
use Rattle.lois_base.specs.Atom.{Atom}
use Rattle.lois_base.specs.Data.{TermD, CompD, comp, comps_of}
use Rattle.lois_base.specs.Fits.{ItemsFit}
use Rattle.lois_base.specs.Validity.{AdmitsItems}
use Rattle.lois_base.specs.Values.{MakesAt, InAt}
use Rattle.lois_base.specs.declared.guards.Lit.{Lit}
use Rattle.lois_terms.specs.Shapes.{shape_of, item_shape}
use Rattle.lois_terms.proofs.Shapes.{one_shape}
use Rattle.lois_simplify.specs.Candidates.{AddsCandidates, behind}
use Rattle.lois_simplify.specs.Covered.{IsCovered}
use Rattle.lois_simplify.specs.Lean.{HasOwn}
use Rattle.lois_simplify.proofs.Members.{contains_none, member_made, made_member, in_more, items_fit_each, each_fits_items, items_admit_each, each_admits_items}

-- ---- what one position adds
module _ (x : ℕ) (others before now after : List CompD) (o : Option CompD) (adds : after ≡ now ++ option_to_list o) where
  pub still_there : ((k : CompD) → Contains before k → Contains now k) → (k : CompD) → Contains before k → Contains after k
  still_there kept k h = subst (λ z. Contains z k) (sym adds) (Contains-append_left now (option_to_list o) k (kept k h))

  pub added_only : ((k : CompD) → o ≡ Some k → Contains others k) → ((k : CompD) → Contains now k → Contains before k ⊎ Contains others k) → (k : CompD) → Contains after k → Contains before k ⊎ Contains others k
  added_only among only k h = go o refl (Contains-append_cases now (option_to_list o) k (subst (λ z. Contains z k) adds h))
    where
      go : (p : Option CompD) → o ≡ p → Contains now k ⊎ Contains (option_to_list p) k → Contains before k ⊎ Contains others k
      go p e (inl i) = only k i
      go None e (inr i) = absurd (contains_none k i)
      go (Some j) e (inr i) = inr (subst (Contains others) (one_there j k i) (among j e))
        where
          one_there : (a b : CompD) → Contains (a ∷ []) b → a ≡ b
          one_there a b (i, l, is) = at_first i (omega (arith, l)) is
            where
              at_first : (i : ℕ) → i ≡ 0 → get_or (a ∷ []) i b ≡ b → a ≡ b
              at_first i z is = subst (λ n. get_or (a ∷ []) n b ≡ b) z is

  pub added_there : (k : CompD) → o ≡ Some k → Contains after k
  added_there k e =
      subst (λ z. Contains z k) (sym adds) (Contains-append_right now (option_to_list o) k (subst (λ p. Contains (option_to_list p) k) (sym e) (0, omega arith, refl)))

-- ---- positions behind those that are gone
module _ {X : Type 0} (first : ℕ) (xs : List X) where
  pub behind_among : (i : ℕ) (x : X) → behind first xs i ≡ Some x → Contains xs x
  behind_among i x e = go (nat_lt i first) refl
    where
      go : (b : Bool) → nat_lt i first ≡ b → Contains xs x
      go true is = absurd (none-some x (ap (λ b. if b then None else slice_get xs (i - first)) (sym is) ∙ e))
      go false is =
          let f : slice_get xs (i - first) ≡ Some x = ap (λ b. if b then None else slice_get xs (i - first)) (sym is) ∙ e in
          (i - first, slice_get_within xs (i - first) x f, get_or_from_slice_get xs (i - first) x x f)

  pub behind_at : (j : ℕ) → behind first xs (first + j) ≡ slice_get xs j
  behind_at j = grind (arith, nat_tests)

pub slice_get-drop : {X : Type 0} (n : ℕ) (xs : List X) (j : ℕ) → slice_get (drop n xs) j ≡ slice_get xs (n + j)
slice_get-drop zero xs j = let e : 0 + j ≡ j = omega arith in ap (slice_get xs) (sym e)
slice_get-drop (suc n) [] j = refl
slice_get-drop (suc n) (x ∷ xs) j =
    let e : suc n + j ≡ suc (n + j) = omega arith in slice_get-drop n xs j ∙ ap (slice_get (x ∷ xs)) (sym e)

-- ---- all of one shape are there once each of the index's positions was looked at
pub all_added : (x first : ℕ) (others after : List CompD) (shapes ps : List ℕ) → drop first shapes ≡ map item_shape others → ((i : ℕ) → slice_get shapes i ≡ Some x → Contains ps i) → All (λ i. (k : CompD) → behind first others i ≡ Some k → Contains after k) ps → (k : CompD) → Contains others k → item_shape k ≡ x → Contains after k
all_added x first others after shapes ps index found all k (j, l, is) shaped =
    let here : slice_get others j ≡ Some k = slice_get-get_or others j k l ∙ ap Some is in
    let shape : slice_get shapes (first + j) ≡ Some x =
    sym (slice_get-drop first shapes j) ∙ ap (λ z. slice_get z j) index ∙ slice_get-map item_shape others j ∙ ap (option_map item_shape) here ∙ ap Some shaped in
    All-contains (λ i. (k : CompD) → behind first others i ≡ Some k → Contains after k) ps (first + j) all (found (first + j) shape) k (behind_at first others j ∙ here)

-- one position more was looked at
pub looked_further : (first : ℕ) (others now after : List CompD) (ps : List ℕ) (j i d : ℕ) → j < length ps → i ≡ get_or ps j d → after ≡ now ++ option_to_list (behind first others i) → All (λ p. (k : CompD) → behind first others p ≡ Some k → Contains now k) (take j ps) → All (λ p. (k : CompD) → behind first others p ≡ Some k → Contains after k) (take (j + 1) ps)
looked_further first others now after ps j i d l is adds all =
    All-more Q ps j d l (All-weaker P Q (λ p h k e. subst (λ z. Contains z k) (sym adds) (Contains-append_left now (option_to_list (behind first others i)) k (h k e))) (take j ps) all)
    (subst Q is (λ k e. added_there 0 others now now after (behind first others i) adds k e))
  where
    P : ℕ → Type 0
    P p = (k : CompD) → behind first others p ≡ Some k → Contains now k

    Q : ℕ → Type 0
    Q p = (k : CompD) → behind first others p ≡ Some k → Contains after k

-- ---- what candidates have, and all others
module _ (x : ℕ) (kept coming mid rs : List CompD) (one : AddsCandidates x kept [] mid) (two : AddsCandidates x coming mid rs) where
  pub candidates_only : (k : CompD) → Contains rs k → Contains (kept ++ coming) k
  candidates_only k h =
      elim (two.only k h) [
        | inl i ↦ elim (one.only k i) [ inl e ↦ absurd (contains_none k e) | inr j ↦ Contains-append_left kept coming k j ]
        | inr i ↦ Contains-append_right kept coming k i
      ]

  pub candidates_all : (k : CompD) → Contains (kept ++ coming) k → item_shape k ≡ x → Contains rs k
  candidates_all k h shaped =
      elim (Contains-append_cases kept coming k h) [
        | inl i ↦ two.kept k (one.all k i shaped)
        | inr i ↦ two.all k i shaped
      ]

  pub candidates_fit : (n : ℕ) → ItemsFit n (comps_of kept) → ItemsFit n (comps_of coming) → ItemsFit n (comps_of rs)
  candidates_fit n f h =
      each_fits_items n rs (λ k there. elim (Contains-append_cases kept coming k (candidates_only k there)) [
        | inl i ↦ items_fit_each n kept k f i
        | inr i ↦ items_fit_each n coming k h i
      ])

  pub candidates_admit : (o : Bool) → AdmitsItems o (comps_of kept) → AdmitsItems o (comps_of coming) → AdmitsItems o (comps_of rs)
  candidates_admit o f h =
      each_admits_items o rs (λ k there. elim (Contains-append_cases kept coming k (candidates_only k there)) [
        | inl i ↦ items_admit_each o kept k f i
        | inr i ↦ items_admit_each o coming k h i
      ])

made_shape : (k : CompD) (w : TermD) (x d : List Atom) → MakesAt w x k d → item_shape k ≡ shape_of w
made_shape (comp m g t) w x d made = ap shape_of (sym made.2)

module _ (u : List (List Lit)) (n m : ℕ) (g : List (List Lit)) (t : TermD) (others rs : List CompD) (only : (k : CompD) → Contains rs k → Contains others k) where
  pub covered_by_all : IsCovered u n rs (comp m g t) → IsCovered u n others (comp m g t)
  covered_by_all covered c e l o i = in_more rs others only t (c ++ e) c (covered c e l o i)

  pub own_beside_all : ((k : CompD) → Contains others k → item_shape k ≡ shape_of t → Contains rs k) → HasOwn u n rs (comp m g t) → HasOwn u n others (comp m g t)
  own_beside_all all o = (o.0, o.1, o.2, o.3, λ i. o.4 (found i))
    where
      found : InAt t (o.0 ++ o.1) (comps_of others) o.0 → InAt t (o.0 ++ o.1) (comps_of rs) o.0
      found i =
          let made = member_made others i.0 i.1 o.0 i.2 in
          let shaped : item_shape made.0 ≡ shape_of t = made_shape made.0 i.0 i.1 o.0 made.2 ∙ sym (one_shape t i.0 (o.0 ++ o.1) i.1 i.3) in
          (i.0, i.1, made_member rs made.0 i.0 i.1 o.0 (all made.0 made.1 shaped) made.2, i.3)
