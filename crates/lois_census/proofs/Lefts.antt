-- Where values are in listed orbits, and what is left of a comprehension where orbits are taken off.
use Rattle.std.proofs.Common.{◌≡◌, ℕ, inl, inr, ◌⊎◌, ◌↔◌, Bool, ◌||◌, List, [], ◌∷◌, ◌++◌, length, get_or, sym, ap, ◌∙◌, subst}
use Rattle.std.proofs.lemmas.Bool.{false≢true}
use Rattle.std.proofs.lemmas.List.{length-map}
use Rattle.std.proofs.lemmas.List.Quantifiers.{Any-push, all_pairs_push}
use Rattle.std.specs.Bool.{IsTrue, IsFalse}
use Rattle.std.specs.List.{All, AllPairs}
use Rattle.lois_base.proofs.Both.{holds_append}
use Rattle.lois_base.proofs.Connectives.{either_true}
use Rattle.lois_base.proofs.Members.{same_sym, same_trans}
use Rattle.lois_base.proofs.Order.{test}
use Rattle.lois_base.proofs.Truths.{holds_alike}
use Rattle.lois_base.specs.Atom.{Atom, whole}
use Rattle.lois_base.specs.Data.{TermD, comp}
use Rattle.lois_base.specs.Fits.{ConstraintFits}
use Rattle.lois_base.specs.Patterns.{AreAlike}
use Rattle.lois_base.specs.Truth.{holds, sampled}
use Rattle.lois_base.specs.Validity.{AdmitsConstraint}
use Rattle.lois_base.specs.Values.{point, IsSame}
use Rattle.lois_base.specs.declared.guards.Lit.{Lit}
use Rattle.lois_deciders.specs.Satisfiability.{ConstraintIsSatisfiable}
use Rattle.lois_relate.specs.Apart.{AreNeverSame}
use Rattle.lois_census.specs.Left.{HoldsWhereInOrbit, HoldsWhereListed, HoldsOrInOrbit, IsLeftOf, IsRemainder, IsCoveredByOrbits}
use Rattle.lois_census.specs.OrbitData.{OrbitD}
use Rattle.lois_census.specs.Orbits.{IsInOrbit, IsInListedOrbit, AreDisjointOrbits}
use Rattle.lois_census.proofs.Lists.{Any-kept, Any-parted, Any-none, Any-at}
use Rattle.lois_census.proofs.Measures.{in_own_orbit}

module _ (ordered : Bool) (n : ℕ) (t : TermD) where
  -- ---- where the value is in a listed orbit
  pub listed_begin : (r : List (List Lit)) → r ≡ [] → HoldsWhereListed ordered n t [] r
  listed_begin r is e le = (
    λ h. absurd (false≢true (subst (λ z. IsTrue (holds e z)) is h)),
    λ h. absurd (Any-none (IsInOrbit ordered (point t e)) h),
  )

  pub listed_more : (os : List OrbitD) (o : OrbitD) (u r : List (List Lit)) → HoldsWhereListed ordered n t os u → HoldsOrInOrbit ordered n t o u r → HoldsWhereListed ordered n t (os ++ o ∷ []) r
  listed_more os o u r listed more e le = (
    λ h. elim ((more e le).0 h) [
      | inl k ↦ Any-kept (IsInOrbit ordered (point t e)) os (o ∷ []) ((listed e le).0 k)
      | inr k ↦ Any-push (IsInOrbit ordered (point t e)) os o k
    ],
    λ h. (more e le).1 (elim (Any-parted (IsInOrbit ordered (point t e)) os o h) [ inl k ↦ inl ((listed e le).1 k) | inr k ↦ inr k ]),
  )

  pub or_inside : (o : OrbitD) (u q r : List (List Lit)) → HoldsWhereInOrbit ordered n t o q → r ≡ u ++ q → HoldsOrInOrbit ordered n t o u r
  or_inside o u q r inside is e le =
      let whole : holds e r ≡ (holds e u || holds e q) = ap (holds e) is ∙ holds_append e u q in
      let either : IsTrue (holds e u || holds e q) ↔ (IsTrue (holds e u) ⊎ IsTrue (holds e q)) = either_true (holds e u) (holds e q) in (
        λ h. elim (either.0 (sym whole ∙ h)) [ inl k ↦ inl k | inr k ↦ inr ((inside e le).0 k) ],
        λ h. whole ∙ either.1 (elim h [ inl k ↦ inl k | inr k ↦ inr ((inside e le).1 k) ]),
      )

  -- nothing is added where the item is never in the orbit
  pub or_never : (o : OrbitD) (u : List (List Lit)) → AreNeverSame t o.item → HoldsOrInOrbit ordered n t o u u
  or_never o u never e le = (λ h. inl h, λ h. elim h [ inl k ↦ k | inr k ↦ absurd (never e k.0 k.2) ])

  -- the value at its own sample is in the orbit
  pub or_own : (o : OrbitD) (u r : List (List Lit)) → HoldsOrInOrbit ordered n t o u r → o.item ≡ t → length o.sample ≡ n → IsTrue (holds (sampled o.sample) r)
  or_own o u r more is count =
      (more (sampled o.sample) (length-map o.sample whole ∙ count)).1 (inr (subst (λ z. IsInOrbit ordered (point z (sampled o.sample)) o) is (in_own_orbit ordered o)))

  -- No value of the orbit at a sample where the item is in no listed orbit is in a listed one: the constraint holds at no choice
  -- that is alike to the sample either.
  pub apart_from : (os : List OrbitD) (u : List (List Lit)) → HoldsWhereListed ordered n t os u → ConstraintFits n u → AdmitsConstraint ordered u → (o : OrbitD) → o.item ≡ t → length o.sample ≡ n → IsFalse (holds (sampled o.sample) u) → All (λ p. AreDisjointOrbits ordered p o) os
  apart_from os u listed fits admits o is length_is outside i p l v in_listed in_new =
      let c = in_new.0 in
      let alike : AreAlike ordered (sampled o.sample) c = in_new.1 in
      let count : length (sampled o.sample) ≡ n = length-map o.sample whole ∙ length_is in
      let truth : holds (sampled o.sample) u ≡ holds c u =
      holds_alike ordered (sampled o.sample) c alike u (subst (λ k. ConstraintFits k u) (sym count) fits) admits in
      let same : IsSame v (point t c) = subst (λ z. IsSame v (point z c)) is in_new.2 in
      let found : IsInOrbit ordered (point t c) (get_or os i p) =
      (in_listed.0, in_listed.1, same_trans (point t c) v (point (get_or os i p).item in_listed.0) (same_sym v (point t c) same) in_listed.2) in
      let held : IsTrue (holds c u) =
      (listed c (sym alike.count ∙ count)).1 (Any-at (IsInOrbit ordered (point t c)) os i p l found) in
      false≢true (sym outside ∙ (truth ∙ held))

  -- ---- what is left
  module _ (g : List (List Lit)) where
    pub left_begin : (os : List OrbitD) (u : List (List Lit)) → ((e : List Atom) → holds e u ≡ holds e g) → IsRemainder ordered n g t os u
    left_begin os u is = record {
      within = λ e le h. sym (is e) ∙ h;
      taken = λ e le h f. absurd (false≢true (sym f ∙ (is e ∙ h)));
    }

    pub left_more : (os ys zs : List OrbitD) (u w r : List (List Lit)) → IsRemainder ordered n g t os u → ys ≡ os ++ zs → HoldsWhereListed ordered n t ys w → ((e : List Atom) → IsLeftOf (holds e w) (holds e u) (holds e r)) → IsRemainder ordered n g t ys r
    left_more os ys zs u w r left is listed less = record {
      within = λ e le h. left.within e le ((less e).within h);
      taken = λ e le h f.
          elim (test (holds e u)) [
            | inl k ↦ (listed e le).0 ((less e).gone k f)
            | inr k ↦ subst (λ z. IsInListedOrbit ordered z (point t e)) (sym is) (Any-kept (IsInOrbit ordered (point t e)) os zs (left.taken e le h k))
          ];
    }

    -- nothing is left
    pub covered : (os : List OrbitD) (u : List (List Lit)) → IsRemainder ordered n g t os u → (ConstraintIsSatisfiable n u → ⊥) → IsCoveredByOrbits ordered os (comp n g t)
    covered os u left unmet e extension =
        elim (test (holds e u)) [
          | inl h ↦ absurd (unmet (e, extension.count, h))
          | inr h ↦ left.taken e extension.count extension.guard h
        ]

pub pairs_more : (ordered : Bool) (os : List OrbitD) (o : OrbitD) → AllPairs (AreDisjointOrbits ordered) os → All (λ p. AreDisjointOrbits ordered p o) os → AllPairs (AreDisjointOrbits ordered) (os ++ o ∷ [])
pairs_more ordered os o pairs apart =
    all_pairs_push (AreDisjointOrbits ordered) os o pairs (λ k d l. apart k d l)
