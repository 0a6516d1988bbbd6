-- Where an item is in an orbit.
use Rattle.std.proofs.Common.{◌≡◌, ℕ, ◌+◌, Bool, List, [], ◌++◌, length, refl, sym, ap, ◌∙◌, subst}
use Rattle.std.proofs.lemmas.List.{length-map, length-append, append-nil}
use Rattle.std.specs.Bool.{IsTrue}
use Rattle.lois_base.proofs.Members.{same_sym, same_trans}
use Rattle.lois_base.specs.Atom.{Atom, whole}
use Rattle.lois_base.specs.Data.{TermD}
use Rattle.lois_base.specs.FormulaData.{FormulaD}
use Rattle.lois_base.specs.FormulaTruth.{FormulaHolds}
use Rattle.lois_base.specs.Patterns.{AreAlike}
use Rattle.lois_base.specs.Truth.{holds, sampled}
use Rattle.lois_base.specs.Values.{point, IsSame}
use Rattle.lois_base.specs.declared.guards.Lit.{Lit}
use Rattle.lois_elim.specs.Bound.{AgreesWith}
use Rattle.lois_relate.specs.Built.{IsBoth, IsForSome}
use Rattle.lois_relate.specs.Relations.{HoldsWhereSame}
use Rattle.lois_terms.specs.Shifted.{IsShifted}
use Rattle.lois_census.specs.Alike.{SaysBehind}
use Rattle.lois_census.specs.Left.{HoldsWhereInOrbit}
use Rattle.lois_census.specs.OrbitData.{OrbitD}
use Rattle.lois_census.specs.Orbits.{IsInOrbit}

-- both items among the levels of both choices
module _ (n m : ℕ) (t u own listed : TermD) (own_raised : IsShifted n m t own) (listed_raised : IsShifted 0 n u listed) (e d : List Atom) (le : length e ≡ n) (ld : length d ≡ m) where
  own_same : IsSame (point own (e ++ d)) (point t e)
  own_same =
      subst (λ z. IsSame (point own (e ++ d)) (point t z)) (append-nil e)
      (subst (λ z. IsSame (point own (e ++ z)) (point t (e ++ []))) (append-nil d) (own_raised e d [] le ld))

  listed_same : IsSame (point listed (e ++ d)) (point u d)
  listed_same = listed_raised [] e d refl le

  there : IsSame (point listed (e ++ d)) (point own (e ++ d)) → IsSame (point t e) (point u d)
  there h =
      same_trans (point t e) (point own (e ++ d)) (point u d) (same_sym (point own (e ++ d)) (point t e) own_same)
      (same_trans (point own (e ++ d)) (point listed (e ++ d)) (point u d) (same_sym (point listed (e ++ d)) (point own (e ++ d)) h) listed_same)

  back : IsSame (point t e) (point u d) → IsSame (point listed (e ++ d)) (point own (e ++ d))
  back h =
      same_trans (point listed (e ++ d)) (point u d) (point own (e ++ d)) listed_same
      (same_trans (point u d) (point t e) (point own (e ++ d)) (same_sym (point t e) (point u d) h) (same_sym (point own (e ++ d)) (point t e) own_same))

module _ (ordered : Bool) (n m : ℕ) (t : TermD) (o : OrbitD) (own listed : TermD) (standing same both some : FormulaD) (q r : List (List Lit)) where
  pub inside : length o.sample ≡ m → IsShifted n m t own → IsShifted 0 n o.item listed → SaysBehind ordered n m (AreAlike ordered (sampled o.sample)) standing →
      HoldsWhereSame (n + m) listed own same → IsBoth standing same both → IsForSome m both some → AgreesWith n some q → ((e : List Atom) → holds e r ≡ holds e q) → HoldsWhereInOrbit ordered n t o r
  inside count own_raised listed_raised stands is_same is_both is_some agrees normal e le = (in', out)
    where
      long : (d : List Atom) → length d ≡ m → length (e ++ d) ≡ n + m
      long d ld = length-append e d ∙ (ap (λ k. k + length d) le ∙ ap (λ k. n + k) ld)

      in' : IsTrue (holds e r) → IsInOrbit ordered (point t e) o
      in' h =
          let found : (d : List Atom) × (length d ≡ m) × FormulaHolds (e ++ d) both = (is_some.truth e).0 ((agrees e le).0 (subst IsTrue (normal e) h)) in
          let d = found.0 in
          let parts : FormulaHolds (e ++ d) standing × FormulaHolds (e ++ d) same = (is_both.truth (e ++ d)).0 found.2 in (
            d,
            (stands.truth e d le found.1).0 parts.0,
            there n m t o.item own listed own_raised listed_raised e d le found.1 ((is_same (e ++ d) (long d found.1)).0 parts.1),
          )

      out : IsInOrbit ordered (point t e) o → IsTrue (holds e r)
      out h =
          let d = h.0 in
          let ld : length d ≡ m = sym h.1.count ∙ (length-map o.sample whole ∙ count) in
          let parts : FormulaHolds (e ++ d) standing × FormulaHolds (e ++ d) same = (
            (stands.truth e d le ld).1 h.1,
            (is_same (e ++ d) (long d ld)).1 (back n m t o.item own listed own_raised listed_raised e d le ld h.2),
          ) in
          subst IsTrue (sym (normal e)) ((agrees e le).1 ((is_some.truth e).1 (d, ld, (is_both.truth (e ++ d)).1 parts)))
