-- A sample's ranks in its place.
use Rattle.std.proofs.Common.{◌≡◌, ℕ, ◌<◌, Bool, List, length, sym, ◌∙◌, subst}
use Rattle.std.proofs.lemmas.List.{length-map}
use Rattle.std.specs.List.{All}
use Rattle.lois_base.specs.Atom.{whole}
use Rattle.lois_base.specs.Fits.{ConstraintFits}
use Rattle.lois_base.specs.Patterns.{AreAlike}
use Rattle.lois_base.specs.Truth.{sampled}
use Rattle.lois_base.specs.Validity.{AdmitsConstraint}
use Rattle.lois_base.specs.declared.guards.Lit.{Lit}
use Rattle.lois_base.proofs.Truths.{holds_alike}
use Rattle.lois_deciders.specs.Satisfaction.{IsConstraintSample}

pub ranked_meets : (ordered : Bool) (n : ℕ) (u : List (List Lit)) (s r : List ℕ) → AreAlike ordered (sampled s) (sampled r) → All (λ k. k < length s) r → ConstraintFits n u → AdmitsConstraint ordered u → IsConstraintSample n u s → IsConstraintSample n u r
ranked_meets ordered n u s r alike small fits admits meets =
    let count : length (sampled s) ≡ n = length-map s whole ∙ meets.0.count in (
      record {
        count = sym (length-map r whole) ∙ (sym alike.count ∙ count);
        small = subst (λ m. All (λ k. k < m) r) meets.0.count small;
      },
      sym (holds_alike ordered (sampled s) (sampled r) alike u (subst (λ m. ConstraintFits m u) (sym count) fits) admits) ∙ meets.1,
    )
