-- What each listed orbit lowers: at how many lists of n numbers below n what is left holds.
use Rattle.std.proofs.Common.{◌≡◌, ℕ, ◌<◌, ◌≤◌, inl, inr, Bool, true, List, sym, ◌∙◌}
use Rattle.std.proofs.lemmas.Bool.{cases_lt, false≢true}
use Rattle.std.specs.Bool.{IsTrue, IsFalse}
use Rattle.lois_base.proofs.Members.{same_refl}
use Rattle.lois_base.specs.Atom.{Atom}
use Rattle.lois_base.specs.Truth.{holds, sampled}
use Rattle.lois_base.specs.Values.{point}
use Rattle.lois_base.specs.declared.guards.Lit.{Lit}
use Rattle.lois_deciders.specs.Satisfaction.{IsConstraintSample}
use Rattle.lois_rounds.proofs.Counts.{count_lists, Within, count_equal}
use Rattle.lois_rounds.proofs.Measures.{at_sample}
use Rattle.lois_census.specs.OrbitData.{OrbitD}
use Rattle.lois_census.specs.Orbits.{IsInOrbit}
use Rattle.lois_census.proofs.Standing.{alike_itself}

abbrev pub sample_count : ℕ → List (List Lit) → ℕ
sample_count n g = count_lists true n n (at_sample g)

pub in_own_orbit : (ordered : Bool) (o : OrbitD) → IsInOrbit ordered (point o.item (sampled o.sample)) o
in_own_orbit ordered o =
    (sampled o.sample, alike_itself ordered (sampled o.sample), same_refl (point o.item (sampled o.sample)))

pub fewer : (n : ℕ) (u r : List (List Lit)) (s : List ℕ) → IsConstraintSample n u s → ((e : List Atom) → IsTrue (holds e r) → IsTrue (holds e u)) → IsFalse (holds (sampled s) r) → sample_count n r < sample_count n u
fewer n u r s meets less gone =
    elim (cases_lt (sample_count n r) (sample_count n u)) [ inl lt ↦ lt | inr ge ↦ absurd (false≢true (sym gone ∙ still ge)) ]
  where
    within : Within true n n (at_sample r) (at_sample u)
    within k sample h = less (sampled k) h

    still : sample_count n u ≤ sample_count n r → holds (sampled s) r ≡ true
    still ge =
        count_equal true n n (at_sample r) (at_sample u) within ge s (record { count = meets.0.count; small = meets.0.small }) meets.1
