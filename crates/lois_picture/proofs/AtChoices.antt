-- Constraints on the atoms of an orbit's item, which hold at the sample exactly where they hold at each choice alike to it.
use Rattle.std.proofs.Common.{◌≡◌, ℕ, ◌+◌, Bool, List, [], length, zero-add, refl, sym, ◌∙◌, subst}
use Rattle.std.proofs.lemmas.List.{length-map}
use Rattle.std.specs.Bool.{IsTrue}
use Rattle.lois_base.proofs.Members.{same_sym, same_trans, in_same}
use Rattle.lois_base.proofs.Truths.{holds_alike}
use Rattle.lois_base.specs.Atom.{Atom, whole}
use Rattle.lois_base.specs.Data.{TermD}
use Rattle.lois_base.specs.Fits.{ConstraintFits}
use Rattle.lois_base.specs.Patterns.{AreAlike}
use Rattle.lois_base.specs.Truth.{holds, sampled}
use Rattle.lois_base.specs.Validity.{AdmitsConstraint}
use Rattle.lois_base.specs.Values.{PointValue, point, IsSame}
use Rattle.lois_base.specs.declared.guards.Lit.{Lit}
use Rattle.lois_automata.specs.Built.{HoldsWhereMember}
use Rattle.lois_census.specs.Left.{HoldsWhereInOrbit}
use Rattle.lois_census.specs.OrbitData.{OrbitD}
use Rattle.lois_census.specs.Orbits.{IsInOrbit}
use Rattle.lois_picture.specs.Drawing.{TellsOrbit}
use Rattle.lois_picture.specs.Graphs.{IsMarkOf}

pub alike_self : (ordered : Bool) (c : List Atom) → AreAlike ordered c c
alike_self ordered c = record { count = refl; agree = λ op h i j l k. refl }

module _ (ordered : Bool) (s : List ℕ) (n : ℕ) (count : n ≡ length s) (r : List (List Lit)) (fits : ConstraintFits n r) (admits : AdmitsConstraint ordered r) (d : List Atom) (alike : AreAlike ordered (sampled s) d) where
  sample_long : length (sampled s) ≡ n
  sample_long = length-map s whole ∙ sym count

  pub choice_long : length d ≡ n
  choice_long = sym alike.count ∙ sample_long

  pub stays : holds (sampled s) r ≡ holds d r
  stays = holds_alike ordered (sampled s) d alike r (subst (λ k. ConstraintFits k r) (sym sample_long) fits) admits

pub tells_orbit : (ordered : Bool) (t : TermD) (s : List ℕ) (o : OrbitD) (n : ℕ) (r : List (List Lit)) → n ≡ length s → HoldsWhereInOrbit ordered n t o r → ConstraintFits n r → AdmitsConstraint ordered r → TellsOrbit ordered t s o (holds (sampled s) r)
tells_orbit ordered t s o n r count truth fits admits d alike =
    let kept = stays ordered s n count r fits admits d alike in
    let at = truth d (choice_long ordered s n count r fits admits d alike) in
    (λ h. at.0 (subst IsTrue kept h), λ i. subst IsTrue (sym kept) (at.1 i))

pub mark_of : (ordered : Bool) (set : TermD) (o : OrbitD) (n : ℕ) (r : List (List Lit)) → n ≡ length o.sample → HoldsWhereMember 0 n o.item set r → ConstraintFits (0 + n) r → AdmitsConstraint ordered r → IsMarkOf ordered set o (holds (sampled o.sample) r)
mark_of ordered set o n r count truth fits admits p (d, alike, same) =
    let own : ConstraintFits n r = subst (λ k. ConstraintFits k r) (zero-add n) fits in
    let kept = stays ordered o.sample n count r own admits d alike in
    let at = truth [] d refl (choice_long ordered o.sample n count r own admits d alike) in (
      λ h. in_same (point o.item d) p (point set []) (same_sym p (point o.item d) same) (at.0 (subst IsTrue kept h)),
      λ i. subst IsTrue (sym kept) (at.1 (in_same p (point o.item d) (point set []) same i)),
    )

-- a value that is the same is in the same orbit
pub in_orbit_same : (ordered : Bool) (o : OrbitD) (v w : PointValue) → IsSame w v → IsInOrbit ordered v o → IsInOrbit ordered w o
in_orbit_same ordered o v w h (d, alike, same) = (d, alike, same_trans w v (point o.item d) h same)
