-- Constraints that stand for memberships, and members of families.
use Rattle.std.proofs.Common.{◌≡◌, ℕ, not, ◌&&◌, ◌||◌, List, [], ◌∷◌, ◌++◌, length, append-nil, refl, sym, subst, ◌∙◌}
use Rattle.std.proofs.lemmas.Bool.{false≢true}
use Rattle.lois_base.specs.Atom.{Atom}
use Rattle.lois_base.specs.Data.{TermD}
use Rattle.lois_base.specs.Fits.{ConstraintFits}
use Rattle.lois_base.specs.Truth.{holds}
use Rattle.lois_base.specs.Values.{point, SameAt, IsSame}
use Rattle.lois_base.specs.declared.guards.Lit.{Lit}
use Rattle.lois_base.proofs.Truths.{holds_longer}
use Rattle.lois_constraint.specs.Entailment.{IsPruned}
use Rattle.lois_base.proofs.Connectives.{both_true, either_true, not_true}
use Rattle.lois_rounds.specs.Families.{MemberD}
use Rattle.lois_terms.specs.Shifted.{IsShifted}
use Rattle.lois_automata.specs.Built.{HoldsWhereMember, HoldsWhereAdmittedIn, IsFreshMember, IsJoinedMember}

pub raised_same : (n m : ℕ) (t raised : TermD) → IsShifted n m t raised → (c e : List Atom) → length c ≡ n → length e ≡ m → IsSame (point raised (c ++ e)) (point t c)
raised_same n m t raised is_raised c e k l =
    let here : SameAt raised (c ++ (e ++ [])) t (c ++ []) = is_raised c e [] k l in
    subst (λ z. SameAt raised (c ++ z) t c) (append-nil e) (subst (λ z. SameAt raised (c ++ (e ++ [])) t z) (append-nil c) here)

-- further atoms don't count
pub longer_is : (n : ℕ) (u : List (List Lit)) (c e : List Atom) → ConstraintFits n u → length c ≡ n → holds (c ++ e) u ≡ holds c u
longer_is n u c e fits k = holds_longer c e u (subst (λ z. ConstraintFits z u) (sym k) fits)

pub admitted_is : (n m : ℕ) (u g : List (List Lit)) (item t : TermD) (found admitted r : List (List Lit)) → ConstraintFits n u → HoldsWhereMember n m item t found →
    ((d : List Atom) → holds d admitted ≡ (holds d u && holds d g)) → ((d : List Atom) → holds d r ≡ (holds d admitted && holds d found)) → HoldsWhereAdmittedIn n m u g item t r
admitted_is n m u g item t found admitted r fits is two one c e k l =
    let d = c ++ e in
    let outer = both_true (holds d admitted) (holds d found) in
    let inner = both_true (holds d u) (holds d g) in
    let longer : holds d u ≡ holds c u = longer_is n u c e fits k in
    let there = is c e k l in (
      λ h. let x = outer.0 (sym (one d) ∙ h) in
          let y = inner.0 (sym (two d) ∙ x.0) in
          (sym longer ∙ y.0, y.1, there.0 x.1),
      λ h. one d ∙ outer.1 (two d ∙ inner.1 (longer ∙ h.0, h.1), there.1 h.2),
    )

-- what is in the set nowhere is admitted in it nowhere
pub admitted_nowhere : (n m : ℕ) (u g : List (List Lit)) (item t : TermD) (found : List (List Lit)) → length found ≡ 0 → HoldsWhereMember n m item t found → HoldsWhereAdmittedIn n m u g item t found
admitted_nowhere n m u g item t [] none is c e k l = (λ h. absurd (false≢true h), λ h. (is c e k l).1 h.2)
admitted_nowhere n m u g item t (cube ∷ found) none is c e k l = absurd (cc)

pub fresh_is : (n m : ℕ) (u g : List (List Lit)) (item t : TermD) (b : MemberD) (found r : List (List Lit)) → HoldsWhereAdmittedIn n m u g item t found →
    ((d : List Atom) → holds d r ≡ (holds d found && not (holds d b.1))) → IsPruned r → IsFreshMember n u t m g item b (b.0, r)
fresh_is n m u g item t b found r is one pruned = record {
  size = refl;
  truth = λ c e k l.
      let d = c ++ e in
      let outer = both_true (holds d found) (not (holds d b.1)) in
      let other = not_true (holds d b.1) in
      let there = is c e k l in (
        λ h. let x = outer.0 (sym (one d) ∙ h) in
            let y = there.0 x.0 in
            (y.0, y.1, y.2, other.0 x.1),
        λ h. one d ∙ outer.1 (there.1 (h.0, h.1, h.2), other.1 h.3),
      );
  pruned = pruned;
}

pub joined_is : (a b : MemberD) (r : List (List Lit)) → r ≡ a.1 ++ b.1 → ((d : List Atom) → holds d r ≡ (holds d a.1 || holds d b.1)) → IsJoinedMember a b (a.0, r)
joined_is a b r cubes one = record {
  size = refl;
  cubes = cubes;
  truth = λ d.
      let e = either_true (holds d a.1) (holds d b.1) in
      (λ h. e.0 (sym (one d) ∙ h), λ h. one d ∙ e.1 h);
}
