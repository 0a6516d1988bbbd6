-- The ends of the pairs that a comprehension makes.
use Rattle.std.proofs.Common.{◌≡◌, ℕ, zero, suc, ◌<◌, Bool, true, false, not, ◌⊎◌, inl, inr, ◌↔◌, List, [], ◌∷◌, ◌++◌, length, get_or, refl, ◌∙◌, subst, arith}
use Rattle.std.proofs.lemmas.List.{length-map}
use Rattle.std.specs.Bool.{IsTrue, IsFalse}
use Rattle.std.specs.List.{All}
use Rattle.std.proofs.lemmas.List.Elements.{All-head, All-tail}
use Rattle.std.specs.Prelude.{Option, Some, None, IfSome, IsNone, is_some}
use Rattle.lois_base.proofs.Members.{same_refl, same_sym}
use Rattle.lois_base.specs.Atom.{Atom, whole}
use Rattle.lois_base.specs.Data.{TermD, coll, CompD, comp, CompsD, comps_of}
use Rattle.lois_base.specs.Fits.{ItemsFit}
use Rattle.lois_base.specs.Validity.{AdmitsItems}
use Rattle.lois_base.specs.Truth.{holds, sampled}
use Rattle.lois_base.specs.Values.{PointValue, point}
use Rattle.lois_base.specs.declared.guards.Lit.{Lit}
use Rattle.lois_algebra.proofs.Among.{among_in}
use Rattle.lois_algebra.specs.Gathered.{IsAmong, IsCompMember, IsPut}
use Rattle.lois_automata.proofs.Adding.{adds_nothing, added_members}
use Rattle.lois_automata.proofs.Loops.{AddsOnes}
use Rattle.lois_automata.proofs.Written.{pair_is, pair_here, pair_term}
use Rattle.lois_automata.specs.Adding.{IsMadeOfOne}
use Rattle.lois_automata.specs.Projections.{pair_of, AddsOfOne}
use Rattle.lois_deciders.specs.Satisfaction.{IsConstraintSample}
use Rattle.lois_deciders.specs.Satisfiability.{ConstraintIsSatisfiable}
use Rattle.lois_meaning.proofs.Operations.{pair_to}
use Rattle.lois_meaning.specs.Automata.{IsPair}
use Rattle.lois_picture.specs.Drawing.{MakesPairs, AddsEnds, AddsEndsOrNot, AreEndsOf}
use Rattle.lois_picture.specs.Graphs.{IsEndOf, IsEndIn, IsRelation}

-- ---- a comprehension whose item is a pair
module _ (m : ℕ) (g : List (List Lit)) (a b : TermD) where
  abbrev both : CompD
  both = comp m g (pair_of a b)

  pub makes_pairs : MakesPairs both
  makes_pairs x (e, extension, same) = (point a e, point b e, pair_to (point (pair_of a b) e) x (point a e) (point b e) same (pair_is a b e))

  -- the ends at any choice
  module _ (c : List Atom) (p : PointValue) where
    abbrev IsMade : Type 0
    IsMade = IsMadeOfOne IsEndOf (IsCompMember both c) p

    first_made : IsCompMember (comp m g a) c p → IsMade
    first_made (e, extension, same) =
        let d = c ++ e in
        (point (pair_of a b) d, (e, extension, same_refl (point (pair_of a b) d)), (point b d, inl (point a d, point b d, refl, same_sym (point a d) p same, same_refl (point b d))))

    second_made : IsCompMember (comp m g b) c p → IsMade
    second_made (e, extension, same) =
        let d = c ++ e in
        (point (pair_of a b) d, (e, extension, same_refl (point (pair_of a b) d)), (point a d, inr (point a d, point b d, refl, same_refl (point a d), same_sym (point b d) p same)))

    made_once : IsMade → IsCompMember (comp m g a) c p ⊎ IsCompMember (comp m g b) c p
    made_once (x, (e, extension, same), (q, inl pair)) =
        let d = c ++ e in
        let parts = pair_here a b d p q (pair_to x (point (pair_of a b) d) p q (same_sym (point (pair_of a b) d) x same) pair) in
        inl (e, extension, same_sym p (point a d) parts.0)
    made_once (x, (e, extension, same), (q, inr pair)) =
        let d = c ++ e in
        let parts = pair_here a b d q p (pair_to x (point (pair_of a b) d) q p (same_sym (point (pair_of a b) d) x same) pair) in
        inr (e, extension, same_sym p (point b d) parts.1)

  pub both_put : (before middle after : CompsD) → IsPut (comp m g a) before middle → IsPut (comp m g b) middle after → AddsOfOne IsEndOf 0 both before after
  both_put before middle after one two = record {
    members = λ c l p.
        let first = one.members c p in
        let second = two.members c p in (
          λ h. elim (second.0 h) [
            | inl k ↦ elim (first.0 k) [ inl q ↦ inl q | inr q ↦ inr (first_made c p q) ]
            | inr k ↦ inr (second_made c p k)
          ],
          λ h. elim h [
            | inl k ↦ second.1 (inl (first.1 (inl k)))
            | inr k ↦ elim (made_once c p k) [ inl q ↦ second.1 (inl (first.1 (inr q))) | inr q ↦ second.1 (inr q) ]
          ],
        );
    levels = λ f h. two.levels 0 (one.levels 0 h (f.0, f.1, f.2.0)) (f.0, f.1, f.2.1.0);
    operators = λ o k h. two.operators o (one.operators o h (k.0, k.1.0)) (k.0, k.1.1.0);
    widths = λ u h. two.widths (one.widths h u.2.0) u.2.1.0;
  }

-- ---- a comprehension whose item is no pair
module _ (m : ℕ) (g : List (List Lit)) (t : TermD) where
  no_member : (ConstraintIsSatisfiable m g → ⊥) → (x : PointValue) → IsCompMember (comp m g t) [] x → ⊥
  no_member unmet x (e, extension, same) = unmet (e, extension.count, extension.guard)

  nothing_put : (before : CompsD) → (ConstraintIsSatisfiable m g → ⊥) → AddsEnds (comp m g t) before before
  nothing_put before unmet = (
    λ x h. absurd (no_member unmet x h),
    adds_nothing 0 _ _ _ _ before (λ c l p h. unmet (h.1.0, h.1.1.count, subst (λ z. IsTrue (holds (z ++ h.1.0) g)) (nothing c l) h.1.1.guard)),
  )
    where
      nothing : (c : List Atom) → length c ≡ 0 → c ≡ []
      nothing [] l = refl
      nothing (a ∷ c) l = absurd (cc)

  other_member : (s : List ℕ) → IsConstraintSample m g s → ((a b : TermD) → t ≡ pair_of a b → ⊥) → (x : PointValue) × IsCompMember (comp m g t) [] x × ((p q : PointValue) → IsPair x p q → ⊥)
  other_member s meets never =
      let d = sampled s in (
        point t d,
        (d, record { count = length-map s whole ∙ meets.0.count; guard = meets.1 }, same_refl (point t d)),
        λ p q pair. let parts = pair_term t d p q pair in never parts.0 parts.1 parts.2,
      )

  -- nothing is put in, and the answer says whether that is right
  pub put_or_not : (before : CompsD) → ((a b : TermD) → t ≡ pair_of a b → ⊥) → {X : Type 0} (o : Option X) (numbers : X → List ℕ) → IfSome o (λ s. IsConstraintSample m g (numbers s)) → (IsNone o ↔ (ConstraintIsSatisfiable m g → ⊥)) → (b : Bool) → is_some o ≡ not b → AddsEndsOrNot (comp m g t) before before b
  put_or_not before never None numbers meets none true is = nothing_put before (none.0 refl)
  put_or_not before never (Some s) numbers meets none false is = other_member (numbers s) meets never
  put_or_not before never None numbers meets none false is = absurd (cc)
  put_or_not before never (Some s) numbers meets none true is = absurd (cc)

-- ---- all comprehensions of a set
ends_in_set : (ks : CompsD) (p : PointValue) → IsMadeOfOne IsEndOf (IsAmong ks []) p ↔ IsEndIn (point (coll ks) []) p
ends_in_set ks p = (
  λ h. (h.0, (among_in ks [] h.0).0 h.1, h.2),
  λ h. (h.0, (among_in ks [] h.0).1 h.1, h.2),
)

-- a member of one of the comprehensions
member_at : (ks : List CompD) (i : ℕ) (d : CompD) (x : PointValue) → i < length ks → IsCompMember (get_or ks i d) [] x → IsAmong (comps_of ks) [] x
member_at [] i d x l h = absurd (omega arith)
member_at (k ∷ ks) zero d x l h = inl h
member_at (k ∷ ks) (suc i) d x l h = inr (member_at ks i d x (omega arith) h)

pair_among : (ks : List CompD) → All MakesPairs ks → (x : PointValue) → IsAmong (comps_of ks) [] x → (p q : PointValue) × IsPair x p q
pair_among [] h x i = absurd i
pair_among (k ∷ ks) h x (inl i) = All-head MakesPairs k ks h x i
pair_among (k ∷ ks) h x (inr i) = pair_among ks (All-tail MakesPairs k ks h) x i

pub ends_added : (k : CompD) (before after : CompsD) (b : Bool) → AddsEndsOrNot k before after b → IsTrue b → AddsEnds k before after
ends_added k before after true h t = h
ends_added k before after false h t = absurd (cc)

-- some comprehension makes no pair
pub no_relation_of : (vs : List CompD) (i : ℕ) (k : CompD) (before after : CompsD) (b : Bool) → i < length vs → k ≡ get_or vs i k → AddsEndsOrNot k before after b → IsFalse b → IsRelation (point (coll (comps_of vs)) []) → ⊥
no_relation_of vs i k before after true l is h f relation = absurd (cc)
no_relation_of vs i k before after false l is (x, member, never) f relation =
    let pair = relation.1 x ((among_in (comps_of vs) [] x).0 (member_at vs i k x l (subst (λ z. IsCompMember z [] x) is member))) in
    never pair.0 pair.1 pair.2

pub are_ends : (ordered : Bool) (vs : List CompD) (made : CompsD) → ItemsFit 0 (comps_of vs) → AdmitsItems ordered (comps_of vs) → All MakesPairs vs → AddsOnes (λ _. IsEndOf) (λ _. Unit {0}) 0 vs made → AreEndsOf ordered (coll (comps_of vs)) (coll made)
are_ends ordered vs made fits admits pairs added = record {
  relation = (tt, λ x i. pair_among vs pairs x ((among_in (comps_of vs) [] x).1 i));
  closed = record { set = (made, refl); levels = added.levels fits tt; operators = added.operators ordered (admits, tt) tt };
  members = λ p.
      let both = added_members 0 _ _ _ _ made added [] refl p in
      let all = ends_in_set (comps_of vs) p in
      (λ h. all.0 (both.0 h), λ h. both.1 (all.1 h));
}
