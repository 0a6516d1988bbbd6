-- The members of two lists of comprehensions, one behind the other.
use Rattle.std.proofs.Common.{◌⊎◌, inl, inr, ◌↔◌, List, [], ◌∷◌, ◌++◌}
use Rattle.lois_base.specs.Atom.{Atom}
use Rattle.lois_base.specs.Data.{TermD, coll, CompD, comps_of}
use Rattle.lois_base.specs.Values.{PointValue, point, MemberAt, IsIn}

module _ (w : TermD) (x : List Atom) (c : List Atom) where
  pub member_append : (ks ls : List CompD) → MemberAt w x (comps_of (ks ++ ls)) c ↔ (MemberAt w x (comps_of ks) c ⊎ MemberAt w x (comps_of ls) c)
  member_append [] ls = (λ h. inr h, λ h. elim h [ inl p ↦ absurd p | inr p ↦ p ])
  member_append (k ∷ ks) ls =
      let rest = member_append ks ls in (
        λ h. elim h [ inl p ↦ inl (inl p) | inr p ↦ elim (rest.0 p) [ inl q ↦ inl (inr q) | inr q ↦ inr q ] ],
        λ h. elim h [ inl p ↦ elim p [ inl q ↦ inl q | inr q ↦ inr (rest.1 (inl q)) ] | inr p ↦ inr (rest.1 (inr p)) ],
      )

pub in_append : (ks ls : List CompD) (c : List Atom) (w : PointValue) → IsIn w (point (coll (comps_of (ks ++ ls))) c) ↔ (IsIn w (point (coll (comps_of ks)) c) ⊎ IsIn w (point (coll (comps_of ls)) c))
in_append ks ls c w = (
  λ (u, is, same). elim ((member_append u.term_of u.choice c ks ls).0 is) [ inl p ↦ inl (u, p, same) | inr p ↦ inr (u, p, same) ],
  λ h. elim h [
    | inl p ↦ (p.0, (member_append p.0.term_of p.0.choice c ks ls).1 (inl p.1), p.2)
    | inr p ↦ (p.0, (member_append p.0.term_of p.0.choice c ks ls).1 (inr p.1), p.2)
  ],
)
