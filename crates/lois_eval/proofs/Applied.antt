-- What the operations on sets make, at each choice that a context admits.
use Rattle.std.proofs.Common.{inl, inr, List, [], ◌∷◌, sym, subst}
use Rattle.lois_base.specs.Atom.{Atom}
use Rattle.lois_base.specs.Data.{TermD, comp, CompsD, no_comps, more}
use Rattle.lois_base.specs.Values.{PointValue, point, MemberAt, IsMember}
use Rattle.lois_base.proofs.Members.{member_in, same_in}
use Rattle.lois_algebra.specs.Sets.{IsUnion, IsIntersection, IsDifference, IsUnionOfMembers, ItemsAreSets}
use Rattle.lois_meaning.specs.Kinds.{IsSet, IsSetTerm as IsSetOfTerm}
use Rattle.lois_script.specs.declared.syntax.Operation.TheVariants.{Union, Inter, Minus, Flatten}
use Rattle.lois_context.specs.declared.contexts.Context.{Context}
use Rattle.lois_terms.specs.Collections.{IsColl as IsSetTerm}
use Rattle.lois_eval.specs.Operands.{IsAppliedThroughout, HasSetsOf}
use Rattle.lois_eval.proofs.TermKinds.{set_at}

module _ (k : Context) (s t r : TermD) (left : IsSetTerm s) (right : IsSetTerm t) (set : IsSetTerm r) where
  pub union_applied : IsUnion s t r → IsAppliedThroughout k Union (s ∷ t ∷ []) r
  union_applied h = λ c a. ((set_at s c left, (set_at t c right, tt)), (set_at r c set, λ w. h c w))

  pub inter_applied : IsIntersection k.size s t r → IsAppliedThroughout k Inter (s ∷ t ∷ []) r
  inter_applied h = λ c a. ((set_at s c left, (set_at t c right, tt)), (set_at r c set, λ w. h c a.0 w))

  pub minus_applied : IsDifference k.size s t r → IsAppliedThroughout k Minus (s ∷ t ∷ []) r
  minus_applied h = λ c a. ((set_at s c left, (set_at t c right, tt)), (set_at r c set, λ w. h c a.0 w))

-- a member of a set of sets is a set
member_set : (w : TermD) (x : List Atom) (ks : CompsD) (c : List Atom) → ItemsAreSets ks → MemberAt w x ks c → IsSetOfTerm w
member_set w x no_comps c h m = absurd m
member_set w x (more (comp b g t) ks) c h (inl (e, is, p, q)) =
    let (ls, f) = h.0 in subst IsSetOfTerm (sym p) (subst IsSetOfTerm (sym f) tt)
member_set w x (more (comp b g t) ks) c h (inr m) = member_set w x ks c h.1 m

pub flatten_applied : (k : Context) (s kept r : TermD) → IsSetTerm s → HasSetsOf k s kept → IsSetTerm r → IsUnionOfMembers k.size kept r → IsAppliedThroughout k Flatten (s ∷ []) r
flatten_applied k s kept r one sets set h = λ c a. (
  ((set_at s c one, λ u m. is_set c u ((sets.members c a u).0 m)), tt),
  (
    set_at r c set,
    λ w. (
      λ i. let (v, (u, m, same), inn) = (h c a.0 w).0 i in (u, (sets.members c a u).1 m, same_in w v u same inn),
      λ (u, m, inn). (h c a.0 w).1 (u, member_in u (point kept c) ((sets.members c a u).0 m), inn),
    ),
  ),
)
  where
    is_set : (c : List Atom) (u : PointValue) → IsMember u (point kept c) → IsSet u
    is_set c u m =
        let (ks, e, items) = sets.sets in
        member_set u.term_of u.choice ks c items (subst (λ z. IsMember u (point z c)) e m)
