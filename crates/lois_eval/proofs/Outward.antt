-- Comprehensions with more binders in front of their own: their members outside are those inside at some longer choice.
use Rattle.std.proofs.Common.{◌≡◌, ℕ, ◌+◌, ◌<◌, ◌^◌, Bool, ◌⊎◌, inl, inr, ◌↔◌, List, [], ◌∷◌, ◌++◌, length, length-append, append_assoc, take, drop, map, sym, ap, subst, ◌∙◌, arith}
use Rattle.std.proofs.lemmas.List.{take-append-drop, length-take-le}
use Rattle.std.specs.Bool.{IsTrue}
use Rattle.lois_base.specs.Atom.{Atom}
use Rattle.lois_base.specs.Data.{TermD, coll, CompD, comp, comps_of}
use Rattle.lois_base.specs.Fits.{ConstraintFits, Fits, ItemsFit}
use Rattle.lois_base.specs.Truth.{holds}
use Rattle.lois_base.specs.Validity.{AdmitsItems, ItemsHaveBoundedWidths}
use Rattle.lois_base.specs.Values.{PointValue, point, MakesAt, MemberAt, IsIn}
use Rattle.lois_eval.specs.Folded.{outward}

module _ (m : ℕ) (w : TermD) (x : List Atom) (c : List Atom) where
  -- at some m atoms more
  abbrev Inside : (List Atom → Type 0) → Type 0
  Inside P = (e : List Atom) × (length e ≡ m) × P (c ++ e)

  makes_outward : (k : CompD) → MakesAt w x (outward m k) c → Inside (MakesAt w x k)
  makes_outward (comp b g t) (e, is, p, q) =
      let one = take m e in
      let two = drop m e in
      let whole : one ++ two ≡ e = take-append-drop m e in
      let l : length one ≡ m = length-take-le m e (omega (arith, is.count)) in
      let far : (c ++ one) ++ two ≡ c ++ e = append_assoc c one two ∙ ap (λ z. c ++ z) whole in (
        one,
        l,
        (
          two,
          record {
            count = omega (arith, is.count, length-append one two, ap length whole);
            guard = subst (λ z. IsTrue (holds z g)) (sym far) is.guard;
          },
          p,
          q ∙ sym far,
        ),
      )

  makes_inward : (k : CompD) → Inside (MakesAt w x k) → MakesAt w x (outward m k) c
  makes_inward (comp b g t) (one, l, (two, is, p, q)) =
      let far : (c ++ one) ++ two ≡ c ++ (one ++ two) = append_assoc c one two in (
        one ++ two,
        record {
          count = omega (arith, is.count, length-append one two);
          guard = subst (λ z. IsTrue (holds z g)) far is.guard;
        },
        p,
        q ∙ far,
      )

  pub member_outward : (ks : List CompD) → MemberAt w x (comps_of (map (outward m) ks)) c → Inside (MemberAt w x (comps_of ks))
  member_outward [] h = absurd h
  member_outward (k ∷ ks) (inl h) = let i = makes_outward k h in (i.0, i.1, inl i.2)
  member_outward (k ∷ ks) (inr h) = let i = member_outward ks h in (i.0, i.1, inr i.2)

  pub member_inward : (ks : List CompD) → Inside (MemberAt w x (comps_of ks)) → MemberAt w x (comps_of (map (outward m) ks)) c
  member_inward [] (e, l, h) = absurd h
  member_inward (k ∷ ks) (e, l, inl h) = inl (makes_inward k (e, l, h))
  member_inward (k ∷ ks) (e, l, inr h) = inr (member_inward ks (e, l, h))

  pub member_append : (ks ls : List CompD) → MemberAt w x (comps_of (ks ++ ls)) c ↔ (MemberAt w x (comps_of ks) c ⊎ MemberAt w x (comps_of ls) c)
  member_append [] ls = (λ h. inr h, λ h. elim h [ inl p ↦ absurd p | inr p ↦ p ])
  member_append (k ∷ ks) ls =
      let rest = member_append ks ls in (
        λ h. elim h [ inl p ↦ inl (inl p) | inr p ↦ elim (rest.0 p) [ inl q ↦ inl (inr q) | inr q ↦ inr q ] ],
        λ h. elim h [ inl p ↦ elim p [ inl q ↦ inl q | inr q ↦ inr (rest.1 (inl q)) ] | inr p ↦ inr (rest.1 (inr p)) ],
      )

-- what is in the sets
pub in_outward : (m : ℕ) (ks : List CompD) (c : List Atom) (w : PointValue) → IsIn w (point (coll (comps_of (map (outward m) ks))) c) ↔ ((e : List Atom) × (length e ≡ m) × IsIn w (point (coll (comps_of ks)) (c ++ e)))
in_outward m ks c w = (
  λ (u, is, same). let i = member_outward m u.term_of u.choice c ks is in (i.0, i.1, (u, i.2, same)),
  λ (e, l, (u, is, same)). (u, member_inward m u.term_of u.choice c ks (e, l, is), same),
)

pub fits_outward : (n m : ℕ) (ks : List CompD) → ItemsFit (n + m) (comps_of ks) → ItemsFit n (comps_of (map (outward m) ks))
fits_outward n m [] h = tt
fits_outward n m (comp b g t ∷ ks) h =
    let e : n + m + b ≡ n + (m + b) = omega arith in
    (subst (λ z. (z < 2 ^ 64) × ConstraintFits z g × Fits z t) e h.0, fits_outward n m ks h.1)

pub admits_outward : (o : Bool) (m : ℕ) (ks : List CompD) → AdmitsItems o (comps_of ks) → AdmitsItems o (comps_of (map (outward m) ks))
admits_outward o m [] h = tt
admits_outward o m (comp b g t ∷ ks) h = (h.0, admits_outward o m ks h.1)

pub widths_outward : (m : ℕ) (ks : List CompD) → ItemsHaveBoundedWidths (comps_of ks) → ItemsHaveBoundedWidths (comps_of (map (outward m) ks))
widths_outward m [] h = tt
widths_outward m (comp b g t ∷ ks) h = (h.0, widths_outward m ks h.1)
