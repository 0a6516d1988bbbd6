-- A term that is normal where a constraint holds is normal where a weaker one does.
use Rattle.std.proofs.Common.{◌≡◌, ℕ, ◌+◌, List, ◌++◌, length, take, drop, IsTrue, sym, ◌∙◌, subst, arith}
use Rattle.std.proofs.lemmas.Bool.{and_parts, and_from}
use Rattle.std.proofs.lemmas.List.{take-append-drop, length-take-le}
use Rattle.lois_base.specs.Atom.{Atom}
use Rattle.lois_base.specs.Data.{TermD, var, tag, tup, coll, TermsD, no_terms, term, CompD, comp, CompsD, no_comps, more}
use Rattle.lois_base.specs.Fits.{LitFits, ConstraintFits, Fits, PartsFit, CompFits, ItemsFit}
use Rattle.lois_base.specs.Normal.{both, concatenated, Satisfies, IsIrredundant, IsNormal, PartsAreNormal, IsNormalComp, EachIsNormal}
use Rattle.lois_base.specs.Truth.{holds}
use Rattle.lois_base.specs.declared.guards.Lit.{Lit}
use Rattle.lois_base.proofs.Both.{holds_both, all_both}
use Rattle.lois_base.proofs.Validity.{fits_longer}
use Rattle.lois_context.proofs.Longer.{holds_at_start}
use Rattle.lois_simplify.specs.Plain.{IsPlain, HasPlainGuards, PartsHavePlainGuards, CompHasPlainGuards, ItemsHavePlainGuards}

-- two constraints of n levels, of which v holds wherever u does
pub record IsWeaker (n : ℕ) (u v : List (List Lit)) : Type 0 where
  pub fits : ConstraintFits n u
  pub weaker_fits : ConstraintFits n v
  pub implied : (c : List Atom) → length c ≡ n → IsTrue (holds c u) → IsTrue (holds c v)

module _ (n : ℕ) (u v : List (List Lit)) (w : IsWeaker n u v) where
  implied_longer : (m : ℕ) (c : List Atom) → length c ≡ n + m → IsTrue (holds c u) → IsTrue (holds c v)
  implied_longer m c count h =
      let whole : take n c ++ drop n c ≡ c = take-append-drop n c in
      let first : length (take n c) ≡ n = length-take-le n c (omega (arith, count)) in
      let start : IsTrue (holds (take n c) u) = sym (holds_at_start n (take n c) (drop n c) u w.fits first) ∙ subst (λ x. IsTrue (holds x u)) (sym whole) h in
      subst (λ x. IsTrue (holds x v)) whole (holds_at_start n (take n c) (drop n c) v w.weaker_fits first ∙ w.implied (take n c) first start)

  both_implied : (m : ℕ) (g : List (List Lit)) (c : List Atom) → length c ≡ n + m → IsTrue (holds c (both u g)) → IsTrue (holds c (both v g))
  both_implied m g c count h =
      let parts = and_parts (holds c u) (holds c g) (sym (holds_both c u g) ∙ h) in
      holds_both c v g ∙ and_from (holds c v) (holds c g) (implied_longer m c count parts.0) parts.1

  both_weaker : (m : ℕ) (g : List (List Lit)) → ConstraintFits (n + m) g → IsWeaker (n + m) (both u g) (both v g)
  both_weaker m g fits = record {
    fits = all_both (LitFits (n + m)) u g (fits_longer n m u w.fits) fits;
    weaker_fits = all_both (LitFits (n + m)) v g (fits_longer n m v w.weaker_fits) fits;
    implied = both_implied m g;
  }

  lean_weaker : (m : ℕ) (g : List (List Lit)) (t : TermD) (others : CompsD) → IsIrredundant m g t others u n → IsIrredundant m g t others v n
  lean_weaker m g t others l = record {
    met = (l.met.0, met m g l.met.0 l.met.1);
    used = l.used;
    free = λ b a p q r. let f = l.free b a p q r in (f.0, met m g f.0 f.1, f.2);
    own = let o = l.own in (o.0, o.1, record { count = o.2.count; met = w.implied o.0 o.2.count o.2.met }, o.3, o.4);
  }
    where
      met : (m : ℕ) (g : List (List Lit)) (c : List Atom) → Satisfies (n + m) (both u g) c → Satisfies (n + m) (both v g) c
      met m g c h = record { count = h.count; met = both_implied m g c h.count h.met }

mutual
  pub normal_weaker : (t : TermD) (u v : List (List Lit)) (n : ℕ) → IsWeaker n u v → Fits n t → IsNormal t u n → IsNormal t v n
  normal_weaker (var i) u v n w f h = tt
  normal_weaker (tag t) u v n w f h = tt
  normal_weaker (tup ts) u v n w f h = parts_weaker ts u v n w f h
  normal_weaker (coll cs) u v n w f h = each_weaker cs no_comps u v n w f h

  parts_weaker : (ts : TermsD) (u v : List (List Lit)) (n : ℕ) → IsWeaker n u v → PartsFit n ts → PartsAreNormal ts u n → PartsAreNormal ts v n
  parts_weaker no_terms u v n w f h = tt
  parts_weaker (term t ts) u v n w f h = (normal_weaker t u v n w f.0 h.0, parts_weaker ts u v n w f.1 h.1)

  each_weaker : (cs before : CompsD) (u v : List (List Lit)) (n : ℕ) → IsWeaker n u v → ItemsFit n cs → EachIsNormal cs before u n → EachIsNormal cs before v n
  each_weaker no_comps before u v n w f h = tt
  each_weaker (more k ks) before u v n w f h =
      (comp_weaker k (concatenated before ks) u v n w f.0 h.0, each_weaker ks (concatenated before (more k no_comps)) u v n w f.1 h.1)

  comp_weaker : (k : CompD) (others : CompsD) (u v : List (List Lit)) (n : ℕ) → IsWeaker n u v → CompFits n k → IsNormalComp k others u n → IsNormalComp k others v n
  comp_weaker (comp m g t) others u v n w f h =
      (lean_weaker n u v w m g t others h.0, normal_weaker t (both u g) (both v g) (n + m) (both_weaker n u v w m g f.1) f.2 h.1)

-- ---- guards that are plain under a constraint are plain under a weaker one
mutual
  pub plain_weaker : (t : TermD) (u v : List (List Lit)) (n : ℕ) → IsWeaker n u v → Fits n t → HasPlainGuards t u n → HasPlainGuards t v n
  plain_weaker (var i) u v n w f h = tt
  plain_weaker (tag t) u v n w f h = tt
  plain_weaker (tup ts) u v n w f h = plain_parts_weaker ts u v n w f h
  plain_weaker (coll cs) u v n w f h = plain_items_weaker cs u v n w f h

  plain_parts_weaker : (ts : TermsD) (u v : List (List Lit)) (n : ℕ) → IsWeaker n u v → PartsFit n ts → PartsHavePlainGuards ts u n → PartsHavePlainGuards ts v n
  plain_parts_weaker no_terms u v n w f h = tt
  plain_parts_weaker (term t ts) u v n w f h = (plain_weaker t u v n w f.0 h.0, plain_parts_weaker ts u v n w f.1 h.1)

  plain_items_weaker : (cs : CompsD) (u v : List (List Lit)) (n : ℕ) → IsWeaker n u v → ItemsFit n cs → ItemsHavePlainGuards cs u n → ItemsHavePlainGuards cs v n
  plain_items_weaker no_comps u v n w f h = tt
  plain_items_weaker (more k ks) u v n w f h = (plain_comp_weaker k u v n w f.0 h.0, plain_items_weaker ks u v n w f.1 h.1)

  plain_comp_weaker : (k : CompD) (u v : List (List Lit)) (n : ℕ) → IsWeaker n u v → CompFits n k → CompHasPlainGuards k u n → CompHasPlainGuards k v n
  plain_comp_weaker (comp m g t) u v n w f h =
      let both_w : IsWeaker (n + m) (both u g) (both v g) = both_weaker n u v w m g f.1 in
      (guard_longer, plain_weaker t (both u g) (both v g) (n + m) both_w f.2 h.1)
    where
      guard_longer : IsPlain g v (n + m)
      guard_longer = record {
        always = λ entailed. h.0.always (λ c count o. entailed c count (implied_longer n u v w m c count o));
        strict = h.0.strict;
      }
