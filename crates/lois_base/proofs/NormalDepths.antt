-- A term that is normal is as deep at some choice as it is written.
use Rattle.std.proofs.Common.{◌≡◌, ℕ, zero, suc, ◌+◌, ◌<◌, ◌≤◌, inl, inr, ◌⊎◌, true, List, ◌++◌, length, take, drop, max, sym, subst, ◌∙◌, arith}
use Rattle.std.proofs.lemmas.Bool.{and_parts, cases_lt}
use Rattle.std.proofs.lemmas.List.{take-append-drop, length-take-le, length-drop}
use Rattle.std.specs.Bool.{IsTrue}
use Rattle.lois_base.specs.Atom.{Atom}
use Rattle.lois_base.specs.Data.{TermD, var, tag, tup, coll, TermsD, no_terms, term, comp, CompsD, no_comps, more, depth, depth_of_parts, depth_of_items}
use Rattle.lois_base.specs.Fits.{LitFits, ConstraintFits, Fits, PartsFit, ItemsFit}
use Rattle.lois_base.specs.Laws.{NormalIsAsDeep}
use Rattle.lois_base.specs.Normal.{both, concatenated, Satisfies, IsNormal, PartsAreNormal, EachIsNormal}
use Rattle.lois_base.specs.Truth.{holds}
use Rattle.lois_base.specs.Values.{IsExtension, DeeperAt, SomePartDeeperAt, SomeMemberDeeperAt, OneDeeperAt}
use Rattle.lois_base.specs.declared.guards.Lit.{Lit}
use Rattle.lois_base.proofs.Both.{holds_both, all_both}
use Rattle.lois_base.proofs.Truths.{holds_longer}
use Rattle.lois_base.proofs.Validity.{fits_longer}

-- a choice of n atoms at which u holds, and at which P holds
abbrev MeetsSome : ℕ → List (List Lit) → (List Atom → Type 0) → Type 0
MeetsSome n u P = (c : List Atom) × Satisfies n u c × P c

-- the first atoms of a choice at which both guards hold meet the outer guard, and the others are an extension
pub record AreHalves (n m : ℕ) (u g : List (List Lit)) (c e : List Atom) : Type 0 where
  pub outer : Satisfies n u c
  pub inner : IsExtension c m g e

halves : (n m : ℕ) (u g : List (List Lit)) → ConstraintFits n u → (c e : List Atom) → length c ≡ n → length e ≡ m → IsTrue (holds (c ++ e) (both u g)) → AreHalves n m u g c e
halves n m u g fits c e p q h =
    let parts : (holds (c ++ e) u ≡ true) × (holds (c ++ e) g ≡ true) = and_parts (holds (c ++ e) u) (holds (c ++ e) g) (sym (holds_both (c ++ e) u g) ∙ h) in
    let own : ConstraintFits (length c) u = subst (λ k. ConstraintFits k u) (sym p) fits in
    record {
      outer = record { count = p; met = sym (holds_longer c e u own) ∙ parts.0 };
      inner = record { count = q; guard = parts.1 };
    }

-- a comprehension is deeper at the first atoms of a choice at which its item is deep
one_deeper : (n m d : ℕ) (u g : List (List Lit)) (t : TermD) → ConstraintFits n u → MeetsSome (n + m) (both u g) (λ c. DeeperAt t c d) → MeetsSome n u (λ c. OneDeeperAt (comp m g t) c d)
one_deeper n m d u g t fits (c, meets, deep) =
    let whole : take n c ++ drop n c ≡ c = take-append-drop n c in
    let first : length (take n c) ≡ n = length-take-le n c (omega (arith, meets.count)) in
    let last : length (drop n c) ≡ m = omega (arith, length-drop n c, meets.count) in
    let h : IsTrue (holds (take n c ++ drop n c) (both u g)) = subst (λ x. IsTrue (holds x (both u g))) (sym whole) meets.met in
    let both_halves = halves n m u g fits (take n c) (drop n c) first last h in
    (take n c, both_halves.outer, (drop n c, both_halves.inner, subst (λ x. DeeperAt t x d) (sym whole) deep))

within_max : (d a b : ℕ) → d < max a b → (d < a) ⊎ (d < b)
within_max d a b l = go (cases_lt d a)
  where
    go : (d < a) ⊎ (a ≤ d) → (d < a) ⊎ (d < b)
    go (inl h) = inl h
    go (inr h) = inr (omega arith)

mutual
  deep_at : (t : TermD) (u : List (List Lit)) (n d : ℕ) → ConstraintFits n u → Fits n t → IsNormal t u n → (c : List Atom) → Satisfies n u c → d < depth t → MeetsSome n u (λ x. DeeperAt t x d)
  deep_at (var i) u n d fits own normal c meets l = absurd (omega arith)
  deep_at (tag t) u n d fits own normal c meets l = absurd (omega arith)
  deep_at (tup ts) u n zero fits own normal c meets l = (c, meets, tt)
  deep_at (tup ts) u n (suc d) fits own normal c meets l = part_deep_at ts u n d fits own normal c meets (omega arith)
  deep_at (coll ks) u n zero fits own normal c meets l = (c, meets, tt)
  deep_at (coll ks) u n (suc d) fits own normal c meets l = member_deep_at ks no_comps u n d fits own normal (omega arith)

  part_deep_at : (ts : TermsD) (u : List (List Lit)) (n d : ℕ) → ConstraintFits n u → PartsFit n ts → PartsAreNormal ts u n → (c : List Atom) → Satisfies n u c → d < depth_of_parts ts → MeetsSome n u (λ x. SomePartDeeperAt ts x d)
  part_deep_at no_terms u n d fits own normal c meets l = absurd (omega arith)
  part_deep_at (term t ts) u n d fits own normal c meets l = elim (within_max d (depth t) (depth_of_parts ts) l) [
    | inl h ↦ let x = deep_at t u n d fits own.0 normal.0 c meets h in (x.0, x.1, inl x.2)
    | inr h ↦ let x = part_deep_at ts u n d fits own.1 normal.1 c meets h in (x.0, x.1, inr x.2)
  ]

  member_deep_at : (ks before : CompsD) (u : List (List Lit)) (n d : ℕ) → ConstraintFits n u → ItemsFit n ks → EachIsNormal ks before u n → d < depth_of_items ks → MeetsSome n u (λ x. SomeMemberDeeperAt ks x d)
  member_deep_at no_comps before u n d fits own normal l = absurd (omega arith)
  member_deep_at (more (comp m g t) ks) before u n d fits own normal l = elim (within_max d (depth t) (depth_of_items ks) l) [
    | inl h ↦
        let inner : ConstraintFits (n + m) (both u g) = all_both (LitFits (n + m)) u g (fits_longer n m u fits) own.0.1 in
        let met = normal.0.0.met in
        let x = one_deeper n m d u g t fits (deep_at t (both u g) (n + m) d inner own.0.2 normal.0.1 met.0 met.1 h) in
        (x.0, x.1, inl x.2)
    | inr h ↦ let x = member_deep_at ks (concatenated before (more (comp m g t) no_comps)) u n d fits own.1 normal.1 h in (x.0, x.1, inr x.2)
  ]

pub normal_depth : NormalIsAsDeep
normal_depth t u n d fits own normal met within = go (cases_lt d (depth t))
  where
    go : (d < depth t) ⊎ (depth t ≤ d) → depth t ≤ d
    go (inl l) = let x = deep_at t u n d fits own normal met.0 met.1 l in absurd (within x.0 x.1 x.2)
    go (inr h) = h
