-- Members of one set that another lacks.
use Rattle.std.proofs.Common.{◌≡◌, ℕ, zero, suc, ◌+◌, ◌<◌, ◌≤◌, Bool, not, ◌&&◌, List, [], ◌∷◌, ◌++◌, length, map, take, drop, get_or, refl, sym, ap, subst, ◌∙◌, arith, inl, inr}
use Rattle.std.specs.Prelude.{IsTrue}
use Rattle.std.specs.List.{All}
use Rattle.std.proofs.lemmas.List.{length-append, take_all}
use Rattle.std.proofs.lemmas.List.Elements.{All-head, All-tail, All-map}
use Rattle.lois_base.specs.Atom.{Atom}
use Rattle.lois_base.specs.Data.{TermD, coll, CompD, comp, comps_of}
use Rattle.lois_base.specs.Fits.{Fits, ConstraintFits, CompFits}
use Rattle.lois_base.specs.Tree.{tree, comp_of}
use Rattle.lois_base.specs.Truth.{holds, sampled}
use Rattle.lois_base.specs.Validity.{AdmitsComp, AdmitsItems}
use Rattle.lois_base.specs.Values.{point, IsIn, IsMember, MakesAt, MemberAt}
use Rattle.lois_base.specs.declared.guards.Lit.{Lit}
use Rattle.lois_base.specs.declared.values.Comp.{Comp}
use Rattle.lois_base.specs.declared.values.Term.{Term}
use Rattle.lois_base.proofs.Booleans.{never_both, true_if_not_false}
use Rattle.lois_base.proofs.Connectives.{both_true}
use Rattle.lois_automata.specs.Built.{HoldsWhereMember}
use Rattle.lois_automata.proofs.Members.{longer_is}
use Rattle.lois_deciders.specs.Satisfaction.{IsConstraintSample}
use Rattle.lois_deciders.specs.Satisfiability.{ConstraintIsSatisfiable}
use Rattle.lois_shortest_word.specs.Words.{first_sampled}
use Rattle.lois_shortest_word.proofs.Choices.{first_length, other_length, whole_sample}
use Rattle.lois_same.specs.Members.{CompIsIncluded, IsIncludedUnder, IsItemAlone, IsSampleAlone, IsMemberAlone}

-- ---- the items of one comprehension
module _ (n m : ℕ) (u g : List (List Lit)) (item t : TermD) (admitted found left : List (List Lit)) (fits : ConstraintFits n u)
    (is : HoldsWhereMember n m item t found)
    (two : (d : List Atom) → holds d admitted ≡ (holds d u && holds d g))
    (one : (d : List Atom) → holds d left ≡ (holds d admitted && not (holds d found))) where
  -- where nothing is left each item is in the set
  pub comp_included : (ConstraintIsSatisfiable (n + m) left → ⊥) → CompIsIncluded n u (comp m g item) t
  comp_included none c e count here extension =
      let d = c ++ e in
      let longer : holds d u ≡ holds c u = longer_is n u c e fits count in
      let both : IsTrue (holds d admitted) = two d ∙ (both_true (holds d u) (holds d g)).1 (longer ∙ here, extension.guard) in
      let whole : length d ≡ n + m = length-append c e ∙ (ap (λ k. k + length e) count ∙ ap (λ k. n + k) extension.count) in
      (is c e count extension.count).0 (true_if_not_false (holds d found) (λ no. none (d, whole, one d ∙ (both_true (holds d admitted) (not (holds d found))).1 (both, ap not no))))

  -- at a sample of what is left the item isn't in the set
  pub item_alone : (s : List ℕ) → IsConstraintSample (n + m) left s → IsItemAlone n u m g item t s
  item_alone s (small, h) =
      let c = sampled (take n s) in
      let e = sampled (drop n s) in
      let d = c ++ e in
      let entire : d ≡ sampled s = whole_sample n m s small.count in
      let first : length c ≡ n = first_length n m s small.count in
      let other : length e ≡ m = other_length n m s small.count in
      let outer = (both_true (holds d admitted) (not (holds d found))).0 (sym (one d) ∙ subst (λ z. IsTrue (holds z left)) (sym entire) h) in
      let inner = (both_true (holds d u) (holds d g)).0 (sym (two d) ∙ outer.0) in
      record {
        count = small.count;
        admitted = sym (longer_is n u c e fits first) ∙ inner.0;
        guard = record { count = other; guard = inner.1 };
        alone = λ inside. never_both (holds d found) outer.1 ((is c e first other).1 (subst (λ z. IsIn (point item z) (point t c)) (sym entire) inside));
      }

-- ---- all comprehensions of a set
pub all_included : (n : ℕ) (u : List (List Lit)) (ks : List CompD) (t : TermD) → All (λ k. CompIsIncluded n u k t) ks → IsIncludedUnder n u (coll (comps_of ks)) t
all_included n u [] t h c count here w member = absurd member
all_included n u (comp m g item ∷ ks) t h c count here w (inl (e, extension, term, choice)) =
    let made : IsIn (point item (c ++ e)) (point t c) = All-head (λ k. CompIsIncluded n u k t) (comp m g item) ks h c e count here extension in
    subst (λ a. IsIn (point a w.choice) (point t c)) (sym term) (subst (λ x. IsIn (point item x) (point t c)) (sym choice) made)
all_included n u (comp m g item ∷ ks) t h c count here w (inr rest) =
    all_included n u ks t (All-tail (λ k. CompIsIncluded n u k t) (comp m g item) ks h) c count here w rest

-- so of the comprehensions up to the end
pub included_so_far : (n : ℕ) (u : List (List Lit)) (vs : List CompD) (xs : List Comp) (i : ℕ) (set : Term) (t : TermD) → tree set ≡ coll (comps_of vs) → map comp_of xs ≡ vs → length xs ≤ i → All (λ x. CompIsIncluded n u (comp_of x) t) (take i xs) → IsIncludedUnder n u (tree set) t
included_so_far n u vs xs i set t is items l h =
    subst (λ z. IsIncludedUnder n u z t) (sym is) (all_included n u vs t (subst (All (λ k. CompIsIncluded n u k t)) items (All-map (λ k. CompIsIncluded n u k t) comp_of xs (subst (All (λ x. CompIsIncluded n u (comp_of x) t)) (take_all i xs l) h))))

admits_at : (o : Bool) (xs : List Comp) (i : ℕ) (x : Comp) → i < length xs → AdmitsItems o (comps_of (map comp_of xs)) → AdmitsComp o (comp_of (get_or xs i x))
admits_at o [] i x l h = absurd (omega arith)
admits_at o (y ∷ xs) zero x l h = h.0
admits_at o (y ∷ xs) (suc i) x l h = admits_at o xs i x (omega arith) h.1

-- each comprehension admits what the set does
pub item_admits : (o : Bool) (vs : List CompD) (xs : List Comp) (i : ℕ) (x : Comp) → map comp_of xs ≡ vs → i < length xs → x ≡ get_or xs i x → AdmitsItems o (comps_of vs) → AdmitsComp o (comp_of x)
item_admits o vs xs i x items l is h =
    subst (λ z. AdmitsComp o (comp_of z)) (sym is) (admits_at o xs i x l (subst (λ z. AdmitsItems o (comps_of z)) (sym items) h))

member_at : (xs : List Comp) (i : ℕ) (x : Comp) (w : TermD) (y c : List Atom) → i < length xs → MakesAt w y (comp_of (get_or xs i x)) c → MemberAt w y (comps_of (map comp_of xs)) c
member_at [] i x w y c l h = absurd (omega arith)
member_at (z ∷ xs) zero x w y c l h = inl h
member_at (z ∷ xs) (suc i) x w y c l h = inr (member_at xs i x w y c (omega arith) h)

-- the item, where it is alone, is a member of the set
pub member_alone : (n : ℕ) (u : List (List Lit)) (vs : List CompD) (xs : List Comp) (i : ℕ) (x : Comp) (set : Term) (t : TermD) (s : List ℕ) → tree set ≡ coll (comps_of vs) → map comp_of xs ≡ vs → i < length xs → x ≡ get_or xs i x → CompFits n (comp_of x) → IsSampleAlone n u (comp_of x) t s → IsMemberAlone n u (tree set) t (record { sample = s; item = x.item })
member_alone n u vs xs i x set t s is items l at fits alone =
    let c = first_sampled n s in
    let item = tree x.item in
    let makes : MakesAt item (sampled s) (comp_of x) c = (sampled (drop n s), alone.guard, refl, sym (whole_sample n x.binders s alone.count)) in
    let made : MemberAt item (sampled s) (comps_of (map comp_of xs)) c = member_at xs i x item (sampled s) c l (subst (λ z. MakesAt item (sampled s) (comp_of z) c) at makes) in
    record {
      sample = record { count = omega (arith, alone.count); admitted = alone.admitted };
      levels = subst (λ k. Fits k item) (sym alone.count) fits.2;
      member = subst (λ z. IsMember (point item (sampled s)) (point z c)) (sym is) (subst (λ z. MemberAt item (sampled s) (comps_of z) c) items made);
      alone = alone.alone;
    }
