-- Comprehensions beside others: what they still have of their own, and what the others cover.
use Rattle.std.proofs.Common.{◌≡◌, ℕ, refl, ◌+◌, ◌⊎◌, inl, inr, ◌&&◌, ◌↔◌, List, [], ◌∷◌, ◌++◌, length, take, drop, sym, ap, ◌∙◌, subst, arith, append_assoc, length-append}
use Rattle.std.proofs.lemmas.Bool.{and_parts}
use Rattle.std.proofs.lemmas.List.{take-append-drop, length-take-le, length-drop}
use Rattle.std.specs.Bool.{IsTrue, IsFalse}
use Rattle.std.specs.List.{Contains}
use Rattle.std.proofs.lemmas.List.Elements.{Contains-append_left, Contains-append_right, Contains-append_cases}
use Rattle.lois_base.specs.Atom.{Atom}
use Rattle.lois_base.specs.Data.{TermD, CompD, comp, comps_of}
use Rattle.lois_base.specs.Fits.{ConstraintFits}
use Rattle.lois_base.specs.FormulaData.{FormulaD, any, no_formulas}
use Rattle.lois_base.specs.FormulaTruth.{FormulaHolds}
use Rattle.lois_base.specs.Normal.{both}
use Rattle.lois_base.specs.Truth.{holds}
use Rattle.lois_base.specs.Values.{MakesAt, MemberAt, InAt}
use Rattle.lois_base.specs.declared.guards.Lit.{Lit}
use Rattle.lois_base.proofs.Both.{holds_both}
use Rattle.lois_elim.specs.Bound.{AgreesWith}
use Rattle.lois_relate.specs.Relations.{HoldsWhereItemIn}
use Rattle.lois_simplify.specs.Candidates.{FailsSomewhere}
use Rattle.lois_simplify.specs.Covered.{IsCovered}
use Rattle.lois_simplify.specs.Simplification.{IsSameWhere, set_of}
use Rattle.lois_simplify.specs.Lean.{IsIrredundantAlone, HasOwn, EachHasOwn}
use Rattle.lois_simplify.proofs.Inserted.{holds_before}
use Rattle.lois_simplify.proofs.Members.{contains_cases, member_made, made_member, member_more, member_in, in_more, sets_same}

module _ (u : List (List Lit)) (n : ℕ) where
  -- beside fewer others too
  own_fewer : (xs ys : List CompD) (k : CompD) → ((j : CompD) → Contains ys j → Contains xs j) → HasOwn u n xs k → HasOwn u n ys k
  own_fewer xs ys (comp m g t) less o =
      (o.0, o.1, o.2, o.3, λ i. o.4 (in_more ys xs less t (o.0 ++ o.1) o.0 i))

  pub skip_one : (ps bs : List CompD) (k j : CompD) → Contains (ps ++ bs) j → Contains (ps ++ k ∷ bs) j
  skip_one ps bs k j h = go (Contains-append_cases ps bs j h)
    where
      go : Contains ps j ⊎ Contains bs j → Contains (ps ++ k ∷ bs) j
      go (inl i) = Contains-append_left ps (k ∷ bs) j i
      go (inr i) = Contains-append_right ps (k ∷ bs) j (Contains-append_right (k ∷ []) bs j i)

  -- one that is still to come is left out
  pub own_without : (before ks coming : List CompD) (k : CompD) → EachHasOwn u n before ks (k ∷ coming) → EachHasOwn u n before ks coming
  own_without before [] coming k o = tt
  own_without before (j ∷ ks) coming k o = (
    own_fewer (before ++ (ks ++ k ∷ coming)) (before ++ (ks ++ coming)) j (λ i h. less i (Contains-append_cases before (ks ++ coming) i h)) o.0,
    own_without (before ++ j ∷ []) ks coming k o.1,
  )
    where
      less : (i : CompD) → Contains before i ⊎ Contains (ks ++ coming) i → Contains (before ++ (ks ++ k ∷ coming)) i
      less i (inl h) = Contains-append_left before (ks ++ k ∷ coming) i h
      less i (inr h) = Contains-append_right before (ks ++ k ∷ coming) i (skip_one ks coming k i h)

  -- one that is still to come is kept
  pub own_with : (before ks coming : List CompD) (k : CompD) → EachHasOwn u n before ks (k ∷ coming) → HasOwn u n (before ++ (ks ++ coming)) k → EachHasOwn u n before (ks ++ k ∷ []) coming
  own_with before [] coming k o h = (h, tt)
  own_with before (j ∷ ks) coming k o h = (
    subst (λ os. HasOwn u n (before ++ os) j) (sym (append_assoc ks (k ∷ []) coming)) o.0,
    own_with (before ++ j ∷ []) ks coming k o.1 (subst (λ os. HasOwn u n os k) (sym (append_assoc before (j ∷ []) (ks ++ coming))) h),
  )

  -- without one that the others cover the set stays the same
  pub without_covered : (ps bs : List CompD) (k : CompD) → IsCovered u n (ps ++ bs) k → IsSameWhere u n (set_of (ps ++ k ∷ bs)) (set_of (ps ++ bs))
  without_covered ps bs (comp m g t) covered c l o =
      sets_same (ps ++ comp m g t ∷ bs) (ps ++ bs) c c there (λ w x h. member_in (ps ++ comp m g t ∷ bs) w x c (member_more (ps ++ bs) (ps ++ comp m g t ∷ bs) (skip_one ps bs (comp m g t)) w x c h))
    where
      made : (w : TermD) (x : List Atom) (j : CompD) → MakesAt w x j c → Contains ps j ⊎ Contains (comp m g t ∷ bs) j → InAt w x (comps_of (ps ++ bs)) c
      made w x j p (inl h) = member_in (ps ++ bs) w x c (made_member (ps ++ bs) j w x c (Contains-append_left ps bs j h) p)
      made w x j p (inr h) = here (contains_cases (comp m g t) j bs h)
        where
          here : (comp m g t ≡ j) ⊎ Contains bs j → InAt w x (comps_of (ps ++ bs)) c
          here (inl e) =
              let q : MakesAt w x (comp m g t) c = subst (λ i. MakesAt w x i c) (sym e) p in
              subst (λ z. InAt z x (comps_of (ps ++ bs)) c) (sym q.2) (subst (λ z. InAt t z (comps_of (ps ++ bs)) c) (sym q.3) (covered c q.0 l o q.1))
          here (inr i) =
              member_in (ps ++ bs) w x c (made_member (ps ++ bs) j w x c (Contains-append_right ps bs j i) p)

      there : (w : TermD) (x : List Atom) → MemberAt w x (comps_of (ps ++ comp m g t ∷ bs)) c → InAt w x (comps_of (ps ++ bs)) c
      there w x h =
          let r = member_made (ps ++ comp m g t ∷ bs) w x c h in made w x r.0 r.2 (Contains-append_cases ps (comp m g t ∷ bs) r.0 r.1)

-- ---- what the questions say: a constraint h that holds where u and the guard do, and a constraint q that holds where the item
-- is among the others
module _ (u : List (List Lit)) (n m : ℕ) (g : List (List Lit)) (t : TermD) (others : List CompD) (h q : List (List Lit)) where
  pub record IsAsked : Type 0 where
    pub under : ConstraintFits n u
    pub here : (c : List Atom) → holds c h ≡ (holds c u && holds c g)
    pub within : (c e : List Atom) → length c ≡ n → length e ≡ m → IsTrue (holds (c ++ e) q) ↔ InAt t (c ++ e) (comps_of others) c

  pub asked_covered : IsAsked → ((c : List Atom) → length c ≡ n + m → IsTrue (holds c h) → IsTrue (holds c q)) → IsCovered u n others (comp m g t)
  asked_covered a entailed c e l o i =
      let long : length (c ++ e) ≡ n + m = omega (arith, length-append c e, i.count) in
      let before : holds (c ++ e) u ≡ holds c u = holds_before c e u (subst (λ k. ConstraintFits k u) (sym l) a.under) in
      let hh : IsTrue (holds (c ++ e) h) = a.here (c ++ e) ∙ (ap (λ b. b && holds (c ++ e) g) (before ∙ o) ∙ i.guard) in
      (a.within c e l i.count).0 (entailed (c ++ e) long hh)

  -- a choice at which u and the guard hold, and at which the item isn't among the others
  module _ (under : ConstraintFits n u) (here : (c : List Atom) → holds c h ≡ (holds c u && holds c g)) (d : List Atom) (l : length d ≡ n + m) (hh : IsTrue (holds d h)) where
    own_there : (length (take n d) ≡ n → length (drop n d) ≡ m → take n d ++ drop n d ≡ d → InAt t (take n d ++ drop n d) (comps_of others) (take n d) → ⊥) → HasOwn u n others (comp m g t)
    own_there out =
        let whole : take n d ++ drop n d ≡ d = take-append-drop n d in
        let short : length (take n d) ≡ n = length-take-le n d (omega arith) in
        let more : length (drop n d) ≡ m = omega (arith, length-drop n d) in
        let parts = and_parts (holds d u) (holds d g) (sym (here d) ∙ hh) in
        let met : IsTrue (holds (take n d) u) = sym (holds_before (take n d) (drop n d) u (subst (λ k. ConstraintFits k u) (sym short) under)) ∙ (ap (λ z. holds z u) whole ∙ parts.0) in (
          take n d,
          drop n d,
          record { count = short; met = met },
          record { count = more; guard = ap (λ z. holds z g) whole ∙ parts.1 },
          out short more whole,
        )

  pub asked_own : IsAsked → (d : List Atom) → length d ≡ n + m → IsTrue (holds d h) → IsFalse (holds d q) → HasOwn u n others (comp m g t)
  asked_own a d l hh out =
      own_there a.under a.here d l hh (λ short more whole i.
      let yes : IsTrue (holds d q) = ap (λ z. holds z q) (sym whole) ∙ (a.within (take n d) (drop n d) short more).1 i in absurd (cc))

  pub failing_own : (f : FormulaD) → ConstraintFits n u → ((c : List Atom) → holds c h ≡ (holds c u && holds c g)) → HoldsWhereItemIn n m t (comps_of others) f → FailsSomewhere (n + m) h f → HasOwn u n others (comp m g t)
  failing_own f under here member (d, l, hh, fails) =
      own_there under here d l hh (λ short more whole i. fails (subst (λ z. FormulaHolds z f) whole ((member (take n d) (drop n d) short more).1 i)))

  pub is_asked : (f : FormulaD) → ConstraintFits n u → ((c : List Atom) → holds c h ≡ (holds c u && holds c g)) → HoldsWhereItemIn n m t (comps_of others) f → AgreesWith (n + m) f q → IsAsked
  is_asked f under here member agrees = record {
    under = under;
    here = here;
    within = λ c e l k.
        let long : length (c ++ e) ≡ n + m = omega (arith, length-append c e) in (
          (λ p. (member c e l k).0 ((agrees (c ++ e) long).0 p)),
          λ p. (agrees (c ++ e) long).1 ((member c e l k).1 p),
        );
  }

-- where no other can have the item, the comprehension has a member of its own
pub alone_has_own : (u : List (List Lit)) (n m : ℕ) (g : List (List Lit)) (t : TermD) (others : List CompD) (f : FormulaD) → ConstraintFits n u → HoldsWhereItemIn n m t (comps_of others) f → f ≡ any no_formulas → IsIrredundantAlone u n m g t → HasOwn u n others (comp m g t)
alone_has_own u n m g t others f fits member never lean =
    let asked : IsAsked u n m g t others (both u g) [] = record {
      under = fits;
      here = λ c. holds_both c u g;
      within = λ c e l k. ((λ p. absurd (cc)), λ i. absurd (subst (FormulaHolds (c ++ e)) never ((member c e l k).1 i)));
    } in
    asked_own u n m g t others (both u g) [] asked lean.met.0 (lean.met.1).count (lean.met.1).met refl
