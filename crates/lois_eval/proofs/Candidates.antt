-- Comprehensions that may have a value, found one by one, and memberships that are told from them.
use Rattle.std.proofs.Common.{◌≡◌, ℕ, zero, suc, ◌+◌, ◌<◌, ◌≤◌, ◌⊎◌, inl, inr, ◌↔◌, Option, Some, None, List, [], ◌∷◌, ◌++◌, length, get_or, map, append-nil, refl, sym, subst, arith}
use Rattle.std.proofs.lemmas.Bool.{cases_order}
use Rattle.std.proofs.lemmas.List.{length-map}
use Rattle.std.proofs.lemmas.List.Elements.{All-nil, All-push, Contains-append_left, Contains-append_right, Contains-push}
use Rattle.std.proofs.lemmas.Option.{slice_get_within}
use Rattle.std.specs.List.{All}
use Rattle.std.specs.Prelude.{slice_get, Contains}
use borrow.Author.Count.{below_more}
use Rattle.lois_base.specs.Atom.{Atom}
use Rattle.lois_base.specs.Data.{TermD, CompD, CompsD, no_comps, coll, comps_of}
use Rattle.lois_base.specs.FormulaData.{FormulaD, all, any, no_formulas}
use Rattle.lois_base.specs.FormulaTruth.{FormulaHolds}
use Rattle.lois_base.specs.Tree.{tree, comp_of}
use Rattle.lois_base.specs.Values.{point, MemberAt, InAt, OneIsAt}
use Rattle.lois_base.specs.declared.values.Comp.{Comp}
use Rattle.lois_relate.specs.Apart.{AreNeverSame}
use Rattle.lois_relate.specs.Built.{IsEither}
use Rattle.lois_relate.specs.Candidates.{with_comp, comps_at, AreCandidates}
use Rattle.lois_relate.specs.Relations.{HoldsWhereIn, HoldsWhereItemIn}
use Rattle.lois_relate.proofs.Pairs.{item_got}
use Rattle.lois_relate.proofs.Places.{item_in_all}
use Rattle.lois_eval.specs.Candidates.{HasValueAt}

-- ---- one by one
module _ (cs : List Comp) (t : TermD) where
  abbrev pub HasValue : ℕ → Type 0
  HasValue i = HasValueAt (map comp_of cs) t i

  pub has_no_value : (n : ℕ) (k : Comp) → n < length cs → k ≡ get_or cs n k → AreNeverSame (tree k.item) t → HasValue n → ⊥
  has_no_value n k l is never h =
      let got : slice_get (map comp_of cs) n ≡ Some (comp_of k) = item_got cs (map comp_of cs) n k refl l is in
      let same : h.comprehension ≡ comp_of k = cc in
      let there : OneIsAt (comp_of k) h.own t h.other = subst (λ z. OneIsAt z h.own t h.other) same h.same in
      never (h.own ++ there.0) h.other there.2

  pub has_place : (i : ℕ) → HasValue i → i < length cs
  has_place i h =
      let inside : i < length (map comp_of cs) = slice_get_within (map comp_of cs) i h.comprehension h.at in
      omega (arith, length-map cs comp_of)

  pub none_more : (n : ℕ) (k : Comp) → n < length cs → k ≡ get_or cs n k → AreNeverSame (tree k.item) t → ((i : ℕ) → i < n → HasValue i → ⊥) → (i : ℕ) → i < n + 1 → HasValue i → ⊥
  none_more n k l is never before = below_more (λ i. HasValue i → ⊥) n before (has_no_value n k l is never)

  -- the places of the candidates from an index on, below n
  pub record AreFoundBelow (from n : ℕ) (places : List ℕ) : Type 0 where
    pub inside : All (λ i. i < length cs) places
    pub all : (i : ℕ) → i < n → from ≤ i → HasValue i → Contains places i

  pub found_none : (from : ℕ) (places : List ℕ) → places ≡ [] → AreFoundBelow from from places
  found_none from places e = subst (AreFoundBelow from from) (sym e) (record {
    inside = All-nil (λ i. i < length cs);
    all = λ i l k h. absurd (omega arith);
  })

  pub found_more : (from n : ℕ) (places more : List ℕ) → n < length cs → more ≡ places ++ n ∷ [] → AreFoundBelow from n places → AreFoundBelow from (n + 1) more
  found_more from n places more l pushed h = subst (AreFoundBelow from (n + 1)) (sym pushed) (record {
    inside = All-push (λ i. i < length cs) places n h.inside l;
    all = below_more (λ i. from ≤ i → HasValue i → Contains (places ++ n ∷ []) i) n (λ i below k v. Contains-append_left places (n ∷ []) i (h.all i below k v)) (λ k v. Contains-push places n);
  })

  pub found_same : (from n : ℕ) (k : Comp) (places : List ℕ) → n < length cs → k ≡ get_or cs n k → AreNeverSame (tree k.item) t → AreFoundBelow from n places → AreFoundBelow from (n + 1) places
  found_same from n k places l is never h = record {
    inside = h.inside;
    all = below_more (λ i. from ≤ i → HasValue i → Contains places i) n h.all (λ b v. absurd (has_no_value n k l is never v));
  }

-- ---- the first and the others
module _ (ks : List CompD) (t : TermD) where
  no_candidates : ((i : ℕ) → HasValueAt ks t i → ⊥) → AreCandidates ks t []
  no_candidates none i k c d at one =
      absurd (none i (record { comprehension = k; at = at; own = c; other = d; same = one }))

  all_candidates : (first : ℕ) (places : List ℕ) → ((i : ℕ) → i < first → HasValueAt ks t i → ⊥) → ((i : ℕ) → first + 1 ≤ i → HasValueAt ks t i → Contains places i) → AreCandidates ks t (first ∷ places)
  all_candidates first places none later i k c d at one = go (cases_order i first)
    where
      has : HasValueAt ks t i
      has = record { comprehension = k; at = at; own = c; other = d; same = one }

      go : (i ≡ first) ⊎ ((i < first) ⊎ (first < i)) → Contains (first ∷ places) i
      go (inl e) = Contains-append_left (first ∷ []) places i (0, omega arith, sym e)
      go (inr (inl less)) = absurd (none i less has)
      go (inr (inr more)) = Contains-append_right (first ∷ []) places i (later i (omega arith) has)

module _ (t w : TermD) (c x d : List Atom) where
  member_of_one : (ks : List CompD) (i : ℕ) → MemberAt w x (comps_at ks (i ∷ [])) d → MemberAt w x (comps_of ks) d
  member_of_one [] i h = absurd h
  member_of_one (k ∷ ks) zero (inl h) = inl h
  member_of_one (k ∷ ks) zero (inr h) = absurd h
  member_of_one (k ∷ ks) (suc i) h = inr (member_of_one ks i h)

  member_split : (o : Option CompD) (rest : CompsD) → MemberAt w x (with_comp o rest) d ↔ (MemberAt w x (with_comp o no_comps) d ⊎ MemberAt w x rest d)
  member_split None rest = (λ h. inr h, λ h. elim h [ inl m ↦ absurd m | inr m ↦ m ])
  member_split (Some k) rest = (
    λ h. elim h [ inl m ↦ inl (inl m) | inr m ↦ inr m ],
    λ h. elim h [ inl m ↦ elim m [ inl x ↦ inl x | inr x ↦ absurd x ] | inr m ↦ inr m ],
  )

in_split : (t : TermD) (c d : List Atom) (o : Option CompD) (rest : CompsD) → InAt t c (with_comp o rest) d ↔ (InAt t c (with_comp o no_comps) d ⊎ InAt t c rest d)
in_split t c d o rest = (
  λ h. elim ((member_split t h.0 c h.1 d o rest).0 h.2) [ inl m ↦ inl (h.0, h.1, m, h.3) | inr m ↦ inr (h.0, h.1, m, h.3) ],
  λ h. elim h [ inl g ↦ (g.0, g.1, (member_split t g.0 c g.1 d o rest).1 (inl g.2), g.3) | inr g ↦ (g.0, g.1, (member_split t g.0 c g.1 d o rest).1 (inr g.2), g.3) ],
)

-- ---- what is told from them
module _ (n : ℕ) (s t : TermD) (ks : List CompD) (f : FormulaD) (set : t ≡ coll (comps_of ks)) where
  -- without binders, where an item is in the set is where the term is in it
  in_all : HoldsWhereItemIn n 0 s (comps_of ks) f → HoldsWhereIn n s t f
  in_all says = subst (λ z. HoldsWhereIn n s z f) (sym set) (λ c l.
      let here : FormulaHolds c f ↔ InAt s c (comps_of ks) c = subst (λ z. FormulaHolds z f ↔ InAt s z (comps_of ks) c) (append-nil c) (says c [] l refl) in (
        λ h. let m = here.0 h in (point m.0 m.1, m.2, m.3),
        λ h. here.1 ((h.0).term_of, (h.0).choice, h.1, h.2),
      ))

  -- nothing may have the value
  pub in_none : ((i : ℕ) → HasValueAt ks s i → ⊥) → f ≡ any no_formulas → HoldsWhereIn n s t f
  in_none none e =
      let nowhere : HoldsWhereItemIn n 0 s no_comps f = λ c d k l. subst (λ z. FormulaHolds (c ++ d) z ↔ InAt s (c ++ d) no_comps c) (sym e) (λ h. absurd h, λ h. absurd h.2) in
      in_all (item_in_all ks s [] n 0 f (no_candidates ks s none) nowhere)

  -- what may have the value has it everywhere
  pub in_one : (i : ℕ) → f ≡ all no_formulas → HoldsWhereItemIn n 0 s (comps_at ks (i ∷ [])) f → HoldsWhereIn n s t f
  in_one i e says =
      let everywhere : (c : List Atom) → FormulaHolds c f = λ c. subst (FormulaHolds c) (sym e) tt in
      in_all (λ c d k l. (
        λ h. let m = (says c d k l).0 h in (m.0, m.1, member_of_one s m.0 (c ++ d) m.1 c ks i m.2, m.3),
        λ h. everywhere (c ++ d),
      ))

  -- the first that may have it, or one of the others
  pub in_some : (first : ℕ) (places : List ℕ) (g h : FormulaD) → ((i : ℕ) → i < first → HasValueAt ks s i → ⊥) → ((i : ℕ) → first + 1 ≤ i → HasValueAt ks s i → Contains places i) → HoldsWhereItemIn n 0 s (comps_at ks (first ∷ [])) g → HoldsWhereItemIn n 0 s (comps_at ks places) h → IsEither g h f → HoldsWhereIn n s t f
  in_some first places g h none later here there either =
      let among : HoldsWhereItemIn n 0 s (comps_at ks (first ∷ places)) f = λ c d k l.
      let parts = in_split s (c ++ d) c (slice_get ks first) (comps_at ks places) in (
        λ x. parts.1 (elim ((either.truth (c ++ d)).0 x) [ inl a ↦ inl ((here c d k l).0 a) | inr b ↦ inr ((there c d k l).0 b) ]),
        λ x. (either.truth (c ++ d)).1 (elim (parts.0 x) [ inl a ↦ inl ((here c d k l).1 a) | inr b ↦ inr ((there c d k l).1 b) ]),
      ) in
      in_all (item_in_all ks s (first ∷ places) n 0 f (all_candidates ks s first places none later) among)
