-- Constraints that tell where something holds, and loops that put them together.
use Rattle.std.proofs.Common.{◌≡◌, ℕ, ◌+◌, ◌<◌, ◌≤◌, Bool, true, false, not, ◌&&◌, ◌||◌, ◌⊎◌, inl, inr, ◌↔◌, List, [], ◌++◌, length, get_or, map, refl, sym, subst, ◌∙◌}
use Rattle.std.proofs.lemmas.Bool.{false≢true}
use Rattle.std.specs.Bool.{IsTrue, IsFalse}
use Rattle.lois_base.specs.Atom.{Atom}
use Rattle.lois_base.specs.Data.{coll, CompD, comp, CompsD, no_comps, more, comps_of, TermD}
use Rattle.lois_base.specs.FormulaData.{FormulaD}
use Rattle.lois_base.specs.FormulaTruth.{FormulaHolds}
use Rattle.lois_base.specs.Tree.{comp_of}
use Rattle.lois_base.specs.Truth.{holds}
use Rattle.lois_base.specs.Values.{PointValue, point, IsIn}
use Rattle.lois_base.specs.declared.guards.Lit.{Lit}
use Rattle.lois_base.specs.declared.values.Comp.{Comp}
use Rattle.lois_base.proofs.Members.{same_refl}
use Rattle.lois_algebra.specs.Gathered.{IsAmong, IsCompMember}
use Rattle.lois_algebra.proofs.Among.{among_in}
use Rattle.lois_elim.specs.Bound.{AgreesWith, HoldsForSomeMore}
use Rattle.lois_base.proofs.Connectives.{both_true, either_true}
use Rattle.lois_relate.proofs.Parts.{comps_from, comps_are, no_comps_left}
use Rattle.lois_automata.specs.Projections.{AllAgree, IsFunction}
use Rattle.lois_automata.specs.Verdicts.{HoldsWhere, HoldsUnless}

either_false : (p q : Bool) → IsFalse (p || q) → IsFalse p × IsFalse q
either_false true q h = absurd (false≢true (sym h))
either_false false q h = (refl, h)

-- a formula that holds exactly where something does
pub formula_where : (n : ℕ) (P : List Atom → Type 0) (f : FormulaD) (r : List (List Lit)) → ((c : List Atom) → length c ≡ n → FormulaHolds c f ↔ P c) → AgreesWith n f r → HoldsWhere n P r
formula_where n P f r is agrees c l = (λ x. (is c l).0 ((agrees c l).0 x), λ x. (agrees c l).1 ((is c l).1 x))

-- both hold
pub both_where : (n : ℕ) (P Q : List Atom → Type 0) (p q r : List (List Lit)) → HoldsWhere n P p → HoldsWhere n Q q → ((d : List Atom) → holds d r ≡ (holds d p && holds d q)) → HoldsWhere n (λ c. P c × Q c) r
both_where n P Q p q r one two met c l = (
  λ h. let x = (both_true (holds c p) (holds c q)).0 (sym (met c) ∙ h) in ((one c l).0 x.0, (two c l).0 x.1),
  λ h. met c ∙ (both_true (holds c p) (holds c q)).1 ((one c l).1 h.0, (two c l).1 h.1),
)

pub where_as : (n : ℕ) (P Q : List Atom → Type 0) (r : List (List Lit)) → ((c : List Atom) → length c ≡ n → P c ↔ Q c) → HoldsWhere n P r → HoldsWhere n Q r
where_as n P Q r same h c l = (λ x. (same c l).0 ((h c l).0 x), λ x. (h c l).1 ((same c l).1 x))

pub unless_as : (n : ℕ) (P Q : List Atom → Type 0) (r : List (List Lit)) → ((c : List Atom) → P c ↔ Q c) → HoldsUnless n P r → HoldsUnless n Q r
unless_as n P Q r same h c l = (λ x q. (h c l).0 x ((same c).1 q), λ x. (same c).0 ((h c l).1 x))

pub unless_not : (n : ℕ) (P : List Atom → Type 0) (f r : List (List Lit)) → HoldsUnless n P f → ((d : List Atom) → holds d r ≡ not (holds d f)) → HoldsWhere n P r
unless_not n P f r h met c l = go (holds c f) (met c) (h c l).0 (h c l).1
  where
    go : (b : Bool) → holds c r ≡ not b → (IsTrue b → P c → ⊥) → (IsFalse b → P c) → IsTrue (holds c r) ↔ P c
    go true e never always = (λ x. absurd (false≢true (sym e ∙ x)), λ p. absurd (never refl p))
    go false e never always = (λ x. always refl, λ p. e)

pub not_where : (n : ℕ) (P : List Atom → Type 0) (f r : List (List Lit)) → HoldsWhere n P f → ((d : List Atom) → holds d r ≡ not (holds d f)) → HoldsUnless n P r
not_where n P f r h met c l = go (holds c f) (met c) (h c l).0 (h c l).1
  where
    go : (b : Bool) → holds c r ≡ not b → (IsTrue b → P c) → (P c → IsTrue b) → (IsTrue (holds c r) → P c → ⊥) × (IsFalse (holds c r) → P c)
    go true e there back = (λ x p. false≢true (sym e ∙ x), λ x. there refl)
    go false e there back = (λ x p. false≢true (back p), λ x. absurd (false≢true (sym x ∙ e)))

-- ---- a set has a member where some comprehension makes one
pub making : (n m : ℕ) (g : List (List Lit)) (t : TermD) (r : List (List Lit)) → HoldsForSomeMore n m g r → HoldsWhere n (λ c. (w : PointValue) × IsCompMember (comp m g t) c w) r
making n m g t r h c l = (
  λ x. let e = (h c l).0 x in (point t (c ++ e.0), (e.0, record { count = e.1; guard = e.2 }, same_refl (point t (c ++ e.0)))),
  λ x. (h c l).1 (x.1.0, x.1.1.count, x.1.1.guard),
)

module _ (n : ℕ) (vs : List CompD) where
  abbrev pub SomeSoFar : CompsD → List (List Lit) → Type 0
  SomeSoFar rest r = (c : List Atom) → length c ≡ n → (IsTrue (holds c r) ⊎ ((w : PointValue) × IsAmong rest c w)) ↔ ((w : PointValue) × IsAmong (comps_of vs) c w)

  pub some_begin : (items : List Comp) (r : List (List Lit)) → map comp_of items ≡ vs → r ≡ [] → SomeSoFar (comps_from items 0) r
  some_begin items r e empty = subst (λ z. SomeSoFar (comps_of z) r) (sym e) (subst (λ z. SomeSoFar (comps_of vs) z) (sym empty) (λ c l. (
    λ h. elim h [ inl p ↦ absurd (false≢true p) | inr p ↦ p ],
    λ h. inr h,
  )))

  pub some_more : (items : List Comp) (i : ℕ) (k : Comp) (r found longer : List (List Lit)) → i < length items → k ≡ get_or items i k → HoldsWhere n (λ c. (w : PointValue) × IsCompMember (comp_of k) c w) found → ((d : List Atom) → holds d longer ≡ (holds d r || holds d found)) →
      SomeSoFar (comps_from items i) r → SomeSoFar (comps_from items (i + 1)) longer
  some_more items i k r found longer l is truth either h c len =
      let one = truth c len in
      let old = h c len in
      let parts = either_true (holds c r) (holds c found) in
      let e : comps_from items i ≡ more (comp_of k) (comps_from items (i + 1)) = comps_are items i k l is in (
        λ x. old.0 (elim x [
          | inl p ↦ elim (parts.0 (sym (either c) ∙ p)) [
            | inl q ↦ inl q
            | inr q ↦ inr ((one.0 q).0, subst (λ z. IsAmong z c (one.0 q).0) (sym e) (inl (one.0 q).1))
          ]
          | inr p ↦ inr (p.0, subst (λ z. IsAmong z c p.0) (sym e) (inr p.1))
        ]),
        λ x. elim (old.1 x) [
          | inl p ↦ inl (either c ∙ parts.1 (inl p))
          | inr p ↦ elim (subst (λ z. IsAmong z c p.0) e p.1) [
            | inl q ↦ inl (either c ∙ parts.1 (inr (one.1 (p.0, q))))
            | inr q ↦ inr (p.0, q)
          ]
        ],
      )

  pub some_end : (items : List Comp) (i : ℕ) (r : List (List Lit)) → length items ≤ i → SomeSoFar (comps_from items i) r → HoldsWhere n (λ c. (w : PointValue) × IsIn w (point (coll (comps_of vs)) c)) r
  some_end items i r l h c len =
      let all = h c len in (
        λ x. let w = all.0 (inl x) in (w.0, (among_in (comps_of vs) c w.0).0 w.1),
        λ x. elim (all.1 (x.0, (among_in (comps_of vs) c x.0).1 x.1)) [
          | inl p ↦ p
          | inr p ↦ absurd (subst (λ z. IsAmong z c p.0) (no_comps_left items i l) p.1)
        ],
      )

-- ---- a constraint that holds where something doesn't: what the rest of the loop asks for follows from the whole, and the other
-- way round where the constraint doesn't hold
pub record UnlessSoFar (n : ℕ) (Rest Whole : List Atom → Type 0) (r : List (List Lit)) : Type 0 where
  pub met : (c : List Atom) → length c ≡ n → IsTrue (holds c r) → Whole c → ⊥
  pub unmet : (c : List Atom) → length c ≡ n → IsFalse (holds c r) → Rest c → Whole c
  pub rest : (c : List Atom) → Whole c → Rest c

unless_begin : (n : ℕ) (Whole : List Atom → Type 0) → UnlessSoFar n Whole Whole []
unless_begin n Whole = record {
  met = λ c l h. absurd (false≢true h);
  unmet = λ c l h x. x;
  rest = λ c x. x;
}

unless_more : (n : ℕ) (Rest One Next Whole : List Atom → Type 0) (r found longer : List (List Lit)) → ((c : List Atom) → Rest c ↔ (One c × Next c)) → HoldsUnless n One found → ((d : List Atom) → holds d longer ≡ (holds d r || holds d found)) → UnlessSoFar n Rest Whole r → UnlessSoFar n Next Whole longer
unless_more n Rest One Next Whole r found longer split one either h = record {
  met = λ c l x whole. elim ((either_true (holds c r) (holds c found)).0 (sym (either c) ∙ x)) [
    | inl p ↦ h.met c l p whole
    | inr p ↦ (one c l).0 p ((split c).0 (h.rest c whole)).0
  ];
  unmet = λ c l x next.
      let both = either_false (holds c r) (holds c found) (sym (either c) ∙ x) in
      h.unmet c l both.0 ((split c).1 ((one c l).1 both.1, next));
  rest = λ c whole. ((split c).0 (h.rest c whole)).1;
}

unless_end : (n : ℕ) (Rest Whole : List Atom → Type 0) (r : List (List Lit)) → ((c : List Atom) → Rest c) → UnlessSoFar n Rest Whole r → HoldsUnless n Whole r
unless_end n Rest Whole r all h c l = (h.met c l, λ x. h.unmet c l x (all c))

agree_split : (P : PointValue → Type 0) (rest next : CompsD) (k : CompD) (c : List Atom) → rest ≡ more k next → AllAgree P (IsAmong rest c) ↔ (AllAgree P (IsCompMember k c) × AllAgree P (IsAmong next c))
agree_split P rest next k c e = subst (λ z. AllAgree P (IsAmong z c) ↔ (AllAgree P (IsCompMember k c) × AllAgree P (IsAmong next c))) (sym e) (
  λ h. (λ x y a v v' i j. h x y a v v' i (inl j), λ x y a v v' i j. h x y a v v' i (inr j)),
  λ h x y a v v' i j. elim j [ inl p ↦ h.0 x y a v v' i p | inr p ↦ h.1 x y a v v' i p ],
)

agree_split_first : (Q : PointValue → Type 0) (rest next : CompsD) (k : CompD) (c : List Atom) → rest ≡ more k next → AllAgree (IsAmong rest c) Q ↔ (AllAgree (IsCompMember k c) Q × AllAgree (IsAmong next c) Q)
agree_split_first Q rest next k c e = subst (λ z. AllAgree (IsAmong z c) Q ↔ (AllAgree (IsCompMember k c) Q × AllAgree (IsAmong next c) Q)) (sym e) (
  λ h. (λ x y a v v' i j. h x y a v v' (inl i) j, λ x y a v v' i j. h x y a v v' (inr i) j),
  λ h x y a v v' i j. elim i [ inl p ↦ h.0 x y a v v' p j | inr p ↦ h.1 x y a v v' p j ],
)

-- the pairs of a comprehension with those of each of a list
module _ (n : ℕ) (k : CompD) (whole : CompsD) where
  abbrev pub ClashSoFar : CompsD → List (List Lit) → Type 0
  ClashSoFar rest r = UnlessSoFar n (λ c. AllAgree (IsCompMember k c) (IsAmong rest c)) (λ c. AllAgree (IsCompMember k c) (IsAmong whole c)) r

  pub clash_begin : (r : List (List Lit)) → r ≡ [] → ClashSoFar whole r
  clash_begin r empty = subst (λ z. ClashSoFar whole z) (sym empty) (unless_begin n (λ c. AllAgree (IsCompMember k c) (IsAmong whole c)))

  pub clash_more : (rest next : CompsD) (q : CompD) (r found longer : List (List Lit)) → rest ≡ more q next → HoldsUnless n (λ c. AllAgree (IsCompMember k c) (IsCompMember q c)) found → ((d : List Atom) → holds d longer ≡ (holds d r || holds d found)) → ClashSoFar rest r → ClashSoFar next longer
  clash_more rest next q r found longer is one either h =
      unless_more n (λ c. AllAgree (IsCompMember k c) (IsAmong rest c)) (λ c. AllAgree (IsCompMember k c) (IsCompMember q c)) (λ c. AllAgree (IsCompMember k c) (IsAmong next c)) (λ c. AllAgree (IsCompMember k c) (IsAmong whole c)) r found longer
      (λ c. agree_split (IsCompMember k c) rest next q c is) one either h

  pub clash_end : (rest : CompsD) (r : List (List Lit)) → rest ≡ no_comps → ClashSoFar rest r → HoldsUnless n (λ c. AllAgree (IsCompMember k c) (IsAmong whole c)) r
  clash_end rest r none h =
      unless_end n (λ c. AllAgree (IsCompMember k c) (IsAmong rest c)) (λ c. AllAgree (IsCompMember k c) (IsAmong whole c)) r (λ c x y a v v' p q. absurd (subst (λ z. IsAmong z c y) none q)) h

-- the pairs of each of a list with those of each
module _ (n : ℕ) (vs : List CompD) where
  abbrev pub ClashesSoFar : CompsD → List (List Lit) → Type 0
  ClashesSoFar rest r = UnlessSoFar n (λ c. AllAgree (IsAmong rest c) (IsAmong (comps_of vs) c)) (λ c. AllAgree (IsAmong (comps_of vs) c) (IsAmong (comps_of vs) c)) r

  pub clashes_begin : (items : List Comp) (r : List (List Lit)) → map comp_of items ≡ vs → r ≡ [] → ClashesSoFar (comps_from items 0) r
  clashes_begin items r e empty = subst (λ z. ClashesSoFar (comps_of z) r) (sym e) (subst (λ z. ClashesSoFar (comps_of vs) z) (sym empty) (unless_begin n (λ c. AllAgree (IsAmong (comps_of vs) c) (IsAmong (comps_of vs) c))))

  pub clashes_more : (items : List Comp) (i : ℕ) (k : Comp) (r found longer : List (List Lit)) → i < length items → k ≡ get_or items i k → HoldsUnless n (λ c. AllAgree (IsCompMember (comp_of k) c) (IsAmong (comps_of vs) c)) found → ((d : List Atom) → holds d longer ≡ (holds d r || holds d found)) →
      ClashesSoFar (comps_from items i) r → ClashesSoFar (comps_from items (i + 1)) longer
  clashes_more items i k r found longer l is one either h =
      unless_more n (λ c. AllAgree (IsAmong (comps_from items i) c) (IsAmong (comps_of vs) c)) (λ c. AllAgree (IsCompMember (comp_of k) c) (IsAmong (comps_of vs) c)) (λ c. AllAgree (IsAmong (comps_from items (i + 1)) c) (IsAmong (comps_of vs) c)) (λ c. AllAgree (IsAmong (comps_of vs) c) (IsAmong (comps_of vs) c)) r found longer
      (λ c. agree_split_first (IsAmong (comps_of vs) c) (comps_from items i) (comps_from items (i + 1)) (comp_of k) c (comps_are items i k l is)) one either h

  pub clashes_end : (items : List Comp) (i : ℕ) (r : List (List Lit)) → length items ≤ i → ClashesSoFar (comps_from items i) r → HoldsUnless n (λ c. IsFunction (point (coll (comps_of vs)) c)) r
  clashes_end items i r l h c len =
      let all = unless_end n (λ c. AllAgree (IsAmong (comps_from items i) c) (IsAmong (comps_of vs) c)) (λ c. AllAgree (IsAmong (comps_of vs) c) (IsAmong (comps_of vs) c)) r (λ c x y a v v' p q. absurd (subst (λ z. IsAmong z c x) (no_comps_left items i l) p)) h c len in (
        λ x f. all.0 x (λ a b k v v' i j. f a b k v v' ((among_in (comps_of vs) c a).0 i) ((among_in (comps_of vs) c b).0 j)),
        λ x a b k v v' i j. all.1 x a b k v v' ((among_in (comps_of vs) c a).1 i) ((among_in (comps_of vs) c b).1 j),
      )
