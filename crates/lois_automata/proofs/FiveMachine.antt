-- The automaton that a term of five sets has as its value.
use Rattle.std.proofs.Common.{◌≡◌, ℕ, ◌↔◌, Bool, true, false, List, [], ◌∷◌, length, refl, sym, subst, ◌∙◌}
use Rattle.std.specs.Bool.{IsTrue, IsFalse}
use Rattle.lois_base.specs.Atom.{Atom}
use Rattle.lois_base.specs.Data.{TermD, coll, CompsD}
use Rattle.lois_base.specs.Truth.{holds}
use Rattle.lois_base.specs.Values.{PointValue, point, IsIn}
use Rattle.lois_base.specs.declared.guards.Lit.{Lit}
use Rattle.lois_algebra.specs.Sets.{IsIntersection, IsDifference}
use Rattle.lois_terms.specs.Collections.{IsColl}
use Rattle.lois_meaning.specs.Automata.{Automaton, IsAutomatonOf, Accepts, IsDeterministic, IsComplete, IsProductOf}
use Rattle.lois_meaning.specs.Kinds.{IsSetOf}
use Rattle.lois_meaning.proofs.Operations.{products_accept_both, complements_accept_others}
use Rattle.lois_automata.specs.Built.{ArePairs}
use Rattle.lois_automata.specs.Projections.{five_of, five_terms, automaton_at, AreProjected, AreSideBySide}
use Rattle.lois_automata.specs.declared.projections.Projection.TheVariants.{Move}
use Rattle.lois_automata.specs.Machines.{IsAutomatonAt, IsReachAt, IsEmptyAt, AcceptsSomeAt, IsCompleteDeterministicAt, IsProductAt, IsComplementAt, AcceptsBothAt, AcceptsOthersAt}
use Rattle.lois_automata.specs.Reachability.{graph_at, IsReached}
use Rattle.lois_automata.specs.Throughout.{HoldsThroughout}
use Rattle.lois_automata.specs.Verdicts.{HoldsUnless}
use Rattle.lois_automata.proofs.Machines.{product_automaton, with_final, is_complement, complement_automaton, accepts_some}
use Rattle.lois_automata.proofs.ReachIs.{reach_exactly}

module _ (s l t i f : CompsD) (c : List Atom) where
  -- an automaton that is its value has these five sets
  pub five_equal : (m : Automaton) → IsAutomatonOf (point (five_of s l t i f) c) m → m ≡ automaton_at s l t i f c
  five_equal m is =
      let five : m.states ∷ m.letters ∷ m.steps ∷ m.initial ∷ m.final ∷ [] ≡ point (coll s) c ∷ point (coll l) c ∷ point (coll t) c ∷ point (coll i) c ∷ point (coll f) c ∷ [] = is.five in
      let e1 : m.states ≡ point (coll s) c = cc in
      let e2 : m.letters ≡ point (coll l) c = cc in
      let e3 : m.steps ≡ point (coll t) c = cc in
      let e4 : m.initial ≡ point (coll i) c = cc in
      let e5 : m.final ≡ point (coll f) c = cc in
      subst (λ z. m ≡ record { states = point (coll s) c; letters = point (coll l) c; steps = point (coll t) c; initial = point (coll i) c; final = z }) e5
      (subst (λ z. m ≡ record { states = point (coll s) c; letters = point (coll l) c; steps = point (coll t) c; initial = z; final = m.final }) e4
      (subst (λ z. m ≡ record { states = point (coll s) c; letters = point (coll l) c; steps = z; initial = m.initial; final = m.final }) e3
      (subst (λ z. m ≡ record { states = point (coll s) c; letters = z; steps = m.steps; initial = m.initial; final = m.final }) e2
      (subst (λ z. m ≡ record { states = z; letters = m.letters; steps = m.steps; initial = m.initial; final = m.final }) e1 refl))))

  pub five_machine : IsAutomatonAt (five_of s l t i f) c → IsAutomatonOf (point (five_of s l t i f) c) (automaton_at s l t i f c)
  five_machine (m, is) = subst (λ z. IsAutomatonOf (point (five_of s l t i f) c) z) (five_equal m is) is

  pub is_reach : (n : ℕ) (moves r : TermD) → length c ≡ n → IsAutomatonAt (five_of s l t i f) c → AreProjected n Move (coll t) moves → IsSetOf (point r c) (IsReached (graph_at (coll s) (coll i) moves c)) → IsReachAt (five_of s l t i f) r c
  is_reach n moves r k h are set =
      let m = automaton_at s l t i f c in
      let is = five_machine h in
      let same = reach_exactly (point (five_of s l t i f) c) m is (point moves c) (are c k) in
      (m, is, (set.0, λ q. (λ x. (same q).0 ((set.1 q).0 x), λ x. (set.1 q).1 ((same q).1 x))))

  -- a set of the reachable final states has a member exactly where some word is accepted
  tells_words : (n : ℕ) (r found : TermD) → length c ≡ n → IsReachAt (five_of s l t i f) r c → IsIntersection n r (coll f) found → (a : Automaton) × IsAutomatonOf (point (five_of s l t i f) c) a × (((x : PointValue) × IsIn x (point found c)) ↔ ((word : List PointValue) × Accepts a word))
  tells_words n r found k (a, is, set) both =
      let final : point (coll f) c ≡ a.final = subst (λ z. point (coll f) c ≡ z.final) (sym (five_equal a is)) refl in
      let among : (x : PointValue) → IsIn x (point found c) ↔ (IsIn x (point r c) × IsIn x a.final) = subst (λ z. (x : PointValue) → IsIn x (point found c) ↔ (IsIn x (point r c) × IsIn x z)) final (both c k) in
      (a, is, accepts_some a (point r c) (point found c) set.1 among)

  -- b is true exactly where no final state is reachable
  pub is_empty : (n : ℕ) (r found : TermD) (b : Bool) → length c ≡ n → IsReachAt (five_of s l t i f) r c → IsIntersection n r (coll f) found → (IsTrue b → ((x : PointValue) × IsIn x (point found c)) → ⊥) × (IsFalse b → (x : PointValue) × IsIn x (point found c)) →
      (IsTrue b ↔ IsEmptyAt (five_of s l t i f) c) × (IsFalse b → AcceptsSomeAt (five_of s l t i f) c)
  is_empty n r found b k reach both unless = of (tells_words n r found k reach both)
    where
      of : (a : Automaton) × IsAutomatonOf (point (five_of s l t i f) c) a × (((x : PointValue) × IsIn x (point found c)) ↔ ((word : List PointValue) × Accepts a word)) → (IsTrue b ↔ IsEmptyAt (five_of s l t i f) c) × (IsFalse b → AcceptsSomeAt (five_of s l t i f) c)
      of (a, is, words) = (
        (λ x. (a, is, λ word accepted. unless.0 x (words.1 (word, accepted))), λ empty. go b unless.1 empty),
        λ x. (a, is, words.0 (unless.1 x)),
      )
        where
          go : (d : Bool) → (IsFalse d → (x : PointValue) × IsIn x (point found c)) → IsEmptyAt (five_of s l t i f) c → IsTrue d
          go true some empty = refl
          go false some (m, own, never) =
              let word = words.0 (some refl) in
              absurd (never word.0 (subst (λ z. Accepts z word.0) (five_equal a is ∙ sym (five_equal m own)) word.1))

  pub is_complement_at : (n : ℕ) (final : CompsD) → length c ≡ n → IsCompleteDeterministicAt (five_of s l t i f) c → IsDifference n (coll s) (coll f) (coll final) → IsComplementAt (five_of s l t i f) (five_of s l t i final) c × AcceptsOthersAt (five_of s l t i f) (five_of s l t i final) c
  is_complement_at n final k (m, is, one, whole) others =
      let v = point (five_of s l t i f) c in
      let a = automaton_at s l t i f c in
      let own = five_machine (m, is) in
      let r = with_final a (point (coll final) c) in
      let made = is_complement v a own (point (coll final) c) tt (others c k) in
      let made_own = complement_automaton v a own (point (coll final) c) tt (others c k) (point (five_of s l t i final) c) refl in (
        (a, r, own, made_own, made),
        record {
          first = a;
          made = r;
          first_is = own;
          made_is = made_own;
          words = λ word. complements_accept_others v r a word own (subst IsDeterministic (five_equal m is) one) (subst IsComplete (five_equal m is) whole) made;
        },
      )

-- the product of two terms of five sets is a term of five sets
module _ (s l t i f s' l' t' i' f' rs rl rt ri rf : CompsD) (n : ℕ) (c : List Atom) where
  pub is_product_at : length c ≡ n → IsAutomatonAt (five_of s l t i f) c → IsAutomatonAt (five_of s' l' t' i' f') c → ArePairs n (coll s) (coll s') (coll rs) → IsIntersection n (coll l) (coll l') (coll rl) → AreSideBySide n (coll t) (coll t') (coll rt) → ArePairs n (coll i) (coll i') (coll ri) → ArePairs n (coll f) (coll f') (coll rf) →
      IsProductAt (five_of s l t i f) (five_of s' l' t' i' f') (five_of rs rl rt ri rf) c × AcceptsBothAt (five_of s l t i f) (five_of s' l' t' i' f') (five_of rs rl rt ri rf) c
  is_product_at k h h' states letters steps initial final =
      let a = automaton_at s l t i f c in
      let b = automaton_at s' l' t' i' f' c in
      let m = automaton_at rs rl rt ri rf c in
      let is = five_machine s l t i f c h in
      let is' = five_machine s' l' t' i' f' c h' in
      let made : IsProductOf m a b = record {
        states = (tt, states c k);
        letters = (tt, letters c k);
        steps = (tt, steps c k);
        initial = (tt, initial c k);
        final = (tt, final c k);
      } in
      let own = product_automaton (point (five_of s l t i f) c) (point (five_of s' l' t' i' f') c) a b m is is' made (point (five_of rs rl rt ri rf) c) refl in (
        (a, b, m, is, is', own, made),
        record {
          first = a;
          second = b;
          made = m;
          first_is = is;
          second_is = is';
          made_is = own;
          words = λ word. products_accept_both m a b word made;
        },
      )

-- ---- throughout the choices that a constraint admits
module _ (n : ℕ) (u : List (List Lit)) (a r : TermD) (s l t i f : CompsD) (is : a ≡ five_of s l t i f) where
  -- the states, the letters, the steps and the initial states stay, and others are final
  pub complement_throughout : (s2 l2 t2 i2 f2 : CompsD) (others : TermD) → HoldsThroughout n u (IsCompleteDeterministicAt a) → IsColl others → IsDifference n (coll s2) (coll f2) others → s2 ≡ s → l2 ≡ l → t2 ≡ t → i2 ≡ i → f2 ≡ f →
      r ≡ five_terms (coll s2) (coll l2) (coll t2) (coll i2) others → HoldsThroughout n u (IsComplementAt a r) × HoldsThroughout n u (AcceptsOthersAt a r)
  complement_throughout s2 l2 t2 i2 f2 others whole set difference es el et ei ef made =
      let final : CompsD = set.0 in
      let here : r ≡ five_of s l t i final = rw (made, es, el, et, ei, set.1) in
      let one : IsDifference n (coll s2) (coll f2) (coll final) = subst (λ z. IsDifference n (coll s2) (coll f2) z) set.1 difference in
      let two : IsDifference n (coll s) (coll f) (coll final) = subst (λ z. IsDifference n (coll z) (coll f) (coll final)) es (subst (λ z. IsDifference n (coll s2) (coll z) (coll final)) ef one) in
      let both : (c : List Atom) → length c ≡ n → IsTrue (holds c u) → IsComplementAt a r c × AcceptsOthersAt a r c = λ c k h.
      let at = is_complement_at s l t i f c n final k (subst (λ z. IsCompleteDeterministicAt z c) is (whole c k h)) two in
      subst (λ z. IsComplementAt z r c × AcceptsOthersAt z r c) (sym is) (subst (λ z. IsComplementAt (five_of s l t i f) z c × AcceptsOthersAt (five_of s l t i f) z c) (sym here) at) in
      (λ c k h. (both c k h).0, λ c k h. (both c k h).1)

  pub product_throughout : (b : TermD) (s' l' t' i' f' : CompsD) (states letters steps initial final : TermD) → b ≡ five_of s' l' t' i' f' → HoldsThroughout n u (IsAutomatonAt a) → HoldsThroughout n u (IsAutomatonAt b) →
      IsColl states → IsColl letters → IsColl steps → IsColl initial → IsColl final →
      ArePairs n (coll s) (coll s') states → IsIntersection n (coll l) (coll l') letters → AreSideBySide n (coll t) (coll t') steps → ArePairs n (coll i) (coll i') initial → ArePairs n (coll f) (coll f') final →
      r ≡ five_terms states letters steps initial final → HoldsThroughout n u (IsProductAt a b r) × HoldsThroughout n u (AcceptsBothAt a b r)
  product_throughout b s' l' t' i' f' states letters steps initial final is' first second set1 set2 set3 set4 set5 pairs common along starts ends made =
      let here : r ≡ five_of set1.0 set2.0 set3.0 set4.0 set5.0 = rw (made, set1.1, set2.1, set3.1, set4.1, set5.1) in
      let one = subst (λ z. ArePairs n (coll s) (coll s') z) set1.1 pairs in
      let two = subst (λ z. IsIntersection n (coll l) (coll l') z) set2.1 common in
      let three = subst (λ z. AreSideBySide n (coll t) (coll t') z) set3.1 along in
      let four = subst (λ z. ArePairs n (coll i) (coll i') z) set4.1 starts in
      let five = subst (λ z. ArePairs n (coll f) (coll f') z) set5.1 ends in
      let both : (c : List Atom) → length c ≡ n → IsTrue (holds c u) → IsProductAt a b r c × AcceptsBothAt a b r c = λ c k h.
      let at = is_product_at s l t i f s' l' t' i' f' set1.0 set2.0 set3.0 set4.0 set5.0 n c k (subst (λ z. IsAutomatonAt z c) is (first c k h)) (subst (λ z. IsAutomatonAt z c) is' (second c k h)) one two three four five in
      subst (λ z. IsProductAt z b r c × AcceptsBothAt z b r c) (sym is) (subst (λ z. IsProductAt (five_of s l t i f) z r c × AcceptsBothAt (five_of s l t i f) z r c) (sym is') (subst (λ z. IsProductAt (five_of s l t i f) (five_of s' l' t' i' f') z c × AcceptsBothAt (five_of s l t i f) (five_of s' l' t' i' f') z c) (sym here) at)) in
      (λ c k h. (both c k h).0, λ c k h. (both c k h).1)

  pub empty_throughout : (f2 : CompsD) (states found : TermD) (q : List (List Lit)) → HoldsThroughout n u (IsReachAt a states) → f2 ≡ f → IsIntersection n states (coll f2) found → HoldsUnless n (λ c. (x : PointValue) × IsIn x (point found c)) q →
      HoldsThroughout n u (λ c. IsTrue (holds c q) ↔ IsEmptyAt a c) × HoldsThroughout n u (λ c. IsFalse (holds c q) → AcceptsSomeAt a c)
  empty_throughout f2 states found q reach ef both unless = (λ c k h. (at c k h).0, λ c k h. (at c k h).1)
    where
      at : (c : List Atom) → length c ≡ n → IsTrue (holds c u) → (IsTrue (holds c q) ↔ IsEmptyAt a c) × (IsFalse (holds c q) → AcceptsSomeAt a c)
      at c k h =
          let reached : IsReachAt (five_of s l t i f) states c = subst (λ z. IsReachAt z states c) is (reach c k h) in
          let among : IsIntersection n states (coll f) found = subst (λ z. IsIntersection n states (coll z) found) ef both in
          subst (λ z. (IsTrue (holds c q) ↔ IsEmptyAt z c) × (IsFalse (holds c q) → AcceptsSomeAt z c)) (sym is) (is_empty s l t i f c n states found (holds c q) k reached among (unless c k))
