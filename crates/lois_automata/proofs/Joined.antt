-- Pairs of members, and steps of two automata side by side.
use Rattle.std.proofs.Common.{◌≡◌, ℕ, ◌+◌, Bool, ◌&&◌, ◌↔◌, List, ◌++◌, length, length-append, sym, subst, ◌∙◌, arith}
use Rattle.std.specs.Bool.{IsTrue}
use Rattle.lois_base.specs.Atom.{Atom}
use Rattle.lois_base.specs.Data.{TermD, coll, CompD, comp, CompsD}
use Rattle.lois_base.specs.Fits.{CompFits, Fits}
use Rattle.lois_base.specs.Truth.{holds}
use Rattle.lois_base.specs.Validity.{AdmitsConstraint, AdmitsTerm, AdmitsComp, HasBoundedWidths, CompHasBoundedWidths}
use Rattle.lois_base.specs.Values.{PointValue, point, IsSame, IsIn, IsExtension}
use Rattle.lois_base.specs.declared.guards.Lit.{Lit}
use Rattle.lois_base.proofs.Members.{same_refl, same_sym, same_trans}
use Rattle.lois_algebra.specs.Gathered.{IsAmong, IsCompMember, IsPut}
use Rattle.lois_base.proofs.Connectives.{both_true}
use Rattle.lois_meaning.specs.Automata.{IsPair, IsTriple}
use Rattle.lois_meaning.proofs.Automata.{triple_same}
use Rattle.lois_meaning.proofs.Operations.{pair_same, pair_to}
use Rattle.lois_meaning.proofs.Tuples.{pair_parts, triple_to, triples_same}
use Rattle.lois_automata.specs.Adding.{IsMadeOfTwo, IsPairOf, IsStepOf, AddsOfTwo}
use Rattle.lois_automata.specs.Built.{AreBeside, ArePairs}
use Rattle.lois_automata.specs.Projections.{HasStepIn, AreSideBySide, pair_of, triple_of}
use Rattle.lois_automata.proofs.Adding.{added_put, adds_nothing, two_among}
use Rattle.lois_automata.proofs.PairedComps.{made_of_two}
use Rattle.lois_automata.proofs.Written.{pair_is, triple_is, triple_here, triple_term}

pair_of_same : (x y w x' y' w' : PointValue) → IsSame x x' → IsSame y y' → IsSame w w' → IsPairOf x y w → IsPairOf x' y' w'
pair_of_same x y w x' y' w' a b s h = pair_to w w' x' y' s (pair_parts w x y x' y' a b h)

module _ (n : ℕ) (k q : CompD) (m : ℕ) (g : List (List Lit)) (one two : TermD) (beside : AreBeside n k q m g one two) where
  pub adds_pair : (before after : CompsD) → IsPut (comp m g (pair_of one two)) before after → CompFits n (comp m g (pair_of one two)) →
      ((o : Bool) → AdmitsComp o k → AdmitsComp o q → AdmitsConstraint o g × AdmitsTerm o one × AdmitsTerm o two) → (CompHasBoundedWidths k → HasBoundedWidths one) → (CompHasBoundedWidths q → HasBoundedWidths two) → AddsOfTwo IsPairOf n k q before after
  adds_pair before after put fits admits first second = added_put n (comp m g (pair_of one two)) _ _ _ _ before after put
      (made_of_two n k q m g one two beside IsPairOf g (pair_of one two) pair_of_same
      (λ c e l x. (x, pair_is one two (c ++ e)))
      (λ c e w l x h. (x, pair_same (point (pair_of one two) (c ++ e)) w (point one (c ++ e)) (point two (c ++ e)) (point one (c ++ e)) (point two (c ++ e)) (same_refl (point one (c ++ e))) (same_refl (point two (c ++ e))) (pair_is one two (c ++ e)) h)))
      (λ f. fits)
      (λ o a. let h = admits o a.0 a.1 in (h.0, (h.1, (h.2, tt))))
      (λ u. (omega arith, omega arith, (first u.0, (second u.1, tt))))

pub are_pairs : (n : ℕ) (ks qs made : CompsD) → ((c : List Atom) → length c ≡ n → (w : PointValue) → IsIn w (point (coll made) c) ↔ IsMadeOfTwo IsPairOf (IsAmong ks c) (IsAmong qs c) w) → ArePairs n (coll ks) (coll qs) (coll made)
are_pairs n ks qs made same c l w = (
  λ i. (two_among IsPairOf ks qs c w).0 ((same c l w).0 i),
  λ h. (same c l w).1 ((two_among IsPairOf ks qs c w).1 h),
)

-- ---- steps with the same letter
step_of_same : (x y w x' y' w' : PointValue) → IsSame x x' → IsSame y y' → IsSame w w' → IsStepOf x y w → IsStepOf x' y' w'
step_of_same x y w x' y' w' a b e (p, l, p', q, q', s, s', t, u, i, j, r) =
    (p, l, p', q, q', s, s', triple_to x x' p l p' a t, triple_to y y' q l q' b u, i, j, triple_to w w' s l s' e r)

-- where one of the two comprehensions makes no triples there is no step
no_triple : (t : TermD) (d : List Atom) (x p l q : PointValue) → ((a b e : TermD) → t ≡ triple_of a b e → ⊥) → IsSame (point t d) x → IsTriple x p l q → ⊥
no_triple t d x p l q never s h =
    let f = triple_term t d p l q (triple_to x (point t d) p l q (same_sym (point t d) x s) h) in
    never f.0 f.1 f.2 f.3

module _ (n : ℕ) (k q : CompD) (m : ℕ) (g : List (List Lit)) (one two : TermD) (beside : AreBeside n k q m g one two) where
  pub first_is_no_step : (before : CompsD) → ((a b e : TermD) → one ≡ triple_of a b e → ⊥) → AddsOfTwo IsStepOf n k q before before
  first_is_no_step before never = adds_nothing n _ _ _ _ before none
    where
      none : (c : List Atom) → length c ≡ n → (w : PointValue) → IsMadeOfTwo IsStepOf (IsCompMember k c) (IsCompMember q c) w → ⊥
      none c l w (x, y, i, j, (p, a, p', r, r', s, s', t, u, h, h', made)) =
          let f = (beside.made c l x y).0 (i, j) in
          no_triple one (c ++ f.0) x p a p' never f.2 t

  pub second_is_no_step : (before : CompsD) → ((a b e : TermD) → two ≡ triple_of a b e → ⊥) → AddsOfTwo IsStepOf n k q before before
  second_is_no_step before never = adds_nothing n _ _ _ _ before none
    where
      none : (c : List Atom) → length c ≡ n → (w : PointValue) → IsMadeOfTwo IsStepOf (IsCompMember k c) (IsCompMember q c) w → ⊥
      none c l w (x, y, i, j, (p, a, p', r, r', s, s', t, u, h, h', made)) =
          let f = (beside.made c l x y).0 (i, j) in
          no_triple two (c ++ f.0) y r a r' never f.3 u

-- the step of two steps as it is written
abbrev pub step_term : TermD → TermD → TermD → TermD → TermD → TermD
step_term p l p' r r' = triple_of (pair_of p r) l (pair_of p' r')

step_is : (p l p' r b r' : TermD) (d : List Atom) → IsSame (point l d) (point b d) → IsStepOf (point (triple_of p l p') d) (point (triple_of r b r') d) (point (step_term p l p' r r') d)
step_is p l p' r b r' d s = (
  point p d,
  point l d,
  point p' d,
  point r d,
  point r' d,
  point (pair_of p r) d,
  point (pair_of p' r') d,
  triple_is p l p' d,
  triple_same (point (triple_of r b r') d) (point r d) (point b d) (point r' d) (point r d) (point l d) (point r' d) (same_refl (point r d)) (same_sym (point l d) (point b d) s) (same_refl (point r' d)) (triple_is r b r' d),
  pair_is p r d,
  pair_is p' r' d,
  triple_is (pair_of p r) l (pair_of p' r') d,
)

is_step : (p l p' r b r' : TermD) (d : List Atom) (w : PointValue) → IsStepOf (point (triple_of p l p') d) (point (triple_of r b r') d) w → IsSame (point l d) (point b d) × IsSame (point (step_term p l p' r r') d) w
is_step p l p' r b r' d w (P, L, P', Q, Q', S, S', t, u, i, j, h) =
    let one = triple_here p l p' d P L P' t in
    let two = triple_here r b r' d Q L Q' u in
    let letter : IsSame (point l d) L = same_sym L (point l d) one.1 in
    let source : IsSame (point (pair_of p r) d) S = pair_same (point (pair_of p r) d) S (point p d) (point r d) P Q (same_sym P (point p d) one.0) (same_sym Q (point r d) two.0) (pair_is p r d) i in
    let target : IsSame (point (pair_of p' r') d) S' = pair_same (point (pair_of p' r') d) S' (point p' d) (point r' d) P' Q' (same_sym P' (point p' d) one.2) (same_sym Q' (point r' d) two.2) (pair_is p' r' d) j in (
      same_trans (point l d) L (point b d) letter two.1,
      triples_same (point (step_term p l p' r r') d) w (point (pair_of p r) d) (point l d) (point (pair_of p' r') d) S L S' source letter target (triple_is (pair_of p r) l (pair_of p' r') d) h,
    )

module _ (n : ℕ) (k q : CompD) (m : ℕ) (g found guard : List (List Lit)) (p l p' r b r' : TermD) (beside : AreBeside n k q m g (triple_of p l p') (triple_of r b r'))
    (is : (d : List Atom) → length d ≡ n + m → IsTrue (holds d found) ↔ IsSame (point l d) (point b d)) (met : (d : List Atom) → holds d guard ≡ (holds d g && holds d found)) where
  made : (c e : List Atom) → length c ≡ n → IsExtension c m guard e → IsExtension c m g e × IsStepOf (point (triple_of p l p') (c ++ e)) (point (triple_of r b r') (c ++ e)) (point (step_term p l p' r r') (c ++ e))
  made c e len x =
      let d = c ++ e in
      let all : length d ≡ n + m = length-append c e ∙ omega (arith, len, x.count) in
      let both = (both_true (holds d g) (holds d found)).0 (sym (met d) ∙ x.guard) in
      (record { count = x.count; guard = both.0 }, step_is p l p' r b r' d ((is d all).0 both.1))

  only : (c e : List Atom) (w : PointValue) → length c ≡ n → IsExtension c m g e → IsStepOf (point (triple_of p l p') (c ++ e)) (point (triple_of r b r') (c ++ e)) w → IsExtension c m guard e × IsSame (point (step_term p l p' r r') (c ++ e)) w
  only c e w len x h =
      let d = c ++ e in
      let all : length d ≡ n + m = length-append c e ∙ omega (arith, len, x.count) in
      let f = is_step p l p' r b r' d w h in
      (record { count = x.count; guard = met d ∙ (both_true (holds d g) (holds d found)).1 (x.guard, (is d all).1 f.0) }, f.1)

  pub adds_step : (before after : CompsD) → IsPut (comp m guard (step_term p l p' r r')) before after → CompFits n (comp m guard (step_term p l p' r r')) →
      ((o : Bool) → AdmitsComp o k → AdmitsComp o q → AdmitsConstraint o guard × AdmitsTerm o (triple_of p l p') × AdmitsTerm o (triple_of r b r')) → (CompHasBoundedWidths k → HasBoundedWidths (triple_of p l p')) → (CompHasBoundedWidths q → HasBoundedWidths (triple_of r b r')) → AddsOfTwo IsStepOf n k q before after
  adds_step before after put fits admits first second = added_put n (comp m guard (step_term p l p' r r')) _ _ _ _ before after put
      (made_of_two n k q m g (triple_of p l p') (triple_of r b r') beside IsStepOf guard (step_term p l p' r r') step_of_same made only)
      (λ f. fits)
      (λ o a. let h = admits o a.0 a.1 in (h.0, ((h.1.0, (h.2.0, tt)), (h.1.1.0, ((h.1.1.1.0, (h.2.1.1.0, tt)), tt)))))
      (λ u. let x = first u.0 in let y = second u.1 in (omega arith, omega arith, ((omega arith, omega arith, (x.2.0, (y.2.0, tt))), (x.2.1.0, ((omega arith, omega arith, (x.2.1.1.0, (y.2.1.1.0, tt))), tt)))))

-- the step as it is put into the list
pub step_put : (n : ℕ) (k q : CompD) (m : ℕ) (g found guard : List (List Lit)) (one two p l p' r b r' item : TermD) (before after : CompsD) → one ≡ triple_of p l p' → two ≡ triple_of r b r' → item ≡ step_term p l p' r r' → AreBeside n k q m g one two →
    ((d : List Atom) → length d ≡ n + m → IsTrue (holds d found) ↔ IsSame (point l d) (point b d)) → ((d : List Atom) → holds d guard ≡ (holds d g && holds d found)) → IsPut (comp m guard item) before after → CompFits n (comp m guard one) → Fits (n + m) two →
    ((o : Bool) → AdmitsComp o k → AdmitsComp o q → AdmitsConstraint o g × AdmitsTerm o one × AdmitsTerm o two) → ((o : Bool) → AdmitsConstraint o g → AdmitsTerm o l → AdmitsTerm o b → AdmitsConstraint o guard) → (CompHasBoundedWidths k → HasBoundedWidths one) → (CompHasBoundedWidths q → HasBoundedWidths two) → AddsOfTwo IsStepOf n k q before after
step_put n k q m g found guard one two p l p' r b r' item before after e1 e2 e3 beside is met put fits second admits own widths widths' =
    let x : Fits (n + m) (triple_of p l p') = subst (λ z. Fits (n + m) z) e1 fits.2 in
    let y : Fits (n + m) (triple_of r b r') = subst (λ z. Fits (n + m) z) e2 second in
    adds_step n k q m g found guard p l p' r b r' (subst (λ z. AreBeside n k q m g z (triple_of r b r')) e1 (subst (λ z. AreBeside n k q m g one z) e2 beside)) is met before after (subst (λ z. IsPut (comp m guard z) before after) e3 put)
    (fits.0, fits.1, ((x.0, (y.0, tt)), (x.1.0, ((x.1.1.0, (y.1.1.0, tt)), tt))))
    (λ o a a'.
    let h = admits o a a' in
    let one_admits : AdmitsTerm o (triple_of p l p') = subst (λ z. AdmitsTerm o z) e1 h.1 in
    let two_admits : AdmitsTerm o (triple_of r b r') = subst (λ z. AdmitsTerm o z) e2 h.2 in
    (own o h.0 one_admits.1.0 two_admits.1.0, one_admits, two_admits))
    (λ u. subst HasBoundedWidths e1 (widths u)) (λ u. subst HasBoundedWidths e2 (widths' u))

pub are_side_by_side : (n : ℕ) (ks qs made : CompsD) → ((c : List Atom) → length c ≡ n → (w : PointValue) → IsIn w (point (coll made) c) ↔ IsMadeOfTwo IsStepOf (IsAmong ks c) (IsAmong qs c) w) → AreSideBySide n (coll ks) (coll qs) (coll made)
are_side_by_side n ks qs made same c l w = (
  λ i. there ((two_among IsStepOf ks qs c w).0 ((same c l w).0 i)),
  λ h. (same c l w).1 ((two_among IsStepOf ks qs c w).1 (back h)),
)
  where
    there : IsMadeOfTwo IsStepOf (λ x. IsIn x (point (coll ks) c)) (λ y. IsIn y (point (coll qs) c)) w → (p a p' q q' x x' : PointValue) × HasStepIn (point (coll ks) c) p a p' × HasStepIn (point (coll qs) c) q a q' × IsPair x p q × IsPair x' p' q' × IsTriple w x a x'
    there (x, y, i, j, (p, a, p', q, q', s, s', t, u, h, h', r)) = (p, a, p', q, q', s, s', (x, i, t), (y, j, u), h, h', r)

    back : ((p a p' q q' x x' : PointValue) × HasStepIn (point (coll ks) c) p a p' × HasStepIn (point (coll qs) c) q a q' × IsPair x p q × IsPair x' p' q' × IsTriple w x a x') → IsMadeOfTwo IsStepOf (λ x. IsIn x (point (coll ks) c)) (λ y. IsIn y (point (coll qs) c)) w
    back (p, a, p', q, q', s, s', (x, i, t), (y, j, u), h, h', r) = (x, y, i, j, (p, a, p', q, q', s, s', t, u, h, h', r))
