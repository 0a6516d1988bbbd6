-- Moves back from the targets of two steps with the same letter to their sources.
use Rattle.std.proofs.Common.{◌≡◌, ℕ, ◌+◌, ◌≤◌, Bool, ◌&&◌, ◌↔◌, List, ◌++◌, length, length-append, sym, subst, ◌∙◌, arith}
use Rattle.std.specs.Bool.{IsTrue}
use Rattle.lois_base.specs.Atom.{Atom}
use Rattle.lois_base.specs.Data.{TermD, coll, CompD, comp, CompsD}
use Rattle.lois_base.specs.Fits.{CompFits, Fits}
use Rattle.lois_base.specs.Truth.{holds}
use Rattle.lois_base.specs.Validity.{AdmitsConstraint, AdmitsTerm, AdmitsComp, HasBoundedWidths, CompHasBoundedWidths}
use Rattle.lois_base.specs.Values.{PointValue, point, IsSame, IsIn, IsExtension}
use Rattle.lois_base.specs.declared.guards.Lit.{Lit}
use Rattle.lois_base.proofs.Connectives.{both_true}
use Rattle.lois_base.proofs.Members.{same_refl, same_sym, same_trans}
use Rattle.lois_algebra.specs.Gathered.{IsAmong, IsCompMember, IsPut}
use Rattle.lois_terms.specs.Shapes.{shape_of}
use Rattle.lois_relate.specs.Apart.{AreNeverSame}
use Rattle.lois_meaning.specs.Automata.{IsTriple}
use Rattle.lois_meaning.proofs.Automata.{triple_same}
use Rattle.lois_meaning.proofs.Operations.{pair_same, pair_to}
use Rattle.lois_meaning.proofs.Tuples.{triple_to}
use Rattle.lois_automata.specs.Adding.{AddsOfTwo, IsMadeOfTwo}
use Rattle.lois_automata.specs.Built.{AreBeside}
use Rattle.lois_automata.specs.Projections.{pair_of, triple_of}
use Rattle.lois_automata.proofs.Adding.{added_put, adds_nothing, two_among}
use Rattle.lois_automata.proofs.PairedComps.{made_of_two}
use Rattle.lois_automata.proofs.Written.{pair_is, triple_here, triple_is, triple_term}
use Rattle.lois_minimise.specs.Classes.{AreBackward, IsMoveBack, IsOrderedTerm}
use Rattle.lois_minimise.proofs.Ordered.{before_same, ordered_admits, ordered_fits, ordered_is, ordered_parts, ordered_same, ordered_usual}

-- ---- two comprehensions without such a move
stepless : (t : TermD) (d : List Atom) (x P L Q : PointValue) → ((p l q : TermD) → t ≡ triple_of p l q → ⊥) → IsSame (point t d) x → IsTriple x P L Q → ⊥
stepless t d x P L Q never s i =
    let f = triple_term t d P L Q (triple_to x (point t d) P L Q (same_sym (point t d) x s) i) in
    never f.0 f.1 f.2 f.3

parts_at : (t p l q : TermD) (d : List Atom) (x P L Q : PointValue) → t ≡ triple_of p l q → IsSame (point t d) x → IsTriple x P L Q → IsSame P (point p d) × IsSame L (point l d) × IsSame Q (point q d)
parts_at t p l q d x P L Q is s i =
    let here : IsTriple (point t d) P L Q = triple_to x (point t d) P L Q (same_sym (point t d) x s) i in
    triple_here p l q d P L Q (subst (λ z. IsTriple (point z d) P L Q) is here)

module _ (m : ℕ) (g : List (List Lit)) (t : TermD) (n : ℕ) (h : List (List Lit)) (s : TermD) where
  pub first_moveless : ((p l q : TermD) → t ≡ triple_of p l q → ⊥) → (c : List Atom) (w : PointValue) → IsMadeOfTwo IsMoveBack (IsCompMember (comp m g t) c) (IsCompMember (comp n h s) c) w → ⊥
  first_moveless never c w (x, y, (e, _, same), _, (P, L, P', Q, Q', S, T, one, two, _, _, _, _)) = stepless t (c ++ e) x P L P' never same one

  pub second_moveless : ((p l q : TermD) → s ≡ triple_of p l q → ⊥) → (c : List Atom) (w : PointValue) → IsMadeOfTwo IsMoveBack (IsCompMember (comp m g t) c) (IsCompMember (comp n h s) c) w → ⊥
  second_moveless never c w (x, y, _, (e, _, same), (P, L, P', Q, Q', S, T, one, two, _, _, _, _)) = stepless s (c ++ e) y Q L Q' never same two

  module _ (p l q p' l' q' : TermD) (is : t ≡ triple_of p l q) (is' : s ≡ triple_of p' l' q') where
    pub sources_turned : (shape_of p ≤ shape_of p' → ⊥) → (c : List Atom) (w : PointValue) → IsMadeOfTwo IsMoveBack (IsCompMember (comp m g t) c) (IsCompMember (comp n h s) c) w → ⊥
    sources_turned never c w (x, y, (e, _, same), (e', _, same'), (P, L, P', Q, Q', S, T, one, two, order, _, _, _)) =
        let first = parts_at t p l q (c ++ e) x P L P' is same one in
        let second = parts_at s p' l' q' (c ++ e') y Q L Q' is' same' two in
        never (before_same P Q (point p (c ++ e)) (point p' (c ++ e')) first.0 second.0 order)

    pub letters_never_same : AreNeverSame l l' → (c : List Atom) (w : PointValue) → IsMadeOfTwo IsMoveBack (IsCompMember (comp m g t) c) (IsCompMember (comp n h s) c) w → ⊥
    letters_never_same apart c w (x, y, (e, _, same), (e', _, same'), (P, L, P', Q, Q', S, T, one, two, order, _, _, _)) =
        let first = parts_at t p l q (c ++ e) x P L P' is same one in
        let second = parts_at s p' l' q' (c ++ e') y Q L Q' is' same' two in
        apart (c ++ e) (c ++ e') (same_trans (point l (c ++ e)) L (point l' (c ++ e')) (same_sym L (point l (c ++ e)) first.1) second.1)

pub no_moves_added : (n : ℕ) (k q : CompD) (before : CompsD) → ((c : List Atom) (w : PointValue) → IsMadeOfTwo IsMoveBack (IsCompMember k c) (IsCompMember q c) w → ⊥) → AddsOfTwo IsMoveBack n k q before before
no_moves_added n k q before never = adds_nothing n _ _ _ _ before (λ c l w. never c w)

-- ---- two comprehensions beside one another
module _ (n : ℕ) (k q : CompD) (m : ℕ) (g : List (List Lit)) (one two : TermD) (beside : AreBeside n k q m g one two) (before : CompsD) where
  pub first_is_no_step : ((a b e : TermD) → one ≡ triple_of a b e → ⊥) → AddsOfTwo IsMoveBack n k q before before
  first_is_no_step never = adds_nothing n _ _ _ _ before none
    where
      none : (c : List Atom) → length c ≡ n → (w : PointValue) → IsMadeOfTwo IsMoveBack (IsCompMember k c) (IsCompMember q c) w → ⊥
      none c l w (x, y, i, j, (P, L, P', Q, Q', S, T, t, u, _, _, _, _)) =
          let f = (beside.made c l x y).0 (i, j) in
          stepless one (c ++ f.0) x P L P' never f.2 t

  pub second_is_no_step : ((a b e : TermD) → two ≡ triple_of a b e → ⊥) → AddsOfTwo IsMoveBack n k q before before
  second_is_no_step never = adds_nothing n _ _ _ _ before none
    where
      none : (c : List Atom) → length c ≡ n → (w : PointValue) → IsMadeOfTwo IsMoveBack (IsCompMember k c) (IsCompMember q c) w → ⊥
      none c l w (x, y, i, j, (P, L, P', Q, Q', S, T, t, u, _, _, _, _)) =
          let f = (beside.made c l x y).0 (i, j) in
          stepless two (c ++ f.0) y Q L Q' never f.3 u

  pub sources_out_of_order : (p l p' r b r' : TermD) → one ≡ triple_of p l p' → two ≡ triple_of r b r' → (shape_of p ≤ shape_of r → ⊥) → AddsOfTwo IsMoveBack n k q before before
  sources_out_of_order p l p' r b r' e1 e2 never = adds_nothing n _ _ _ _ before none
    where
      none : (c : List Atom) → length c ≡ n → (w : PointValue) → IsMadeOfTwo IsMoveBack (IsCompMember k c) (IsCompMember q c) w → ⊥
      none c len w (x, y, i, j, (P, L, P', Q, Q', S, T, t, u, order, _, _, _)) =
          let f = (beside.made c len x y).0 (i, j) in
          let d = c ++ f.0 in
          let first = parts_at one p l p' d x P L P' e1 f.2 t in
          let second = parts_at two r b r' d y Q L Q' e2 f.3 u in
          never (before_same P Q (point p d) (point r d) first.0 second.0 order)

move_same : (x y w x' y' w' : PointValue) → IsSame x x' → IsSame y y' → IsSame w w' → IsMoveBack x y w → IsMoveBack x' y' w'
move_same x y w x' y' w' s s' s2 (P, L, P', Q, Q', S, T, t, u, order, source, target, pair) =
    (P, L, P', Q, Q', S, T, triple_to x x' P L P' s t, triple_to y y' Q L Q' s' u, order, source, target, pair_to w w' T S s2 pair)

-- the move as it is written
module _ (p l p' r b r' t : TermD) (ordered : IsOrderedTerm p' r' t) where
  move_is : (d : List Atom) → shape_of p ≤ shape_of r → IsSame (point l d) (point b d) → IsMoveBack (point (triple_of p l p') d) (point (triple_of r b r') d) (point (pair_of t (pair_of p r)) d)
  move_is d h s = (
    point p d,
    point l d,
    point p' d,
    point r d,
    point r' d,
    point (pair_of p r) d,
    point t d,
    triple_is p l p' d,
    triple_same (point (triple_of r b r') d) (point r d) (point b d) (point r' d) (point r d) (point l d) (point r' d) (same_refl (point r d)) (same_sym (point l d) (point b d) s) (same_refl (point r' d)) (triple_is r b r' d),
    h,
    pair_is p r d,
    ordered_is p' r' t d ordered,
    pair_is t (pair_of p r) d,
  )

  is_move : (d : List Atom) (w : PointValue) → IsMoveBack (point (triple_of p l p') d) (point (triple_of r b r') d) w → IsSame (point l d) (point b d) × IsSame (point (pair_of t (pair_of p r)) d) w
  is_move d w (P, L, P', Q, Q', S, T, i, j, _, source, target, pair) =
      let one = triple_here p l p' d P L P' i in
      let two = triple_here r b r' d Q L Q' j in
      let sources : IsSame (point (pair_of p r) d) S = pair_same (point (pair_of p r) d) S (point p d) (point r d) P Q (same_sym P (point p d) one.0) (same_sym Q (point r d) two.0) (pair_is p r d) source in
      let targets : IsSame (point t d) T = ordered_same (point t d) T (point p' d) (point r' d) (ordered_is p' r' t d ordered) (ordered_parts T P' Q' (point p' d) (point r' d) one.2 two.2 target) in (
        same_trans (point l d) L (point b d) (same_sym L (point l d) one.1) two.1,
        pair_same (point (pair_of t (pair_of p r)) d) w (point t d) (point (pair_of p r) d) T S targets sources (pair_is t (pair_of p r) d) pair,
      )

  module _ (n : ℕ) (k q : CompD) (m : ℕ) (g found guard : List (List Lit)) (h : shape_of p ≤ shape_of r) (beside : AreBeside n k q m g (triple_of p l p') (triple_of r b r'))
      (is : (d : List Atom) → length d ≡ n + m → IsTrue (holds d found) ↔ IsSame (point l d) (point b d)) (met : (d : List Atom) → holds d guard ≡ (holds d g && holds d found)) where
    made : (c e : List Atom) → length c ≡ n → IsExtension c m guard e → IsExtension c m g e × IsMoveBack (point (triple_of p l p') (c ++ e)) (point (triple_of r b r') (c ++ e)) (point (pair_of t (pair_of p r)) (c ++ e))
    made c e len x =
        let d = c ++ e in
        let all : length d ≡ n + m = length-append c e ∙ omega (arith, len, x.count) in
        let both = (both_true (holds d g) (holds d found)).0 (sym (met d) ∙ x.guard) in
        (record { count = x.count; guard = both.0 }, move_is d h ((is d all).0 both.1))

    only : (c e : List Atom) (w : PointValue) → length c ≡ n → IsExtension c m g e → IsMoveBack (point (triple_of p l p') (c ++ e)) (point (triple_of r b r') (c ++ e)) w → IsExtension c m guard e × IsSame (point (pair_of t (pair_of p r)) (c ++ e)) w
    only c e w len x back =
        let d = c ++ e in
        let all : length d ≡ n + m = length-append c e ∙ omega (arith, len, x.count) in
        let f = is_move d w back in
        (record { count = x.count; guard = met d ∙ (both_true (holds d g) (holds d found)).1 (x.guard, (is d all).1 f.0) }, f.1)

    adds_move : (before after : CompsD) → IsPut (comp m guard (pair_of t (pair_of p r))) before after → CompFits n (comp m guard (triple_of p l p')) → Fits (n + m) (triple_of r b r') →
        ((o : Bool) → AdmitsComp o k → AdmitsComp o q → AdmitsConstraint o guard × AdmitsTerm o (triple_of p l p') × AdmitsTerm o (triple_of r b r')) → (CompHasBoundedWidths k → HasBoundedWidths (triple_of p l p')) → (CompHasBoundedWidths q → HasBoundedWidths (triple_of r b r')) → AddsOfTwo IsMoveBack n k q before after
    adds_move before after put fits second admits widths widths' = added_put n (comp m guard (pair_of t (pair_of p r))) _ _ _ _ before after put
        (made_of_two n k q m g (triple_of p l p') (triple_of r b r') beside IsMoveBack guard (pair_of t (pair_of p r)) move_same made only)
        (λ f. let one = fits.2 in (fits.0, fits.1, (ordered_fits (n + m) p' r' t ordered one.1.1.0 second.1.1.0, ((one.0, (second.0, tt)), tt))))
        (λ o a. let f = admits o a.0 a.1 in (f.0, (ordered_admits o p' r' t ordered f.1.1.1.0 f.2.1.1.0, ((f.1.0, (f.2.0, tt)), tt))))
        (λ u. let x = widths u.0 in let y = widths' u.1 in
        (omega arith, omega arith, (ordered_usual p' r' t ordered (omega arith, omega arith, (x.2.1.1.0, (y.2.1.1.0, tt))), ((omega arith, omega arith, (x.2.0, (y.2.0, tt))), tt))))

-- the move as it is put into the list
pub move_put : (n : ℕ) (k q : CompD) (m : ℕ) (g found guard : List (List Lit)) (one two p l p' r b r' t item : TermD) (before after : CompsD) → one ≡ triple_of p l p' → two ≡ triple_of r b r' → item ≡ pair_of t (pair_of p r) → IsOrderedTerm p' r' t → shape_of p ≤ shape_of r → AreBeside n k q m g one two →
    ((d : List Atom) → length d ≡ n + m → IsTrue (holds d found) ↔ IsSame (point l d) (point b d)) → ((d : List Atom) → holds d guard ≡ (holds d g && holds d found)) → IsPut (comp m guard item) before after → CompFits n (comp m guard one) → Fits (n + m) two →
    ((o : Bool) → AdmitsComp o k → AdmitsComp o q → AdmitsConstraint o g × AdmitsTerm o one × AdmitsTerm o two) → ((o : Bool) → AdmitsConstraint o g → AdmitsTerm o l → AdmitsTerm o b → AdmitsConstraint o guard) → (CompHasBoundedWidths k → HasBoundedWidths one) → (CompHasBoundedWidths q → HasBoundedWidths two) → AddsOfTwo IsMoveBack n k q before after
move_put n k q m g found guard one two p l p' r b r' t item before after e1 e2 e3 ordered h beside is met put fits second admits own widths widths' =
    adds_move p l p' r b r' t ordered n k q m g found guard h (subst (λ z. AreBeside n k q m g z (triple_of r b r')) e1 (subst (λ z. AreBeside n k q m g one z) e2 beside)) is met before after (subst (λ z. IsPut (comp m guard z) before after) e3 put)
    (fits.0, fits.1, subst (λ z. Fits (n + m) z) e1 fits.2) (subst (λ z. Fits (n + m) z) e2 second)
    (λ o a a'.
    let f = admits o a a' in
    let one_admits : AdmitsTerm o (triple_of p l p') = subst (λ z. AdmitsTerm o z) e1 f.1 in
    let two_admits : AdmitsTerm o (triple_of r b r') = subst (λ z. AdmitsTerm o z) e2 f.2 in
    (own o f.0 one_admits.1.0 two_admits.1.0, one_admits, two_admits))
    (λ u. subst HasBoundedWidths e1 (widths u)) (λ u. subst HasBoundedWidths e2 (widths' u))

-- ---- as a set
pub are_backward : (n : ℕ) (ks made : CompsD) → ((c : List Atom) → length c ≡ n → (w : PointValue) → IsIn w (point (coll made) c) ↔ IsMadeOfTwo IsMoveBack (IsAmong ks c) (IsAmong ks c) w) → (c : List Atom) → length c ≡ n → AreBackward (point (coll ks) c) (point (coll made) c)
are_backward n ks made same c l w = (
  λ i. (two_among IsMoveBack ks ks c w).0 ((same c l w).0 i),
  λ h. (same c l w).1 ((two_among IsMoveBack ks ks c w).1 h),
)
