-- Transitions as they are written, and the steps between classes that they give.
use Rattle.std.proofs.Common.{◌≡◌, ℕ, ◌↔◌, List, ◌++◌, length, ap, ◌∙◌, arith}
use Rattle.lois_base.specs.Atom.{Atom}
use Rattle.lois_base.specs.Data.{TermD, coll, comp, CompsD}
use Rattle.lois_base.specs.Values.{PointValue, point, IsIn, IsSame}
use Rattle.lois_base.specs.declared.guards.Lit.{Lit}
use Rattle.lois_base.proofs.Members.{same_refl, same_sym, in_same}
use Rattle.lois_algebra.specs.Gathered.{IsAmong, IsCompMember, IsPut}
use Rattle.lois_meaning.specs.Automata.{IsPair, IsTriple}
use Rattle.lois_meaning.proofs.Operations.{pair_exists, pair_both, pair_same, pair_to}
use Rattle.lois_meaning.proofs.Tuples.{triple_to, triples_same}
use Rattle.lois_automata.specs.Adding.{IsMadeOfOne}
use Rattle.lois_automata.specs.Built.{ArePairs, AreTargets}
use Rattle.lois_automata.specs.Projections.{AddsOfOne, HasStepIn, pair_of, triple_of}
use Rattle.lois_automata.specs.Reachability.{LeadsTo}
use Rattle.lois_automata.proofs.Adding.{added_put, adds_nothing, one_among}
use Rattle.lois_automata.proofs.Written.{pair_is, pair_term, triple_is}
use Rattle.lois_minimise.specs.Classes.{IsTransition, IsStepMove, AreStepMoves, AreTransitions, AreClassSteps, transition_of}

-- the parts of a transition's term have the values of its parts
transition_is : (q x l r z : TermD) (d : List Atom) → IsTransition (point (transition_of q x l r z) d) (point q d) (point x d) (point l d) (point r d) (point z d)
transition_is q x l r z d = (
  point (pair_of q x) d,
  point (pair_of (pair_of q x) l) d,
  point (pair_of r z) d,
  pair_is q x d,
  pair_is (pair_of q x) l d,
  pair_is r z d,
  pair_is (pair_of (pair_of q x) l) (pair_of r z) d,
)

-- the same five parts
abbrev SameFive : PointValue → PointValue → PointValue → PointValue → PointValue → PointValue → PointValue → PointValue → PointValue → PointValue → Type 0
SameFive q x l r z q' x' l' r' z' =
    IsSame q q' × IsSame x x' × IsSame l l' × IsSame r r' × IsSame z z'

transition_both : (y q x l r z q' x' l' r' z' : PointValue) → IsTransition y q x l r z → IsTransition y q' x' l' r' z' → SameFive q x l r z q' x' l' r' z'
transition_both y q x l r z q' x' l' r' z' (from, read, to, h1, h2, h3, h4) (from', read', to', k1, k2, k3, k4) =
    let outer = pair_both y y read to read' to' (same_refl y) h4 k4 in
    let middle = pair_both read read' from l from' l' outer.0 h2 k2 in
    let inner = pair_both from from' q x q' x' middle.0 h1 k1 in
    let ends = pair_both to to' r z r' z' outer.1 h3 k3 in
    (inner.0, inner.1, middle.1, ends.0, ends.1)

transition_to : (y y' q x l r z : PointValue) → IsSame y y' → IsTransition y q x l r z → IsTransition y' q x l r z
transition_to y y' q x l r z s (from, read, to, h1, h2, h3, h4) = (from, read, to, h1, h2, h3, pair_to y y' read to s h4)

abbrev pub move_of : TermD → TermD → TermD → TermD → TermD → TermD
move_of q x l r z = pair_of (triple_of q l r) (triple_of x l z)

made_move : (m : ℕ) (g : List (List Lit)) (q x l r z : TermD) (c : List Atom) (w : PointValue) → IsCompMember (comp m g (move_of q x l r z)) c w ↔ IsMadeOfOne IsStepMove (IsCompMember (comp m g (transition_of q x l r z)) c) w
made_move m g q x l r z c w = (there, back)
  where
    there : IsCompMember (comp m g (move_of q x l r z)) c w → IsMadeOfOne IsStepMove (IsCompMember (comp m g (transition_of q x l r z)) c) w
    there (e, ext, s) =
        let d = c ++ e in (
          point (transition_of q x l r z) d,
          (e, ext, same_refl (point (transition_of q x l r z) d)),
          (
            point q d,
            point x d,
            point l d,
            point r d,
            point z d,
            point (triple_of q l r) d,
            point (triple_of x l z) d,
            transition_is q x l r z d,
            triple_is q l r d,
            triple_is x l z d,
            pair_to (point (move_of q x l r z) d) w (point (triple_of q l r) d) (point (triple_of x l z) d) s (pair_is (triple_of q l r) (triple_of x l z) d),
          ),
        )

    back : IsMadeOfOne IsStepMove (IsCompMember (comp m g (transition_of q x l r z)) c) w → IsCompMember (comp m g (move_of q x l r z)) c w
    back (y, (e, ext, s), (Q, X, L, R, Z, S, T, h, hs, ht, pair)) =
        let d = c ++ e in
        let own = transition_to (point (transition_of q x l r z) d) y (point q d) (point x d) (point l d) (point r d) (point z d) s (transition_is q x l r z d) in
        let five = transition_both y (point q d) (point x d) (point l d) (point r d) (point z d) Q X L R Z own h in
        let one : IsSame (point (triple_of q l r) d) S = triples_same (point (triple_of q l r) d) S (point q d) (point l d) (point r d) Q L R five.0 five.2 five.3 (triple_is q l r d) hs in
        let two : IsSame (point (triple_of x l z) d) T = triples_same (point (triple_of x l z) d) T (point x d) (point l d) (point z d) X L Z five.1 five.2 five.4 (triple_is x l z d) ht in
        (e, ext, pair_same (point (move_of q x l r z) d) w (point (triple_of q l r) d) (point (triple_of x l z) d) S T one two (pair_is (triple_of q l r) (triple_of x l z) d) pair)

pub adds_move : (n m : ℕ) (g : List (List Lit)) (q x l r z : TermD) (before after : CompsD) → IsPut (comp m g (move_of q x l r z)) before after → AddsOfOne IsStepMove n (comp m g (transition_of q x l r z)) before after
adds_move n m g q x l r z before after put = added_put n (comp m g (move_of q x l r z)) _ _ _ _ before after put (λ c _ w. made_move m g q x l r z c w)
    (λ f. let qf = f.2.0.0.0 in let xf = f.2.0.0.1.0 in let lf = f.2.0.1.0 in let rf = f.2.1.0.0 in let zf = f.2.1.0.1.0 in
    (f.0, f.1, ((qf, (lf, (rf, tt))), ((xf, (lf, (zf, tt))), tt))))
    (λ o a. let qf = a.1.0.0.0 in let xf = a.1.0.0.1.0 in let lf = a.1.0.1.0 in let rf = a.1.1.0.0 in let zf = a.1.1.0.1.0 in
    (a.0, ((qf, (lf, (rf, tt))), ((xf, (lf, (zf, tt))), tt))))
    (λ u. let read = u.2.0 in let from = read.2.0 in let to = u.2.1.0 in let lf = read.2.1.0 in
    (omega arith, omega arith, ((omega arith, omega arith, (from.2.0, (lf, (to.2.0, tt)))), ((omega arith, omega arith, (from.2.1.0, (lf, (to.2.1.0, tt)))), tt))))

-- a comprehension whose item is no transition has none
pub no_move : (n m : ℕ) (g : List (List Lit)) (t : TermD) (before : CompsD) → ((q x l r z : TermD) → t ≡ transition_of q x l r z → ⊥) → AddsOfOne IsStepMove n (comp m g t) before before
no_move n m g t before never = adds_nothing n _ _ _ _ before none
  where
    none : (c : List Atom) → length c ≡ n → (w : PointValue) → IsMadeOfOne IsStepMove (IsCompMember (comp m g t) c) w → ⊥
    none c k w (y, (e, ext, s), (Q, X, L, R, Z, S, T, (from, read, to, h1, h2, h3, h4), hs, ht, pair)) =
        let d = c ++ e in
        let outer = pair_term t d read to (pair_to y (point t d) read to (same_sym (point t d) y s) h4) in
        let middle = pair_term outer.0 d from L (pair_to read (point outer.0 d) from L outer.3 h2) in
        let inner = pair_term middle.0 d Q X (pair_to from (point middle.0 d) Q X middle.3 h1) in
        let ends = pair_term outer.1 d R Z (pair_to to (point outer.1 d) R Z outer.4 h3) in
        let first : outer.0 ≡ pair_of (pair_of inner.0 inner.1) middle.1 = middle.2 ∙ ap (λ z. pair_of z middle.1) inner.2 in
        never inner.0 inner.1 middle.1 ends.0 ends.1 (outer.2 ∙ (ap (λ z. pair_of z outer.1) first ∙ ap (pair_of (pair_of (pair_of inner.0 inner.1) middle.1)) ends.2))

pub are_step_moves : (n : ℕ) (whole made : CompsD) → ((c : List Atom) → length c ≡ n → (w : PointValue) → IsIn w (point (coll made) c) ↔ IsMadeOfOne IsStepMove (IsAmong whole c) w) → AreStepMoves n (coll whole) (coll made)
are_step_moves n whole made same c l w = (
  λ i. (one_among (λ _. IsStepMove) whole c w).0 ((same c l w).0 i),
  λ h. (same c l w).1 ((one_among (λ _. IsStepMove) whole c w).1 h),
)

-- the steps between classes: what the moves lead to from the steps between states
module _ (n : ℕ) (classes letters steps reads both moves r : TermD) (c : List Atom) (k : length c ≡ n) (read_pairs : ArePairs n classes letters reads) (transitions : AreTransitions n reads classes steps both) (are : AreStepMoves n both moves) (led : AreTargets n moves steps r) where
  pub class_steps_are : AreClassSteps (point classes c) (point letters c) (point steps c) (point r c)
  class_steps_are w = (λ i. there ((led c k w).0 i), back)
    where
      there : ((p : PointValue) × IsIn p (point steps c) × LeadsTo (point moves c) p w) → (q l r' x z : PointValue) × LeadsTo (point classes c) q x × IsIn l (point letters c) × LeadsTo (point classes c) r' z × HasStepIn (point steps c) q l r' × IsTriple w x l z
      there (p, i, (v, j, pair)) = moved ((are c k v).0 j)
        where
          moved : ((y : PointValue) × IsIn y (point both c) × IsStepMove y v) → (q l r' x z : PointValue) × LeadsTo (point classes c) q x × IsIn l (point letters c) × LeadsTo (point classes c) r' z × HasStepIn (point steps c) q l r' × IsTriple w x l z
          moved (y, iy, (q, x, l, r', z, s, t, (from, read, to, h1, h2, h3, h4), hs, ht, hp)) =
              let f = transitions.only c k y iy in
              let outer : IsSame f.0 read × IsSame f.1 to = pair_both y y f.0 f.1 read to (same_refl y) f.4 h4 in
              let g = (read_pairs c k f.0).0 f.2 in
              let inner : IsSame g.0 from × IsSame g.1 l = pair_both f.0 read g.0 g.1 from l outer.0 g.4 h2 in
              let ends : IsSame s p × IsSame t w = pair_both v v s t p w (same_refl v) hp pair in (
                q,
                l,
                r',
                x,
                z,
                (g.0, g.2, pair_to from g.0 q x (same_sym g.0 from inner.0) h1),
                in_same g.1 l (point letters c) inner.1 g.3,
                (f.1, f.3, pair_to to f.1 r' z (same_sym f.1 to outer.1) h3),
                (p, i, triple_to s p q l r' ends.0 hs),
                triple_to t w x l z ends.1 ht,
              )

      back : ((q l r' x z : PointValue) × LeadsTo (point classes c) q x × IsIn l (point letters c) × LeadsTo (point classes c) r' z × HasStepIn (point steps c) q l r' × IsTriple w x l z) → IsIn w (point r c)
      back (q, l, r', x, z, (from, i, h1), il, (to, j, h3), (s, is, hs), ht) =
          let read : (v : PointValue) × IsPair v from l = pair_exists from l in
          let y : (v : PointValue) × IsPair v read.0 to = pair_exists read.0 to in
          let v : (v : PointValue) × IsPair v s w = pair_exists s w in
          let here : IsIn y.0 (point both c) = transitions.all c k y.0 (read.0, to, (read_pairs c k read.0).1 (from, l, i, il, read.1), j, y.1) (q, x, l, r', z, (from, read.0, to, h1, read.1, h3, y.1), (s, is, hs)) in
          let move : IsIn v.0 (point moves c) = (are c k v.0).1 (y.0, here, (q, x, l, r', z, s, w, (from, read.0, to, h1, read.1, h3, y.1), hs, ht, v.1)) in
          (led c k w).1 (s, is, (v.0, move, v.1))
