-- One round: what the steps from the pairs of the last one lead to.
use Rattle.std.proofs.Common.{◌≡◌, ℕ, inl, inr, ◌↔◌, List, [], ◌∷◌, length, refl, sym, subst, arith}
use Rattle.lois_base.specs.Atom.{Atom}
use Rattle.lois_base.specs.Data.{TermD, coll, CompD, CompsD, no_comps, comps_of}
use Rattle.lois_base.specs.Values.{PointValue, point, IsIn, IsSame}
use Rattle.lois_base.proofs.Members.{same_refl, same_sym}
use Rattle.lois_algebra.specs.Gathered.{IsAmong}
use Rattle.lois_algebra.specs.Sets.{IsUnion}
use Rattle.lois_algebra.proofs.Among.{among_in}
use Rattle.lois_meaning.proofs.Automata.{triple_same}
use Rattle.lois_meaning.proofs.Operations.{triple_both}
use Rattle.lois_automata.specs.Projections.{AreProjected, HasStepIn}
use Rattle.lois_automata.specs.declared.projections.Projection.TheVariants.{Target}
use Rattle.lois_shortest_word.specs.Pairs.{IsJointStep, AreJointSteps, AreFresh}
use Rattle.lois_shortest_word.specs.Rounds.{seen_at, frontier_at, IsNext, IsRound, IsLastRound}
use Rattle.lois_shortest_word.specs.declared.rounds.Reached.{Reached}

module _ (n : ℕ) (one other : TermD) (r : Reached) (further targets : CompsD) (joint : AreJointSteps n (coll (comps_of r.frontier)) one other (coll further)) (are : AreProjected n Target (coll further) (coll targets)) where
  -- the targets are what the steps lead to
  is_next : (c : List Atom) → length c ≡ n → (w : PointValue) → IsAmong targets c w ↔ IsNext (point one c) (point other c) (frontier_at r c) w
  is_next c k w = (λ h. there ((are c k w).0 ((among_in targets c w).0 h)), back)
    where
      there : ((p l q : PointValue) × HasStepIn (point (coll further) c) p l q × IsSame w q) → IsNext (point one c) (point other c) (frontier_at r c) w
      there (p, l, q, (y, i, triple), same) = go ((joint c k y).0 i)
        where
          go : ((x : PointValue) × IsIn x (frontier_at r c) × IsJointStep (point one c) (point other c) x y) → IsNext (point one c) (point other c) (frontier_at r c) w
          go (x, j, (p0, m, p1, q0, q1, x1, h, h', from, to, step)) =
              let both = triple_both y p l q x m x1 triple step in
              (x, y, m, j, (p0, m, p1, q0, q1, x1, h, h', from, to, step), triple_same y p l q x m w both.0 both.1 (same_sym w q same) triple)

      back : IsNext (point one c) (point other c) (frontier_at r c) w → IsAmong targets c w
      back (x, y, l, j, step, triple) =
          (among_in targets c w).1 ((are c k w).1 (x, l, w, (y, (joint c k y).1 (x, j, step), triple), same_refl w))

  module _ (seen' fresh : CompsD) (found : AreFresh n targets (comps_of r.seen) seen' fresh) where
    pub is_round : (r' : Reached) → comps_of r'.seen ≡ seen' → comps_of r'.frontier ≡ fresh → IsUnion (coll (comps_of r.steps)) (coll further) (coll (comps_of r'.steps)) → IsRound n one other r r'
    is_round r' es ef all = record {
      steps = λ c k y. (
        λ i. elim ((all c y).0 i) [
          | inl p ↦ inl p
          | inr p ↦ inr ((joint c k y).0 p)
        ],
        λ h. (all c y).1 (elim h [
          | inl p ↦ inl p
          | inr p ↦ inr ((joint c k y).1 p)
        ]),
      );
      seen = λ c k w. (
        λ i. elim ((found.all c k w).0 (seen_there c w i)) [
          | inl p ↦ inl ((among_in (comps_of r.seen) c w).0 p)
          | inr p ↦ inr ((is_next c k w).0 p)
        ],
        λ h. seen_back c w ((found.all c k w).1 (elim h [
          | inl p ↦ inl ((among_in (comps_of r.seen) c w).1 p)
          | inr p ↦ inr ((is_next c k w).1 p)
        ])),
      );
      new = λ c k w i. elim (found.new c k w (seen_there c w i)) [
        | inl p ↦ inl ((among_in (comps_of r.seen) c w).0 p)
        | inr p ↦ inr (subst (λ z. IsIn w (point (coll z) c)) (sym ef) ((among_in fresh c w).0 p))
      ];
      only = λ c k w i. (is_next c k w).0 (found.only c k w ((among_in fresh c w).1 (subst (λ z. IsIn w (point (coll z) c)) ef i)));
    }
      where
        seen_there : (c : List Atom) (w : PointValue) → IsIn w (seen_at r' c) → IsAmong seen' c w
        seen_there c w i = (among_in seen' c w).1 (subst (λ z. IsIn w (point (coll z) c)) es i)

        seen_back : (c : List Atom) (w : PointValue) → IsAmong seen' c w → IsIn w (seen_at r' c)
        seen_back c w h = subst (λ z. IsIn w (point (coll z) c)) (sym es) ((among_in seen' c w).0 h)

    pub is_last_round : fresh ≡ no_comps → IsLastRound n one other r
    is_last_round none c k w next = elim (found.new c k w ((found.all c k w).1 (inr ((is_next c k w).1 next)))) [
      | inl p ↦ (among_in (comps_of r.seen) c w).0 p
      | inr p ↦ absurd (subst (λ z. IsAmong z c w) none p)
    ]

pub none_left : (fresh : List CompD) → length fresh ≡ 0 → comps_of fresh ≡ no_comps
none_left [] e = refl
none_left (k ∷ ks) e = absurd (omega (arith, e))
