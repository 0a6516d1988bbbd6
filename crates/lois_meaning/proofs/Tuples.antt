-- Pairs and triples of values, and moves between values that are the same.
use Rattle.std.proofs.Common.{List, [], ◌∷◌}
use Rattle.lois_base.specs.Values.{PointValue, IsSame}
use Rattle.lois_base.proofs.Members.{same_sym, same_trans}
use Rattle.lois_meaning.specs.Automata.{IsPair, IsTriple}
use Rattle.lois_meaning.specs.Kinds.{HasParts, AreSame}
use Rattle.lois_meaning.proofs.Alike.{parts_same, tuples_same}

-- the parts of a pair up to being the same
pub pair_parts : (x p q p' q' : PointValue) → IsSame p p' → IsSame q q' → IsPair x p q → IsPair x p' q'
pair_parts x p q p' q' s t (a, b, h, i, j) = (a, b, h, same_trans p' p a (same_sym p p' s) i, same_trans q' q b (same_sym q q' t) j)

pub triple_to : (y z p q r : PointValue) → IsSame y z → IsTriple y p q r → IsTriple z p q r
triple_to y z p q r h (a, b, c, k, i, j, m) =
    let moved : (ws : List PointValue) × HasParts z ws × AreSame (a ∷ b ∷ c ∷ []) ws = parts_same y z (a ∷ b ∷ c ∷ []) h k in
    go moved.0 moved.1 moved.2
  where
    go : (ws : List PointValue) → HasParts z ws → AreSame (a ∷ b ∷ c ∷ []) ws → IsTriple z p q r
    go (d ∷ e ∷ f ∷ []) k s = (d, e, f, k, same_trans p a d i s.0, same_trans q b e j s.1.0, same_trans r c f m s.1.1.0)
    go [] k s = absurd s
    go (d ∷ []) k s = absurd s.1
    go (d ∷ e ∷ []) k s = absurd s.1.1
    go (d ∷ e ∷ f ∷ g ∷ ws) k s = absurd s.1.1.1

pub triples_same : (x y p l q p' l' q' : PointValue) → IsSame p p' → IsSame l l' → IsSame q q' → IsTriple x p l q → IsTriple y p' l' q' → IsSame x y
triples_same x y p l q p' l' q' s t u (a, b, c, h, i, j, k) (a', b', c', h', i', j', k') =
    tuples_same x y (a ∷ b ∷ c ∷ []) (a' ∷ b' ∷ c' ∷ []) h h' (between p a a' p' i s i', (between l b b' l' j t j', (between q c c' q' k u k', tt)))
  where
    between : (v a a' v' : PointValue) → IsSame v a → IsSame v v' → IsSame v' a' → IsSame a a'
    between v a a' v' h s h' = same_trans a v a' (same_sym v a h) (same_trans v v' a' s h')
