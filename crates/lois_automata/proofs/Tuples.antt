-- Pairs and triples of values, and moves between values that are the same.
use Rattle.lois_base.specs.Values.{PointValue, IsSame}
use Rattle.lois_meaning.proofs.Tuples.{pair_parts}
use Rattle.lois_automata.specs.Reachability.{LeadsTo}

pub leads_same : (moves p q p' q' : PointValue) → IsSame p p' → IsSame q q' → LeadsTo moves p q → LeadsTo moves p' q'
leads_same moves p q p' q' s t (x, i, pair) = (x, i, pair_parts x p q p' q' s t pair)
