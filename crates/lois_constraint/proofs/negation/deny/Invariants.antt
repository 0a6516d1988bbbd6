use Rattle.std.proofs.Common.{◌≡◌, [], ◌∷◌, ◌++◌, take, map}
use Rattle.lois_constraint.proofs.negation.deny.Given as goal

abbrev pub invariant-loop-other : goal.invariant-loop-other
invariant-loop-other l = l.denied ≡ l.initial.denied ++ map (λ m. m ∷ []) (take l.other-index l.other-items)
