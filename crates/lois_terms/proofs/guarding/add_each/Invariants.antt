use Rattle.std.proofs.Common.{◌≡◌, ◌++◌, take, map}
use Rattle.lois_terms.proofs.guarding.add_each.Given as goal

abbrev pub invariant-loop-other : goal.invariant-loop-other
invariant-loop-other l = l.product ≡ l.initial.product ++ map (λ d. l.cube ++ d) (take l.other-index l.other-items)
