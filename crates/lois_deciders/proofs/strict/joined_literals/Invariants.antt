use Rattle.std.proofs.Common.{◌≡◌, ◌∷◌, ◌++◌, take}
use Rattle.lois_deciders.proofs.strict.joined_literals.Given as goal

abbrev pub invariant-loop-other : goal.invariant-loop-other
invariant-loop-other l = l.joined ≡ l.before ++ l.fn.lit ∷ take l.other-index l.behind
