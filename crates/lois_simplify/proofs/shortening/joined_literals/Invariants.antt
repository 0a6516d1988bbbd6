use Rattle.std.proofs.Common.{◌≡◌, ◌++◌, take}
use Rattle.lois_simplify.proofs.shortening.joined_literals.Given as goal

abbrev pub invariant-loop-lit : goal.invariant-loop-lit
invariant-loop-lit l = l.joined ≡ l.before ++ take l.lit-index l.behind
