use Rattle.std.proofs.Common.{◌≡◌, take}
use Rattle.lois_constraint.specs.Alternatives.{denials}
use Rattle.lois_constraint.proofs.negation.denied.Given as goal

abbrev pub invariant-loop-lit : goal.invariant-loop-lit
invariant-loop-lit l = l.denied ≡ denials (take l.lit-index l.lit-items)
