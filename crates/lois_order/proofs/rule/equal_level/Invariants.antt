use Rattle.std.proofs.Common.{◌≡◌, drop}
use Rattle.std.specs.List.{list_any}
use Rattle.lois_order.specs.Equations.{equates}
use Rattle.lois_order.proofs.rule.equal_level.Given as goal

abbrev pub invariant-loop-lit : goal.invariant-loop-lit
invariant-loop-lit l = list_any (equates l.level) l.cube ≡ list_any (equates l.level) (drop l.lit-index l.lit-items)
