use Rattle.std.proofs.Common.{map, ap, ◌∙◌}
use Rattle.lois_registers.specs.Placed.{placements, contents_from, numbers}
use Rattle.lois_registers.proofs.Loops.{patterns_end}
use Rattle.lois_registers.proofs.placements.all_placements.Goals as goal

pub returns : goal.returns
unfolding placements
returns c =
    c.loop-pattern.invariant ∙ ap (λ z. map (contents_from 0 c.args.registers) (numbers z)) (patterns_end c.args.registers c.loop-pattern.pattern c.requires.few c.loop-pattern.auto.pattern-end c.loop-pattern-test.false)
