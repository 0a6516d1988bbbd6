use Rattle.std.proofs.Common.{rules, refl}
use mathlib.Core.Logic.{inr}
use Rattle.lois_order.proofs.With.{contained_entails, same_entails}
use Rattle.lois_order.proofs.cubes.add.Goals as goal
use Rattle.lois_order.proofs.cubes.add.Goals.{then-lit-via-then-lit, then-lit-via-else-lit+then-contains}

-- src/cubes.rt:23:9
pub returns-then-lit-clause-added : goal.returns-then-lit-clause-added
returns-then-lit-clause-added c =
    inr (
      refl,
      elim c.then-lit.branch [
        | then-lit-via-then-lit w ↦ same_entails c.args.cube.now c.args.lit (search rules) w.if-lit.true.1
        | then-lit-via-else-lit+then-contains w ↦ contained_entails c.args.cube.now c.args.lit (search rules)
      ],
    )
