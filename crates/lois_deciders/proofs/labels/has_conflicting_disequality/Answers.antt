use Rattle.std.proofs.Common.{rules, length}
use Rattle.lois_base.specs.declared.guards.Lit.{Lit}
use Rattle.lois_base.specs.declared.guards.Op.TheVariants.{Eq}
use Rattle.lois_deciders.proofs.Labelled.{parted}
use Rattle.lois_deciders.proofs.labels.has_conflicting_disequality.Goals as goal

pub returns-then-labels-lit-clause-unmet : goal.returns-then-labels-lit-clause-unmet
returns-then-labels-lit-clause-unmet c = λ t.
    let d : Lit = record { op = Eq; left = 0; right = 0 } in
    parted (length c.args.labels.now) (length c.args.cube.now) c.as_slice-lit-items.result.now c.args.cube.now c.loop-lit.lit-index c.args.labels.now d c.as_slice-lit-items.ensures c.loop-lit-test.true (search rules) (search rules) c.requires.levels c.requires.labelling
