use Rattle.std.proofs.Common.{sym, subst}
use Rattle.lois_base.specs.Data.{comp, comps_of, coll, no_comps, more}
use Rattle.lois_base.specs.Fits.{Fits}
use Rattle.lois_base.specs.Tree.{tree}
use Rattle.lois_base.specs.Validity.{AdmitsTerm}
use Rattle.lois_shortest_word.specs.Pairs.{AddsStepsFrom}
use Rattle.lois_shortest_word.proofs.joint_steps.steps_from.Goals as goal

pub add_steps_from-requires-clause-held : goal.add_steps_from-requires-clause-held
add_steps_from-requires-clause-held g c =
    let k = c.args.origin.now in
    let values = more (comp k.binders k.guard (tree c.args.part.now)) no_comps in
    record {
      set = (values, c.in_ok-held.ensures);
      levels = subst (λ z. Fits c.args.size z) (sym c.in_ok-held.ensures) ((c.requires.over.levels.0, c.requires.over.levels.1, c.requires.part.levels), tt);
      operators = subst (λ z. AdmitsTerm g.T.Structure.ordered z) (sym c.in_ok-held.ensures) ((c.requires.over.operators.0, c.requires.part.operators), tt);
    }

pub returns : goal.returns
returns g c =
    let k = c.args.origin.now in
    let held = coll (more (comp k.binders k.guard (tree c.args.part.now)) no_comps) in
    let made = comps_of c.add_steps_from.new.made in
    let steps = comps_of c.args.steps.now in
    subst (λ z. AddsStepsFrom c.args.size held steps (comps_of z) made) c.new-made.ensures (subst (λ z. AddsStepsFrom c.args.size z steps (comps_of c.new-made.result) made) c.in_ok-held.ensures c.in_ok-add_steps_from.ensures)
