use Rattle.std.proofs.Common.{ap, subst}
use Rattle.std.proofs.lemmas.Result.{IfOk-weaker}
use Rattle.lois_base.specs.Data.{coll, comps_of}
use Rattle.lois_base.specs.Tree.{tree}
use Rattle.lois_base.specs.Values.{point}
use Rattle.lois_automata.specs.Projections.{AreProjected, IsFunction, HasUniqueTargets}
use Rattle.lois_automata.specs.declared.projections.Projection.TheVariants.{Keyed}
use Rattle.lois_automata.specs.Verdicts.{HoldsWhere}
use Rattle.lois_automata.proofs.Checked.{led_once}
use Rattle.lois_automata.proofs.Tests.{where_as}
use Rattle.lois_automata.proofs.conditions.where_targets_unique.Goals as goal

pub returns-clause-truth : goal.returns-clause-truth
returns-clause-truth g c =
    let n = c.args.size in
    let steps = comps_of c.args.steps.now in
    let keyed = coll (comps_of c.in-Coll.keyed) in
    let are : AreProjected n Keyed (coll steps) keyed = subst (λ z. AreProjected n Keyed (coll steps) z) (ap tree c.in-Coll.is) (c.in_ok-keyed.ensures.members n) in
    IfOk-weaker c.where_function.result (HoldsWhere n (λ d. IsFunction (point keyed d))) _ (λ r h.
    where_as n (λ d. IsFunction (point keyed d)) (λ d. HasUniqueTargets (point (coll steps) d)) r (led_once n steps keyed are) h) c.where_function.ensures.truth
