use Rattle.std.proofs.Common.{◌+◌, ap, subst}
use Rattle.std.proofs.lemmas.Result.{IfOk-weaker}
use Rattle.lois_base.specs.Data.{coll, comps_of}
use Rattle.lois_base.specs.Tree.{tree}
use Rattle.lois_terms.specs.Shifted.{IsShifted}
use Rattle.lois_automata.specs.Built.{AreTargets}
use Rattle.lois_minimise.proofs.ClassTerms.{class_term}
use Rattle.lois_minimise.proofs.OfShape.{class_of_all}
use Rattle.lois_minimise.proofs.classing.class_of.Goals as goal

pub returns-clause-class : goal.returns-clause-class
returns-clause-class g c =
    let n = c.args.size in
    let m = c.args.by in
    let item = tree c.args.item.now in
    let picked = coll (comps_of c.in_ok-pairs_of_shape.field-0) in
    let raised = coll (comps_of c.in-Coll.raised) in
    let own = tree c.in_ok-own.own in
    let is_raised : IsShifted n m picked raised = subst (λ z. IsShifted n m picked z) (ap tree c.in-Coll.is) c.in_ok-raised.ensures.value in
    IfOk-weaker c.targets_from.result (λ r. AreTargets (n + m) raised own (tree r)) _ (λ r led.
    class_of_all n m (coll (comps_of c.args.alike.now)) picked item (tree r) (c.in_ok-pairs_of_shape.ensures.members n) (class_term n m picked item raised own (tree r) is_raised c.in_ok-own.ensures.members led)) c.targets_from.ensures.members
