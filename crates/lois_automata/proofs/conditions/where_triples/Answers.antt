use Rattle.std.proofs.Common.{subst}
use Rattle.std.proofs.lemmas.Result.{IfOk-weaker}
use Rattle.lois_base.specs.Data.{coll, no_comps, comps_of}
use Rattle.lois_base.specs.Tree.{tree}
use Rattle.lois_base.specs.Values.{point, IsIncluded}
use Rattle.lois_automata.specs.Projections.{AreTriples}
use Rattle.lois_automata.specs.Verdicts.{HoldsWhere}
use Rattle.lois_automata.proofs.Checked.{all_triples}
use Rattle.lois_automata.proofs.Tests.{where_as}
use Rattle.lois_automata.proofs.conditions.where_triples.Goals as goal

pub returns-clause-truth : goal.returns-clause-truth
returns-clause-truth g c =
    let n = c.args.size in
    let steps = comps_of c.args.steps.now in
    let others = tree c.in_ok-others.others in
    IfOk-weaker c.where_included.result (HoldsWhere n (λ d. IsIncluded (point others d) (point (coll (comps_of c.new.result)) d))) _ (λ r h.
    where_as n (λ d. IsIncluded (point others d) (point (coll no_comps) d)) (λ d. AreTriples (point (coll steps) d)) r (all_triples n steps others (c.in_ok-others.ensures.members n))
    (subst (λ z. HoldsWhere n (λ d. IsIncluded (point others d) (point (coll (comps_of z)) d)) r) c.new.ensures h)) c.where_included.ensures.truth
