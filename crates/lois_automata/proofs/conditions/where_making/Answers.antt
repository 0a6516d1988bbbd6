use Rattle.std.proofs.Common.{subst}
use Rattle.std.proofs.lemmas.Result.{IfOk-weaker}
use Rattle.lois_base.specs.Tree.{tree}
use Rattle.lois_elim.specs.Bound.{HoldsForSomeMore}
use Rattle.lois_automata.proofs.Tests.{making}
use Rattle.lois_automata.proofs.conditions.where_making.Goals as goal

pub returns-clause-truth : goal.returns-clause-truth
returns-clause-truth g c =
    let k = c.args.comp.now in
    IfOk-weaker c.for_some_more.result (HoldsForSomeMore c.args.size k.binders c.in_ok-guard.guard) _ (λ r some.
    making c.args.size k.binders k.guard (tree k.item) r (subst (λ z. HoldsForSomeMore c.args.size k.binders z r) c.in_ok-guard.ensures some)) c.for_some_more.ensures.truth
