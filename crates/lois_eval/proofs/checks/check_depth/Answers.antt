use Rattle.std.proofs.Common.{sym, ap, subst, ◌∙◌}
use Rattle.std.specs.Prelude.{IfSome, is_some}
use Rattle.lois_base.specs.Patterns.{AreAlike}
use Rattle.lois_base.specs.Tree.{tree}
use Rattle.lois_base.specs.Truth.{sampled}
use Rattle.lois_answers.specs.declared.faults.FaultKind.TheVariants.{DepthLimit}
use Rattle.lois_eval.specs.Checks.{IsFaultWith, IsDepthFault, MeetsBoth}
use Rattle.lois_eval.proofs.FaultsAt.{if_fault, fault_at, met_admitted, met_alike}
use Rattle.lois_eval.proofs.checks.check_depth.Goals as goal

pub returns-in-Some-clause-fault : goal.returns-in-Some-clause-fault
returns-in-Some-clause-fault g c =
    let k = c.args.context.now in
    let s = c.in-Some.sample.items in
    let meets = subst (λ o. IfSome o (λ v. MeetsBoth k.size k.«when» c.in_ok-deep.deep v.items)) c.in-Some.is c.in_ok-sample.ensures.some in
    let both = met_admitted k c.in_ok-deep.deep s meets in
    if_fault c.fault.result (IsFaultWith c.args.pos DepthLimit s) (IsDepthFault g.T.Structure.ordered k (tree c.args.term.now) c.args.pos.offset) (λ f h. record {
      fault = fault_at k c.args.pos DepthLimit s both.0 f h;
      kind = h.kind;
      deep = λ d stand.
          let alike = subst (λ z. AreAlike g.T.Structure.ordered (sampled z) d) h.sample stand in
          (c.in_ok-deep.ensures.truth d (sym alike.count ∙ both.0.0)).0 (met_alike g.T.Structure.ordered k c.in_ok-deep.deep s d c.in_ok-deep.ensures.levels c.in_ok-deep.ensures.operators meets alike);
    }) c.fault.ensures

pub returns-clause-shallow : goal.returns-clause-shallow
returns-clause-shallow g c = λ d a deep.
    c.in_ok-sample.ensures.none.0 (ap is_some c.in-None.is) d a.0 a.1 ((c.in_ok-deep.ensures.truth d a.0).1 deep)
