use Rattle.std.proofs.Common.{◌∙◌, sym, ap, subst}
use Rattle.std.specs.Prelude.{IfSome, is_some}
use Rattle.lois_base.specs.Fits.{Fits}
use Rattle.lois_base.specs.Patterns.{AreAlike}
use Rattle.lois_base.specs.Tree.{tree}
use Rattle.lois_base.specs.Validity.{AdmitsTerm}
use Rattle.lois_base.specs.Truth.{sampled}
use Rattle.lois_base.specs.Values.{point, IsDeeper}
use Rattle.lois_answers.specs.declared.faults.FaultKind.TheVariants.{DepthLimit}
use Rattle.lois_deciders.specs.Conjunction.{IsSampledConjunction}
use Rattle.lois_meaning.specs.Store.{depth_limit}
use Rattle.lois_context.specs.Choices.{IsAdmitted}
use Rattle.lois_eval.specs.Checks.{IsFaultWith, IsDepthFault}
use Rattle.lois_eval.proofs.FaultsAt.{if_fault, fault_at, met_admitted, meets_both, met_alike}
use Rattle.lois_interp.proofs.checks.check_depth.Goals as goal

pub too_deep-requires : goal.too_deep-requires
too_deep-requires g c =
    record {
      over = record {
        levels = subst (λ z. Fits c.args.context.now.size (tree z)) (sym (c.get.ensures.same ∙ c.in_ok-whole.ensures.same)) c.requires.over.levels;
        operators = subst (λ z. AdmitsTerm g.T.Structure.ordered (tree z)) (sym (c.get.ensures.same ∙ c.in_ok-whole.ensures.same)) c.requires.over.operators;
      };
    }

pub returns-in-Some-clause-fault : goal.returns-in-Some-clause-fault
returns-in-Some-clause-fault g c =
    let k = c.args.context.now in
    let met = c.in-Some.met in
    let deep = c.in_ok-deep.deep in
    let own = subst (λ o. IfSome o (λ m. IsSampledConjunction k.size k.«when» deep m.constraint m.sample)) c.in-Some.is c.in_ok-met.ensures.met in
    let meets = meets_both k.size k.«when» deep met.constraint met.sample own in
    let both = met_admitted k deep met.sample meets in
    let same = c.into_vec.ensures in
    if_fault c.fault.result (IsFaultWith c.args.pos DepthLimit c.into_vec.result.items) (IsDepthFault g.T.Structure.ordered k (tree c.args.term.now) c.args.pos.offset) (λ f h. record {
      fault = fault_at k c.args.pos DepthLimit c.into_vec.result.items (subst (λ z. IsAdmitted (sampled z) k) (sym same) both.0) f h;
      kind = h.kind;
      deep = λ d stand.
          let alike : AreAlike g.T.Structure.ordered (sampled met.sample) d = subst (λ z. AreAlike g.T.Structure.ordered (sampled z) d) (h.sample ∙ same) stand in
          let there = (c.in_ok-deep.ensures.truth d (sym alike.count ∙ both.0.0)).0 (met_alike g.T.Structure.ordered k deep met.sample d c.in_ok-deep.ensures.levels c.in_ok-deep.ensures.operators meets alike) in
          subst (λ t. IsDeeper (point (tree t) d) depth_limit) (c.get.ensures.same ∙ c.in_ok-whole.ensures.same) there;
    }) c.fault.ensures

pub returns-clause-shallow : goal.returns-clause-shallow
returns-clause-shallow g c = λ d a deep.
    c.in_ok-met.ensures.none.0 (ap is_some c.in-None.is) d a.0 a.1 ((c.in_ok-deep.ensures.truth d a.0).1 (subst (λ t. IsDeeper (point (tree t) d) depth_limit) (sym (c.get.ensures.same ∙ c.in_ok-whole.ensures.same)) deep))
