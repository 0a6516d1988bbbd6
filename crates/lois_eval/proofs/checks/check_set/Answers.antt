use Rattle.std.proofs.Common.{ap}
use Rattle.lois_base.specs.Data.{comps_of}
use Rattle.lois_base.specs.Tree.{tree}
use Rattle.lois_answers.specs.declared.faults.FaultKind.TheVariants.{NotASet}
use Rattle.lois_eval.specs.Checks.{IsFaultWith, IsSetFault}
use Rattle.lois_eval.proofs.FaultsAt.{if_fault, own_sample, fault_at}
use Rattle.lois_eval.proofs.TermKinds.{no_coll}
use Rattle.lois_eval.proofs.checks.check_set.Goals as goal

pub returns-in-Coll-clause-set : goal.returns-in-Coll-clause-set
returns-in-Coll-clause-set c = (comps_of c.in-Coll.field-0, ap tree c.in-Coll.is)

pub returns-in_default : goal.returns-in_default
returns-in_default c = record {
  set = tt;
  fault =
      let k = c.args.context.now in
      if_fault c.fault_under.result (IsFaultWith c.args.pos NotASet k.sample) (IsSetFault k (tree c.args.term.now) c.args.pos.offset) (λ f h. record {
        fault = fault_at k c.args.pos NotASet k.sample (own_sample k) f h;
        kind = h.kind;
        no_set = no_coll c.args.term.now c.in_default.not-Coll;
      }) c.fault_under.ensures;
}
