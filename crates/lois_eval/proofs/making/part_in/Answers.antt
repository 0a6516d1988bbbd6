use Rattle.std.proofs.Common.{sym, ◌∙◌}
use Rattle.lois_base.specs.Tree.{tree}
use Rattle.lois_eval.specs.Checks.{IsFaultWith}
use Rattle.lois_eval.specs.Made.{IsPartFault}
use Rattle.lois_eval.proofs.FaultsAt.{if_fault, own_sample, fault_at}
use Rattle.lois_eval.proofs.making.part_in.Goals as goal

pub returns-in-None-clause-fault : goal.returns-in-None-clause-fault
returns-in-None-clause-fault c =
    let k = c.args.context.now in
    if_fault c.fault_under.result (IsFaultWith c.args.pos c.missing_part.result k.sample) (IsPartFault k (tree c.args.tuple.now) c.args.n c.args.pos.offset) (λ f h. record {
      fault = fault_at k c.args.pos c.missing_part.result k.sample (own_sample k) f h;
      kind = h.kind ∙ c.missing_part.ensures;
      no_part = sym c.in-None.ensures;
    }) c.fault_under.ensures
