use Rattle.std.proofs.Common.{arith}
use Rattle.lois_relate.proofs.Single.{only_comp, not_single}
use Rattle.lois_relate.proofs.relating.single.Goals as goal

pub returns-then-comp-eq0-clause-some : goal.returns-then-comp-eq0-clause-some
returns-then-comp-eq0-clause-some c =
    (only_comp c.as_slice-items.result.now c.args.comps.now c.index-items-0.result c.as_slice-items.ensures (omega arith) c.index-items-0.is, c.if-comp-eq0.true)

pub returns-then-items-ne1-clause-none : goal.returns-then-items-ne1-clause-none
returns-then-items-ne1-clause-none c =
    not_single c.as_slice-items.result.now c.args.comps.now c.as_slice-items.ensures c.if-items-ne1.true
