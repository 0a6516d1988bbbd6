use Rattle.std.proofs.Common.{ap, arith}
use Rattle.lois_base.specs.Tree.{tree}
use Rattle.lois_context.specs.ItemCounts.{comps_in}
use Rattle.lois_context.proofs.Carried.{comps_shifted}
use Rattle.lois_context.proofs.entering.carried_slot.Goals as goal

pub returns-clause-slot : goal.returns-clause-slot
returns-clause-slot c = (
  c.in_ok-carried_content.ensures.fits,
  omega (arith, c.count.ensures, ap comps_in c.in_ok-carried_content.ensures.carried, comps_shifted c.args.size c.args.by (tree c.args.slot.now.term)),
)
