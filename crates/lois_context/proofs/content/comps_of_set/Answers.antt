use Rattle.std.proofs.Common.{sym, ap, ◌∙◌}
use Rattle.lois_base.specs.Tree.{tree}
use Rattle.lois_context.specs.Entered.{comps_listed}
use Rattle.lois_context.proofs.Entered.{listed_of}
use Rattle.lois_context.proofs.content.comps_of_set.Goals as goal

pub returns-in-Coll : goal.returns-in-Coll
returns-in-Coll c = c.as_slice.ensures ∙ sym (ap (λ z. comps_listed (tree z)) c.in-Coll.is ∙ listed_of c.in-Coll.comps)
