use Rattle.std.proofs.Common.{sym, ap, ◌∙◌}
use Rattle.lois_base.specs.Tree.{tree}
use Rattle.lois_context.specs.ItemCounts.{comps_in}
use Rattle.lois_context.proofs.Carried.{count_of}
use Rattle.lois_vectors_statements.proofs.blocks.count_of.Goals as goal

pub returns-in-Coll : goal.returns-in-Coll
returns-in-Coll c = c.len.ensures ∙ (sym (count_of c.in-Coll.comps) ∙ sym (ap (λ z. comps_in (tree z)) c.in-Coll.is))
