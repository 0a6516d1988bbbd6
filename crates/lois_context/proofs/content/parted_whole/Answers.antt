use Rattle.std.proofs.Common.{take, drop, sym, ap, ◌∙◌}
use Rattle.lois_base.specs.Data.{comps_of}
use Rattle.lois_base.specs.Tree.{tree}
use Rattle.lois_context.specs.Entered.{comps_listed}
use Rattle.lois_context.proofs.Entered.{listed_of}
use Rattle.lois_context.proofs.content.parted_whole.Goals as goal

pub returns-clause-set : goal.returns-clause-set
returns-clause-set c = (comps_of c.in_ok-parts.parts.0, ap tree c.in_ok-content.ensures.same)

pub returns-clause-old : goal.returns-clause-old
returns-clause-old c =
    let all = ap (λ z. comps_listed (tree z)) c.in-Coll.is ∙ listed_of c.in-Coll.comps in
    ap (λ z. comps_listed (tree z)) c.in_ok-content.ensures.same ∙ (listed_of c.in_ok-parts.parts.0 ∙ (c.in_ok-parts.ensures.old ∙ ap (take c.args.first) (sym all)))

pub returns-clause-added : goal.returns-clause-added
returns-clause-added c =
    c.in_ok-parts.ensures.added ∙ ap (drop c.args.first) (sym (ap (λ z. comps_listed (tree z)) c.in-Coll.is ∙ listed_of c.in-Coll.comps))
