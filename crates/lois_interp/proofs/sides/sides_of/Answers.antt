use Rattle.lois_script.specs.View.{cond_tree}
use Rattle.lois_interp.proofs.SplitSides.{decided_sides}
use Rattle.lois_interp.proofs.sides.sides_of.Goals as goal

pub returns-clause-decided : goal.returns-clause-decided
returns-clause-decided g c =
    let D = c.in_ok-decided.ensures in
    let S = c.in_ok-split.ensures in
    decided_sides (cond_tree c.args.condition.now) c.args.context c.in_ok-decided.decided c.in_ok-split.field-0 D.truth S.yes S.no S.yes_choices S.no_choices
    (λ o h. S.yes_operators o h.operators (D.operators o h)) (λ o h. S.no_operators o h.operators (D.operators o h))
