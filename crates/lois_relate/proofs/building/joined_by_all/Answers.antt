use Rattle.std.proofs.Common.{◌∙◌, ap, sym, subst}
use Rattle.lois_base.specs.FormulaData.{all, formulas_of}
use Rattle.lois_base.specs.FormulaView.{view, views}
use Rattle.lois_relate.specs.Built.{IsBoth}
use Rattle.lois_base.proofs.FormulaViews.{view_All}
use Rattle.lois_relate.proofs.building.joined_by_all.Goals as goal

pub returns-in_ok-add_parts-in-All : goal.returns-in_ok-add_parts-in-All
returns-in_ok-add_parts-in-All c =
    let f = view c.args.f in
    subst (λ z. IsBoth f (view c.args.g) z) (sym (view_All c.add_parts.new.parts)) (subst (λ z. IsBoth z (view c.args.g) (all (formulas_of (views c.add_parts.new.parts)))) (sym (ap view c.in-All.is ∙ view_All c.in-All.parts)) c.in_ok-add_parts-in-All.ensures)
