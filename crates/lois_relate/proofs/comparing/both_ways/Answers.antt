use Rattle.std.proofs.Common.{◌≡◌, ◌+◌, length, ◌∙◌, ap, sym, subst}
use Rattle.lois_base.specs.Fits.{ConstraintFits}
use Rattle.lois_base.specs.FormulaView.{view}
use Rattle.lois_base.proofs.Validity.{formula_admitted}
use Rattle.lois_relate.specs.Compared.{turned_names}
use Rattle.lois_relate.specs.Named.{level_range}
use Rattle.lois_relate.proofs.Names.{length-levels_from}
use Rattle.lois_relate.proofs.Turned.{length_turned, stays, turns}
use Rattle.lois_relate.proofs.comparing.both_ways.Goals as goal

pub quantifier_free-requires-clause-operators : goal.quantifier_free-requires-clause-operators
quantifier_free-requires-clause-operators c = formula_admitted (view c.args.paired.now)

pub guard_formula-requires : goal.guard_formula-requires
guard_formula-requires c =
    let whole = (c.args.size + c.args.first) + c.args.second in
    let names : c.as_slice.result.now ≡ level_range 0 whole = c.as_slice.ensures.value ∙ c.in_ok-levels.ensures in
    subst (λ k. ConstraintFits k c.in_ok-kept.kept) (sym (ap length names ∙ length-levels_from whole 0)) c.in_ok-kept.ensures.levels

pub guard_formula-requires-2 : goal.guard_formula-requires-2
guard_formula-requires-2 c =
    let names : c.as_slice-2.result.now ≡ turned_names c.args.size c.args.first c.args.second = c.as_slice-2.ensures.value ∙ c.in_ok-other_levels.ensures in
    subst (λ k. ConstraintFits k c.in_ok-kept.kept) (sym (ap length names ∙ length_turned c.args.size c.args.first c.args.second)) c.in_ok-kept.ensures.levels

pub returns-clause-forth : goal.returns-clause-forth
returns-clause-forth c =
    let whole = (c.args.size + c.args.first) + c.args.second in
    let names : c.as_slice.result.now ≡ level_range 0 whole = c.as_slice.ensures.value ∙ c.in_ok-levels.ensures in
    stays whole (view c.args.paired.now) (view c.in_ok-forth.forth) c.in_ok-kept.kept c.in_ok-kept.ensures.truth c.in_ok-kept.ensures.operators c.as_slice.result.now names c.in_ok-forth.ensures

pub returns-clause-back : goal.returns-clause-back
returns-clause-back c =
    let names : c.as_slice-2.result.now ≡ turned_names c.args.size c.args.first c.args.second = c.as_slice-2.ensures.value ∙ c.in_ok-other_levels.ensures in
    turns c.args.size c.args.first c.args.second (view c.args.paired.now) (view c.in_ok-back.back) c.in_ok-kept.kept c.in_ok-kept.ensures.truth c.in_ok-kept.ensures.operators c.as_slice-2.result.now names c.in_ok-back.ensures
