use Rattle.std.proofs.Common.{[], ap, sym, subst, ◌∙◌}
use Rattle.std.proofs.lemmas.List.{length-map, append-nil}
use Rattle.lois_base.specs.Atom.{whole}
use Rattle.lois_base.specs.FormulaTruth.{FormulaHolds}
use Rattle.lois_base.specs.FormulaView.{view}
use Rattle.lois_base.specs.Truth.{sampled}
use Rattle.lois_deciders.specs.Satisfaction.{IsConstraintSample}
use Rattle.lois_deciders.proofs.Oracle.{some_is}
use Rattle.lois_simplify.proofs.sampling.fails_at_sample.Goals as goal

pub returns-in-Some-clause-fails : goal.returns-in-Some-clause-fails
returns-in-Some-clause-fails g c = λ t.
    let items = c.in-Some.sample.items in
    let met = some_is (λ v. IsConstraintSample c.args.size c.args.here.now v.items) c.in_ok-sample.field-0 c.in-Some.sample c.in-Some.is c.in_ok-sample.ensures.some in
    let same = append-nil (sampled c.deref.result.now) ∙ ap sampled c.deref.ensures.value in
    (sampled items, length-map items whole ∙ met.0.count, met.1, λ h. c.fails_at.ensures t [] (subst (λ z. FormulaHolds z (view c.args.f.now)) (sym same) h))
