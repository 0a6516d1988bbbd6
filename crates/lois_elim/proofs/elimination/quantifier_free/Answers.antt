use Rattle.std.proofs.Common.{[]}
use Rattle.std.proofs.lemmas.Result.{IfOk-weaker}
use Rattle.lois_base.specs.FormulaView.{view}
use Rattle.lois_elim.specs.Bound.{AgreesWith}
use Rattle.lois_elim.specs.Names.{AgreesUnder}
use Rattle.lois_elim.proofs.Naming.{agrees_alone}
use Rattle.lois_elim.proofs.elimination.quantifier_free.Goals as goal

pub returns-clause-truth : goal.returns-clause-truth
returns-clause-truth g c =
    IfOk-weaker c.under_names.result (AgreesUnder c.args.size c.args.size [] (view c.args.f.now)) (AgreesWith c.args.size (view c.args.f.now)) (λ r agrees. agrees_alone c.args.size (view c.args.f.now) r agrees) c.under_names.ensures.truth
