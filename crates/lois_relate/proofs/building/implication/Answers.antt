use Rattle.std.proofs.lemmas.Result.{IfOk-weaker}
use Rattle.lois_base.specs.FormulaView.{view}
use Rattle.lois_relate.specs.Built.{IsEither}
use Rattle.lois_relate.proofs.Forms.{is_implied}
use Rattle.lois_relate.proofs.building.implication.Goals as goal

pub returns : goal.returns
returns c =
    IfOk-weaker c.disjunction.result (λ r. IsEither (view c.in_ok-absent.absent) (view c.args.g) (view r)) _ (λ r either. is_implied (view c.args.f) (view c.args.g) (view c.in_ok-absent.absent) (view r) c.in_ok-absent.ensures either) c.disjunction.ensures
