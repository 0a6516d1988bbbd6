use Rattle.std.proofs.Common.{◌+◌}
use Rattle.std.proofs.lemmas.Result.{IfOk-weaker}
use Rattle.lois_base.specs.FormulaView.{view}
use Rattle.lois_relate.specs.Built.{IsNegation}
use Rattle.lois_relate.proofs.Binders.{each_met}
use Rattle.lois_relate.proofs.relating.none_missing.Goals as goal

pub returns : goal.returns
returns c =
    let m = c.args.comp.now.binders in
    IfOk-weaker c.negation-2.result (λ r. IsNegation (view c.in_ok-for_some.field-0) (view r)) _ (λ r none. λ n below fits. each_met n m c.args.names.now c.args.comp.now.guard (view c.args.found) (view c.in_ok-negation.field-0) (view c.in_ok-guard.guard) (view c.in_ok-missing.missing) (view c.in_ok-for_some.field-0) (view r) fits c.in_ok-negation.ensures (c.in_ok-guard.ensures (n + m) below) c.in_ok-missing.ensures c.in_ok-for_some.ensures none) c.negation-2.ensures
