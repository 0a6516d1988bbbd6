use Rattle.std.proofs.Common.{◌∷◌, [], ◌++◌, sym, subst}
use Rattle.std.specs.List.{AllZip}
use Rattle.lois_base.proofs.Lists.{zip_push}
use Rattle.lois_answers.specs.CaseView.{case_of}
use Rattle.lois_interp.specs.Printed.{IsCaseOf}
use Rattle.lois_interp.proofs.cases.cases.Goals as goal

pub loop-context-preserved : goal.loop-context-preserved
loop-context-preserved c =
    let k = c.in-Some.context in
    subst (AllZip IsCaseOf (c.loop-context.yielded ++ k ∷ [])) (sym c.in_ok-push.ensures.appended)
    (zip_push IsCaseOf c.loop-context.yielded c.loop-context.cases k (case_of c.in_ok-one_case.field-0) c.loop-context.invariant c.in_ok-one_case.ensures)
