use Rattle.std.proofs.Common.{◌&&◌, List, sym, ap, ◌∙◌, subst}
use Rattle.std.proofs.lemmas.Result.{IfOk-weaker}
use Rattle.lois_base.specs.Truth.{holds}
use Rattle.lois_base.specs.declared.guards.Lit.{Lit}
use Rattle.lois_constraint.specs.Rules.{ConstraintObeys}
use Rattle.lois_constraint.proofs.antichain.Antichain.meet.Goals as goal

pub returns-clause-truth : goal.returns-clause-truth
returns-clause-truth c =
    IfOk-weaker c.with_met.result _ _ (λ r h e. h e ∙ (c.in_ok-within.ensures.truth e ∙ ap (λ (g : List (List Lit)). holds e g && holds e c.args.c.now) c.self.view_is)) c.with_met.ensures.truth

pub returns-clause-rules : goal.returns-clause-rules
returns-clause-rules c =
    IfOk-weaker c.with_met.result _ _
    (λ r h rule whole other. let inside = subst (ConstraintObeys rule) (sym c.self.view_is) whole in h rule (c.in_ok-within.ensures.within_rules rule inside) (c.in_ok-within.ensures.other_rules rule inside) other)
    c.with_met.ensures.rules
