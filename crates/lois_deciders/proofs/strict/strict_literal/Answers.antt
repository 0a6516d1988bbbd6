use Rattle.std.proofs.Common.{rules, ◌≡◌, ◌∷◌, ◌++◌, sym, ap, ◌∙◌, subst}
use Rattle.lois_base.specs.Truth.{cube_holds}
use Rattle.lois_base.specs.declared.guards.Op.TheVariants.{AtMost}
use Rattle.lois_constraint.specs.Entailment.{CubeIsSatisfiable}
use Rattle.lois_constraint.specs.Tight.{some_holds}
use Rattle.lois_deciders.proofs.StrictParts.{same_met}
use Rattle.lois_constraint.proofs.WeakLiterals.{at_most_is}
use Rattle.lois_deciders.proofs.strict.strict_literal.Goals as goal

pub returns-clause-met : goal.returns-clause-met
returns-clause-met c =
    let l = c.args.lit in
    let k = c.args.before.now in
    let m = c.args.behind.now in
    let weak : l.op ≡ AtMost = search rules in
    λ s. same_met k m l.left l.right
    (λ e. sym (ap (cube_holds e) c.in_ok-part.ensures) ∙ (sym (c.in_ok-tighten.ensures.truth e) ∙ ap (some_holds e) c.in-None.is))
    (subst (λ z. CubeIsSatisfiable (k ++ z ∷ m)) (at_most_is l weak) s)
