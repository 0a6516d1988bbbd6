use Rattle.std.proofs.Common.{List, sym, subst}
use Rattle.std.proofs.lemmas.Result.{IfOk-weaker}
use Rattle.lois_base.specs.declared.guards.Lit.{Lit}
use Rattle.lois_constraint.specs.Rules.{Rule, CubeObeys, ConstraintObeys}
use Rattle.lois_constraint.specs.Tight.{SomeObeys}
use Rattle.lois_constraint.proofs.antichain.Antichain.put_both.Goals as goal

pub returns-clause-rules : goal.returns-clause-rules
returns-clause-rules c =
    IfOk-weaker c.put_some.result
    (λ (r : List (List Lit)). (rule : Rule) → ConstraintObeys rule c.args.self → SomeObeys rule c.in_ok-both.both → ConstraintObeys rule r)
    (λ (r : List (List Lit)). (rule : Rule) → ConstraintObeys rule c.args.self → CubeObeys rule c.args.closed → CubeObeys rule c.args.other.now → ConstraintObeys rule r)
    (λ r h rule s k o. h rule s (c.in_ok-both.ensures.rules rule k (subst (CubeObeys rule) (sym c.as_slice.ensures) o))) c.put_some.ensures.rules
