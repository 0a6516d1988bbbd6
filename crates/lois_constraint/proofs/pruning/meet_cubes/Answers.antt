use Rattle.std.proofs.Common.{List, sym, subst}
use Rattle.std.proofs.lemmas.Result.{IfOk-weaker}
use Rattle.std.specs.declared.option.Option.{Option}
use Rattle.lois_base.specs.declared.guards.Lit.{Lit}
use Rattle.lois_constraint.specs.Rules.{Rule, CubeObeys}
use Rattle.lois_constraint.specs.Tight.{SomeObeys}
use Rattle.lois_constraint.proofs.pruning.meet_cubes.Goals as goal

pub returns-in-Some-clause-rules : goal.returns-in-Some-clause-rules
returns-in-Some-clause-rules c =
    IfOk-weaker c.and_literals.result
    (λ (o : Option (List Lit)). (rule : Rule) → CubeObeys rule c.in-Some.closed → CubeObeys rule c.as_slice.result.now → SomeObeys rule o)
    (λ (o : Option (List Lit)). (rule : Rule) → CubeObeys rule c.args.a.now → CubeObeys rule c.args.b.now → SomeObeys rule o)
    (λ o h rule s k. h rule (subst (SomeObeys rule) c.in-Some.is (c.in_ok-closed.ensures.rules rule s)) (subst (CubeObeys rule) (sym c.as_slice.ensures) k)) c.and_literals.ensures.rules
