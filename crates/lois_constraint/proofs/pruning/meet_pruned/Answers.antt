use Rattle.std.proofs.Common.{List, arith}
use Rattle.std.proofs.lemmas.Result.{IfOk-weaker}
use Rattle.lois_base.specs.declared.guards.Lit.{Lit}
use Rattle.lois_constraint.specs.Rules.{Rule, ConstraintObeys}
use Rattle.lois_constraint.specs.Tight.{SomeObeys}
use Rattle.lois_constraint.proofs.Uses.{item_obeys}
use Rattle.lois_constraint.proofs.pruning.meet_pruned.Goals as goal

pub returns-in-len1-as_slice-clause-rules : goal.returns-in-len1-as_slice-clause-rules
returns-in-len1-as_slice-clause-rules c =
    let firsts : List (List Lit) = c.as_slice.result.now in
    let seconds : List (List Lit) = c.as_slice-in-len1.result.now in
    IfOk-weaker c.constraint_of.result
    (λ (r : List (List Lit)). (rule : Rule) → SomeObeys rule c.in_ok-both.both → ConstraintObeys rule r)
    (λ (r : List (List Lit)). (rule : Rule) → ConstraintObeys rule c.args.a.now → ConstraintObeys rule c.args.b.now → ConstraintObeys rule r)
    (λ r h rule s k. h rule (c.in_ok-both.ensures.rules rule (item_obeys rule c.args.a.now firsts 0 c.first-item.result c.as_slice.ensures (omega (arith, c.in-len1.len_at_least)) c.first-item.is s) (item_obeys rule c.args.b.now seconds 0 c.second-item.result c.as_slice-in-len1.ensures (omega (arith, c.in-len1-as_slice.len_at_least)) c.second-item.is k))) c.constraint_of.ensures.rules
