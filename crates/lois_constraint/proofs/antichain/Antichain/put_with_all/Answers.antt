use Rattle.std.proofs.Common.{◌≡◌, ◌&&◌, ◌||◌, List, length, ap, ◌∙◌, arith}
use Rattle.std.proofs.lemmas.Result.{IfOk-weaker}
use Rattle.lois_base.specs.Atom.{Atom}
use Rattle.lois_base.specs.Truth.{cube_holds, holds}
use Rattle.lois_base.specs.declared.guards.Lit.{Lit}
use Rattle.lois_constraint.specs.Rules.{Rule, CubeObeys, ConstraintObeys}
use Rattle.lois_constraint.proofs.Tightened.{alone_holds}
use Rattle.lois_constraint.proofs.Uses.{item_obeys}
use Rattle.lois_constraint.proofs.antichain.Antichain.put_with_all.Goals as goal

pub returns-in-len1-clause-truth : goal.returns-in-len1-clause-truth
returns-in-len1-clause-truth c =
    let cubes : List (List Lit) = c.as_slice.result.now in
    let x : List Lit = c.other-item.result in
    let one : length cubes ≡ 1 = omega (arith, c.in-len1.len_at_least, c.in-len1.len_below) in
    IfOk-weaker c.put_both.result
    (λ (r : List (List Lit)). (e : List Atom) → holds e r ≡ (holds e c.args.self || (cube_holds e c.args.closed && cube_holds e x)))
    (λ (r : List (List Lit)). (e : List Atom) → holds e r ≡ (holds e c.args.self || (cube_holds e c.args.closed && holds e c.args.others.now)))
    (λ r h e. h e ∙ ap (λ p. holds e c.args.self || (cube_holds e c.args.closed && p)) (alone_holds e cubes x one c.other-item.is ∙ ap (holds e) c.as_slice.ensures)) c.put_both.ensures.truth

pub returns-in-len1-clause-rules : goal.returns-in-len1-clause-rules
returns-in-len1-clause-rules c =
    let cubes : List (List Lit) = c.as_slice.result.now in
    let x : List Lit = c.other-item.result in
    IfOk-weaker c.put_both.result
    (λ (r : List (List Lit)). (rule : Rule) → ConstraintObeys rule c.args.self → CubeObeys rule c.args.closed → CubeObeys rule x → ConstraintObeys rule r)
    (λ (r : List (List Lit)). (rule : Rule) → ConstraintObeys rule c.args.self → CubeObeys rule c.args.closed → ConstraintObeys rule c.args.others.now → ConstraintObeys rule r)
    (λ r h rule s k o. h rule s k (item_obeys rule c.args.others.now cubes 0 x c.as_slice.ensures (omega (arith, c.in-len1.len_at_least)) c.other-item.is o)) c.put_both.ensures.rules
