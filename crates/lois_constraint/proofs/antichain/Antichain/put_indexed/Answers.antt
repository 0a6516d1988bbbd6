use Rattle.std.proofs.Common.{List, sym, subst}
use Rattle.std.specs.List.{All}
use Rattle.lois_base.specs.declared.guards.Lit.{Lit}
use Rattle.lois_constraint.specs.Entailment.{CubeIsSatisfiable, Entails, IsPruned}
use Rattle.lois_constraint.proofs.Pruned.{pruned_more}
use Rattle.lois_constraint.proofs.antichain.Antichain.put_indexed.Goals as goal

pub invariant_of-result : goal.invariant_of-result
invariant_of-result c =
    let cube : List Lit = c.args.cube in
    let none : All (λ k. Entails cube k → ⊥) c.self.inside.items.items = subst (All (λ k. Entails cube k → ⊥)) (sym c.self.view_is) (c.covers.ensures.uncovered c.if-covers.false) in
    let met : CubeIsSatisfiable cube = subst CubeIsSatisfiable c.cube.view_is c.cube.invariant.0 in
    subst IsPruned (sym c.in_ok-push.ensures.items) (pruned_more c.in_ok-kept.kept.items cube (c.in_ok-kept.ensures.pruned c.self.invariant) met c.in_ok-kept.ensures.outside (c.in_ok-kept.ensures.uncovered none))
