use Rattle.std.proofs.Common.{ℕ, Bool, List, sym, subst}
use Rattle.lois_base.specs.declared.guards.Lit.{Lit}
use Rattle.lois_constraint.specs.Order.{IsOrderClosure}
use Rattle.lois_constraint.specs.LevelOrders.{is_at_most}
use Rattle.lois_constraint.proofs.Linked.{no_order}
use Rattle.lois_constraint.proofs.closed_cube.ClosedCube.new.Goals as goal

pub invariant_of-result : goal.invariant_of-result
invariant_of-result c =
    let le : ℕ → ℕ → Bool = is_at_most c.new-2.result in
    subst (λ (k : List Lit). IsOrderClosure le k) (sym c.new.ensures) (no_order le c.new-2.ensures)
