use Rattle.std.proofs.Common.{List, subst}
use Rattle.lois_base.specs.declared.guards.Lit.{Lit}
use Rattle.lois_constraint.specs.LevelOrders.{is_at_most}
use Rattle.lois_constraint.specs.Signature.{EntailsLit, RecordsLit}
use Rattle.lois_constraint.proofs.SignatureBits.{follows_shown}
use Rattle.lois_constraint.proofs.closed_cube.ClosedCube.order.Goals as goal

pub returns : goal.returns
returns c =
    let cube : List Lit = c.self.inside.cube in
    subst (λ (k : List Lit). (l : Lit) → EntailsLit k l → RecordsLit c.low_levels.result l) c.self.view_is (follows_shown (is_at_most c.self.inside.order) cube c.self.invariant c.low_levels.result c.low_levels.ensures)
