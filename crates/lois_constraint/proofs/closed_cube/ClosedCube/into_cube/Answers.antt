use Rattle.std.proofs.Common.{subst}
use Rattle.lois_constraint.specs.Entailment.{CubeIsSatisfiable}
use Rattle.lois_constraint.proofs.Ranked.{order_met}
use Rattle.lois_constraint.proofs.closed_cube.ClosedCube.into_cube.Goals as goal

pub returns-clause-met : goal.returns-clause-met
returns-clause-met c = subst CubeIsSatisfiable c.self.view_is (order_met _ _ c.self.invariant)
