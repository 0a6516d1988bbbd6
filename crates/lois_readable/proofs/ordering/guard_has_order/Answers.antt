use Rattle.std.proofs.Common.{sym, subst}
use Rattle.std.specs.List.{All}
use Rattle.lois_base.specs.Validity.{AdmitsCube}
use Rattle.lois_readable.proofs.ordering.guard_has_order.Goals as goal

pub returns-then-cube_has_order : goal.returns-then-cube_has_order
returns-then-cube_has_order c =
    let k = c.cube-item.result in
    λ h o all. c.cube_has_order.ensures c.if-cube_has_order.true o
    (subst (AdmitsCube o) (sym c.cube-item.is) (subst (All (AdmitsCube o)) (sym c.as_slice-cube-items.ensures) all c.loop-cube.cube-index k c.loop-cube-test.true))
