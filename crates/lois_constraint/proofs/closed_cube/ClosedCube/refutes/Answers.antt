use Rattle.std.proofs.Common.{◌≡◌, ℕ, Bool, true, false, List, subst}
use Rattle.lois_base.specs.Atom.{Atom}
use Rattle.lois_base.specs.Truth.{lit_holds, cube_holds}
use Rattle.lois_base.specs.declared.guards.Lit.{Lit}
use Rattle.lois_constraint.specs.Order.{is_refuted}
use Rattle.lois_constraint.specs.LevelOrders.{is_at_most}
use Rattle.lois_constraint.proofs.Implied.{denied_nowhere}
use Rattle.lois_constraint.proofs.closed_cube.ClosedCube.refutes.Goals as goal

pub returns : goal.returns
returns c =
    let cube : List Lit = c.self.inside.cube in
    let le : ℕ → ℕ → Bool = is_at_most c.self.inside.order in
    let lit : Lit = c.args.lit in
    let told : c.is_refuted.result ≡ is_refuted le cube lit.op lit.left lit.right = c.is_refuted.ensures in
    subst (λ (k : List Lit). c.is_refuted.result ≡ true → (e : List Atom) → cube_holds e k ≡ true → lit_holds e lit ≡ false) c.self.view_is (denied_nowhere le cube c.self.invariant lit c.is_refuted.result told)
