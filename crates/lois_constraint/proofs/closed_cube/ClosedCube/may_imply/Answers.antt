use Rattle.std.proofs.Common.{◌≡◌, ℕ, Bool, true, false, List, sym, subst}
use Rattle.std.proofs.lemmas.Bool.{false≢true}
use Rattle.lois_base.specs.Atom.{Atom}
use Rattle.lois_base.specs.Truth.{lit_holds, cube_holds}
use Rattle.lois_base.specs.declared.guards.Lit.{Lit}
use Rattle.lois_constraint.specs.Order.{is_implied}
use Rattle.lois_constraint.specs.LevelOrders.{is_at_most}
use Rattle.lois_constraint.proofs.Implied.{told_exactly}
use Rattle.lois_constraint.proofs.closed_cube.ClosedCube.may_imply.Goals as goal

pub returns : goal.returns
returns c = λ no all.
    let cube : List Lit = c.self.inside.cube in
    let le : ℕ → ℕ → Bool = is_at_most c.self.inside.order in
    let lit : Lit = c.args.lit in
    let told : false ≡ is_implied le cube lit.op lit.left lit.right = sym (c.may_be_implied.ensures no cube) in
    let own : (e : List Atom) → cube_holds e cube ≡ true → lit_holds e lit ≡ true = subst (λ (k : List Lit). (e : List Atom) → cube_holds e k ≡ true → lit_holds e lit ≡ true) (sym c.self.view_is) all in
    false≢true ((told_exactly le cube c.self.invariant lit false told).1 own)
