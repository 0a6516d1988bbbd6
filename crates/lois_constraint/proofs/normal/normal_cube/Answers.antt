use Rattle.std.proofs.Common.{◌≡◌, ◌≢◌, List, sym, ap, ◌∙◌, subst}
use Rattle.lois_base.specs.Atom.{Atom}
use Rattle.lois_base.specs.Truth.{cube_holds}
use Rattle.lois_base.specs.declared.guards.Lit.{Lit}
use Rattle.lois_constraint.specs.Normalised.{IsOriented, IsNormalCube}
use Rattle.lois_constraint.specs.Rules.{Rule, Obeys, CubeObeys}
use Rattle.lois_constraint.proofs.Normals.{same_all, same_hold}
use Rattle.lois_constraint.proofs.Uses.{same_answer}
use Rattle.lois_constraint.proofs.normal.normal_cube.Goals as goal

pub returns-clause-truth : goal.returns-clause-truth
returns-clause-truth c =
    let xs : List Lit = c.in_ok-literals.literals.items in
    let ys : List Lit = c.sort_literals.new.literals.items in
    same_answer c.cube_of.result c.deref-2.result.now (λ r. (e : List Atom) → cube_holds e r ≡ cube_holds e c.args.cube.now) c.cube_of.ensures (λ e. ap (cube_holds e) c.deref-2.ensures.value ∙ (same_hold xs ys c.sort_literals.ensures.same e ∙ (c.in_ok-literals.ensures.truth e ∙ (ap (cube_holds e) c.deref.ensures.value ∙ (c.in_ok-thin.ensures.truth e ∙ ap (cube_holds e) c.as_slice.ensures)))))

pub returns-clause-normal : goal.returns-clause-normal
returns-clause-normal c =
    let xs : List Lit = c.in_ok-literals.literals.items in
    let ys : List Lit = c.sort_literals.new.literals.items in
    let normal : IsNormalCube ys = record {
      apart = same_all xs ys c.sort_literals.ensures.same (λ l. l.left ≢ l.right) c.in_ok-literals.ensures.apart;
      turned = same_all xs ys c.sort_literals.ensures.same (λ l. IsOriented l.op l.left l.right) c.in_ok-literals.ensures.turned;
      increasing = c.sort_literals.ensures.increasing;
    } in
    same_answer c.cube_of.result c.deref-2.result.now IsNormalCube c.cube_of.ensures (subst IsNormalCube (sym c.deref-2.ensures.value) normal)

pub returns-clause-rules : goal.returns-clause-rules
returns-clause-rules c =
    let xs : List Lit = c.in_ok-literals.literals.items in
    let ys : List Lit = c.sort_literals.new.literals.items in
    same_answer c.cube_of.result c.deref-2.result.now (λ r. (rule : Rule) → CubeObeys rule c.args.cube.now → CubeObeys rule r) c.cube_of.ensures (λ rule h. subst (CubeObeys rule) (sym c.deref-2.ensures.value) (same_all xs ys c.sort_literals.ensures.same (Obeys rule) (c.in_ok-literals.ensures.rules rule (subst (CubeObeys rule) (sym c.deref.ensures.value) (c.in_ok-thin.ensures.rules rule (subst (CubeObeys rule) (sym c.as_slice.ensures) h))))))
