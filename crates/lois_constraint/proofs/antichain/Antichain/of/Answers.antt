use Rattle.std.proofs.Common.{◌≡◌, ◌||◌, List, take, ap, ◌∙◌, arith}
use Rattle.std.proofs.lemmas.Grind.{common_steps}
use Rattle.lois_base.specs.Truth.{holds}
use Rattle.lois_base.specs.declared.guards.Lit.{Lit}
use Rattle.lois_constraint.proofs.Tightened.{constraint_grows}
use Rattle.lois_constraint.proofs.Uses.{item_obeys}
use Rattle.lois_constraint.proofs.antichain.Antichain.of.Goals as goal

pub loop-cube-preserved : goal.loop-cube-preserved
loop-cube-preserved c =
    let x : List Lit = c.cube-item.result in
    let items : List (List Lit) = c.as_slice-cube-items.result.now in
    record {
      truth = λ e. constraint_grows e c.loop-cube.antichain c.in_ok-antichain.antichain items x c.loop-cube.cube-index (omega arith) c.cube-item.is (c.loop-cube.invariant.truth e) (c.in_ok-antichain.ensures.truth e ∙ ap (λ p. holds e c.loop-cube.antichain || p) (c.in_ok-of.ensures.truth e));
      rules = λ rule h. c.in_ok-antichain.ensures.rules rule (c.loop-cube.invariant.rules rule h) (c.in_ok-of.ensures.rules rule (item_obeys rule c.args.c.now items c.loop-cube.cube-index x c.as_slice-cube-items.ensures (omega arith) c.cube-item.is h));
    }

pub returns-clause-truth : goal.returns-clause-truth
returns-clause-truth c =
    let k : take c.loop-cube.cube-index c.as_slice-cube-items.result.now ≡ c.args.c.now = grind (arith, common_steps) in
    λ e. c.loop-cube.invariant.truth e ∙ ap (holds e) k
