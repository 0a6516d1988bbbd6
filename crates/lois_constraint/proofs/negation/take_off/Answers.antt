use Rattle.std.proofs.Common.{◌≡◌, not, ◌&&◌, List, take, ap, ◌∙◌, arith}
use Rattle.std.proofs.lemmas.Grind.{common_steps}
use Rattle.lois_base.specs.Truth.{holds}
use Rattle.lois_base.specs.declared.guards.Lit.{Lit}
use Rattle.lois_constraint.proofs.Tightened.{rest_shrinks}
use Rattle.lois_constraint.proofs.Uses.{item_obeys}
use Rattle.lois_constraint.proofs.negation.take_off.Goals as goal

pub loop-cube-preserved : goal.loop-cube-preserved
loop-cube-preserved c =
    let x : List Lit = c.cube-item.result in
    let items : List (List Lit) = c.as_slice-cube-items.result.now in
    record {
      truth = λ e. c.in_ok-rest.ensures.truth e ∙ rest_shrinks e (holds e c.args.antichain) c.loop-cube.rest items x c.loop-cube.cube-index (omega arith) c.cube-item.is (c.loop-cube.invariant.truth e);
      rules = λ rule d h k. c.in_ok-rest.ensures.rules rule d (c.loop-cube.invariant.rules rule d h k) (item_obeys rule c.args.c.now items c.loop-cube.cube-index x c.as_slice-cube-items.ensures (omega arith) c.cube-item.is k);
    }

pub returns-clause-truth : goal.returns-clause-truth
returns-clause-truth c =
    let k : take c.loop-cube.cube-index c.as_slice-cube-items.result.now ≡ c.args.c.now = grind (arith, common_steps) in
    λ e. c.loop-cube.invariant.truth e ∙ ap (λ (g : List (List Lit)). holds e c.args.antichain && not (holds e g)) k
