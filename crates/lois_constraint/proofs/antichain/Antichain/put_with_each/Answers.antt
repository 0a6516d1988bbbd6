use Rattle.std.proofs.Common.{List, ◌∙◌, arith}
use Rattle.lois_base.specs.Truth.{cube_holds, holds}
use Rattle.lois_base.specs.declared.guards.Lit.{Lit}
use Rattle.lois_constraint.proofs.Tightened.{product_grows}
use Rattle.lois_constraint.proofs.Uses.{item_obeys}
use Rattle.lois_constraint.proofs.antichain.Antichain.put_with_each.Goals as goal

pub loop-other-preserved : goal.loop-other-preserved
loop-other-preserved c =
    let closed : List Lit = c.args.closed.now in
    let x : List Lit = c.other-item.result in
    let items : List (List Lit) = c.as_slice-other-items.result.now in
    record {
      truth = λ e. c.in_ok-antichain.ensures.truth e ∙ product_grows e (holds e c.args.self) (cube_holds e closed) c.loop-other.antichain items c.loop-other.other-index x (omega arith) c.other-item.is (c.loop-other.invariant.truth e) _ (c.in_ok-both.ensures.truth e);
      rules = λ rule h k o. c.in_ok-antichain.ensures.rules rule (c.loop-other.invariant.rules rule h k o) (c.in_ok-both.ensures.rules rule k (item_obeys rule c.args.others.now items c.loop-other.other-index x c.as_slice-other-items.ensures (omega arith) c.other-item.is o));
    }
