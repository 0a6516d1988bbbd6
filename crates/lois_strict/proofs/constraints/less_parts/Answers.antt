use Rattle.std.proofs.Common.{List, arith}
use Rattle.lois_base.specs.Truth.{lit_holds}
use Rattle.lois_base.specs.declared.guards.Lit.{Lit}
use Rattle.lois_constraint.proofs.Tightened.{met_read}
use Rattle.lois_constraint.proofs.Uses.{item_obeys}
use Rattle.lois_strict.specs.Literals.{with_less}
use Rattle.lois_strict.proofs.constraints.less_parts.Goals as goal

pub loop-part-preserved : goal.loop-part-preserved
loop-part-preserved c =
    let x : List Lit = c.part-item.result in
    let items : List (List Lit) = c.as_slice-part-items.result.now in
    record {
      truth = λ e. met_read e (lit_holds e (with_less c.args.lit)) c.loop-part.apart _ items x c.loop-part.part-index (omega arith) c.part-item.is (c.loop-part.invariant.truth e) (c.in_ok-push_longer.ensures.truth e);
      rules = λ rule h q. let o = item_obeys rule c.args.parts.now items c.loop-part.part-index x c.as_slice-part-items.ensures (omega arith) c.part-item.is h in c.in_ok-push_longer.ensures.rules rule (c.loop-part.invariant.rules rule h q) o q;
    }
