use Rattle.std.proofs.Common.{◌&&◌, ◌||◌, List, ap, ◌∙◌, arith}
use Rattle.lois_base.specs.Truth.{lit_holds, cube_holds, holds}
use Rattle.lois_base.specs.declared.guards.Lit.{Lit}
use Rattle.lois_constraint.proofs.Tightened.{met_read}
use Rattle.lois_constraint.proofs.Uses.{item_obeys}
use Rattle.lois_strict.specs.Literals.{with_less, with_equal, a_part_holds}
use Rattle.lois_strict.proofs.ApartLiterals.{two_parts}
use Rattle.lois_strict.proofs.constraints.split_parts.Goals as goal

pub loop-part-preserved : goal.loop-part-preserved
loop-part-preserved c =
    let x : List Lit = c.part-item.result in
    let items : List (List Lit) = c.as_slice-part-items.result.now in
    let before = c.loop-part.split in
    record {
      truth = λ e. met_read e (a_part_holds e c.args.lit) before c.push_part-in-loop-part.new.parts items x c.loop-part.part-index (omega arith) c.part-item.is (c.loop-part.invariant.truth e) (c.in_ok-push_part-2.ensures.truth e ∙ (ap (λ b. b || (cube_holds e x && lit_holds e (with_equal c.args.lit))) (c.in_ok-push_part.ensures.truth e) ∙ two_parts (holds e before) (cube_holds e x) (lit_holds e (with_less c.args.lit)) (lit_holds e (with_equal c.args.lit))));
      rules = λ rule h p q. let o = item_obeys rule c.args.parts.now items c.loop-part.part-index x c.as_slice-part-items.ensures (omega arith) c.part-item.is h in c.in_ok-push_part-2.ensures.rules rule (c.in_ok-push_part.ensures.rules rule (c.loop-part.invariant.rules rule h p q) o p) o q;
    }
