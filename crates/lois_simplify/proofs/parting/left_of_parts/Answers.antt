use Rattle.std.proofs.Common.{◌++◌, sym, ◌∙◌, subst, arith}
use Rattle.std.specs.Bool.{IsTrue}
use Rattle.std.proofs.lemmas.List.{take_all}
use Rattle.lois_base.specs.Truth.{holds}
use Rattle.lois_simplify.proofs.Parted.{one_cube, left_before, left_behind}
use Rattle.lois_simplify.proofs.Plain.{one_more_part}
use Rattle.lois_simplify.proofs.parting.left_of_parts.Goals as goal

pub loop-part-preserved : goal.loop-part-preserved
loop-part-preserved c = λ e h.
    let g = c.args.outer.now in
    let now = c.append.new.constraint in
    one_more_part e c.as_slice-part-items.result.now c.loop-part.part-index c.part-item.result c.loop-part-test.true c.part-item.is (now ++ g) (λ b. left_before e g c.loop-part.left c.in_ok-more.more now c.in_ok-append.ensures (c.loop-part.invariant e b)) (λ one. left_behind e g c.loop-part.left c.in_ok-more.more now c.in_ok-append.ensures (c.in_ok-more.ensures e (one_cube e _ one))) h

pub returns : goal.returns
returns c = λ e h.
    let all = take_all c.loop-part.part-index c.as_slice-part-items.result.now (omega (arith, c.loop-part-test.false)) ∙ c.as_slice-part-items.ensures in
    c.loop-part.invariant e (subst (λ z. IsTrue (holds e z)) (sym all) h)
