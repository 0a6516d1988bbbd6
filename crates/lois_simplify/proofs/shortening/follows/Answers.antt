use Rattle.std.proofs.Common.{sym, ◌∙◌, subst, arith}
use Rattle.std.specs.Bool.{IsTrue}
use Rattle.std.proofs.lemmas.List.{take_all}
use Rattle.lois_base.specs.Truth.{holds}
use Rattle.lois_simplify.proofs.Plain.{follows_where, fails_where, part_holds, one_more_part}
use Rattle.lois_simplify.proofs.shortening.follows.Goals as goal

pub returns-then-len-ne0-clause-no : goal.returns-then-len-ne0-clause-no
returns-then-len-ne0-clause-no c = λ f.
    let items = c.as_slice-cube-items.result.now in
    let k = c.cube-item.result in
    let w = fails_where c.in_ok-part.part c.args.guard.now c.in_ok-beyond.beyond c.in_ok-beyond.ensures.truth c.in_ok-beyond.ensures.pruned (λ none. omega (arith, none, c.if-len-ne0.true, c.len.ensures)) in
    (w.0, subst (λ z. IsTrue (holds w.0 z)) c.as_slice-cube-items.ensures (part_holds w.0 items c.loop-cube.cube-index k c.loop-cube-test.true c.cube-item.is (subst (λ z. IsTrue (holds w.0 z)) c.in_ok-part.ensures.cubes w.1)), w.2)

pub loop-cube-preserved : goal.loop-cube-preserved
loop-cube-preserved c = λ e h.
    let items = c.as_slice-cube-items.result.now in
    let k = c.cube-item.result in
    let g = c.args.guard.now in
    one_more_part e items c.loop-cube.cube-index k c.loop-cube-test.true c.cube-item.is g (c.loop-cube.invariant e) (λ one. follows_where c.in_ok-part.part g c.in_ok-beyond.beyond c.in_ok-beyond.ensures.truth (omega (arith, c.if-len-ne0.false, c.len.ensures)) e (subst (λ z. IsTrue (holds e z)) (sym c.in_ok-part.ensures.cubes) one)) h

pub returns-clause-yes : goal.returns-clause-yes
returns-clause-yes c = λ t e h.
    let items = c.as_slice-cube-items.result.now in
    let all = take_all c.loop-cube.cube-index items (omega (arith, c.loop-cube-test.false)) ∙ c.as_slice-cube-items.ensures in
    c.loop-cube.invariant e (subst (λ z. IsTrue (holds e z)) (sym all) h)
