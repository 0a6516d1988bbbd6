use Rattle.std.proofs.Common.{◌||◌, [], ◌∷◌, ◌++◌, ap, sym, ◌∙◌, subst, arith}
use Rattle.std.specs.Bool.{IsTrue}
use Rattle.std.specs.List.{list_any}
use Rattle.std.proofs.lemmas.List.{take_all}
use Rattle.lois_base.specs.Truth.{lit_holds}
use Rattle.lois_base.specs.declared.guards.Lit.{Lit}
use Rattle.lois_base.specs.declared.guards.Op.TheVariants.{Eq}
use Rattle.lois_simplify.proofs.Parted.{first_half, one_more_half, one_holds}
use Rattle.lois_simplify.proofs.parting.halves.Goals as goal

pub loop-other-init : goal.loop-other-init
loop-other-init c = λ e h one.
    let within = c.in_ok-within.within in
    first_half e c.args.part.now c.args.lit within c.push.new.self c.in_ok-within.ensures (c.in_ok-push.ensures.ok ∙ ap (λ z. z ++ within ∷ []) c.new-halves.ensures) h one

pub loop-other-preserved : goal.loop-other-preserved
loop-other-preserved c = λ e h some.
    let unused : Lit = record { op = Eq; left = 0; right = 0 } in
    one_more_half e c.args.part.now c.args.lit c.as_slice-other-items.result.now c.loop-other.other-index unused c.in_ok-beyond.beyond c.loop-other.halves c.push-in-loop-other.new.self c.loop-other-test.true c.in_ok-beyond.ensures c.in_ok-push-2.ensures.ok (c.loop-other.invariant e) h some

pub returns : goal.returns
returns c = λ e h.
    let all = take_all c.loop-other.other-index c.as_slice-other-items.result.now (omega (arith, c.loop-other-test.false)) ∙ c.as_slice-other-items.ensures ∙ c.in_ok-turned.ensures in
    c.loop-other.invariant e h (subst (λ z. IsTrue (lit_holds e c.args.lit || list_any (lit_holds e) z)) (sym all) (one_holds e c.args.lit))
