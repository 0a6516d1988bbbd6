use Rattle.std.proofs.Common.{[], ◌∷◌, ◌++◌, take, sym, ap, ◌∙◌, subst, arith}
use Rattle.std.specs.List.{All}
use Rattle.std.proofs.lemmas.List.{take_more, take_all}
use Rattle.std.proofs.lemmas.List.Elements.{All-push}
use Rattle.lois_simplify.specs.Shortened.{SpeaksOfBoth, SpeaksOfAll}
use Rattle.lois_simplify.proofs.shortening.uses_only.Goals as goal

pub loop-cube-preserved : goal.loop-cube-preserved
loop-cube-preserved c =
    let g = c.args.guard.now in
    let items = c.as_slice-cube-items.result.now in
    let i = c.loop-cube.cube-index in
    let k = c.cube-item.result in
    subst (SpeaksOfAll g) (sym (take_more items i k c.loop-cube-test.true ∙ ap (λ z. take i items ++ z ∷ []) (sym c.cube-item.is)))
    (All-push (All (SpeaksOfBoth g)) (take i items) k c.loop-cube.invariant (c.cube_uses_only.ensures c.if-not-cube_uses_only.false))

pub returns : goal.returns
returns c = λ t. subst (SpeaksOfAll c.args.guard.now) (take_all c.loop-cube.cube-index c.as_slice-cube-items.result.now (omega (arith, c.loop-cube-test.false)) ∙ c.as_slice-cube-items.ensures) c.loop-cube.invariant
