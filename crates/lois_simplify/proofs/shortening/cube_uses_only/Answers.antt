use Rattle.std.proofs.Common.{take, get_or, sym, ◌∙◌, subst, arith}
use Rattle.std.specs.List.{All}
use Rattle.std.proofs.lemmas.List.{take_more, take_all}
use Rattle.std.proofs.lemmas.List.Elements.{All-push}
use Rattle.lois_base.specs.declared.guards.Lit.{Lit}
use Rattle.lois_base.specs.declared.guards.Op.TheVariants.{Eq}
use Rattle.lois_simplify.specs.Shortened.{SpeaksOfBoth}
use Rattle.lois_simplify.proofs.shortening.cube_uses_only.Goals as goal

pub loop-lit-preserved : goal.loop-lit-preserved
loop-lit-preserved c =
    let items = c.as_slice-lit-items.result.now in
    let i = c.loop-lit.lit-index in
    let unused : Lit = record { op = Eq; left = 0; right = 0 } in
    subst (All (SpeaksOfBoth c.args.guard.now)) (sym (take_more items i unused c.loop-lit-test.true))
    (All-push (SpeaksOfBoth c.args.guard.now) (take i items) (get_or items i unused) c.loop-lit.invariant (c.lit_uses_only.ensures.0 c.if-not-lit_uses_only.false))

pub returns : goal.returns
returns c = λ t. subst (All (SpeaksOfBoth c.args.guard.now)) (take_all c.loop-lit.lit-index c.as_slice-lit-items.result.now (omega (arith, c.loop-lit-test.false)) ∙ c.as_slice-lit-items.ensures) c.loop-lit.invariant
