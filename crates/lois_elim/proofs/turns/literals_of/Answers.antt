use Rattle.std.proofs.Common.{◌+◌, ◌<◌, length, arith, sym, subst, ◌∙◌}
use Rattle.std.proofs.lemmas.Bool.{false≢true}
use Rattle.lois_base.specs.FormulaData.{formulas_of}
use Rattle.lois_base.specs.FormulaView.{views}
use Rattle.lois_elim.proofs.Turning.{LiteralsSoFar, one_literal, no_literal}
use Rattle.lois_elim.proofs.Steps.{parts_from}
use Rattle.lois_elim.proofs.turns.literals_of.Goals as goal
use Rattle.lois_elim.proofs.turns.literals_of.Goals.{in-Some+in_ok-push-in-Some, in-None}

pub loop-part-preserved : goal.loop-part-preserved
loop-part-preserved c =
    let whole = formulas_of (views c.args.parts.now) in
    let items = c.as_slice-part-items.result.now in
    let i = c.loop-part.part-index in
    let below : i < length items = omega arith in
    elim c.match-as_literal.branch [
      | in-Some+in_ok-push-in-Some w ↦ one_literal c.args.free c.args.bound.now whole items i c.part-item.result below c.part-item.is c.loop-part.cube c.loop-part.invariant w.in-Some.lit w.literal_named.result c.match-as_literal.cube w.in-Some.ensures (w.cube-is ∙ w.in_ok-push-in-Some.ensures.ok) w.literal_named.ensures.truth w.literal_named.ensures.levels w.literal_named.ensures.operator
      | in-None w ↦ subst (LiteralsSoFar c.args.free c.args.bound.now whole (parts_from items (i + 1))) (sym w.cube-is) (no_literal c.args.free c.args.bound.now whole items i c.part-item.result below c.part-item.is c.loop-part.cube c.loop-part.invariant (λ t. false≢true (sym w.in-None.ensures ∙ t)))
    ]
