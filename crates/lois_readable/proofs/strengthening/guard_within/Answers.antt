use Rattle.lois_base.specs.Tree.{tree}
use Rattle.lois_readable.proofs.Strengthened.{guard_shortened}
use Rattle.lois_readable.proofs.strengthening.guard_within.Goals as goal

pub returns-then-guard_weight : goal.returns-then-guard_weight
returns-then-guard_weight c =
    let k = c.args.comp.now in
    let both = c.in_ok-strong.ensures in
    guard_shortened c.args.under.now k.binders k.guard (tree k.item) c.in_ok-strong.strong c.in_ok-short.short both.truth both.fits both.operators
    (c.is_worth_strengthening.ensures c.if-not-is_worth_strengthening.false) c.in_ok-short.ensures.shortened
