use Rattle.std.proofs.Common.{arith}
use Rattle.lois_base.specs.Tree.{tree}
use Rattle.lois_simplify.proofs.OneRound.{unused_less}
use Rattle.lois_simplify.proofs.rounds.close_round.Goals as goal

pub returns-in_ok-without_binder-in-Some : goal.returns-in_ok-without_binder-in-Some
returns-in_ok-without_binder-in-Some g c =
    let k = c.args.comp in
    let r = c.in_ok-without_binder-in-Some.field-0 in
    let e = c.in_ok-without_binder-in-Some.ensures in (
      unused_less c.args.size k.binders r.binders c.in-Some.binder k.guard r.guard (tree k.item) (tree r.item) e.binders e.item c.in-Some.ensures.range.0 c.in-Some.ensures.range.1 e.guard e.guard_levels e.guard_operators c.requires.over.levels c.in-Some.ensures.some,
      omega (arith, e.binders),
    )
