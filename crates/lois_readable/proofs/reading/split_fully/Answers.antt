use Rattle.std.proofs.Common.{sym, subst}
use Rattle.lois_base.specs.Tree.{tree}
use Rattle.lois_simplify.specs.Simplification.{IsSimplification}
use Rattle.lois_simplify.proofs.Kept.{kept_refl, kept_trans}
use Rattle.lois_readable.proofs.reading.split_fully.Goals as goal

pub loop-round-init : goal.loop-round-init
loop-round-init c =
    let u = c.args.under.now in
    let n = c.args.size in
    subst (λ r. IsSimplification u n (tree c.args.term.now) (tree r)) (sym c.in_ok-whole.ensures) (kept_refl u n (tree c.args.term.now))

pub split-requires : goal.split-requires
split-requires c = record { levels = c.loop-round.invariant.levels c.requires.levels; under_levels = c.requires.under_levels }

pub loop-round-preserved : goal.loop-round-preserved
loop-round-preserved c =
    kept_trans c.args.under.now c.args.size (tree c.args.term.now) (tree c.loop-round.whole) (tree c.in_ok-parted.parted) c.loop-round.invariant c.in_ok-parted.ensures
