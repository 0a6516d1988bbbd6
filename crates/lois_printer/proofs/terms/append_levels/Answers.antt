use Rattle.lois_printer.proofs.Guarded.{level_is_written}
use Rattle.lois_printer.proofs.terms.append_levels.Goals as goal

pub loop-level-preserved : goal.loop-level-preserved
loop-level-preserved c =
    level_is_written _ _ _ _ _ _ c.loop-level-test.true c.in_ok-append.ensures c.in_ok-append_level.ensures c.loop-level.invariant
