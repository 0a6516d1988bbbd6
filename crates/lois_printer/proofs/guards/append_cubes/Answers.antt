use Rattle.std.proofs.Common.{codes}
use Rattle.lois_answers.specs.TermText.{cube_text}
use Rattle.lois_printer.proofs.Written.{item_is_written}
use Rattle.lois_printer.proofs.guards.append_cubes.Goals as goal

pub loop-index-preserved : goal.loop-index-preserved
loop-index-preserved c =
    item_is_written (cube_text c.args.parameters.now) (codes " or ") c.args.cubes.now c.loop-index.index c.index-cubes-index.result _
    _ _ _ _ c.loop-index-test.true c.index-cubes-index.is c.loop-index.invariant c.in_ok-append_separator.ensures c.in_ok-append_cube.ensures
