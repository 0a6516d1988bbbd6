use Rattle.lois_answers.specs.LineView.{line_of}
use Rattle.lois_answers.specs.ResultsText.{line_text}
use Rattle.lois_printer.specs.Inside.{LineFits}
use Rattle.lois_printer.proofs.Fitting.{holds_of_each}
use Rattle.lois_printer.proofs.Written.{piece_is_written, pieces_are_written}
use Rattle.lois_printer.proofs.answers.append_lines.Goals as goal

pub append_line-requires : goal.append_line-requires
append_line-requires c =
    holds_of_each (LineFits c.args.size) line_of _ _ _ _ c.as_slice-line-items.ensures.items c.loop-line-test.true c.line-item.is c.requires

pub loop-line-preserved : goal.loop-line-preserved
loop-line-preserved c =
    piece_is_written (λ x. line_text c.args.parameters.now c.args.size (line_of x)) _ _ _ _ _ _ _ c.loop-line-test.true c.line-item.is c.loop-line.invariant c.in_ok-append_line.ensures

pub returns : goal.returns
returns c =
    pieces_are_written (line_text c.args.parameters.now c.args.size) line_of _ _ _ _ _ c.as_slice-line-items.ensures.items c.loop-line-test.false c.loop-line.invariant
