use Rattle.std.proofs.Common.{◌++◌, codes, ap, ◌∙◌, append_assoc}
use Rattle.lois_answers.specs.LineView.{line_of}
use Rattle.lois_answers.specs.ResultsText.{line_text}
use Rattle.lois_answers.specs.TraceText.{element_text}
use Rattle.lois_printer.specs.Inside.{LineFits}
use Rattle.lois_printer.proofs.Fitting.{holds_of_each}
use Rattle.lois_printer.proofs.Written.{piece_is_written, pieces_are_written}
use Rattle.lois_printer.proofs.answers.append_elements.Goals as goal

pub append_line-requires : goal.append_line-requires
append_line-requires c =
    holds_of_each (LineFits c.args.size) line_of _ _ _ _ c.as_slice-element-items.ensures.items c.loop-element-test.true c.element-item.is c.requires

pub loop-element-preserved : goal.loop-element-preserved
loop-element-preserved c =
    piece_is_written (λ x. element_text c.args.parameters.now c.args.size (line_of x)) _ _ _ _ _ _ _ c.loop-element-test.true c.element-item.is c.loop-element.invariant
    (c.in_ok-append_line.ensures ∙ ap (λ z. z ++ line_text c.args.parameters.now c.args.size (line_of c.element-item.result)) c.in_ok-append.ensures ∙
    append_assoc c.loop-element.text.items (codes "for ") (line_text c.args.parameters.now c.args.size (line_of c.element-item.result)))

pub returns : goal.returns
returns c =
    pieces_are_written (element_text c.args.parameters.now c.args.size) line_of _ _ _ _ _ c.as_slice-element-items.ensures.items c.loop-element-test.false c.loop-element.invariant
