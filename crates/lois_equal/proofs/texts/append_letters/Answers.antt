use Rattle.lois_base.specs.Fits.{Fits}
use Rattle.lois_base.specs.Tree.{tree}
use Rattle.lois_printer.proofs.Fitting.{holds_of_each}
use Rattle.lois_printer.proofs.Written.{piece_is_written, pieces_are_written}
use Rattle.lois_equal.specs.DifferenceText.{letter_text}
use Rattle.lois_equal.proofs.texts.append_letters.Goals as goal

pub append_term_line-requires : goal.append_term_line-requires
append_term_line-requires c =
    holds_of_each (Fits c.args.size) tree _ _ _ _ c.as_slice-letter-items.ensures c.loop-letter-test.true c.letter-item.is c.requires

pub loop-letter-preserved : goal.loop-letter-preserved
loop-letter-preserved c =
    piece_is_written (λ x. letter_text c.args.parameters.now c.args.size (tree x)) _ _ _ _ _ _ _ c.loop-letter-test.true c.letter-item.is c.loop-letter.invariant c.in_ok-append_term_line.ensures.appended

pub returns : goal.returns
returns c =
    pieces_are_written (letter_text c.args.parameters.now c.args.size) tree _ _ _ _ _ c.as_slice-letter-items.ensures c.loop-letter-test.false c.loop-letter.invariant
