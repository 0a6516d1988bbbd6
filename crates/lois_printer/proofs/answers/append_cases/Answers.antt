use Rattle.lois_answers.specs.CaseView.{case_of}
use Rattle.lois_answers.specs.ResultsText.{case_text}
use Rattle.std.proofs.Common.{length}
use Rattle.lois_printer.specs.Inside.{CaseFits}
use Rattle.lois_printer.proofs.Fitting.{holds_of_each}
use Rattle.lois_printer.proofs.Written.{piece_is_written, pieces_are_written}
use Rattle.lois_printer.proofs.answers.append_cases.Goals as goal

pub append_case-requires : goal.append_case-requires
append_case-requires c =
    holds_of_each (CaseFits (length c.args.parameters.now)) case_of _ _ _ _ c.as_slice-case-items.ensures.items c.loop-case-test.true c.case-item.is c.requires

pub loop-case-preserved : goal.loop-case-preserved
loop-case-preserved c =
    piece_is_written (λ x. case_text c.args.parameters.now (case_of x)) _ _ _ _ _ _ _ c.loop-case-test.true c.case-item.is c.loop-case.invariant c.in_ok-append_case.ensures

pub returns : goal.returns
returns c =
    pieces_are_written (case_text c.args.parameters.now) case_of _ _ _ _ _ c.as_slice-case-items.ensures.items c.loop-case-test.false c.loop-case.invariant
