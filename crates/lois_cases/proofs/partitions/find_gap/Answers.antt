use Rattle.std.proofs.Common.{map}
use Rattle.lois_answers.specs.CaseView.{case_of}
use Rattle.lois_cases.proofs.Excluded.{gap_ok}
use Rattle.lois_cases.proofs.partitions.find_gap.Goals as goal

pub returns-clause-gap : goal.returns-clause-gap
returns-clause-gap g c =
    gap_ok c.args.size (map case_of c.args.cases.now) c.in_ok-left.left c.ask_for_numbers.result c.in_ok-left.ensures.truth c.ask_for_numbers.ensures.sample c.ask_for_numbers.ensures.none
