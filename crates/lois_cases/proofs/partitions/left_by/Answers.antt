use Rattle.lois_answers.specs.CaseView.{case_of}
use Rattle.lois_cases.specs.Cases.{CaseFits}
use Rattle.lois_cases.proofs.Excluded.{left_by_more, left_by_all}
use Rattle.lois_cases.proofs.Parted.{of_each}
use Rattle.lois_cases.proofs.partitions.left_by.Goals as goal

pub loop-case-preserved : goal.loop-case-preserved
loop-case-preserved c =
    let xs = c.args.cases.now in
    let i = c.loop-case.case-index in
    let x = c.case-item.result in
    record {
      truth = left_by_more xs i x c.loop-case.left c.in_ok-left-2.left c.loop-case-test.true c.case-item.is c.loop-case.invariant.truth c.in_ok-left-2.ensures.truth;
      levels = c.in_ok-left-2.ensures.fits c.args.size c.loop-case.invariant.levels (of_each case_of (CaseFits c.args.size) xs i x c.loop-case-test.true c.case-item.is c.requires);
    }

pub returns-clause-truth : goal.returns-clause-truth
returns-clause-truth c =
    left_by_all c.args.cases.now c.loop-case.case-index c.loop-case.left c.loop-case-test.false c.loop-case.invariant.truth
