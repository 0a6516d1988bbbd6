use Rattle.std.proofs.Common.{◌+◌, map, take, drop, subst, arith}
use Rattle.lois_answers.specs.CaseView.{case_of}
use Rattle.lois_cases.specs.Cases.{CaseFits}
use Rattle.lois_cases.specs.Partitions.{IsMeeting, IsMeetingOrNone}
use Rattle.lois_cases.proofs.Excluded.{all_exclude, overlap_at}
use Rattle.lois_cases.proofs.Parted.{parted_at, count_before, of_each, of_rest, rest_from}
use Rattle.lois_cases.proofs.partitions.find_overlap.Goals as goal

pub find_meeting-requires-clause-when : goal.find_meeting-requires-clause-when
find_meeting-requires-clause-when g c =
    of_each case_of (CaseFits c.args.size) c.args.cases.now c.loop-index.index c.index-cases-index.result c.loop-index-test.true c.index-cases-index.is c.requires

pub find_meeting-requires-clause-cases : goal.find_meeting-requires-clause-cases
find_meeting-requires-clause-cases g c = of_rest case_of (CaseFits c.args.size) c.args.cases.now (c.loop-index.index + 1) c.requires

pub returns-in-Some-clause-overlap : goal.returns-in-Some-clause-overlap
returns-in-Some-clause-overlap g c =
    let xs = c.args.cases.now in
    let i = c.loop-index.index in
    let x = c.index-cases-index.result in
    let n = c.args.size in
    let m = c.in-Some.meeting in
    overlap_at n (map case_of xs) (map case_of (take i xs)) (map case_of (drop (i + 1) xs)) (case_of x) i m (parted_at case_of xs i x c.loop-index-test.true c.index-cases-index.is) (count_before case_of xs i c.loop-index-test.true)
    (subst (λ cs. IsMeeting n x.when cs m) (rest_from case_of xs (i + 1)) (subst (IsMeetingOrNone n x.when _) c.in-Some.is c.in_ok-found.ensures.meeting))

pub returns-clause-overlap : goal.returns-clause-overlap
returns-clause-overlap g c =
    all_exclude c.args.size c.args.cases.now (λ i x l. c.loop-index.invariant.sofar i x (omega (arith, l, c.loop-index-test.false)))
