use Rattle.std.proofs.Common.{map, subst}
use Rattle.lois_answers.specs.CaseView.{case_of}
use Rattle.lois_cases.specs.Partitions.{AllExclude, IsOverlapOrNone, IsGapOrNone, IsPartitioned}
use Rattle.lois_cases.specs.declared.partitions.Partition.TheVariants.{Whole, Gap}
use Rattle.lois_cases.proofs.Excluded.{never_overlap, is_partition}
use Rattle.lois_cases.proofs.partitions.check_partition.Goals as goal

pub returns-in-Some-2-clause-partition : goal.returns-in-Some-2-clause-partition
returns-in-Some-2-clause-partition g c =
    let n = c.args.size in
    let cs = map case_of c.as_slice-all.result.now in
    let apart : AllExclude n cs = subst (IsOverlapOrNone n cs) c.in_default.is c.in_ok-pair.ensures.overlap in
    let gap = subst (IsGapOrNone n cs) c.in-Some-2.is c.in_ok-sample.ensures.gap in
    subst (λ z. IsPartitioned n z (Gap c.in-Some-2.sample)) c.as_slice-all.ensures.items (gap.0, never_overlap n cs apart, gap.1)

pub returns-in-None-clause-partition : goal.returns-in-None-clause-partition
returns-in-None-clause-partition g c =
    let n = c.args.size in
    let cs = map case_of c.as_slice-all.result.now in
    let apart : AllExclude n cs = subst (IsOverlapOrNone n cs) c.in_default.is c.in_ok-pair.ensures.overlap in
    let covered = subst (IsGapOrNone n cs) c.in-None.is c.in_ok-sample.ensures.gap in
    subst (λ z. IsPartitioned n z Whole) c.as_slice-all.ensures.items (is_partition n cs apart covered)
