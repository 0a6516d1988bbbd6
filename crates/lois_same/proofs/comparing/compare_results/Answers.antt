use Rattle.std.proofs.Common.{refl, sym, ◌∙◌}
use Rattle.std.proofs.lemmas.Bool.{false≢true}
use Rattle.lois_same.proofs.SameCases.{sound_cases, cases_fit, flaw_of, partition_of}
use Rattle.lois_same.proofs.comparing.compare_results.Goals as goal

pub check_partition-requires : goal.check_partition-requires
check_partition-requires g c =
    let r = c.args.first.now in
    cases_fit r.order c.len.result r.cases (sound_cases r.order r.order _ _ r.cases refl (sym c.len.ensures) c.requires.first.cases)

pub check_partition-requires-2 : goal.check_partition-requires-2
check_partition-requires-2 g c =
    let q = c.args.second.now in
    cases_fit q.order c.len-2.result q.cases (sound_cases q.order q.order _ _ q.cases refl (sym c.len-2.ensures) c.requires.second.cases)

pub returns-then-not-is_whole-clause-likeness : goal.returns-then-not-is_whole-clause-likeness
returns-then-not-is_whole-clause-likeness g c =
    flaw_of c.args.first.now c.len.result c.in_ok-ours.ours c.len.ensures (λ e. false≢true (sym c.if-not-is_whole.true ∙ c.is_whole.ensures.1 e)) c.in_ok-ours.ensures.partition

pub returns-then-not-is_whole-2-clause-likeness : goal.returns-then-not-is_whole-2-clause-likeness
returns-then-not-is_whole-2-clause-likeness g c = (
  partition_of c.args.first.now c.len.result c.in_ok-ours.ours c.len.ensures (c.is_whole.ensures.0 c.if-not-is_whole.false) c.in_ok-ours.ensures.partition,
  flaw_of c.args.second.now c.len-2.result c.in_ok-theirs.theirs c.len-2.ensures (λ e. false≢true (sym c.if-not-is_whole-2.true ∙ c.is_whole-2.ensures.1 e)) c.in_ok-theirs.ensures.partition,
)

pub compare_partitions-requires-clause-partitions : goal.compare_partitions-requires-clause-partitions
compare_partitions-requires-clause-partitions g c = (
  partition_of c.args.first.now c.len.result c.in_ok-ours.ours c.len.ensures (c.is_whole.ensures.0 c.if-not-is_whole.false) c.in_ok-ours.ensures.partition,
  partition_of c.args.second.now c.len-2.result c.in_ok-theirs.theirs c.len-2.ensures (c.is_whole-2.ensures.0 c.if-not-is_whole-2.false) c.in_ok-theirs.ensures.partition,
)
