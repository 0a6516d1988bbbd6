use Rattle.std.proofs.Common.{take, map}
use Rattle.lois_answers.specs.CaseView.{case_of}
use Rattle.lois_deciders.specs.OnlyAsked.{HasOnlyAsked}
use Rattle.lois_census.specs.Censuses.{AreCensusesOf, numbered}
use Rattle.lois_census.proofs.answering.all_censuses.Given as goal

abbrev pub invariant-loop-index : goal.invariant-loop-index
invariant-loop-index g l = record {
  censuses : AreCensusesOf g.T.Structure.ordered l.name (numbered 1 (map case_of (take l.index l.case-items))) l.censuses;
  only_asked : HasOnlyAsked (λ b. (goal.Decider-dyn g (b.vtable, b.value)).kind_of b.value) (λ b. (goal.Decider-dyn g (b.vtable, b.value)).questions b.value) l.fn.chosen l.chosen;
}
