use Rattle.std.proofs.Common.{length, subst}
use Rattle.std.specs.Prelude.{IfOk}
use Rattle.std.proofs.lemmas.Result.{IfOk-weaker}
use Rattle.lois_equal.specs.Comparing.{IsComparison}
use Rattle.lois_equal.specs.ComparedCases.{IsFirstDifference}
use Rattle.lois_equal.proofs.CaseLines.{comparison_of, refused_at, all_fit, sound_cases}
use Rattle.lois_equal.proofs.comparing.compare.Goals as goal

pub first_incomparable-requires : goal.first_incomparable-requires
first_incomparable-requires g c =
    sound_cases c.args.results.now.order g.T.Structure.ordered (length c.args.results.now.parameters) c.len-size.result c.args.results.now.cases c.requires.atoms c.len-size.ensures c.requires.sound.cases

pub first_difference-requires-clause-sound : goal.first_difference-requires-clause-sound
first_difference-requires-clause-sound g c =
    sound_cases c.args.results.now.order g.T.Structure.ordered (length c.args.results.now.parameters) c.len-size.result c.args.results.now.cases c.requires.atoms c.len-size.ensures c.requires.sound.cases

pub returns-in-Some-clause-comparison : goal.returns-in-Some-clause-comparison
returns-in-Some-clause-comparison g c =
    refused_at c.len-size.result (length c.args.results.now.parameters) c.args.first.now c.args.second.now c.args.results.now.cases c.in_ok-refused.refused c.in-Some.unfit c.len-size.ensures c.in-Some.is c.in_ok-refused.ensures.first

pub returns-clause-comparison : goal.returns-clause-comparison
returns-clause-comparison g c =
    let n = c.len-size.result in
    let a = c.args.first.now in
    let b = c.args.second.now in
    let cases = c.args.results.now.cases in
    let found = c.first_difference.result in
    let fit = all_fit n a b cases c.in_ok-refused.refused c.in_default.is c.in_ok-refused.ensures.first in
    subst (λ k. IfOk found (IsComparison k a b cases)) c.len-size.ensures (IfOk-weaker found (IsFirstDifference n a b cases) (IsComparison n a b cases) (comparison_of n a b cases fit) c.first_difference.ensures.first)
