use Rattle.std.proofs.Common.{length, subst}
use Rattle.std.specs.Prelude.{IfOk}
use Rattle.std.proofs.lemmas.Result.{IfOk-weaker}
use Rattle.lois_languages.specs.Inclusions.{IsFirstWithinReason, IsFirstBeyond, IsInclusion}
use Rattle.lois_equal.proofs.CaseLines.{sound_cases}
use Rattle.lois_languages.proofs.InclusionCases.{inclusion_of_cases, refused_at}
use Rattle.lois_languages.proofs.inclusions.inclusion_of.Goals as goal

pub first_unsuited-requires : goal.first_unsuited-requires
first_unsuited-requires g c =
    sound_cases c.args.results.now.order g.T.Structure.ordered (length c.args.results.now.parameters) c.len-size.result c.args.results.now.cases c.requires.atoms c.len-size.ensures c.requires.sound.cases

pub first_excess-requires-clause-sound : goal.first_excess-requires-clause-sound
first_excess-requires-clause-sound g c =
    sound_cases c.args.results.now.order g.T.Structure.ordered (length c.args.results.now.parameters) c.len-size.result c.args.results.now.cases c.requires.atoms c.len-size.ensures c.requires.sound.cases

pub returns-in-Some-clause-inclusion : goal.returns-in-Some-clause-inclusion
returns-in-Some-clause-inclusion g c =
    refused_at c.len-size.result (length c.args.results.now.parameters) c.args.first.now c.args.second.now c.args.results.now.cases c.in_ok-refused.refused c.in-Some.fault c.len-size.ensures c.in-Some.is c.in_ok-refused.ensures.first

pub returns-clause-inclusion : goal.returns-clause-inclusion
returns-clause-inclusion g c =
    let n = c.len-size.result in
    let a = c.args.first.now in
    let b = c.args.second.now in
    let cases = c.args.results.now.cases in
    let found = c.first_excess.result in
    let suited = subst (IsFirstWithinReason n a b cases) c.in_default.is c.in_ok-refused.ensures.first in
    subst (λ k. IfOk found (IsInclusion k a b cases)) c.len-size.ensures (IfOk-weaker found (IsFirstBeyond n a b cases) (IsInclusion n a b cases) (inclusion_of_cases n a b cases suited) c.first_excess.ensures.first)
