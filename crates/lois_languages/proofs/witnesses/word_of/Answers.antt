use Rattle.std.proofs.Common.{length, subst}
use Rattle.std.specs.Prelude.{IfOk}
use Rattle.std.proofs.lemmas.Result.{IfOk-weaker}
use Rattle.lois_equal.proofs.CaseLines.{sound_cases}
use Rattle.lois_languages.specs.Witnesses.{IsFirstWordReason, IsFirstWord, IsWitness}
use Rattle.lois_languages.proofs.WordCases.{witness_of, refused_at}
use Rattle.lois_languages.proofs.witnesses.word_of.Goals as goal

pub first_without_automaton-requires : goal.first_without_automaton-requires
first_without_automaton-requires g c =
    sound_cases c.args.results.now.order g.T.Structure.ordered (length c.args.results.now.parameters) c.len-size.result c.args.results.now.cases c.requires.atoms c.len-size.ensures c.requires.sound.cases

pub first_word-requires-clause-sound : goal.first_word-requires-clause-sound
first_word-requires-clause-sound g c =
    sound_cases c.args.results.now.order g.T.Structure.ordered (length c.args.results.now.parameters) c.len-size.result c.args.results.now.cases c.requires.atoms c.len-size.ensures c.requires.sound.cases

pub returns-in-Some-clause-witness : goal.returns-in-Some-clause-witness
returns-in-Some-clause-witness g c =
    refused_at c.len-size.result (length c.args.results.now.parameters) c.args.name.now c.args.results.now.cases c.in_ok-refused.refused c.in-Some.fault c.len-size.ensures c.in-Some.is c.in_ok-refused.ensures.first

pub returns-clause-witness : goal.returns-clause-witness
returns-clause-witness g c =
    let n = c.len-size.result in
    let a = c.args.name.now in
    let cases = c.args.results.now.cases in
    let found = c.first_word.result in
    let have = subst (IsFirstWordReason n a cases) c.in_default.is c.in_ok-refused.ensures.first in
    subst (λ k. IfOk found (IsWitness k a cases)) c.len-size.ensures (IfOk-weaker found (IsFirstWord n a cases) (IsWitness n a cases) (witness_of n a cases have) c.first_word.ensures.first)
