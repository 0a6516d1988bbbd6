use Rattle.std.specs.Prelude.{IfSome, IsNone}
use Rattle.std.proofs.lemmas.Option.{IfSome_then}
use Rattle.std.proofs.lemmas.Result.{IfOk-weaker}
use Rattle.lois_base.specs.Tree.{tree}
use Rattle.lois_answers.specs.CaseView.{case_of}
use Rattle.lois_answers.specs.LineView.{line_of}
use Rattle.lois_equal.specs.Differences.{IsLanguageIncluded, IsShortestDifference}
use Rattle.lois_equal.proofs.CaseLines.{found_term, found_sound, fit_term}
use Rattle.lois_languages.specs.Inclusions.{IsExcessWord}
use Rattle.lois_languages.proofs.LineFaults.{automaton_term}
use Rattle.lois_languages.proofs.InclusionCases.{excess_word, bounded_excess}
use Rattle.lois_languages.proofs.inclusions.excess_in.Goals as goal

pub shortest_difference-requires-clause-over : goal.shortest_difference-requires-clause-over
shortest_difference-requires-clause-over g c =
    record {
      levels = (found_sound g.T.Structure.ordered c.args.size c.args.first.now (case_of c.args.case.now) (line_of c.in-Some.one.now) c.requires.sound c.in-Some.ensures.line).levels;
      operators = (found_sound g.T.Structure.ordered c.args.size c.args.first.now (case_of c.args.case.now) (line_of c.in-Some.one.now) c.requires.sound c.in-Some.ensures.line).operators;
    }

pub shortest_difference-requires-clause-other : goal.shortest_difference-requires-clause-other
shortest_difference-requires-clause-other g c =
    record {
      levels = (found_sound g.T.Structure.ordered c.args.size c.args.second.now (case_of c.args.case.now) (line_of c.in-Some-last_named.other.now) c.requires.sound c.in-Some-last_named.ensures.line).levels;
      operators = (found_sound g.T.Structure.ordered c.args.size c.args.second.now (case_of c.args.case.now) (line_of c.in-Some-last_named.other.now) c.requires.sound c.in-Some-last_named.ensures.line).operators;
    }

pub shortest_difference-requires-clause-automaton : goal.shortest_difference-requires-clause-automaton
shortest_difference-requires-clause-automaton g c =
    automaton_term c.args.size c.args.first.now (case_of c.args.case.now) (tree c.in-Some.one.now.term) c.requires.suited.0 (found_term c.args.first.now (case_of c.args.case.now) (line_of c.in-Some.one.now) c.in-Some.ensures.line)

pub shortest_difference-requires-clause-deterministic : goal.shortest_difference-requires-clause-deterministic
shortest_difference-requires-clause-deterministic g c =
    fit_term c.args.size c.args.second.now (case_of c.args.case.now) (tree c.in-Some-last_named.other.now.term) c.requires.suited.1 (found_term c.args.second.now (case_of c.args.case.now) (line_of c.in-Some-last_named.other.now) c.in-Some-last_named.ensures.line)

pub returns-clause-none : goal.returns-clause-none
returns-clause-none g c =
    let case = case_of c.args.case.now in
    let t = tree c.in-Some.one.now.term in
    let s = tree c.in-Some-last_named.other.now.term in
    IfOk-weaker c.shortest_difference.result (λ o. IsNone o → IsLanguageIncluded c.args.size case.«when» t s) _ (λ o is none.
    (t, s, found_term c.args.first.now case (line_of c.in-Some.one.now) c.in-Some.ensures.line, found_term c.args.second.now case (line_of c.in-Some-last_named.other.now) c.in-Some-last_named.ensures.line, is none)) c.shortest_difference.ensures.none

pub returns-clause-found : goal.returns-clause-found
returns-clause-found g c =
    let n = c.args.size in
    let a = c.args.first.now in
    let b = c.args.second.now in
    let case = case_of c.args.case.now in
    let t = tree c.in-Some.one.now.term in
    let s = tree c.in-Some-last_named.other.now.term in
    IfOk-weaker c.shortest_difference.result (λ o. IfSome o (IsShortestDifference n case.«when» t s)) _ (λ o is.
    IfSome_then o {P = IsShortestDifference n case.«when» t s} {Q = λ w. IsExcessWord n a b w case} is (λ w h.
    (t, s, found_term a case (line_of c.in-Some.one.now) c.in-Some.ensures.line, found_term b case (line_of c.in-Some-last_named.other.now) c.in-Some-last_named.ensures.line, excess_word n case.«when» t s w h))) c.shortest_difference.ensures.found

pub returns-clause-usual : goal.returns-clause-usual
returns-clause-usual g c =
    let o = g.T.Structure.ordered in
    let n = c.args.size in
    let case = case_of c.args.case.now in
    bounded_excess o n (tree c.in-Some.one.now.term) (tree c.in-Some-last_named.other.now.term) c.shortest_difference.result (found_sound o n c.args.first.now case (line_of c.in-Some.one.now) c.requires.sound c.in-Some.ensures.line) (found_sound o n c.args.second.now case (line_of c.in-Some-last_named.other.now) c.requires.sound c.in-Some-last_named.ensures.line) c.shortest_difference.ensures.operators c.shortest_difference.ensures.widths c.shortest_difference.ensures.strict
