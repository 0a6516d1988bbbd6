use Rattle.std.proofs.Common.{inr, sym, subst}
use Rattle.lois_base.specs.Tree.{tree}
use Rattle.lois_answers.specs.CaseView.{case_of}
use Rattle.lois_answers.specs.LineView.{line_of}
use Rattle.lois_equal.specs.ComparedCases.{DecidesDeterminism}
use Rattle.lois_equal.proofs.CaseLines.{found_term, found_line, found_sound}
use Rattle.lois_languages.specs.Faults.{DecidesAutomaton}
use Rattle.lois_languages.proofs.inclusions.fault_in.Goals as goal

pub returns-in_default-last_named-clause-reason : goal.returns-in_default-last_named-clause-reason
returns-in_default-last_named-clause-reason g c =
    inr (c.in_ok-name-2.ensures, found_line c.args.first.now (case_of c.args.case.now) (line_of c.in-Some.one.now) c.in-Some.ensures.line, sym c.in_default-last_named.ensures.line)

pub is_automaton-requires-clause-over : goal.is_automaton-requires-clause-over
is_automaton-requires-clause-over g c =
    record {
      levels = (found_sound g.T.Structure.ordered c.args.size c.args.first.now (case_of c.args.case.now) (line_of c.in-Some.one.now) c.requires c.in-Some.ensures.line).levels;
      operators = (found_sound g.T.Structure.ordered c.args.size c.args.first.now (case_of c.args.case.now) (line_of c.in-Some.one.now) c.requires c.in-Some.ensures.line).operators;
    }

pub is_deterministic-requires-clause-over : goal.is_deterministic-requires-clause-over
is_deterministic-requires-clause-over g c =
    record {
      levels = (found_sound g.T.Structure.ordered c.args.size c.args.second.now (case_of c.args.case.now) (line_of c.in-Some-last_named.other.now) c.requires c.in-Some-last_named.ensures.line).levels;
      operators = (found_sound g.T.Structure.ordered c.args.size c.args.second.now (case_of c.args.case.now) (line_of c.in-Some-last_named.other.now) c.requires c.in-Some-last_named.ensures.line).operators;
    }

pub returns-then-not-branch-clause-reason : goal.returns-then-not-branch-clause-reason
returns-then-not-branch-clause-reason g c =
    let case = case_of c.args.case.now in
    let t = tree c.in-Some.one.now.term in (
      c.in_ok-name-3.ensures,
      (t, found_term c.args.first.now case (line_of c.in-Some.one.now) c.in-Some.ensures.line, subst (DecidesAutomaton c.args.size c.args.case.now.«when» t) c.if-not-branch.true c.in_ok-is_automaton.ensures.answer),
      found_line c.args.second.now case (line_of c.in-Some-last_named.other.now) c.in-Some-last_named.ensures.line,
    )

pub returns-then-not-branch-2-clause-reason : goal.returns-then-not-branch-2-clause-reason
returns-then-not-branch-2-clause-reason g c =
    let case = case_of c.args.case.now in
    let t = tree c.in-Some.one.now.term in
    let s = tree c.in-Some-last_named.other.now.term in (
      c.in_ok-name-4.ensures,
      (t, found_term c.args.first.now case (line_of c.in-Some.one.now) c.in-Some.ensures.line, subst (DecidesAutomaton c.args.size c.args.case.now.«when» t) c.if-not-branch.false c.in_ok-is_automaton.ensures.answer),
      (s, found_term c.args.second.now case (line_of c.in-Some-last_named.other.now) c.in-Some-last_named.ensures.line, subst (DecidesDeterminism c.args.size c.args.case.now.«when» s) c.if-not-branch-2.true c.in_ok-is_deterministic.ensures.answer),
    )

pub returns-clause-reason : goal.returns-clause-reason
returns-clause-reason g c =
    let case = case_of c.args.case.now in
    let t = tree c.in-Some.one.now.term in
    let s = tree c.in-Some-last_named.other.now.term in (
      (t, found_term c.args.first.now case (line_of c.in-Some.one.now) c.in-Some.ensures.line, subst (DecidesAutomaton c.args.size c.args.case.now.«when» t) c.if-not-branch.false c.in_ok-is_automaton.ensures.answer),
      (s, found_term c.args.second.now case (line_of c.in-Some-last_named.other.now) c.in-Some-last_named.ensures.line, subst (DecidesDeterminism c.args.size c.args.case.now.«when» s) c.if-not-branch-2.false c.in_ok-is_deterministic.ensures.answer),
    )
