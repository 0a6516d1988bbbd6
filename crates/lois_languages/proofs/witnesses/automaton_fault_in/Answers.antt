use Rattle.std.proofs.Common.{subst}
use Rattle.lois_base.specs.Tree.{tree}
use Rattle.lois_answers.specs.CaseView.{case_of}
use Rattle.lois_answers.specs.LineView.{line_of}
use Rattle.lois_equal.proofs.CaseLines.{found_term, found_sound}
use Rattle.lois_languages.specs.Faults.{DecidesAutomaton}
use Rattle.lois_languages.proofs.witnesses.automaton_fault_in.Goals as goal

pub is_automaton-requires-clause-over : goal.is_automaton-requires-clause-over
is_automaton-requires-clause-over g c =
    record {
      levels = (found_sound g.T.Structure.ordered c.args.size c.args.name.now (case_of c.args.case.now) (line_of c.in-Some.line.now) c.requires c.in-Some.ensures.line).levels;
      operators = (found_sound g.T.Structure.ordered c.args.size c.args.name.now (case_of c.args.case.now) (line_of c.in-Some.line.now) c.requires c.in-Some.ensures.line).operators;
    }

pub returns-then-not-branch-clause-reason : goal.returns-then-not-branch-clause-reason
returns-then-not-branch-clause-reason g c =
    let case = case_of c.args.case.now in
    let t = tree c.in-Some.line.now.term in (
      c.in_ok-name-2.ensures,
      (t, found_term c.args.name.now case (line_of c.in-Some.line.now) c.in-Some.ensures.line, subst (DecidesAutomaton c.args.size c.args.case.now.«when» t) c.if-not-branch.true c.in_ok-is_automaton.ensures.answer),
    )

pub returns-clause-reason : goal.returns-clause-reason
returns-clause-reason g c =
    let case = case_of c.args.case.now in
    let t = tree c.in-Some.line.now.term in
    (t, found_term c.args.name.now case (line_of c.in-Some.line.now) c.in-Some.ensures.line, subst (DecidesAutomaton c.args.size c.args.case.now.«when» t) c.if-not-branch.false c.in_ok-is_automaton.ensures.answer)
