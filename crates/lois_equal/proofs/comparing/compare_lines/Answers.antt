use Rattle.lois_base.specs.Tree.{tree}
use Rattle.lois_answers.specs.CaseView.{case_of}
use Rattle.lois_answers.specs.LineView.{line_of}
use Rattle.lois_equal.proofs.CaseLines.{found_term, found_sound, fit_term, lines_ok, usual_ok}
use Rattle.lois_equal.proofs.comparing.compare_lines.Goals as goal

pub equal-requires-clause-over : goal.equal-requires-clause-over
equal-requires-clause-over g c =
    record {
      levels = (found_sound g.T.Structure.ordered c.args.size c.args.first.now (case_of c.args.case.now) (line_of c.in-Some.one.now) c.requires.sound c.in-Some.ensures.line).levels;
      operators = (found_sound g.T.Structure.ordered c.args.size c.args.first.now (case_of c.args.case.now) (line_of c.in-Some.one.now) c.requires.sound c.in-Some.ensures.line).operators;
    }

pub equal-requires-clause-other : goal.equal-requires-clause-other
equal-requires-clause-other g c =
    record {
      levels = (found_sound g.T.Structure.ordered c.args.size c.args.second.now (case_of c.args.case.now) (line_of c.in-Some-last_named.other.now) c.requires.sound c.in-Some-last_named.ensures.line).levels;
      operators = (found_sound g.T.Structure.ordered c.args.size c.args.second.now (case_of c.args.case.now) (line_of c.in-Some-last_named.other.now) c.requires.sound c.in-Some-last_named.ensures.line).operators;
    }

pub equal-requires-clause-deterministic : goal.equal-requires-clause-deterministic
equal-requires-clause-deterministic g c =
    fit_term c.args.size c.args.first.now (case_of c.args.case.now) (tree c.in-Some.one.now.term) c.requires.fit.0 (found_term c.args.first.now (case_of c.args.case.now) (line_of c.in-Some.one.now) c.in-Some.ensures.line)

pub equal-requires-clause-other_deterministic : goal.equal-requires-clause-other_deterministic
equal-requires-clause-other_deterministic g c =
    fit_term c.args.size c.args.second.now (case_of c.args.case.now) (tree c.in-Some-last_named.other.now.term) c.requires.fit.1 (found_term c.args.second.now (case_of c.args.case.now) (line_of c.in-Some-last_named.other.now) c.in-Some-last_named.ensures.line)

pub returns-clause-equality : goal.returns-clause-equality
returns-clause-equality g c =
    let case = case_of c.args.case.now in
    let a = c.args.first.now in
    let b = c.args.second.now in
    lines_ok c.args.size a b case (tree c.in-Some.one.now.term) (tree c.in-Some-last_named.other.now.term) c.equal.result (found_term a case (line_of c.in-Some.one.now) c.in-Some.ensures.line) (found_term b case (line_of c.in-Some-last_named.other.now) c.in-Some-last_named.ensures.line) c.equal.ensures.same c.equal.ensures.differs

pub returns-clause-usual : goal.returns-clause-usual
returns-clause-usual g c =
    let o = g.T.Structure.ordered in
    let n = c.args.size in
    let case = case_of c.args.case.now in
    usual_ok o n (tree c.in-Some.one.now.term) (tree c.in-Some-last_named.other.now.term) c.equal.result (found_sound o n c.args.first.now case (line_of c.in-Some.one.now) c.requires.sound c.in-Some.ensures.line) (found_sound o n c.args.second.now case (line_of c.in-Some-last_named.other.now) c.requires.sound c.in-Some-last_named.ensures.line) c.equal.ensures.operators c.equal.ensures.widths c.equal.ensures.strict
