use Rattle.std.proofs.Common.{sym, subst}
use Rattle.lois_base.specs.Validity.{AdmitsTerm}
use Rattle.lois_answers.specs.CaseView.{case_of}
use Rattle.lois_answers.specs.LineView.{line_of}
use Rattle.lois_picture.specs.Drawing.{IsGraphOrNone}
use Rattle.lois_picture.proofs.Cases.{at_case, the_line, line_sound}
use Rattle.lois_picture.proofs.pictures.draw_case.Goals as goal

pub draw_value-requires : goal.draw_value-requires
draw_value-requires g c =
    let r = c.args.results.now in
    let case = case_of c.in-Some.case.now in
    let line = line_of c.in-Some-last_named.line.now in
    let is = at_case r.cases c.args.number case c.requires.holding c.in-Some.ensures.item in
    record {
      over = record {
        levels = (line_sound r.order r.parameters r.cases c.args.number case c.args.name.now line c.requires.parameters c.requires.sound.cases is.case c.in-Some-last_named.ensures.line).levels;
        operators =
            subst (λ o. AdmitsTerm o line.term) (sym c.requires.structure)
            (line_sound r.order r.parameters r.cases c.args.number case c.args.name.now line c.requires.parameters c.requires.sound.cases is.case c.in-Some-last_named.ensures.line).operators;
      };
    }

pub returns-in-Some-2-clause-picture : goal.returns-in-Some-2-clause-picture
returns-in-Some-2-clause-picture g c =
    let r = c.args.results.now in
    let case = case_of c.in-Some.case.now in
    let line = line_of c.in-Some-last_named.line.now in
    let is = at_case r.cases c.args.number case c.requires.holding c.in-Some.ensures.item in
    let graph = subst (IsGraphOrNone g.T.Structure.ordered line.term) c.in-Some-2.is c.in_ok-graph.ensures.graph in
    (c.requires.parameters, (c.args.number, line, the_line c.args.name.now r.cases c.args.number case line is c.in-Some-last_named.ensures.line, graph))

pub returns-in_ok-copy-in-None-clause-picture : goal.returns-in_ok-copy-in-None-clause-picture
returns-in_ok-copy-in-None-clause-picture g c =
    let r = c.args.results.now in
    let case = case_of c.in-Some.case.now in
    let line = line_of c.in-Some-last_named.line.now in
    let is = at_case r.cases c.args.number case c.requires.holding c.in-Some.ensures.item in
    let none = subst (IsGraphOrNone g.T.Structure.ordered line.term) c.in-None.is c.in_ok-graph.ensures.graph in
    (c.requires.parameters, c.in_ok-copy-in-None.ensures, (line, the_line c.args.name.now r.cases c.args.number case line is c.in-Some-last_named.ensures.line, none.0, none.1))
