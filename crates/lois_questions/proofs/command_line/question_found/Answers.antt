use Rattle.std.proofs.Common.{◌≡◌, List, Some, codes, ap, ap₂, sym, ◌∙◌}
use Rattle.std.proofs.lemmas.Result.{IfOk-weaker}
use Rattle.clap.specs.Matches.{found_of}
use Rattle.clap.specs.Simple.{subcommand_rows_of}
use Rattle.clap.specs.Walk.{Row, rows_of}
use Rattle.clap.specs.declared.parser.matches.ArgMatches.TheViews.{out-ArgMatches}
use Rattle.clap.proofs.WalkLemmas.{first_value-rows}
use Rattle.lois_command.proofs.ClapWalk.{entered_is}
use Rattle.lois_questions.specs.CommandLine.{question_named, question_found}
use Rattle.lois_questions.proofs.command_line.question_found.Goals as goal

pub returns-in-Some : goal.returns-in-Some
returns-in-Some c =
    let rows : List Row = rows_of (found_of c.in-Some.given.now) in
    let entered : subcommand_rows_of c.args.matches.now ≡ Some (c.in-Some.name.now, rows) = entered_is (out-ArgMatches c.args.matches.now).subcommand c.in-Some.name.now rows c.in-Some.ensures.name c.in-Some.ensures.rows in
    let first = c.get_str.ensures ∙ first_value-rows (found_of c.in-Some.given.now) (codes "first") in
    let second = c.get_str-in-Some.ensures ∙ first_value-rows (found_of c.in-Some.given.now) (codes "second") in
    let read = ap₂ (question_named c.in-Some.name.now) first second in
    IfOk-weaker c.question_named.result _ _ (λ o h. h ∙ (read ∙ sym (ap question_found entered))) c.question_named.ensures
