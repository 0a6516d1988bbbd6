use Rattle.std.proofs.Common.{◌≡◌, List, ℕ, Some, codes, ap, sym, ◌∙◌}
use Rattle.std.proofs.lemmas.Result.{IfOk-weaker}
use Rattle.clap.specs.Matches.{found_of}
use Rattle.clap.specs.Simple.{subcommand_rows_of}
use Rattle.clap.specs.Walk.{Row, rows_of}
use Rattle.clap.specs.declared.parser.matches.ArgMatches.TheViews.{out-ArgMatches}
use Rattle.clap.proofs.WalkLemmas.{first_value-rows}
use Rattle.lois_command.proofs.ClapWalk.{entered_is}
use Rattle.lois_run.specs.CommandLine.{command_named, command_found}
use Rattle.lois_run.proofs.words.command_found.Goals as goal

three : {X Y : Type 0} (f : X → X → X → Y) (a a' b b' d d' : X) → a ≡ a' → b ≡ b' → d ≡ d' → f a b d ≡ f a' b' d'
three f a a' b b' d d' e g h = ap (λ x. f x b d) e ∙ (ap (λ x. f a' x d) g ∙ ap (f a' b') h)

pub returns-in-Some : goal.returns-in-Some
returns-in-Some c =
    let rows : List Row = rows_of (found_of c.in-Some.given.now) in
    let entered : subcommand_rows_of c.args.matches.now ≡ Some (c.in-Some.name.now, rows) = entered_is (out-ArgMatches c.args.matches.now).subcommand c.in-Some.name.now rows c.in-Some.ensures.name c.in-Some.ensures.rows in
    let decider = c.get_str.ensures ∙ first_value-rows (found_of c.in-Some.given.now) (codes "decider") in
    let first = c.get_str-in-Some.ensures ∙ first_value-rows (found_of c.in-Some.given.now) (codes "first") in
    let second = c.get_str-in-Some-2.ensures ∙ first_value-rows (found_of c.in-Some.given.now) (codes "second") in
    let name = c.in-Some.name.now in
    let read = three (command_named name) _ _ _ _ _ _ decider first second in
    IfOk-weaker c.command_named.result _ _ (λ o h. h ∙ (read ∙ sym (ap command_found entered))) c.command_named.ensures
