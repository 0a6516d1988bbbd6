use Rattle.std.proofs.Common.{◌≡◌, sym, ap, subst}
use Rattle.lois_lexer.specs.declared.TokenKind.TheVariants.{Word}
use Rattle.lois_script.specs.View.{script_tree}
use Rattle.lois_script_printer.specs.Printed.{word, printed_script}
use Rattle.lois_script_printer.specs.Unplaced.{SpellsUnplaced}
use Rattle.lois_script_printer.proofs.Appending.{◌then◌, appends_as, all_of_it}
use Rattle.lois_script_printer.proofs.ReadAgain.{printed_again}
use Rattle.lois_script_printer.proofs.script.print_script.Goals as goal

pub returns : goal.returns
returns c =
    let is : c.put_stmts.new.out.items ≡ printed_script (script_tree c.args.script.now) = all_of_it c.new-out.result.items c.new-out.ensures.items
    (c.in_ok-put.ensures Word then appends_as (ap word (sym c.structure_word.ensures)) (c.in_ok-put-2.ensures Word) then c.in_ok-put_line_end.ensures then c.in_ok-put_parameters.ensures then c.in_ok-put_stmts.ensures) in
    record {
      printed = is;
      read_again = subst (λ t. SpellsUnplaced t (script_tree c.args.script.now)) (sym is) (printed_again (script_tree c.args.script.now) c.requires);
    }
