use Rattle.std.proofs.Common.{map, drop}
use Rattle.lois_script.specs.View.{stmts_list, stmts_of}
use Rattle.lois_script.specs.Lists.{stmt_tree}
use Rattle.lois_script_printer.specs.Printed.{written_stmts}
use Rattle.lois_script_printer.proofs.Appending.{Leaves}
use Rattle.lois_script_printer.proofs.statements.+printing_statements.Given as goal

abbrev pub invariant-put_stmts-loop-statement : goal.invariant-put_stmts-loop-statement
invariant-put_stmts-loop-statement l =
    Leaves l.fn.out.items (written_stmts (stmts_of (stmts_list l.statements))) l.out.items (written_stmts (stmts_of (map stmt_tree (drop l.statement-index l.statement-items))))
