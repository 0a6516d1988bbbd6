use Rattle.std.proofs.Common.{map, drop}
use Rattle.lois_script.specs.View.{param_tree, params_list}
use Rattle.lois_script_printer.specs.Appended.{written_names}
use Rattle.lois_script_printer.proofs.Appending.{Leaves, names_left}
use Rattle.lois_script_printer.proofs.script.put_names.Given as goal

abbrev pub invariant-loop-i : goal.invariant-loop-i
invariant-loop-i l =
    Leaves l.fn.out.items (written_names (params_list l.parameters)) l.out.items (names_left l.i (map param_tree (drop l.i l.parameter-items)))
