use Rattle.std.proofs.Common.{map, drop}
use Rattle.lois_script.specs.View.{tree, cond_tree, binding_tree, exprs_of, bindings_of, conds_of}
use Rattle.lois_script.specs.Lists.{exprs_list, bindings_list, conds_list}
use Rattle.lois_script_printer.specs.Printed.{written_exprs, written_bindings, written_units, written_conjunctions}
use Rattle.lois_script_printer.proofs.Appending.{Leaves, exprs_left, bindings_left, units_left, conjunctions_left}
use Rattle.lois_script_printer.proofs.forms.+printing.Given as goal

abbrev pub invariant-put_bindings-loop-i : goal.invariant-put_bindings-loop-i
invariant-put_bindings-loop-i l =
    Leaves l.fn.out.items (written_bindings (bindings_of (bindings_list l.bindings))) l.out.items (bindings_left l.i (map binding_tree (drop l.i l.binding-items)))

abbrev pub invariant-put_conjunctions-loop-i : goal.invariant-put_conjunctions-loop-i
invariant-put_conjunctions-loop-i l =
    Leaves l.fn.out.items (written_conjunctions (conds_of (conds_list l.conjunctions))) l.out.items (conjunctions_left l.i (map cond_tree (drop l.i l.conjunction-items)))

abbrev pub invariant-put_exprs-loop-i : goal.invariant-put_exprs-loop-i
invariant-put_exprs-loop-i l =
    Leaves l.fn.out.items (written_exprs (exprs_of (exprs_list l.exprs))) l.out.items (exprs_left l.i (map tree (drop l.i l.e-items)))

abbrev pub invariant-put_units-loop-i : goal.invariant-put_units-loop-i
invariant-put_units-loop-i l =
    Leaves l.fn.out.items (written_units (conds_of (conds_list l.units))) l.out.items (units_left l.i (map cond_tree (drop l.i l.unit-items)))
