use Rattle.std.proofs.Common.{◌≡◌, ◌↔◌, drop, map}
use Rattle.lois_base.specs.Tree.{tree, comp_of}
use Rattle.lois_base.proofs.values.+equal.Given as goal

abbrev pub invariant-Comps::is_equal-loop-i : goal.invariant-Comps::is_equal-loop-i
invariant-Comps::is_equal-loop-i l =
    (l.self ≡ l.other) ↔ (map comp_of (drop l.i l.items) ≡ map comp_of (drop l.i l.others))

abbrev pub invariant-Terms::is_equal-loop-i : goal.invariant-Terms::is_equal-loop-i
invariant-Terms::is_equal-loop-i l =
    (l.self ≡ l.other) ↔ (map tree (drop l.i l.items) ≡ map tree (drop l.i l.others))
