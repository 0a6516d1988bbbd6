use Rattle.std.proofs.Common.{◌≡◌, ◌↔◌, ◌++◌, drop, map}
use Rattle.lois_base.specs.Tree.{comp_of}
use Rattle.lois_context.proofs.content.are_equal.Given as goal

abbrev pub invariant-loop-i : goal.invariant-loop-i
invariant-loop-i l =
    let left = map comp_of l.first ++ map comp_of l.second in
    let right = map comp_of l.third ++ map comp_of l.fourth in
    (left ≡ right) ↔ (drop l.i left ≡ drop l.i right)
