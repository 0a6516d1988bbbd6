use Rattle.std.proofs.Common.{◌≡◌, take, map}
use Rattle.lois_base.specs.Tree.{tree, comp_of}
use Rattle.lois_base.proofs.values.+copy.Given as goal

abbrev pub invariant-Comps::copy-loop-item : goal.invariant-Comps::copy-loop-item
invariant-Comps::copy-loop-item l = l.copy ≡ map comp_of (take l.item-index l.item-items)

abbrev pub invariant-Terms::copy-loop-item : goal.invariant-Terms::copy-loop-item
invariant-Terms::copy-loop-item l = l.copy ≡ map tree (take l.item-index l.item-items)
