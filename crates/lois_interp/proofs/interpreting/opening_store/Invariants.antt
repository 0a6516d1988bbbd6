use Rattle.std.proofs.Common.{◌≡◌, take, map}
use Rattle.lois_script.specs.View.{param_tree}
use Rattle.lois_interp.specs.Opened.{opening_slots}
use Rattle.lois_interp.proofs.interpreting.opening_store.Given as goal

abbrev pub invariant-loop-parameter : goal.invariant-loop-parameter
invariant-loop-parameter l = l.store ≡ opening_slots (map param_tree (take l.parameter-index l.parameter-items)) 0
