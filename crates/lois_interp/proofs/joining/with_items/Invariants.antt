use Rattle.std.proofs.Common.{map}
use Rattle.lois_base.specs.Tree.{tree, comp_of}
use Rattle.lois_context.specs.Entered.{comps_listed}
use Rattle.lois_terms.specs.Collections.{IsColl}
use Rattle.lois_interp.specs.Members.{AreBehind}
use Rattle.lois_interp.proofs.joining.with_items.Given as goal

abbrev pub invariant-loop-comp : goal.invariant-loop-comp
invariant-loop-comp l =
    IsColl (tree l.all) × AreBehind (comps_listed (tree l.initial.all)) (map comp_of l.yielded) (comps_listed (tree l.all))
