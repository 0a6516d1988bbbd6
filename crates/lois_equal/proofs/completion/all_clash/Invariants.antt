use Rattle.lois_base.specs.Data.{comps_of}
use Rattle.lois_base.specs.Tree.{tree}
use Rattle.lois_relate.proofs.Parts.{comps_from}
use Rattle.lois_equal.proofs.Apart.{IsApart}
use Rattle.lois_equal.proofs.completion.all_clash.Given as goal

abbrev pub invariant-loop-comp : goal.invariant-loop-comp
invariant-loop-comp l = IsApart (tree l.t) (comps_from l.comp-items l.comp-index) → IsApart (tree l.t) (comps_of l.items)
