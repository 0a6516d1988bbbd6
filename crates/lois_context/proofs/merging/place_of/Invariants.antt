use Rattle.std.proofs.Common.{take}
use Rattle.std.specs.List.{All}
use Rattle.lois_context.specs.Merged.{HasSameContents}
use Rattle.lois_context.proofs.merging.place_of.Given as goal

abbrev pub invariant-loop-index : goal.invariant-loop-index
invariant-loop-index l = All (λ d. HasSameContents l.context d → ⊥) (take l.index l.contexts)
