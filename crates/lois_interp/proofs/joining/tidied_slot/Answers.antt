use Rattle.std.proofs.Common.{refl}
use Rattle.lois_base.specs.Tree.{tree}
use Rattle.lois_interp.proofs.Tidying.{tidied_same}
use Rattle.lois_interp.proofs.joining.tidied_slot.Goals as goal

pub returns-then-not-has_more-clause-tidied : goal.returns-then-not-has_more-clause-tidied
returns-then-not-has_more-clause-tidied g c = record { name = refl; from = refl; term = tidied_same c.args.size c.args.«when».now c.args.first (tree c.args.slot.term) c.requires.over.levels }

pub returns-clause-tidied : goal.returns-clause-tidied
returns-clause-tidied g c = record { name = refl; from = refl; term = c.in_ok-lean.ensures.tidied }
