use Rattle.std.proofs.Common.{refl, ap}
use Rattle.lois_base.specs.Data.{comps_of}
use Rattle.lois_base.specs.Tree.{tree}
use Rattle.lois_context.proofs.content.is_set.Goals as goal

pub returns-in-Coll : goal.returns-in-Coll
returns-in-Coll c = (λ t. (comps_of c.in-Coll.field-0, ap tree c.in-Coll.is), λ h. refl)
