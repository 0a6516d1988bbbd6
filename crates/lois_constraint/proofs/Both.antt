-- The product of two constraints has the levels of both.
use Rattle.std.proofs.Common.{List, ◌++◌}
use Rattle.lois_base.specs.Normal.{both}
use Rattle.lois_base.specs.UsedLevels.{LitUsesOnly, UsesOnly}
use Rattle.lois_base.specs.declared.guards.Lit.{Lit}
use Rattle.lois_base.proofs.Both.{all_both}
use Rattle.lois_base.proofs.Validity.{uses_only-append_left, uses_only-append_right, uses_only-refl}

pub both_levels : (a b : List (List Lit)) → UsesOnly (a ++ b) (both a b)
both_levels a b = all_both (LitUsesOnly (a ++ b)) a b (uses_only-append_left a b a (uses_only-refl a)) (uses_only-append_right a b b (uses_only-refl b))
