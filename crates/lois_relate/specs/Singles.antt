-- Sets of at most one member.
use Rattle.lois_base.specs.Data.{comp, CompsD, no_comps, more}
use Rattle.std.specs.Prelude.{◌≡◌}

-- one comprehension, without binders
abbrev pub IsSingleItem : CompsD → Type 0
IsSingleItem (more (comp m g t) no_comps) = m ≡ 0
IsSingleItem _ = ⊥
