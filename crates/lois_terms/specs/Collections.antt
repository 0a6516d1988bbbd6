-- Which terms are sets as they are written.
use Rattle.std.specs.Prelude.{◌≡◌}
use Rattle.lois_base.specs.Data.{TermD, coll, CompsD}

abbrev pub IsColl : TermD → Type 0
IsColl t = (ks : CompsD) × (t ≡ coll ks)
