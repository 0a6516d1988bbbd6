-- How many comprehensions a set has.
use Rattle.std.specs.Prelude.{ℕ, suc}
use Rattle.lois_base.specs.Data.{TermD, coll, CompsD, no_comps, more}

-- how many comprehensions a set has; what is no set has none
abbrev pub count_of_items : CompsD → ℕ
count_of_items no_comps = 0
count_of_items (more k ks) = suc (count_of_items ks)

abbrev pub comps_in : TermD → ℕ
comps_in (coll ks) = count_of_items ks
comps_in _ = 0
