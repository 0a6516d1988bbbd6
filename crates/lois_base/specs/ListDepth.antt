-- How deeply the terms of a list are nested.
use Rattle.std.specs.Prelude.{ℕ, List}
use Rattle.lois_base.specs.Data.{TermD, CompD, terms_of, comps_of, depth_of_parts, depth_of_items}

abbrev pub depth_of_terms : List TermD → ℕ
depth_of_terms ts = depth_of_parts (terms_of ts)

abbrev pub depth_of_comps : List CompD → ℕ
depth_of_comps cs = depth_of_items (comps_of cs)
