-- The numbers by which comprehensions are looked up: shapes of items, and of the first parts of pairs.
use Rattle.std.specs.Prelude.{ℕ, List, [], ◌∷◌}
use Rattle.lois_base.specs.Data.{TermD, tup, coll, no_terms, term, CompD, comp, CompsD, no_comps, more}
use Rattle.lois_terms.specs.Shapes.{shape_of, item_shape}

-- the shape of the first part of a pair
abbrev pub key_shape_of : TermD → ℕ
key_shape_of (tup (term key (term value no_terms))) = shape_of key
key_shape_of _ = 0

abbrev pub comp_key_shape : CompD → ℕ
comp_key_shape (comp m g t) = key_shape_of t

-- the shapes of the items of a set
abbrev pub item_shapes : CompsD → List ℕ
item_shapes no_comps = []
item_shapes (more k ks) = item_shape k ∷ item_shapes ks

abbrev pub shapes_in : TermD → List ℕ
shapes_in (coll ks) = item_shapes ks
shapes_in _ = []
