-- Shapes: what each value of a term has in common, as one number of 64 bits. Terms of the same value have one shape.
use Rattle.std.specs.Prelude.{ℕ}
use Rattle.lois_base.specs.Data.{TermD, var, tag, tup, coll, TermsD, no_terms, term, CompD, comp}
use Rattle.lois_terms.specs.Hash.{mixed, name_hash}

-- an atom has one shape, a set another one, a tag its name's, and a tuple the one that its parts' shapes are folded into
abbrev mutual
  pub shape_of : TermD → ℕ
  shape_of (var i) = 1
  shape_of (tag x) = name_hash 2 x
  shape_of (tup ts) = parts_shape 3 ts
  shape_of (coll ks) = 4

  pub parts_shape : ℕ → TermsD → ℕ
  parts_shape h no_terms = h
  parts_shape h (term t ts) = parts_shape (mixed h (shape_of t)) ts

-- the shape of a comprehension's item
abbrev pub item_shape : CompD → ℕ
item_shape (comp m g t) = shape_of t
