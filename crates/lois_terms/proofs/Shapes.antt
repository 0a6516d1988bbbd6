-- Terms of the same value have one shape.
use Rattle.std.proofs.Common.{◌≡◌, ℕ, List, refl, ap, ◌∙◌}
use Rattle.lois_base.specs.Atom.{Atom}
use Rattle.lois_base.specs.Data.{TermD, var, tag, tup, coll, TermsD, no_terms, term}
use Rattle.lois_base.specs.Values.{SameAt, SamePartsAt}
use Rattle.lois_terms.specs.Hash.{mixed, name_hash}
use Rattle.lois_terms.specs.Shapes.{shape_of, parts_shape}

mutual
  pub one_shape : (t s : TermD) (c d : List Atom) → SameAt t c s d → shape_of t ≡ shape_of s
  one_shape (var i) (var j) c d h = refl
  one_shape (var i) (tag k) c d h = absurd h
  one_shape (var i) (tup ss) c d h = absurd h
  one_shape (var i) (coll ss) c d h = absurd h
  one_shape (tag n) (var j) c d h = absurd h
  one_shape (tag n) (tag k) c d h = ap (name_hash 2) h
  one_shape (tag n) (tup ss) c d h = absurd h
  one_shape (tag n) (coll ss) c d h = absurd h
  one_shape (tup ts) (var j) c d h = absurd h
  one_shape (tup ts) (tag k) c d h = absurd h
  one_shape (tup ts) (tup ss) c d h = one_parts_shape 3 ts ss c d h
  one_shape (tup ts) (coll ss) c d h = absurd h
  one_shape (coll cs) (var j) c d h = absurd h
  one_shape (coll cs) (tag k) c d h = absurd h
  one_shape (coll cs) (tup ss) c d h = absurd h
  one_shape (coll cs) (coll ss) c d h = refl

  one_parts_shape : (n : ℕ) (ts ss : TermsD) (c d : List Atom) → SamePartsAt ts c ss d → parts_shape n ts ≡ parts_shape n ss
  one_parts_shape n no_terms no_terms c d h = refl
  one_parts_shape n no_terms (term s ss) c d h = absurd h
  one_parts_shape n (term t ts) no_terms c d h = absurd h
  one_parts_shape n (term t ts) (term s ss) c d h =
      one_parts_shape (mixed n (shape_of t)) ts ss c d h.1 ∙ ap (λ x. parts_shape (mixed n x) ss) (one_shape t s c d h.0)
