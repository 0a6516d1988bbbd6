-- The whole tree of a term.
use Rattle.lois_base.specs.Data.{TermD, var, tag, tup, coll, terms_of, CompD, comp, comps_of}
use Rattle.lois_base.specs.declared.values.Comp.{Comp}
use Rattle.lois_base.specs.declared.values.Term.{Term}
use Rattle.lois_base.specs.declared.values.Term.TheVariants.{Var, Tag, Tup, Coll}

abbrev pub tree : Term → TermD
tree (Var i) = var i
tree (Tag t) = tag t
tree (Tup ts) = tup (terms_of ts)
tree (Coll cs) = coll (comps_of cs)

abbrev pub comp_of : Comp → CompD
comp_of c = comp c.binders c.guard (tree c.item)
