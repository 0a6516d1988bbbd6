-- Each part of a list is less deep than the list.
use Rattle.std.specs.Prelude.{◌≤◌, List, [], ◌∷◌, map, max}
use Rattle.std.proofs.Common.{arith}
use Rattle.lois_base.specs.Data.{depth}
use Rattle.lois_base.specs.ListDepth.{depth_of_terms, depth_of_comps}
use Rattle.lois_base.specs.Tree.{tree, comp_of}
use Rattle.lois_base.specs.declared.values.Comp.{Comp}
use Rattle.lois_base.specs.declared.values.Term.{Term}
use Rattle.lois_base.specs.declared.values.Term.TheVariants.{Var, Tag, Tup, Coll}
use Rattle.lois_base.specs.declared.values.Comps.TheDeep.{deep-Term, deep-Comp}
use denote.Param.Weighed.{most}

pub deep_le-depth : (t : Term) → deep-Term t ≤ depth (tree t)
deep_le-depth (Var i) = omega arith
deep_le-depth (Tag t) = omega arith
deep_le-depth (Tup ts) = omega arith
deep_le-depth (Coll cs) = omega arith

pub terms_fall : (ts : List Term) → max (most deep-Term ts) 0 ≤ depth_of_terms (map tree ts)
terms_fall [] = omega arith
terms_fall (t ∷ ts) = omega (arith, deep_le-depth t, terms_fall ts)

pub comps_fall : (cs : List Comp) → max (most deep-Comp cs) 0 ≤ depth_of_comps (map comp_of cs)
comps_fall [] = omega arith
comps_fall (c ∷ cs) = omega (arith, deep_le-depth c.item, comps_fall cs)
