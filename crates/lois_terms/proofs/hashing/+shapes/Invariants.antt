use Rattle.std.proofs.Common.{◌≡◌, drop, map}
use Rattle.lois_base.specs.Data.{terms_of}
use Rattle.lois_base.specs.Tree.{tree}
use Rattle.lois_terms.specs.Shapes.{parts_shape}
use Rattle.lois_terms.proofs.hashing.+shapes.Given as goal

-- what is left takes the number to that of the whole
abbrev pub invariant-shape_of_parts-loop-part : goal.invariant-shape_of_parts-loop-part
invariant-shape_of_parts-loop-part l =
    parts_shape 3 (terms_of l.parts) ≡ parts_shape l.folded (terms_of (map tree (drop l.part-index l.part-items)))
