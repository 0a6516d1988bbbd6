use Rattle.std.proofs.Common.{◌∙◌, Some, map, ap, sym, subst}
use Rattle.lois_base.specs.Tree.{tree, comp_of}
use Rattle.lois_relate.specs.Named.{AreBelow}
use Rattle.lois_relate.proofs.Places.{of_shape, as_many_shapes}
use Rattle.lois_relate.proofs.candidates.IndexedComps.candidates.Goals as goal

pub returns-clause-places : goal.returns-clause-places
returns-clause-places c =
    subst (λ n. AreBelow n c.positions.result.now) (as_many_shapes c.args.self.comps.now c.args.self.index.now c.requires) c.positions.ensures.within

pub returns-clause-all : goal.returns-clause-all
returns-clause-all c =
    of_shape (map comp_of c.args.self.comps.now) (tree c.args.s.now) c.args.self.index.now c.positions.result.now c.requires (λ i e. c.positions.ensures.found i (e ∙ ap Some (sym c.shape.ensures.exact)))
