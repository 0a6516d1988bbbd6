use Rattle.std.proofs.Common.{true, subst, ap}
use Rattle.lois_base.specs.Data.{coll, comps_of}
use Rattle.lois_base.specs.Fits.{Fits}
use Rattle.lois_base.specs.Tree.{tree}
use Rattle.lois_base.specs.Validity.{AdmitsTerm}
use Rattle.lois_algebra.proofs.Selections.{selection_of}
use Rattle.lois_algebra.proofs.selecting.inter.Goals as goal

pub selected-requires-clause-left : goal.selected-requires-clause-left
selected-requires-clause-left g c =
    record {
      levels = subst (λ z. Fits c.args.size (tree z)) c.in-Coll-Coll.is-0 c.requires.left.levels;
      operators = subst (λ z. AdmitsTerm g.T.Structure.ordered (tree z)) c.in-Coll-Coll.is-0 c.requires.left.operators;
    }

pub selected-requires-clause-right : goal.selected-requires-clause-right
selected-requires-clause-right g c =
    record {
      levels = subst (λ z. Fits c.args.size (tree z)) c.in-Coll-Coll.is-1 c.requires.right.levels;
      operators = subst (λ z. AdmitsTerm g.T.Structure.ordered (tree z)) c.in-Coll-Coll.is-1 c.requires.right.operators;
    }

pub returns-clause-members : goal.returns-clause-members
returns-clause-members g c =
    selection_of c.args.size true (tree c.args.s.now) (tree c.args.t.now) (coll (comps_of c.in_ok-selected-in-Coll-Coll.field-0)) (comps_of c.in-Coll-Coll.comps) (comps_of c.in-Coll-Coll.others) (ap tree c.in-Coll-Coll.is-0) (ap tree c.in-Coll-Coll.is-1) c.in_ok-selected-in-Coll-Coll.ensures.members
