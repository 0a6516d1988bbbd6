use Rattle.std.proofs.Common.{[], ◌∷◌, sym, subst}
use Rattle.lois_base.specs.Fits.{Fits}
use Rattle.lois_base.specs.Tree.{tree}
use Rattle.lois_base.specs.Validity.{AdmitsTerm}
use Rattle.lois_script.specs.View.{cond_tree}
use Rattle.lois_eval.specs.Evaluated.{AreTermsOf}
use Rattle.lois_eval.specs.Forms.{sides_of}
use Rattle.lois_eval.specs.WellFormed.{CondIsWellFormed}
use Rattle.lois_eval.proofs.forms.compared.Goals as goal

pub compared_with-requires-clause-values : goal.compared_with-requires-clause-values
compared_with-requires-clause-values g c =
    let all = AreTermsOf c.args.context.now (sides_of (cond_tree c.args.c.now)) (CondIsWellFormed (cond_tree c.args.c.now)) in
    subst (λ z. all (tree z ∷ tree c.get-2.result.now ∷ [])) (sym c.get.ensures.same) (subst (λ z. all (tree c.args.values.now.left ∷ tree z ∷ [])) (sym c.get-2.ensures.same) c.requires.values)

pub compared_with-requires-clause-left : goal.compared_with-requires-clause-left
compared_with-requires-clause-left g c =
    record {
      levels = subst (λ z. Fits c.args.context.now.size (tree z)) (sym c.get.ensures.same) c.requires.values.levels.0;
      operators = subst (λ z. AdmitsTerm g.T.Structure.ordered (tree z)) (sym c.get.ensures.same) (c.requires.values.operators g.T.Structure.ordered c.requires.placed).0;
    }

pub compared_with-requires-clause-right : goal.compared_with-requires-clause-right
compared_with-requires-clause-right g c =
    record {
      levels = subst (λ z. Fits c.args.context.now.size (tree z)) (sym c.get-2.ensures.same) c.requires.values.levels.1.0;
      operators = subst (λ z. AdmitsTerm g.T.Structure.ordered (tree z)) (sym c.get-2.ensures.same) (c.requires.values.operators g.T.Structure.ordered c.requires.placed).1.0;
    }
