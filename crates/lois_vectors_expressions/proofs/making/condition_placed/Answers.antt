use Rattle.std.proofs.Common.{◌≡◌, true, IfOk, subst}
use Rattle.std.proofs.lemmas.Option.{IfSome_then}
use Rattle.lois_eval.specs.WellFormed.{CondIsWellFormed, names_of}
use Rattle.lois_script.specs.View.{cond_tree}
use Rattle.lois_vectors_expressions.proofs.Placed.{context_admitted}
use Rattle.lois_vectors_expressions.proofs.making.condition_placed.Goals as goal

pub returns : goal.returns
returns c =
    let k = c.args.context.now in
    let named = subst (λ r. IfOk r (λ names. names ≡ names_of k.store)) c.in-Ok.is c.names_in.ensures in
    IfSome_then c.condition_stands.result c.condition_stands.ensures
    (λ x h. record { names = subst (CondIsWellFormed (cond_tree c.args.c.now) true) named h; operators = context_admitted k })
