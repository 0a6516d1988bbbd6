use Rattle.std.proofs.Common.{◌≡◌, true, IfOk, subst}
use Rattle.std.proofs.lemmas.Option.{IfSome_then}
use Rattle.lois_eval.specs.WellFormed.{IsWellFormed, names_of}
use Rattle.lois_script.specs.View.{tree}
use Rattle.lois_vectors_expressions.proofs.Placed.{context_admitted}
use Rattle.lois_vectors_expressions.proofs.making.placed.Goals as goal

pub returns : goal.returns
returns c =
    let k = c.args.context.now in
    let named = subst (λ r. IfOk r (λ names. names ≡ names_of k.store)) c.in-Ok.is c.names_in.ensures in
    IfSome_then c.stands.result c.stands.ensures
    (λ x h. record { names = subst (IsWellFormed (tree c.args.e.now) true) named h; operators = context_admitted k })
