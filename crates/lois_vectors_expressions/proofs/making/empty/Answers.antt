use Rattle.lois_context.proofs.Carried.{no_names}
use Rattle.lois_vectors_expressions.proofs.making.empty.Goals as goal

pub invariant_of-result-clause-names : goal.invariant_of-result-clause-names
invariant_of-result-clause-names g c = no_names c.new-store.result c.new-store.ensures.empty
