use Rattle.lois_meaning.proofs.Operations.{tuples_exist, accepts_by_reach, products_accept_both, complements_accept_others, minimal_is_minimal}
use Rattle.lois_meaning.proofs.laws.operations_accept_what_they_should.Goals as goal

pub returns-clause-tuples : goal.returns-clause-tuples
returns-clause-tuples c = tuples_exist

pub returns-clause-reach : goal.returns-clause-reach
returns-clause-reach c = accepts_by_reach

pub returns-clause-product : goal.returns-clause-product
returns-clause-product c = products_accept_both

pub returns-clause-complement : goal.returns-clause-complement
returns-clause-complement c = complements_accept_others

pub returns-clause-minimal : goal.returns-clause-minimal
returns-clause-minimal c = minimal_is_minimal
