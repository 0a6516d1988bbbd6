use Rattle.std.proofs.Common.{rules}
use Rattle.lois_base.proofs.Validity.{constraint_admitted}
use Rattle.lois_vectors_atoms.proofs.elim.with_two_between.Goals as goal

pub for_some_more-requires-clause-over : goal.for_some_more-requires-clause-over
for_some_more-requires-clause-over c =
    record {
      levels = search rules;
      operators = constraint_admitted c.args.between;
    }
