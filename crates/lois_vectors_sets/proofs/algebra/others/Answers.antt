use Rattle.std.proofs.Common.{rules}
use Rattle.lois_base.specs.Data.{coll, comps_of}
use Rattle.lois_base.proofs.Validity.{term_admitted}
use Rattle.lois_vectors_sets.proofs.algebra.others.Goals as goal

pub minus-requires-clause-left : goal.minus-requires-clause-left
minus-requires-clause-left r c =
    record {
      levels = search rules;
      operators = term_admitted (coll (comps_of c.args.s));
    }

pub minus-requires-clause-right : goal.minus-requires-clause-right
minus-requires-clause-right r c =
    record {
      levels = search rules;
      operators = term_admitted (coll (comps_of c.args.t));
    }
