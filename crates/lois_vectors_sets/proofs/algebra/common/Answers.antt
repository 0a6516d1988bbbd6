use Rattle.std.proofs.Common.{rules}
use Rattle.lois_base.specs.Data.{coll, comps_of}
use Rattle.lois_base.proofs.Validity.{term_admitted}
use Rattle.lois_vectors_sets.proofs.algebra.common.Goals as goal

pub inter-requires-clause-left : goal.inter-requires-clause-left
inter-requires-clause-left r c =
    record {
      levels = search rules;
      operators = term_admitted (coll (comps_of c.args.s));
    }

pub inter-requires-clause-right : goal.inter-requires-clause-right
inter-requires-clause-right r c =
    record {
      levels = search rules;
      operators = term_admitted (coll (comps_of c.args.t));
    }
