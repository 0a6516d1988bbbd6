use Rattle.std.proofs.Common.{rules}
use Rattle.lois_base.specs.Data.{comps_of}
use Rattle.lois_base.proofs.Validity.{items_admitted}
use Rattle.lois_vectors_sets.proofs.readable.readable.Goals as goal

pub make_readable-requires-clause-over : goal.make_readable-requires-clause-over
make_readable-requires-clause-over g c =
    record {
      levels = search rules;
      operators = items_admitted (comps_of c.args.comps);
    }
