use Rattle.std.proofs.Common.{rules}
use Rattle.lois_base.specs.Data.{comps_of}
use Rattle.lois_base.specs.Tree.{tree}
use Rattle.lois_base.proofs.Validity.{constraint_admitted, term_admitted, items_admitted}
use Rattle.lois_vectors_sets.proofs.algebra.guard_apart.Goals as goal

pub selected_guard-requires-clause-left : goal.selected_guard-requires-clause-left
selected_guard-requires-clause-left r c =
    record {
      levels = search rules;
      operators = (constraint_admitted c.args.comp.now.guard, term_admitted (tree c.args.comp.now.item));
    }

pub selected_guard-requires-clause-right : goal.selected_guard-requires-clause-right
selected_guard-requires-clause-right r c =
    record {
      levels = search rules;
      operators = items_admitted (comps_of c.args.others.now);
    }
