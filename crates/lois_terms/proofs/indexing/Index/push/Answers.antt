use Rattle.std.proofs.Common.{nat_eq, sym, ap, ◌∙◌, arith}
use Rattle.std.specs.HashMap.{get}
use Rattle.lois_terms.specs.Positions.{positions_of}
use Rattle.lois_terms.proofs.Positions.{table_pushed}
use Rattle.lois_terms.proofs.indexing.Index.push.Goals as goal

pub invariant_of-drop : goal.invariant_of-drop
invariant_of-drop c = λ x.
    table_pushed (get nat_eq c.numbers.inside.places) (get nat_eq c.add_place.new.places) c.numbers.inside.numbers.items c.args.number (grind (arith, c.in_ok-add_place.ensures.number, c.len.ensures)) c.in_ok-add_place.ensures.others c.numbers.invariant x
    ∙ ap (positions_of x) (sym c.in_ok-push.ensures.items)
