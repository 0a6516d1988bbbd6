use Rattle.std.proofs.Common.{codes, refl}
use Rattle.lois_base.specs.declared.guards.Op.TheVariants.{Eq}
use Rattle.lois_answers.specs.TermText.{literal_text}
use Rattle.lois_printer.proofs.Written.{item_is_written}
use Rattle.lois_printer.proofs.guards.append_literals.Goals as goal

pub loop-index-preserved : goal.loop-index-preserved
loop-index-preserved c =
    item_is_written (literal_text c.args.parameters.now) (codes " and ") c.args.literals.now c.loop-index.index _ (record { op = Eq; left = 0; right = 0 })
    _ _ _ _ c.loop-index-test.true refl c.loop-index.invariant c.in_ok-append_separator.ensures c.in_ok-append_literal.ensures
