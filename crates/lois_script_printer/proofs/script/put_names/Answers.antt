use Rattle.std.proofs.Common.{sym, ap}
use Rattle.lois_lexer.specs.declared.TokenKind.TheVariants.{Name, Symbol}
use Rattle.lois_script_printer.specs.Appended.{written_names}
use Rattle.lois_script_printer.specs.Printed.{followed_by_blank}
use Rattle.lois_script_printer.proofs.Appending.{start, appends_as, one_more_name, no_more_names}
use Rattle.lois_script_printer.proofs.script.put_names.Goals as goal

pub loop-i-init : goal.loop-i-init
loop-i-init c = start _ written_names _ _ c.as_slice-parameter-items.ensures.items

pub loop-i-preserved : goal.loop-i-preserved
loop-i-preserved c =
    one_more_name c.as_slice-parameter-items.result.now c.loop-i.i c.parameter-item.result _ _ _ _ _ c.loop-i-test.true c.parameter-item.is c.loop-i.invariant (c.in_ok-put_separator.ensures Symbol)
    (appends_as (ap (followed_by_blank Name) (sym c.bytes.ensures.same)) (c.in_ok-put.ensures Name))

pub returns : goal.returns
returns c = no_more_names c.as_slice-parameter-items.result.now c.loop-i.i _ _ _ c.loop-i-test.false c.loop-i.invariant
