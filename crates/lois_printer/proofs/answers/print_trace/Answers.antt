use Rattle.std.proofs.Common.{sym, subst}
use Rattle.std.specs.List.{All}
use Rattle.lois_answers.specs.Sound.{IsSoundLine}
use Rattle.lois_printer.proofs.Fitting.{sound_lines_fit}
use Rattle.lois_printer.proofs.answers.print_trace.Goals as goal

pub append_elements-requires : goal.append_elements-requires
append_elements-requires c =
    sound_lines_fit c.args.trace.now.order _ c.args.trace.now.elements (subst (λ n. All (IsSoundLine c.args.trace.now.order n) c.args.trace.now.elements) (sym c.len.ensures) c.requires.elements)
