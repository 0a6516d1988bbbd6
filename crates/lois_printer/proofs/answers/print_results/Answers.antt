use Rattle.std.proofs.Common.{length}
use Rattle.lois_printer.proofs.Fitting.{sound_cases_fit}
use Rattle.lois_printer.proofs.answers.print_results.Goals as goal

pub append_cases-requires : goal.append_cases-requires
append_cases-requires c = sound_cases_fit c.args.results.now.order (length c.args.results.now.parameters) c.args.results.now.cases c.requires.cases
