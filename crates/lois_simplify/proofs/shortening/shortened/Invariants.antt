use Rattle.lois_simplify.specs.Shortened.{IsShortened}
use Rattle.lois_simplify.proofs.shortening.shortened.Given as goal

abbrev pub invariant-loop : goal.invariant-loop
invariant-loop l = IsShortened l.under l.c l.held
