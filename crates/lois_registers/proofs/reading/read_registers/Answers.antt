use Rattle.std.proofs.Common.{subst}
use Rattle.lois_registers.specs.Stops.{StopsIn}
use Rattle.lois_registers.proofs.Alone.{one_automaton}
use Rattle.lois_registers.proofs.Unique.{none_left, only_left}
use Rattle.lois_registers.proofs.reading.read_registers.Goals as goal

pub returns-in-Err-Left-clause-none : goal.returns-in-Err-Left-clause-none
returns-in-Err-Left-clause-none c = none_left c.args.text.now c.in-Err-Left.left (subst (StopsIn c.args.text.now) c.in-Err-Left.field-0-is c.in-Err-Left.ensures.left)

pub returns-in-Err-Left-clause-only : goal.returns-in-Err-Left-clause-only
returns-in-Err-Left-clause-only c =
    only_left c.args.text.now c.in-Err-Left.left c.saturating_sub.result c.saturating_sub.ensures (subst (StopsIn c.args.text.now) c.in-Err-Left.field-0-is c.in-Err-Left.ensures.left)

pub returns-in-Ok-clause-alone : goal.returns-in-Ok-clause-alone
returns-in-Ok-clause-alone c = λ s h. one_automaton c.args.text.now c.in-Ok.registers s c.in-Ok.ensures.exact h
