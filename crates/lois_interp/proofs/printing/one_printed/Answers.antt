use Rattle.std.proofs.Common.{sym, subst}
use Rattle.lois_context.specs.Kept.{AreSlots, LinesFit}
use Rattle.lois_context.proofs.Carried.{no_names}
use Rattle.lois_interp.proofs.Opened.{no_slots}
use Rattle.lois_interp.proofs.ScriptRuns.{printed_fit}
use Rattle.lois_interp.proofs.printing.one_printed.Goals as goal

pub invariant_of-result : goal.invariant_of-result
invariant_of-result g c =
    let k = c.args.context in
    record {
      levels = k.levels;
      count = k.count;
      met = k.met;
      slots = subst (AreSlots k.size) (sym c.new-2.ensures.empty) (no_slots k.size);
      fitting = subst (LinesFit k.size) (sym c.in_ok-lines.ensures.same) (printed_fit k.size k.«when» k.lines c.in_ok-printed.printed c.in_ok-printed.ensures.printed);
      names = no_names c.new-2.result c.new-2.ensures.empty;
    }
