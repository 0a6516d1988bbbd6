use Rattle.std.proofs.Common.{sym, subst}
use Rattle.lois_context.specs.Kept.{AreSlots}
use Rattle.lois_context.proofs.Carried.{no_names}
use Rattle.lois_interp.proofs.Opened.{no_slots}
use Rattle.lois_interp.proofs.retelling.with_lines.Goals as goal

pub invariant_of-result : goal.invariant_of-result
invariant_of-result c =
    let k = c.args.context in
    record {
      levels = k.levels;
      count = k.count;
      met = k.met;
      slots = subst (AreSlots k.size) (sym c.new.ensures.empty) (no_slots k.size);
      fitting = c.requires;
      names = no_names c.new.result c.new.ensures.empty;
    }
