use Rattle.std.proofs.Common.{sym, subst}
use Rattle.lois_base.specs.Fits.{ConstraintFits}
use Rattle.lois_base.specs.Truth.{sampled}
use Rattle.lois_context.proofs.merging.merge_into.Goals as goal

pub invariant_of-context : goal.invariant_of-context
invariant_of-context c =
    let own = c.args.context.now in
    let other = c.args.other.now in
    record {
      levels = c.add_cubes.ensures.levels own.size own.levels (subst (λ n. ConstraintFits n other.«when») (sym c.requires) other.levels);
      count = own.count;
      met = c.add_cubes.ensures.truth (sampled own.sample) own.met;
      slots = own.slots;
      fitting = own.fitting;
      names = own.names;
    }
