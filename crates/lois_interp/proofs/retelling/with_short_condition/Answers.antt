use Rattle.std.proofs.Common.{[], ◌∷◌, sym, refl, subst, IsTrue}
use Rattle.lois_base.specs.Truth.{sampled}
use Rattle.lois_simplify.specs.Shortened.{IsShortened}
use Rattle.lois_simplify.proofs.Shortened.{equally_true}
use Rattle.lois_interp.proofs.retelling.with_short_condition.Goals as goal

pub invariant_of-result : goal.invariant_of-result
invariant_of-result c =
    let k = c.args.context in
    let short = subst (λ u. IsShortened u k.«when» c.in_ok-when.«when») c.in_ok-anywhere.ensures c.in_ok-when.ensures.shortened in
    record {
      levels = short.levels k.size k.levels;
      count = k.count;
      met = subst IsTrue (sym (equally_true ([] ∷ []) k.«when» c.in_ok-when.«when» short (sampled k.sample) refl)) k.met;
      slots = k.slots;
      fitting = k.fitting;
      names = k.names;
    }

pub returns : goal.returns
returns c =
    let k = c.args.context in
    let short = subst (λ u. IsShortened u k.«when» c.in_ok-when.«when») c.in_ok-anywhere.ensures c.in_ok-when.ensures.shortened in
    record {
      size = refl;
      truth = λ e. equally_true ([] ∷ []) k.«when» c.in_ok-when.«when» short e refl;
      operators = short.operators;
      store = refl;
      lines = refl;
    }
