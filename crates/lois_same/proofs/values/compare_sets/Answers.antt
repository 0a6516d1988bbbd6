use Rattle.std.proofs.Common.{refl, sym, subst}
use Rattle.std.specs.Prelude.{IsNone}
use Rattle.lois_base.specs.Tree.{tree}
use Rattle.lois_same.proofs.OtherValues.{same_under}
use Rattle.lois_same.proofs.values.compare_sets.Goals as goal

pub returns-in-None-clause-contrast : goal.returns-in-None-clause-contrast
returns-in-None-clause-contrast g c =
    same_under c.args.size c.args.under.now (tree c.args.set.now) (tree c.args.other.now) c.requires.set c.requires.other_set (c.in_ok-first.ensures.none (subst IsNone (sym c.in_default.is) refl)) (c.in_ok-alone.ensures.none (subst IsNone (sym c.in-None.is) refl))
