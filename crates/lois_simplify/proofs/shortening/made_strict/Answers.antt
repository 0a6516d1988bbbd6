use Rattle.lois_simplify.proofs.Shortened.{shortened_itself, split_alike}
use Rattle.lois_simplify.proofs.shortening.made_strict.Goals as goal

pub returns-then-is_strict-clause-shortened : goal.returns-then-is_strict-clause-shortened
returns-then-is_strict-clause-shortened c = λ u. shortened_itself u c.args.constraint

pub returns-clause-shortened : goal.returns-clause-shortened
returns-clause-shortened c =
    let e = c.split_constraint.ensures in
    split_alike c.args.constraint c.split_constraint.result e.truth e.fits e.operators
