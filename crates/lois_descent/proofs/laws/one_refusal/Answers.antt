use Rattle.lois_descent.proofs.Refusing.{one_refusal, never_both}
use Rattle.lois_descent.proofs.laws.one_refusal.Goals as goal

pub returns-clause-refusal : goal.returns-clause-refusal
returns-clause-refusal c = one_refusal

pub returns-clause-never_both : goal.returns-clause-never_both
returns-clause-never_both c = never_both
