use Rattle.lois_base.specs.FormulaView.{view}
use Rattle.lois_base.proofs.Validity.{formula_admitted}
use Rattle.lois_vectors_sets.proofs.algebra.holds_at.Goals as goal

pub quantifier_free-requires-clause-operators : goal.quantifier_free-requires-clause-operators
quantifier_free-requires-clause-operators c = formula_admitted (view c.args.f.now)
