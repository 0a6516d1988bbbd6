use Rattle.std.proofs.lemmas.Result.{IfOk-weaker}
use Rattle.lois_base.specs.FormulaView.{view}
use Rattle.lois_base.specs.Tree.{tree}
use Rattle.lois_base.specs.Values.{point, IsSame}
use Rattle.lois_elim.specs.Bound.{AgreesWith}
use Rattle.lois_automata.proofs.Tests.{formula_where}
use Rattle.lois_automata.proofs.conditions.where_same.Goals as goal

pub returns-clause-truth : goal.returns-clause-truth
returns-clause-truth g c =
    let n = c.args.size in
    let f = view c.in_ok-formula.formula in
    IfOk-weaker c.quantifier_free.result (AgreesWith n f) _ (λ r agrees. formula_where n (λ d. IsSame (point (tree c.args.s.now) d) (point (tree c.args.t.now) d)) f r c.in_ok-formula.ensures.truth agrees) c.quantifier_free.ensures.truth
