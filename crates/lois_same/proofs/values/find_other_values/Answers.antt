use Rattle.std.proofs.Common.{sym, subst}
use Rattle.lois_base.specs.FormulaView.{view}
use Rattle.lois_base.specs.Tree.{tree}
use Rattle.lois_deciders.specs.Satisfiability.{IsCounterexample}
use Rattle.lois_deciders.proofs.Oracle.{some_is}
use Rattle.lois_same.specs.Members.{AreOtherUnder}
use Rattle.lois_same.proofs.OtherValues.{other_values}
use Rattle.lois_same.proofs.values.find_other_values.Goals as goal

pub returns-in-Some-clause-sample : goal.returns-in-Some-clause-sample
returns-in-Some-clause-sample g c =
    let n = c.args.size in
    let u = c.args.under.now in
    let is = some_is (λ s. IsCounterexample n u c.in_ok-same.same s.items) c.in_ok-sample.field-0 c.in-Some.sample c.in-Some.is c.in_ok-sample.ensures.sample in
    subst (AreOtherUnder n u (tree c.args.term.now) (tree c.args.other.now)) (sym c.from_vec.ensures)
    (other_values n u (tree c.args.term.now) (tree c.args.other.now) (view c.in_ok-formula.formula) c.in_ok-same.same c.in-Some.sample.items c.in_ok-formula.ensures.truth c.in_ok-same.ensures.truth is)
