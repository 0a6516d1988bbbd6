use Rattle.std.proofs.Common.{inl, inr}
use Rattle.lois_base.specs.Tree.{tree}
use Rattle.lois_meaning.specs.Faults.{IsNoAutomaton}
use Rattle.lois_script.specs.Tree.{pos}
use Rattle.lois_script.specs.View.{tree as expr_tree}
use Rattle.lois_script.specs.declared.syntax.Operation.TheVariants.{Product}
use Rattle.lois_eval.specs.Automata.{IsValueFault, IsProductFault}
use Rattle.lois_eval.proofs.Automata.{two_applied}
use Rattle.lois_eval.proofs.LoopExit.{passed_on}
use Rattle.lois_eval.proofs.machines.product_of.Goals as goal

pub returns-in_err-check_machine-clause-fault : goal.returns-in_err-check_machine-clause-fault
returns-in_err-check_machine-clause-fault g c =
    let k = c.args.context.now in
    let a = tree c.args.a.now in
    let at = pos (expr_tree c.args.left.now) in
    passed_on c.from_residual.result c.in_err-check_machine.field-0.0 (IsValueFault g.T.Structure.ordered k IsNoAutomaton a at) (IsProductFault g.T.Structure.ordered k a at (tree c.args.b.now) (pos (expr_tree c.args.right.now))) c.from_residual.ensures.1
    (λ f h. inl h) c.in_err-check_machine.ensures.fault

pub returns-in_err-check_machine-2-clause-fault : goal.returns-in_err-check_machine-2-clause-fault
returns-in_err-check_machine-2-clause-fault g c =
    let k = c.args.context.now in
    let b = tree c.args.b.now in
    let there = pos (expr_tree c.args.right.now) in
    passed_on c.from_residual-in_err-check_machine-2.result c.in_err-check_machine-2.field-0.0 (IsValueFault g.T.Structure.ordered k IsNoAutomaton b there) (IsProductFault g.T.Structure.ordered k (tree c.args.a.now) (pos (expr_tree c.args.left.now)) b there) c.from_residual-in_err-check_machine-2.ensures.1
    (λ f h. inr (λ d a. c.in_ok-check_machine.ensures.automaton d a.0 a.1, h)) c.in_err-check_machine-2.ensures.fault

pub returns-clause-made : goal.returns-clause-made
returns-clause-made g c =
    let h = c.in_ok-product.ensures in
    record {
      applied = two_applied c.args.context.now (tree c.args.a.now) Product (tree c.args.b.now) (tree c.in_ok-product.field-0) c.in_ok-check_machine.ensures.automaton c.in_ok-check_machine-2.ensures.automaton h.product;
      levels = h.levels;
      operators = λ o context admits. h.operators o admits.0 admits.1.0;
      widths = λ usual. h.widths usual.0 usual.1.0;
    }
