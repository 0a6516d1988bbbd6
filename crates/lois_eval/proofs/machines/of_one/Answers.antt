use Rattle.std.proofs.Common.{[], ◌∷◌, sym, subst}
use Rattle.std.specs.Prelude.{IfOk, IfErr}
use Rattle.lois_base.specs.Tree.{tree}
use Rattle.lois_meaning.specs.Faults.{IsInvalidOperand}
use Rattle.lois_script.specs.Tree.{pos}
use Rattle.lois_script.specs.View.{tree as expr_tree}
use Rattle.lois_eval.specs.Automata.{IsOperationResult, IsValueFault}
use Rattle.lois_eval.specs.Throughout.{IfFault}
use Rattle.lois_eval.proofs.machines.of_one.Goals as goal

pub returns-in-Reach-clause-made : goal.returns-in-Reach-clause-made
returns-in-Reach-clause-made g c =
    let k = c.args.context.now in
    let t = tree c.args.automaton.now in
    subst (λ op. IfOk c.reach_of.result (λ r. IsOperationResult k op (t ∷ []) (tree r))) (sym c.in-Reach.is) c.reach_of.ensures.made

pub returns-in-Reach-clause-fault : goal.returns-in-Reach-clause-fault
returns-in-Reach-clause-fault g c =
    let k = c.args.context.now in
    let t = tree c.args.automaton.now in
    subst (λ op. IfErr c.reach_of.result (λ s. IfFault s (IsValueFault g.T.Structure.ordered k (IsInvalidOperand op) t (pos (expr_tree c.args.operand.now))))) (sym c.in-Reach.is) c.reach_of.ensures.fault

pub returns-in-Complement-clause-made : goal.returns-in-Complement-clause-made
returns-in-Complement-clause-made g c =
    let k = c.args.context.now in
    let t = tree c.args.automaton.now in
    subst (λ op. IfOk c.complement_of.result (λ r. IsOperationResult k op (t ∷ []) (tree r))) (sym c.in-Complement.is) c.complement_of.ensures.made

pub returns-in-Complement-clause-fault : goal.returns-in-Complement-clause-fault
returns-in-Complement-clause-fault g c =
    let k = c.args.context.now in
    let t = tree c.args.automaton.now in
    subst (λ op. IfErr c.complement_of.result (λ s. IfFault s (IsValueFault g.T.Structure.ordered k (IsInvalidOperand op) t (pos (expr_tree c.args.operand.now))))) (sym c.in-Complement.is) c.complement_of.ensures.fault

pub returns-in-Minimise-clause-made : goal.returns-in-Minimise-clause-made
returns-in-Minimise-clause-made g c =
    let k = c.args.context.now in
    let t = tree c.args.automaton.now in
    subst (λ op. IfOk c.minimal_of.result (λ r. IsOperationResult k op (t ∷ []) (tree r))) (sym c.in-Minimise.is) c.minimal_of.ensures.made

pub returns-in-Minimise-clause-fault : goal.returns-in-Minimise-clause-fault
returns-in-Minimise-clause-fault g c =
    let k = c.args.context.now in
    let t = tree c.args.automaton.now in
    subst (λ op. IfErr c.minimal_of.result (λ s. IfFault s (IsValueFault g.T.Structure.ordered k (IsInvalidOperand op) t (pos (expr_tree c.args.operand.now))))) (sym c.in-Minimise.is) c.minimal_of.ensures.fault
