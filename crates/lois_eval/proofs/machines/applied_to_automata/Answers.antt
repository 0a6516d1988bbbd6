use Rattle.std.proofs.Common.{[], ◌∷◌, sym, ap, subst, ◌∙◌}
use Rattle.std.proofs.lemmas.Result.{IfOk-weaker, IfErr-weaker}
use Rattle.lois_base.specs.Data.{terms_of}
use Rattle.lois_base.specs.Fits.{PartsFit}
use Rattle.lois_base.specs.Tree.{tree as term_tree}
use Rattle.lois_base.specs.Validity.{AdmitsParts}
use Rattle.lois_meaning.specs.Faults.{IsInvalidOperand}
use Rattle.lois_script.specs.Tree.{pos}
use Rattle.lois_script.specs.View.{tree, exprs_of}
use Rattle.lois_script.specs.Lists.{exprs_list}
use Rattle.lois_script.specs.declared.syntax.Operation.TheVariants.{Product}
use Rattle.lois_eval.specs.Automata.{IsOperationResult, IsValueFault, IsProductFault}
use Rattle.lois_eval.specs.Operands.{IsUnfitFault}
use Rattle.lois_eval.specs.WellFormed.{arity}
use Rattle.lois_eval.specs.Throughout.{AreValuesThroughout, IfFault}
use Rattle.lois_eval.proofs.Automata.{both_given, made_of, of_one_automaton, one_given, one_unfit, product_unfit}
use Rattle.lois_eval.proofs.FaultsAt.{if_fault}
use Rattle.lois_eval.proofs.machines.applied_to_automata.Goals as goal

pub two_exprs-requires : goal.two_exprs-requires
two_exprs-requires g c = c.requires.operands.operands ∙ ap arity c.in-Product.is

pub two_terms-requires : goal.two_terms-requires
two_terms-requires g c = c.requires.operands.count ∙ ap arity c.in-Product.is

pub product_of-requires : goal.product_of-requires
product_of-requires g c =
    let k = c.args.context.now in
    let fits = subst (λ z. PartsFit k.size (terms_of z)) c.two_terms.ensures c.requires.operands.levels in
    let admits = subst (λ z. AdmitsParts g.T.Structure.ordered (terms_of z)) c.two_terms.ensures c.requires.operands.operators in
    let e = tree c.two_exprs.result.0.now in
    let f = tree c.two_exprs.result.1.now in
    let s = term_tree c.two_terms.result.0.now in
    let t = term_tree c.two_terms.result.1.now in
    let given = both_given k e f s t (subst (λ z. AreValuesThroughout k (exprs_of z) (s ∷ t ∷ [])) c.two_exprs.ensures (subst (λ z. AreValuesThroughout k (exprs_of (exprs_list c.args.operands.now)) z) c.two_terms.ensures c.requires.operands.given)) in
    record {
      given = given.0;
      other_given = given.1;
      over = record { levels = fits.0; operators = admits.0 };
      other = record { levels = fits.1.0; operators = admits.1.0 };
      context_operators = c.requires.operands.context_operators;
    }

pub returns-in-Product-clause-made : goal.returns-in-Product-clause-made
returns-in-Product-clause-made g c =
    let k = c.args.context.now in
    let us = term_tree c.two_terms.result.0.now ∷ term_tree c.two_terms.result.1.now ∷ [] in
    IfOk-weaker c.product_of.result (λ r. IsOperationResult k Product us (term_tree r)) _ (λ r h. made_of k c.args.operation Product c.args.values.now us (term_tree r) c.in-Product.is c.two_terms.ensures h) c.product_of.ensures.made

pub returns-in-Product-clause-fault : goal.returns-in-Product-clause-fault
returns-in-Product-clause-fault g c =
    let k = c.args.context.now in
    let e = c.two_exprs.result.0.now in
    let f = c.two_exprs.result.1.now in
    let s = term_tree c.two_terms.result.0.now in
    let t = term_tree c.two_terms.result.1.now in
    let P = IsProductFault g.T.Structure.ordered k s (pos (tree e)) t (pos (tree f)) in
    let Q = IsUnfitFault g.T.Structure.ordered k c.args.operation (exprs_of (exprs_list c.args.operands.now)) (terms_of c.args.values.now) in
    IfErr-weaker c.product_of.result (λ z. IfFault z P) _
    (λ z h. if_fault z P Q (λ x unfit. subst (λ op. IsUnfitFault g.T.Structure.ordered k op (exprs_of (exprs_list c.args.operands.now)) (terms_of c.args.values.now) x) (sym c.in-Product.is)
    (product_unfit g.T.Structure.ordered k (exprs_list c.args.operands.now) c.args.values.now x (tree e) (tree f) s t c.two_exprs.ensures c.two_terms.ensures unfit)) h) c.product_of.ensures.fault

pub one_expr-requires : goal.one_expr-requires
one_expr-requires g c =
    c.requires.operands.operands ∙ (of_one_automaton c.args.operation c.requires.operands.operation c.in_default.not-Product).1

pub one_term-requires : goal.one_term-requires
one_term-requires g c =
    c.requires.operands.count ∙ (of_one_automaton c.args.operation c.requires.operands.operation c.in_default.not-Product).1

pub of_one-requires : goal.of_one-requires
of_one-requires g c =
    let k = c.args.context.now in
    let e = tree c.one_expr.result.now in
    let t = term_tree c.one_term.result.now in
    record {
      given = one_given k e t (subst (λ z. AreValuesThroughout k (exprs_of z) (t ∷ [])) c.one_expr.ensures (subst (λ z. AreValuesThroughout k (exprs_of (exprs_list c.args.operands.now)) z) c.one_term.ensures c.requires.operands.given));
      operation = (of_one_automaton c.args.operation c.requires.operands.operation c.in_default.not-Product).0;
      over = record {
        levels = (subst (λ z. PartsFit k.size (terms_of z)) c.one_term.ensures c.requires.operands.levels).0;
        operators = (subst (λ z. AdmitsParts g.T.Structure.ordered (terms_of z)) c.one_term.ensures c.requires.operands.operators).0;
      };
      context_operators = c.requires.operands.context_operators;
    }

pub returns-in_default-clause-made : goal.returns-in_default-clause-made
returns-in_default-clause-made g c =
    let k = c.args.context.now in
    let us = term_tree c.one_term.result.now ∷ [] in
    IfOk-weaker c.of_one.result (λ r. IsOperationResult k c.args.operation us (term_tree r)) _
    (λ r h. subst (λ z. IsOperationResult k c.args.operation z (term_tree r)) (sym c.one_term.ensures) h) c.of_one.ensures.made

pub returns-in_default-clause-fault : goal.returns-in_default-clause-fault
returns-in_default-clause-fault g c =
    let k = c.args.context.now in
    let op = c.args.operation in
    let t = term_tree c.one_term.result.now in
    let P = IsValueFault g.T.Structure.ordered k (IsInvalidOperand op) t (pos (tree c.one_expr.result.now)) in
    let Q = IsUnfitFault g.T.Structure.ordered k op (exprs_of (exprs_list c.args.operands.now)) (terms_of c.args.values.now) in
    IfErr-weaker c.of_one.result (λ z. IfFault z P) _
    (λ z h. if_fault z P Q (λ x unfit. one_unfit g.T.Structure.ordered k op (exprs_list c.args.operands.now) c.args.values.now x (tree c.one_expr.result.now) t c.one_expr.ensures c.one_term.ensures unfit) h) c.of_one.ensures.fault
