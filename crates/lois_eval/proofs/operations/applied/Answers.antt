use Rattle.std.proofs.Common.{◌⊎◌, Bool, [], ◌∷◌, sym, ap, subst, ◌∙◌}
use Rattle.std.proofs.lemmas.Result.{IfOk-weaker, IfErr-weaker}
use Rattle.lois_base.specs.Data.{terms_of}
use Rattle.lois_base.specs.Fits.{PartsFit}
use Rattle.lois_base.specs.Tree.{tree as term_tree}
use Rattle.lois_base.specs.Validity.{AdmitsTerm, AdmitsParts, HasBoundedWidths, PartsHaveBoundedWidths}
use Rattle.lois_meaning.specs.declared.faults.Fault.{Fault}
use Rattle.lois_script.specs.View.{tree, exprs_of}
use Rattle.lois_script.specs.Lists.{exprs_list}
use Rattle.lois_script.specs.declared.syntax.Operation.TheVariants.{Flatten}
use Rattle.lois_eval.specs.Automata.{IsOperationResult}
use Rattle.lois_eval.specs.Checks.{IsSetFault}
use Rattle.lois_eval.specs.Operands.{IsOfTwoSets, IsAppliedThroughout, IsUnfitFault, IsMemberFault}
use Rattle.lois_eval.specs.WellFormed.{arity}
use Rattle.lois_eval.specs.Throughout.{IfFault}
use Rattle.lois_eval.proofs.Automata.{of_automata}
use Rattle.lois_eval.proofs.FaultsAt.{if_fault}
use Rattle.lois_eval.proofs.InvalidOperands.{flatten_unfit}
use Rattle.lois_eval.proofs.operations.applied.Goals as goal

pub combined-requires : goal.combined-requires
combined-requires g c = record {
  operation = subst IsOfTwoSets (sym c.in-Union.is) tt;
  operands = c.requires.operands ∙ ap arity c.in-Union.is;
  count = c.requires.count ∙ ap arity c.in-Union.is;
  over = c.requires.over;
}

pub combined-requires-in-Inter : goal.combined-requires-in-Inter
combined-requires-in-Inter g c = record {
  operation = subst IsOfTwoSets (sym c.in-Inter.is) tt;
  operands = c.requires.operands ∙ ap arity c.in-Inter.is;
  count = c.requires.count ∙ ap arity c.in-Inter.is;
  over = c.requires.over;
}

pub combined-requires-in-Minus : goal.combined-requires-in-Minus
combined-requires-in-Minus g c = record {
  operation = subst IsOfTwoSets (sym c.in-Minus.is) tt;
  operands = c.requires.operands ∙ ap arity c.in-Minus.is;
  count = c.requires.count ∙ ap arity c.in-Minus.is;
  over = c.requires.over;
}

pub one_expr-requires : goal.one_expr-requires
one_expr-requires g c = c.requires.operands ∙ ap arity c.in-Flatten.is

pub one_term-requires : goal.one_term-requires
one_term-requires g c = c.requires.count ∙ ap arity c.in-Flatten.is

pub flattened-requires-clause-over : goal.flattened-requires-clause-over
flattened-requires-clause-over g c =
    record {
      levels = (subst (λ z. PartsFit c.args.context.now.size (terms_of z)) c.one_term.ensures c.requires.over.levels).0;
      operators = (subst (λ z. AdmitsParts g.T.Structure.ordered (terms_of z)) c.one_term.ensures c.requires.over.operators).0;
    }

pub returns-in-Flatten-clause-applied : goal.returns-in-Flatten-clause-applied
returns-in-Flatten-clause-applied g c =
    let k = c.args.context.now in
    IfOk-weaker c.flattened.result (λ r. IsAppliedThroughout k Flatten (term_tree c.one_term.result.now ∷ []) (term_tree r)) _
    (λ r h. subst (λ op. IsAppliedThroughout k op c.args.values.now (term_tree r)) (sym c.in-Flatten.is) (subst (λ z. IsAppliedThroughout k Flatten z (term_tree r)) (sym c.one_term.ensures) h)) c.flattened.ensures.applied

pub returns-in-Flatten-clause-operators : goal.returns-in-Flatten-clause-operators
returns-in-Flatten-clause-operators g c =
    IfOk-weaker c.flattened.result (λ r. (o : Bool) → AdmitsTerm o (term_tree c.one_term.result.now) → AdmitsTerm o (term_tree r)) _
    (λ r h o context admits. h o (subst (λ z. AdmitsParts o (terms_of z)) c.one_term.ensures admits).0) c.flattened.ensures.operators

pub returns-in-Flatten-clause-widths : goal.returns-in-Flatten-clause-widths
returns-in-Flatten-clause-widths g c =
    IfOk-weaker c.flattened.result (λ r. HasBoundedWidths (term_tree c.one_term.result.now) → HasBoundedWidths (term_tree r)) _
    (λ r h usual. h (subst (λ z. PartsHaveBoundedWidths (terms_of z)) c.one_term.ensures usual).0) c.flattened.ensures.widths

pub returns-in-Flatten-clause-fault : goal.returns-in-Flatten-clause-fault
returns-in-Flatten-clause-fault g c =
    let k = c.args.context.now in
    let e = c.one_expr.result.now in
    let s = term_tree c.one_term.result.now in
    let at = c.pos-pos.result.offset in
    let P = λ (f : Fault). IsSetFault k s at f ⊎ IsMemberFault g.T.Structure.ordered k s at f in
    let Q = IsUnfitFault g.T.Structure.ordered k c.args.operation (exprs_of (exprs_list c.args.operands.now)) (terms_of c.args.values.now) in
    IfErr-weaker c.flattened.result (λ z. IfFault z P) _
    (λ z h. if_fault z P Q (λ f unfit. flatten_unfit g.T.Structure.ordered k f (tree e) s c.args.operation (exprs_list c.args.operands.now) c.args.values.now at c.in-Flatten.is c.one_expr.ensures c.one_term.ensures c.pos-pos.ensures.first_token unfit) h) c.flattened.ensures.fault

pub returns-in-Union-clause-operators : goal.returns-in-Union-clause-operators
returns-in-Union-clause-operators g c =
    IfOk-weaker c.combined.result (λ r. (o : Bool) → AdmitsParts o (terms_of c.args.values.now) → AdmitsTerm o (term_tree r)) _ (λ r h o context admits. h o admits) c.combined.ensures.operators

pub returns-in-Inter-clause-operators : goal.returns-in-Inter-clause-operators
returns-in-Inter-clause-operators g c =
    IfOk-weaker c.combined-in-Inter.result (λ r. (o : Bool) → AdmitsParts o (terms_of c.args.values.now) → AdmitsTerm o (term_tree r)) _ (λ r h o context admits. h o admits) c.combined-in-Inter.ensures.operators

pub returns-in-Minus-clause-operators : goal.returns-in-Minus-clause-operators
returns-in-Minus-clause-operators g c =
    IfOk-weaker c.combined-in-Minus.result (λ r. (o : Bool) → AdmitsParts o (terms_of c.args.values.now) → AdmitsTerm o (term_tree r)) _ (λ r h o context admits. h o admits) c.combined-in-Minus.ensures.operators

pub apply-requires-clause-operands : goal.apply-requires-clause-operands
apply-requires-clause-operands g c = record {
  operation = of_automata c.args.operation c.in_default.not-Union c.in_default.not-Inter c.in_default.not-Minus c.in_default.not-Flatten;
  operands = c.requires.operands;
  count = c.requires.count;
  given = c.requires.given;
  levels = c.requires.over.levels;
  operators = c.requires.over.operators;
  context_operators = c.requires.context_operators;
}

pub returns-in_default-clause-applied : goal.returns-in_default-clause-applied
returns-in_default-clause-applied g c =
    IfOk-weaker c.apply.result (λ r. IsOperationResult c.args.context.now c.args.operation c.args.values.now (term_tree r)) _ (λ r h. h.applied) c.apply.ensures.made

pub returns-in_default-clause-levels : goal.returns-in_default-clause-levels
returns-in_default-clause-levels g c =
    IfOk-weaker c.apply.result (λ r. IsOperationResult c.args.context.now c.args.operation c.args.values.now (term_tree r)) _ (λ r h. h.levels) c.apply.ensures.made

pub returns-in_default-clause-operators : goal.returns-in_default-clause-operators
returns-in_default-clause-operators g c =
    IfOk-weaker c.apply.result (λ r. IsOperationResult c.args.context.now c.args.operation c.args.values.now (term_tree r)) _ (λ r h. h.operators) c.apply.ensures.made

pub returns-in_default-clause-widths : goal.returns-in_default-clause-widths
returns-in_default-clause-widths g c =
    IfOk-weaker c.apply.result (λ r. IsOperationResult c.args.context.now c.args.operation c.args.values.now (term_tree r)) _ (λ r h. h.widths) c.apply.ensures.made
