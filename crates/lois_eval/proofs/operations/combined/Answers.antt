use Rattle.std.proofs.Common.{sym, subst}
use Rattle.lois_base.specs.Data.{terms_of}
use Rattle.lois_base.specs.Fits.{PartsFit}
use Rattle.lois_base.specs.Tree.{tree as term_tree}
use Rattle.lois_base.specs.Validity.{AdmitsParts, PartsHaveBoundedWidths}
use Rattle.lois_script.specs.View.{tree, exprs_of}
use Rattle.lois_script.specs.Lists.{exprs_list}
use Rattle.lois_eval.specs.Checks.{IsSetFault}
use Rattle.lois_eval.specs.Operands.{IsAppliedThroughout, IsUnfitFault}
use Rattle.lois_eval.proofs.LoopExit.{passed_on}
use Rattle.lois_eval.proofs.InvalidOperands.{left_unfit, right_unfit}
use Rattle.lois_eval.proofs.operations.combined.Goals as goal

pub returns-in_err-check_set-clause-fault : goal.returns-in_err-check_set-clause-fault
returns-in_err-check_set-clause-fault g c =
    let k = c.args.context.now in
    let e = c.two_exprs.result.0.now in
    let f = c.two_exprs.result.1.now in
    let s = c.two_terms.result.0.now in
    let t = c.two_terms.result.1.now in
    passed_on c.from_residual.result c.in_err-check_set.field-0.0 (IsSetFault k (term_tree s) c.pos.result.offset) (IsUnfitFault g.T.Structure.ordered k c.args.operation (exprs_of (exprs_list c.args.operands.now)) (terms_of c.args.values.now)) c.from_residual.ensures.1
    (λ x h. left_unfit g.T.Structure.ordered k x c.args.operation c.requires.operation (tree e) (tree f) (term_tree s) (term_tree t) (exprs_list c.args.operands.now) c.args.values.now c.pos.result.offset c.two_exprs.ensures c.two_terms.ensures c.pos.ensures.first_token h) c.in_err-check_set.ensures.fault

pub returns-in_err-check_set-2-clause-fault : goal.returns-in_err-check_set-2-clause-fault
returns-in_err-check_set-2-clause-fault g c =
    let k = c.args.context.now in
    let e = c.two_exprs.result.0.now in
    let f = c.two_exprs.result.1.now in
    let s = c.two_terms.result.0.now in
    let t = c.two_terms.result.1.now in
    passed_on c.from_residual-in_err-check_set-2.result c.in_err-check_set-2.field-0.0 (IsSetFault k (term_tree t) c.pos-2.result.offset) (IsUnfitFault g.T.Structure.ordered k c.args.operation (exprs_of (exprs_list c.args.operands.now)) (terms_of c.args.values.now)) c.from_residual-in_err-check_set-2.ensures.1
    (λ x h. right_unfit g.T.Structure.ordered k x c.args.operation c.requires.operation (tree e) (tree f) (term_tree s) (term_tree t) (exprs_list c.args.operands.now) c.args.values.now c.pos-2.result.offset c.two_exprs.ensures c.two_terms.ensures c.pos-2.ensures.first_token c.in_ok-check_set.ensures.set h) c.in_err-check_set-2.ensures.fault

pub combination-requires : goal.combination-requires
combination-requires g c =
    let k = c.args.context.now in
    let fits = subst (λ z. PartsFit k.size (terms_of z)) c.two_terms.ensures c.requires.over.levels in
    let admits = subst (λ z. AdmitsParts g.T.Structure.ordered (terms_of z)) c.two_terms.ensures c.requires.over.operators in
    record {
      operation = c.requires.operation;
      left = record { levels = fits.0; operators = admits.0 };
      left_set = c.in_ok-check_set.ensures.set;
      right = record { levels = fits.1.0; operators = admits.1.0 };
      right_set = c.in_ok-check_set-2.ensures.set;
    }

pub returns-clause-applied : goal.returns-clause-applied
returns-clause-applied g c =
    subst (λ z. IsAppliedThroughout c.args.context.now c.args.operation z (term_tree c.in_ok-combination.field-0)) (sym c.two_terms.ensures) c.in_ok-combination.ensures.applied

pub returns-clause-operators : goal.returns-clause-operators
returns-clause-operators g c = λ o h.
    let admits = subst (λ z. AdmitsParts o (terms_of z)) c.two_terms.ensures h in
    c.in_ok-combination.ensures.operators o admits.0 admits.1.0

pub returns-clause-widths : goal.returns-clause-widths
returns-clause-widths g c = λ h.
    let usual = subst (λ z. PartsHaveBoundedWidths (terms_of z)) c.two_terms.ensures h in
    c.in_ok-combination.ensures.widths usual.0 usual.1.0
