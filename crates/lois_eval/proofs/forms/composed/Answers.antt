use Rattle.std.proofs.Common.{◌<◌, ◌^◌, Bool, sym, ap, subst, ◌∙◌, arith}
use Rattle.std.proofs.lemmas.Result.{IfErr-weaker}
use Rattle.lois_base.specs.Data.{tup, terms_of}
use Rattle.lois_base.specs.Fits.{Fits}
use Rattle.lois_base.specs.Tree.{tree as term_tree}
use Rattle.lois_base.specs.Validity.{AdmitsTerm, AdmitsParts, HasBoundedWidths, PartsHaveBoundedWidths}
use Rattle.lois_meaning.specs.Faults.{Breaks}
use Rattle.lois_script.specs.Tree.{tuple, listed, apply}
use Rattle.lois_script.specs.View.{tree, exprs_of}
use Rattle.lois_script.specs.Lists.{exprs_list}
use Rattle.lois_script.proofs.Views.{tree_Tuple, tree_Listed, tree_Apply}
use Rattle.lois_context.specs.Choices.{AdmitsContext}
use Rattle.lois_eval.specs.Evaluated.{AreTermsOf}
use Rattle.lois_eval.specs.Forms.{parts_of}
use Rattle.lois_eval.specs.LeftToRight.{IsOfLeftmostOperand}
use Rattle.lois_eval.specs.Operands.{IsAppliedThroughout, IsUnfitFault}
use Rattle.lois_eval.specs.WellFormed.{IsWellFormedIn, IsWellFormed}
use Rattle.lois_eval.specs.Throughout.{IfFault, IsFaultOf}
use Rattle.lois_eval.proofs.FaultsAt.{if_fault}
use Rattle.lois_eval.proofs.LeftToRight.{leftmost_as, unfit_fault}
use Rattle.lois_eval.proofs.LoopExit.{four_ok, err_weaker}
use Rattle.lois_eval.proofs.Nodes.{tuple_made, listed_made, apply_made, apply_fails, made_as, breaks_as}
use Rattle.lois_eval.proofs.Parts.{count_of-more}
use Rattle.lois_eval.proofs.forms.composed.Goals as goal

pub returns-in-Tuple-clause-term : goal.returns-in-Tuple-clause-term
returns-in-Tuple-clause-term g c =
    let k = c.args.context.now in
    let p = c.in-Tuple.field-0 in
    let es = exprs_of (exprs_list c.in-Tuple.field-1) in
    let is = ap tree c.in-Tuple.is ∙ tree_Tuple p c.in-Tuple.field-1 in
    made_as k (tree c.args.e.now) (tuple p.offset es) (tup (terms_of c.args.values)) is
    (tuple_made k p.offset es g.T.Structure.ordered c.args.values (subst (λ z. IsWellFormedIn (IsWellFormed z) g.T.Structure.ordered k) is c.requires.placed) (subst (λ z. AreTermsOf k (parts_of z) (IsWellFormed z) c.args.values) is c.requires.values))

pub returns-in_ok-set_of-in-Listed-clause-term : goal.returns-in_ok-set_of-in-Listed-clause-term
returns-in_ok-set_of-in-Listed-clause-term g c =
    let k = c.args.context.now in
    let p = c.in-Listed.field-0 in
    let es = exprs_of (exprs_list c.in-Listed.field-1) in
    let t = term_tree c.in_ok-set_of-in-Listed.field-0 in
    let is = ap tree c.in-Listed.is ∙ tree_Listed p c.in-Listed.field-1 in
    let room : k.size < 2 ^ 64 = omega arith in
    made_as k (tree c.args.e.now) (listed p.offset es) t is
    (listed_made k p.offset es c.args.values t room (subst (λ z. AreTermsOf k (parts_of z) (IsWellFormed z) c.args.values) is c.requires.values) c.in_ok-set_of-in-Listed.ensures)

pub applied-requires : goal.applied-requires
applied-requires g c =
    let k = c.args.context.now in
    let o = g.T.Structure.ordered in
    let p = c.in-Apply.field-0 in
    let op = c.in-Apply.operation in
    let es = exprs_list c.in-Apply.operands in
    let is = ap tree c.in-Apply.is ∙ tree_Apply p op c.in-Apply.operands in
    let placed = subst (λ z. IsWellFormedIn (IsWellFormed z) o k) is c.requires.placed in
    let values = subst (λ z. AreTermsOf k (parts_of z) (IsWellFormed z) c.args.values) is c.requires.values in
    record {
      sound = c.requires.sound;
      operands = sym (count_of-more es) ∙ placed.names.0;
      count = values.count ∙ placed.names.0;
      given = values.values;
      over = record { levels = values.levels; operators = values.operators o placed };
      context_operators = placed.operators;
    }

pub returns-in-Apply-clause-term : goal.returns-in-Apply-clause-term
returns-in-Apply-clause-term g c =
    let k = c.args.context.now in
    let p = c.in-Apply.field-0 in
    let op = c.in-Apply.operation in
    let ts = c.args.values in
    let es = exprs_of (exprs_list c.in-Apply.operands) in
    let is = ap tree c.in-Apply.is ∙ tree_Apply p op c.in-Apply.operands in
    let values = subst (λ z. AreTermsOf k (parts_of z) (IsWellFormed z) ts) is c.requires.values in
    four_ok c.applied.result (λ r. IsAppliedThroughout k op ts (term_tree r)) (λ r. Fits k.size (term_tree r)) (λ r. (o : Bool) → AdmitsContext o k → AdmitsParts o (terms_of ts) → AdmitsTerm o (term_tree r)) (λ r. PartsHaveBoundedWidths (terms_of ts) → HasBoundedWidths (term_tree r)) _
    c.applied.ensures.applied c.applied.ensures.levels c.applied.ensures.operators c.applied.ensures.widths
    (λ r applied fits admits widths. made_as k (tree c.args.e.now) (apply p.offset op es) (term_tree r) is (apply_made k p.offset op es ts (term_tree r) values applied fits admits widths))

pub returns-in-Apply-clause-fault : goal.returns-in-Apply-clause-fault
returns-in-Apply-clause-fault g c =
    let k = c.args.context.now in
    let p = c.in-Apply.field-0 in
    let op = c.in-Apply.operation in
    let ts = c.args.values in
    let es = exprs_of (exprs_list c.in-Apply.operands) in
    let is = ap tree c.in-Apply.is ∙ tree_Apply p op c.in-Apply.operands in
    let values = subst (λ z. AreTermsOf k (parts_of z) (IsWellFormed z) ts) is c.requires.values in
    let P = IsUnfitFault g.T.Structure.ordered k op es (terms_of ts) in
    IfErr-weaker c.applied.result (λ s. IfFault s P) _ (λ s h. if_fault s P (IsFaultOf g.T.Structure.ordered k (Breaks (tree c.args.e.now))) (λ f unfit. breaks_as g.T.Structure.ordered k (tree c.args.e.now) (apply p.offset op es) f is (apply_fails k g.T.Structure.ordered p.offset op es ts f c.requires.placed.operators values unfit)) h) c.applied.ensures.fault

pub returns-in-Apply-clause-leftmost : goal.returns-in-Apply-clause-leftmost
returns-in-Apply-clause-leftmost g c =
    let o = g.T.Structure.ordered in
    let k = c.args.context.now in
    let p = c.in-Apply.field-0 in
    let op = c.in-Apply.operation in
    let ts = c.args.values in
    let es = exprs_of (exprs_list c.in-Apply.operands) in
    let d = apply p.offset op es in
    let is = ap tree c.in-Apply.is ∙ tree_Apply p op c.in-Apply.operands in
    let values = subst (λ z. AreTermsOf k (parts_of z) (IsWellFormed z) ts) is c.requires.values in
    leftmost_as o k (tree c.args.e.now) d c.applied.result is (err_weaker c.applied.result (IsUnfitFault o k op es (terms_of ts)) (IsOfLeftmostOperand o k d) (λ f unfit. unfit_fault o k p.offset op es ts f c.requires.placed.operators values.values unfit) c.applied.ensures.fault)
