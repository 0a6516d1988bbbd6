use Rattle.std.proofs.Common.{sym, subst}
use Rattle.lois_base.specs.Fits.{Fits}
use Rattle.lois_base.specs.Tree.{tree as term_tree}
use Rattle.lois_base.specs.Validity.{AdmitsTerm}
use Rattle.lois_base.specs.Values.{point}
use Rattle.lois_meaning.specs.Faults.{Fails}
use Rattle.lois_meaning.specs.Store.{IsShallow}
use Rattle.lois_script.specs.View.{tree}
use Rattle.lois_eval.specs.Checks.{IsDepthFault}
use Rattle.lois_eval.specs.Throughout.{IsFaultOf}
use Rattle.lois_eval.proofs.LoopExit.{passed_on}
use Rattle.lois_eval.proofs.Nodes.{too_deep_fails}
use Rattle.lois_eval.proofs.forms.named_value.Goals as goal

pub check_depth-requires-clause-over : goal.check_depth-requires-clause-over
check_depth-requires-clause-over g c =
    record {
      levels = subst (λ t. Fits c.args.context.now.size (term_tree t)) (sym c.get.ensures.same) c.in_ok-held.ensures.term.levels;
      operators = subst (λ t. AdmitsTerm g.T.Structure.ordered (term_tree t)) (sym c.get.ensures.same) (c.in_ok-held.ensures.term.operators g.T.Structure.ordered c.requires.placed);
    }

pub returns-in_err-check_depth-clause-fault : goal.returns-in_err-check_depth-clause-fault
returns-in_err-check_depth-clause-fault g c =
    let k = c.args.context.now in
    let e = tree c.args.e.now in
    let t = term_tree c.in_ok-held.held in
    passed_on c.from_residual-in_err-check_depth.result c.in_err-check_depth.field-0.0 (IsDepthFault g.T.Structure.ordered k (term_tree c.get.result.now) c.pos.result.offset) (IsFaultOf g.T.Structure.ordered k (Fails e)) c.from_residual-in_err-check_depth.ensures.1
    (λ f d. too_deep_fails k g.T.Structure.ordered e t f c.requires.placed.operators c.in_ok-held.ensures.term (subst (λ at. IsDepthFault g.T.Structure.ordered k t at f) c.pos.ensures.first_token (subst (λ z. IsDepthFault g.T.Structure.ordered k (term_tree z) c.pos.result.offset f) c.get.ensures.same d))) c.in_err-check_depth.ensures.fault

pub returns-clause-term : goal.returns-clause-term
returns-clause-term g c =
    let own = c.in_ok-held.ensures.term in
    record {
      value = λ a adm. (own.value a adm, subst (λ z. IsShallow (point (term_tree z) a)) c.get.ensures.same (c.in_ok-check_depth.ensures.shallow a adm));
      levels = own.levels;
      operators = own.operators;
      widths = own.widths;
    }
