use Rattle.std.proofs.Common.{◌≡◌, ◌∙◌, sym, subst}
use Rattle.std.proofs.lemmas.Result.{IfOk-weaker}
use Rattle.lois_base.specs.Fits.{Fits}
use Rattle.lois_base.specs.FormulaView.{view}
use Rattle.lois_base.specs.Tree.{tree}
use Rattle.lois_base.specs.Validity.{AdmitsTerm}
use Rattle.lois_base.specs.Values.{SameAt}
use Rattle.lois_relate.specs.Built.{Defines}
use Rattle.lois_relate.specs.Named.{atoms_named, level_range}
use Rattle.lois_relate.proofs.Own.{length-own, all_below, holds_where_same}
use Rattle.lois_relate.proofs.relating.equal_formula.Goals as goal

pub same-requires-clause-left : goal.same-requires-clause-left
same-requires-clause-left c =
    let e : c.as_slice-own.result.now ≡ level_range 0 c.args.size = c.as_slice-own.ensures.value ∙ c.in_ok-levels.ensures in
    subst (λ k. Fits k (tree c.args.s.now)) (sym (length-own c.args.size c.as_slice-own.result.now e)) c.requires.left

pub same-requires-clause-left_names : goal.same-requires-clause-left_names
same-requires-clause-left_names c =
    let e : c.as_slice-own.result.now ≡ level_range 0 c.args.size = c.as_slice-own.ensures.value ∙ c.in_ok-levels.ensures in
    all_below c.args.size c.as_slice-own.result.now e

pub same-requires-clause-right : goal.same-requires-clause-right
same-requires-clause-right c =
    let e : c.as_slice-own.result.now ≡ level_range 0 c.args.size = c.as_slice-own.ensures.value ∙ c.in_ok-levels.ensures in
    subst (λ k. Fits k (tree c.args.t.now)) (sym (length-own c.args.size c.as_slice-own.result.now e)) c.requires.right

pub same-requires-clause-right_names : goal.same-requires-clause-right_names
same-requires-clause-right_names c =
    let e : c.as_slice-own.result.now ≡ level_range 0 c.args.size = c.as_slice-own.ensures.value ∙ c.in_ok-levels.ensures in
    all_below c.args.size c.as_slice-own.result.now e

pub returns-clause-truth : goal.returns-clause-truth
returns-clause-truth c =
    let e : c.as_slice-own.result.now ≡ level_range 0 c.args.size = c.as_slice-own.ensures.value ∙ c.in_ok-levels.ensures in
    let own = c.as_slice-own.result.now in
    IfOk-weaker c.same.result (λ f. Defines c.args.size (λ a. SameAt (tree c.args.s.now) (atoms_named own a) (tree c.args.t.now) (atoms_named own a)) (λ o. AdmitsTerm o (tree c.args.s.now) × AdmitsTerm o (tree c.args.t.now)) (view f)) _ (λ f says. holds_where_same c.args.size own e _ (view f) (tree c.args.s.now) (tree c.args.t.now) says) c.same.ensures
