use Rattle.std.proofs.Common.{◌≡◌, ap, ◌∙◌, sym, subst, length, map}
use Rattle.std.proofs.lemmas.Result.{IfOk-weaker}
use Rattle.lois_base.specs.Data.{coll, comps_of}
use Rattle.lois_base.specs.Fits.{Fits, ItemsFit}
use Rattle.lois_base.specs.FormulaView.{view}
use Rattle.lois_base.specs.Tree.{tree, comp_of}
use Rattle.lois_base.specs.Validity.{AdmitsItems}
use Rattle.lois_base.specs.Values.{AllInAt}
use Rattle.lois_relate.specs.Built.{Defines}
use Rattle.lois_relate.specs.Named.{atoms_named, level_range}
use Rattle.lois_relate.proofs.Own.{length-own, all_below, holds_where_included}
use Rattle.lois_relate.proofs.relating.included_formula.Goals as goal

pub included-requires-clause-left : goal.included-requires-clause-left
included-requires-clause-left c =
    let e : c.as_slice-own.result.now ≡ level_range 0 c.args.size = c.as_slice-own.ensures.value ∙ c.in_ok-levels.ensures in
    subst (λ z. Fits (length c.as_slice-own.result.now) (tree z)) c.in-Coll-Coll.is-0 (subst (λ k. Fits k (tree c.args.s.now)) (sym (length-own c.args.size c.as_slice-own.result.now e)) c.requires.left)

pub included-requires-clause-left_names : goal.included-requires-clause-left_names
included-requires-clause-left_names c =
    let e : c.as_slice-own.result.now ≡ level_range 0 c.args.size = c.as_slice-own.ensures.value ∙ c.in_ok-levels.ensures in
    all_below c.args.size c.as_slice-own.result.now e

pub included-requires-clause-right : goal.included-requires-clause-right
included-requires-clause-right c =
    let e : c.as_slice-own.result.now ≡ level_range 0 c.args.size = c.as_slice-own.ensures.value ∙ c.in_ok-levels.ensures in
    subst (λ z. ItemsFit (length c.as_slice-own.result.now) (comps_of z)) (sym c.as_slice-other_items.ensures) (subst (λ z. Fits (length c.as_slice-own.result.now) (tree z)) c.in-Coll-Coll.is-1 (subst (λ k. Fits k (tree c.args.t.now)) (sym (length-own c.args.size c.as_slice-own.result.now e)) c.requires.right))

pub included-requires-clause-right_names : goal.included-requires-clause-right_names
included-requires-clause-right_names c =
    let e : c.as_slice-own.result.now ≡ level_range 0 c.args.size = c.as_slice-own.ensures.value ∙ c.in_ok-levels.ensures in
    all_below c.args.size c.as_slice-own.result.now e

pub returns-clause-truth : goal.returns-clause-truth
returns-clause-truth c =
    let e : c.as_slice-own.result.now ≡ level_range 0 c.args.size = c.as_slice-own.ensures.value ∙ c.in_ok-levels.ensures in
    let own = c.as_slice-own.result.now in
    let cs = comps_of c.in-Coll-Coll.comps in
    let ks = comps_of (map comp_of c.as_slice-other_items.result.now) in
    let set = ap tree c.in-Coll-Coll.is-1 ∙ ap (λ z. coll (comps_of z)) (sym c.as_slice-other_items.ensures) in
    IfOk-weaker c.included.result (λ f. Defines c.args.size (λ a. AllInAt cs (atoms_named own a) ks (atoms_named own a)) (λ o. AdmitsItems o cs × AdmitsItems o ks) (view f)) _ (λ f says. holds_where_included c.args.size own e _ (view f) (tree c.args.s.now) (tree c.args.t.now) cs ks (ap tree c.in-Coll-Coll.is-0) set says) c.included.ensures
