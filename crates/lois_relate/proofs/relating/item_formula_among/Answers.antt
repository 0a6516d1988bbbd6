use Rattle.std.proofs.Common.{◌≡◌, ◌+◌, ◌++◌, length, map, ◌∙◌, ap, sym, subst}
use Rattle.std.proofs.lemmas.Result.{IfOk-weaker}
use Rattle.lois_base.specs.Data.{comps_of}
use Rattle.lois_base.specs.Fits.{Fits, ItemsFit}
use Rattle.lois_base.specs.FormulaView.{view}
use Rattle.lois_base.specs.Tree.{tree, comp_of}
use Rattle.lois_base.specs.Validity.{AdmitsTerm, AdmitsItems}
use Rattle.lois_base.specs.Values.{SomeIsAt}
use Rattle.lois_relate.specs.Built.{Defines}
use Rattle.lois_relate.specs.Candidates.{comps_at}
use Rattle.lois_relate.specs.Named.{atoms_named, level_range}
use Rattle.lois_relate.proofs.Own.{length-own, all_below, holds_where_item_in}
use Rattle.lois_relate.proofs.Steps.{names_below, names_length, own_below_more}
use Rattle.lois_relate.proofs.relating.item_formula_among.Goals as goal

pub member-requires-clause-left : goal.member-requires-clause-left
member-requires-clause-left c =
    let n = c.args.size in
    let own = c.as_slice-own.result.now in
    let is : own ≡ level_range 0 n = c.as_slice-own.ensures.value ∙ c.in_ok-levels.ensures in
    let entered : c.as_slice.result.now ≡ own ++ level_range n c.args.binders = c.as_slice.ensures.value ∙ c.in_ok-longer.ensures in
    let long : length c.as_slice.result.now ≡ n + c.args.binders = names_length n c.args.binders c.in_ok-inner.inner c.in_ok-inner.ensures own c.as_slice.result.now entered ∙ ap (λ k. k + c.args.binders) (length-own n own is) in
    subst (λ k. Fits k (tree c.args.item.now)) (sym long) c.requires.element

pub member-requires-clause-left_names : goal.member-requires-clause-left_names
member-requires-clause-left_names c =
    let n = c.args.size in
    let own = c.as_slice-own.result.now in
    let is : own ≡ level_range 0 n = c.as_slice-own.ensures.value ∙ c.in_ok-levels.ensures in
    let entered : c.as_slice.result.now ≡ own ++ level_range n c.args.binders = c.as_slice.ensures.value ∙ c.in_ok-longer.ensures in
    names_below n c.args.binders c.in_ok-inner.inner c.in_ok-inner.ensures own c.as_slice.result.now entered (all_below n own is)

pub member-requires-clause-right : goal.member-requires-clause-right
member-requires-clause-right c =
    let own = c.as_slice-own.result.now in
    let is : own ≡ level_range 0 c.args.size = c.as_slice-own.ensures.value ∙ c.in_ok-levels.ensures in
    subst (λ k. ItemsFit k (comps_of (map comp_of c.args.others.now))) (sym (length-own c.args.size own is)) c.requires.levels

pub member-requires-clause-right_names : goal.member-requires-clause-right_names
member-requires-clause-right_names c =
    let n = c.args.size in
    let own = c.as_slice-own.result.now in
    let is : own ≡ level_range 0 n = c.as_slice-own.ensures.value ∙ c.in_ok-levels.ensures in
    own_below_more n c.args.binders c.in_ok-inner.inner own c.in_ok-inner.ensures (all_below n own is)

pub returns-clause-truth : goal.returns-clause-truth
returns-clause-truth c =
    let n = c.args.size in
    let own = c.as_slice-own.result.now in
    let names = c.as_slice.result.now in
    let ks = map comp_of c.args.others.now in
    let found = comps_at ks c.args.places.now in
    let is : own ≡ level_range 0 n = c.as_slice-own.ensures.value ∙ c.in_ok-levels.ensures in
    let entered : names ≡ own ++ level_range n c.args.binders = c.as_slice.ensures.value ∙ c.in_ok-longer.ensures in
    IfOk-weaker c.member.result (λ f. Defines c.in_ok-inner.inner (λ a. SomeIsAt found (atoms_named own a) (tree c.args.item.now) (atoms_named names a)) (λ o. AdmitsItems o (comps_of ks) × AdmitsTerm o (tree c.args.item.now)) (view f)) _ (λ f says. holds_where_item_in n c.args.binders c.in_ok-inner.inner c.in_ok-inner.ensures own names is entered (λ o. AdmitsItems o (comps_of ks) × AdmitsTerm o (tree c.args.item.now)) (view f) (tree c.args.item.now) found says) c.member.ensures
