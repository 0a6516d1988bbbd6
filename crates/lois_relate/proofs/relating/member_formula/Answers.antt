use Rattle.std.proofs.Common.{◌≡◌, ap, ◌∙◌, sym, subst, length, map}
use Rattle.std.proofs.lemmas.Result.{IfOk-weaker}
use Rattle.lois_base.specs.Data.{coll, comps_of}
use Rattle.lois_base.specs.Fits.{Fits, ItemsFit}
use Rattle.lois_base.specs.FormulaView.{view}
use Rattle.lois_base.specs.Tree.{tree, comp_of}
use Rattle.lois_base.specs.Validity.{AdmitsTerm, AdmitsItems}
use Rattle.lois_base.specs.Values.{SomeIsAt}
use Rattle.lois_relate.specs.Built.{Defines}
use Rattle.lois_relate.specs.Candidates.{comps_at}
use Rattle.lois_relate.specs.Named.{atoms_named, level_range}
use Rattle.lois_relate.proofs.Own.{length-own, all_below, holds_where_in}
use Rattle.lois_relate.proofs.Places.{all_comps_at}
use Rattle.lois_relate.proofs.relating.member_formula.Goals as goal

pub member-requires-clause-left : goal.member-requires-clause-left
member-requires-clause-left c =
    let e : c.as_slice-own.result.now ≡ level_range 0 c.args.size = c.as_slice-own.ensures.value ∙ c.in_ok-levels.ensures in
    subst (λ k. Fits k (tree c.args.s.now)) (sym (length-own c.args.size c.as_slice-own.result.now e)) c.requires.element

pub member-requires-clause-left_names : goal.member-requires-clause-left_names
member-requires-clause-left_names c =
    let e : c.as_slice-own.result.now ≡ level_range 0 c.args.size = c.as_slice-own.ensures.value ∙ c.in_ok-levels.ensures in
    all_below c.args.size c.as_slice-own.result.now e

pub member-requires-clause-right : goal.member-requires-clause-right
member-requires-clause-right c =
    let e : c.as_slice-own.result.now ≡ level_range 0 c.args.size = c.as_slice-own.ensures.value ∙ c.in_ok-levels.ensures in
    subst (λ z. ItemsFit (length c.as_slice-own.result.now) (comps_of z)) (sym c.as_slice-items.ensures) (subst (λ z. Fits (length c.as_slice-own.result.now) (tree z)) c.in-Coll.is (subst (λ k. Fits k (tree c.args.t.now)) (sym (length-own c.args.size c.as_slice-own.result.now e)) c.requires.levels))

pub member-requires-clause-right_names : goal.member-requires-clause-right_names
member-requires-clause-right_names c =
    let e : c.as_slice-own.result.now ≡ level_range 0 c.args.size = c.as_slice-own.ensures.value ∙ c.in_ok-levels.ensures in
    all_below c.args.size c.as_slice-own.result.now e

pub member-requires-clause-places : goal.member-requires-clause-places
member-requires-clause-places c =
    all_below (length c.as_slice-items.result.now) c.as_slice.result.now (c.as_slice.ensures.value ∙ c.in_ok-places-in-Coll.ensures)

pub returns-clause-truth : goal.returns-clause-truth
returns-clause-truth c =
    let e : c.as_slice-own.result.now ≡ level_range 0 c.args.size = c.as_slice-own.ensures.value ∙ c.in_ok-levels.ensures in
    let own = c.as_slice-own.result.now in
    let items = c.as_slice-items.result.now in
    let places = c.as_slice.result.now in
    let ks = comps_of (map comp_of items) in
    let all = comps_at (map comp_of items) places in
    let set = ap tree c.in-Coll.is ∙ ap (λ z. coll (comps_of z)) (sym c.as_slice-items.ensures) ∙ ap coll (sym (all_comps_at items places (c.as_slice.ensures.value ∙ c.in_ok-places-in-Coll.ensures))) in
    IfOk-weaker c.member.result (λ f. Defines c.args.size (λ a. SomeIsAt all (atoms_named own a) (tree c.args.s.now) (atoms_named own a)) (λ o. AdmitsItems o ks × AdmitsTerm o (tree c.args.s.now)) (view f)) _ (λ f says. holds_where_in c.args.size own e _ (view f) (tree c.args.s.now) (tree c.args.t.now) all set says) c.member.ensures
