use Rattle.std.proofs.Common.{◌≡◌, List, take, map, refl, sym, ap, ◌∙◌, subst, arith}
use Rattle.std.proofs.lemmas.Grind.{common_steps}
use Rattle.lois_base.proofs.Parts.{term_within, comp_item_within}
use Rattle.lois_base.specs.Data.{TermD, no_terms, terms_of, CompD, no_comps, comps_of}
use Rattle.lois_base.specs.Tree.{tree, comp_of}
use Rattle.lois_strict.proofs.SplitTerms.{parts_read, items_read}
use Rattle.lois_strict.specs.Split.{PartsAreSplit, ItemsAreSplit}
use Rattle.lois_strict.proofs.terms.+splitting.Goals as goal

pub split_parts-loop-part-init : goal.split_parts-loop-part-init
split_parts-loop-part-init t c =
    subst (λ (zs : List TermD). PartsAreSplit no_terms (terms_of zs)) (sym c.new-split.ensures) tt

pub split_parts-split_guards-requires : goal.split_parts-split_guards-requires
split_parts-split_guards-requires t c =
    omega (arith, term_within _ _ _ _ c.as_slice-part-items.ensures c.loop-part-test.true c.part-item.is)

pub split_parts-loop-part-preserved : goal.split_parts-loop-part-preserved
split_parts-loop-part-preserved t c =
    parts_read c.loop-part.part-index c.as_slice-part-items.result.now c.loop-part.split c.push.new.self c.part-item.result c.in_ok-split_guards.field-0 (omega arith) c.part-item.is c.in_ok-push.ensures.ok c.loop-part.invariant c.in_ok-split_guards.ensures

pub split_parts-returns : goal.split_parts-returns
split_parts-returns t c =
    let whole : take c.loop-part.part-index c.as_slice-part-items.result.now ≡ c.as_slice-part-items.result.now = grind (arith, common_steps) in
    subst (λ (zs : List TermD). PartsAreSplit (terms_of zs) (terms_of c.loop-part.split)) (ap (map tree) whole ∙ c.as_slice-part-items.ensures) c.loop-part.invariant

pub split_items-loop-comp-init : goal.split_items-loop-comp-init
split_items-loop-comp-init t c =
    subst (λ (zs : List CompD). ItemsAreSplit no_comps (comps_of zs)) (sym c.new-split.ensures) tt

pub split_items-split_comp-requires : goal.split_items-split_comp-requires
split_items-split_comp-requires t c =
    omega (arith, comp_item_within _ _ _ _ c.as_slice-comp-items.ensures c.loop-comp-test.true c.comp-item.is)

pub split_items-loop-comp-preserved : goal.split_items-loop-comp-preserved
split_items-loop-comp-preserved t c =
    items_read c.loop-comp.comp-index c.as_slice-comp-items.result.now c.loop-comp.split c.push.new.self c.comp-item.result c.in_ok-split_comp.field-0 (omega arith) c.comp-item.is c.in_ok-push.ensures.ok c.loop-comp.invariant c.in_ok-split_comp.ensures

pub split_items-returns : goal.split_items-returns
split_items-returns t c =
    let whole : take c.loop-comp.comp-index c.as_slice-comp-items.result.now ≡ c.as_slice-comp-items.result.now = grind (arith, common_steps) in
    subst (λ (zs : List CompD). ItemsAreSplit (comps_of zs) (comps_of c.loop-comp.split)) (ap (map comp_of) whole ∙ c.as_slice-comp-items.ensures) c.loop-comp.invariant

pub split_comp-returns : goal.split_comp-returns
split_comp-returns t c =
    let guard = c.in_ok-split_constraint.ensures in
    (refl, record { truth = guard.truth; strict = guard.strict; levels = guard.fits; operators = guard.operators }, c.in_ok-split_guards.ensures)
