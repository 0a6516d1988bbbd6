use Rattle.std.proofs.Common.{arith, ap, codes}
use Rattle.lois_base.specs.Tree.{tree, comp_of}
use Rattle.lois_base.proofs.Parts.{term_within, comp_item_within}
use Rattle.lois_answers.specs.TermText.{term_text, comp_text, joined}
use Rattle.lois_printer.proofs.Fitting.{part_fits, item_fits}
use Rattle.lois_printer.proofs.Written.{item_is_written, items_are_written, enclosed_on_ok, part_texts_of, item_texts_of}
use Rattle.lois_printer.proofs.terms.+terms.Goals as goal

pub append_items-append_comp-requires : goal.append_items-append_comp-requires
append_items-append_comp-requires t c =
    let h = comp_item_within _ _ _ _ c.as_slice-comp-items.ensures c.loop-index-test.true c.comp-item.is in
    (omega (arith, h), item_fits _ _ _ _ _ c.as_slice-comp-items.ensures c.loop-index-test.true c.comp-item.is c.requires)

pub append_items-loop-index-preserved : goal.append_items-loop-index-preserved
append_items-loop-index-preserved t c =
    item_is_written (λ x. comp_text c.args.parameters.now c.args.size (comp_of x)) (codes ", ") c.as_slice-comp-items.result.now c.loop-index.index c.comp-item.result _
    _ _ _ _ c.loop-index-test.true c.comp-item.is c.loop-index.invariant c.in_ok-append_separator.ensures c.in_ok-append_comp.ensures

pub append_parts-append_term-requires : goal.append_parts-append_term-requires
append_parts-append_term-requires t c =
    let h = term_within _ _ _ _ c.as_slice-part-items.ensures c.loop-index-test.true c.part-item.is in
    (omega (arith, h), part_fits _ _ _ _ _ c.as_slice-part-items.ensures c.loop-index-test.true c.part-item.is c.requires)

pub append_parts-loop-index-preserved : goal.append_parts-loop-index-preserved
append_parts-loop-index-preserved t c =
    item_is_written (λ x. term_text c.args.parameters.now c.args.size (tree x)) (codes ", ") c.as_slice-part-items.result.now c.loop-index.index c.part-item.result _
    _ _ _ _ c.loop-index-test.true c.part-item.is c.loop-index.invariant c.in_ok-append_separator.ensures c.in_ok-append_term.ensures

pub append_items-returns : goal.append_items-returns
append_items-returns t c =
    items_are_written (comp_text c.args.parameters.now c.args.size) comp_of (codes ", ") c.args.comps.now c.as_slice-comp-items.result.now c.loop-index.index _ _ c.as_slice-comp-items.ensures c.loop-index-test.false c.loop-index.invariant

pub append_parts-returns : goal.append_parts-returns
append_parts-returns t c =
    items_are_written (term_text c.args.parameters.now c.args.size) tree (codes ", ") c.args.parts.now c.as_slice-part-items.result.now c.loop-index.index _ _ c.as_slice-part-items.ensures c.loop-index-test.false c.loop-index.invariant

pub append_term-returns-in_ok-append_parts-in-Tup :
    goal.append_term-returns-in_ok-append_parts-in-Tup
append_term-returns-in_ok-append_parts-in-Tup t c =
    rw c.in-Tup.is (enclosed_on_ok _ _ _ _ _ _ _ _ _ c.in_ok-append-in-Tup.ensures c.in_ok-append_parts-in-Tup.ensures c.append-in-Tup-2.ensures
    (ap (joined (codes ", ")) (part_texts_of c.args.parameters.now c.args.size c.in-Tup.parts)))

pub append_term-returns-in_ok-append_items-in-Coll :
    goal.append_term-returns-in_ok-append_items-in-Coll
append_term-returns-in_ok-append_items-in-Coll t c =
    rw c.in-Coll.is (enclosed_on_ok _ _ _ _ _ _ _ _ _ c.in_ok-append-in-Coll.ensures c.in_ok-append_items-in-Coll.ensures c.append-in-Coll-2.ensures
    (ap (joined (codes ", ")) (item_texts_of c.args.parameters.now c.args.size c.in-Coll.comps)))
