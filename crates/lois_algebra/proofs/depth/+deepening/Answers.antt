use Rattle.std.proofs.Common.{◌+◌, refl, ap, subst, arith}
use Rattle.std.proofs.lemmas.Result.{IfOk-weaker}
use Rattle.lois_base.specs.Data.{terms_of}
use Rattle.lois_base.specs.FormulaView.{view}
use Rattle.lois_base.specs.Tree.{tree, comp_of}
use Rattle.lois_base.specs.Values.{DeeperAt}
use Rattle.lois_relate.specs.Built.{IsForSome}
use Rattle.lois_relate.proofs.AlikeSame.{always_says}
use Rattle.lois_relate.proofs.Loops.{any_go_on}
use Rattle.lois_relate.proofs.Parts.{terms_from, terms_are, comps_from, comps_are, is_part_of, is_comp_of}
use Rattle.lois_relate.proofs.Apart.{nowhere_says}
use Rattle.lois_algebra.proofs.Deep.{tuple_deep, parts_deeper_split, members_deeper_split, one_deeper_says, none_deeper_says}
use Rattle.lois_algebra.proofs.depth.+deepening.Goals as goal

pub deeper-returns-in-Var : goal.deeper-returns-in-Var
deeper-returns-in-Var t c =
    nowhere_says c.args.size _ _ (view c.false_formula.result) c.false_formula.ensures (λ a h. subst (λ z. DeeperAt (tree z) a c.args.limit) c.in-Var.is h)

pub deeper-returns-in-Tag : goal.deeper-returns-in-Tag
deeper-returns-in-Tag t c =
    nowhere_says c.args.size _ _ (view c.false_formula-in-Tag.result) c.false_formula-in-Tag.ensures (λ a h. subst (λ z. DeeperAt (tree z) a c.args.limit) c.in-Tag.is h)

pub deeper-returns-then-limit-eq0 : goal.deeper-returns-then-limit-eq0
deeper-returns-then-limit-eq0 t c =
    always_says c.args.size _ _ (view c.true_formula.result) c.true_formula.ensures (tuple_deep (tree c.args.t.now) (terms_of c.in-Tup.parts) c.args.limit (ap tree c.in-Tup.is) c.if-limit-eq0.true)

pub some_part_deeper-deeper-requires : goal.some_part_deeper-deeper-requires
some_part_deeper-deeper-requires t c =
    let p = is_part_of c.as_slice-part-items.result.now c.args.terms.now c.loop-part.part-index c.part-item.result c.as_slice-part-items.ensures c.loop-part-test.true c.part-item.is in
    (omega (arith, p.depth), p.fits c.args.size c.requires)

pub some_part_deeper-loop-part-preserved : goal.some_part_deeper-loop-part-preserved
some_part_deeper-loop-part-preserved t c =
    let items = c.as_slice-part-items.result.now in
    let i = c.loop-part.part-index in
    let p = is_part_of items c.args.terms.now i c.part-item.result c.as_slice-part-items.ensures c.loop-part-test.true c.part-item.is in
    any_go_on c.args.size _ _ _ _ _ _ (view c.loop-part.found) (view c.in_ok-one.one) (view c.in_ok-found.found) c.loop-part.invariant (λ a. parts_deeper_split c.args.limit (terms_from items i) (terms_from items (i + 1)) (tree c.part-item.result) (terms_are items i c.part-item.result c.loop-part-test.true c.part-item.is) a) c.in_ok-one.ensures p.admits c.in_ok-found.ensures

pub some_member_deeper-one_deeper-requires : goal.some_member_deeper-one_deeper-requires
some_member_deeper-one_deeper-requires t c =
    let k = is_comp_of c.as_slice-comp-items.result.now c.args.comps.now c.loop-comp.comp-index c.comp-item.result c.as_slice-comp-items.ensures c.loop-comp-test.true c.comp-item.is in
    (omega (arith, k.depth), k.fits c.args.size c.requires)

pub some_member_deeper-loop-comp-preserved : goal.some_member_deeper-loop-comp-preserved
some_member_deeper-loop-comp-preserved t c =
    let items = c.as_slice-comp-items.result.now in
    let i = c.loop-comp.comp-index in
    let k = is_comp_of items c.args.comps.now i c.comp-item.result c.as_slice-comp-items.ensures c.loop-comp-test.true c.comp-item.is in
    any_go_on c.args.size _ _ _ _ _ _ (view c.loop-comp.found) (view c.in_ok-one.one) (view c.in_ok-found.found) c.loop-comp.invariant (λ a. members_deeper_split c.args.limit (comps_from items i) (comps_from items (i + 1)) (comp_of c.comp-item.result) (comps_are items i c.comp-item.result c.loop-comp-test.true c.comp-item.is) a) c.in_ok-one.ensures k.admits c.in_ok-found.ensures

pub one_deeper-returns : goal.one_deeper-returns
one_deeper-returns t c =
    let comp = c.args.comp.now in
    IfOk-weaker c.for_some.result (λ r. IsForSome comp.binders (view c.in_ok-conjunction.field-0) (view r)) _ (λ r some. one_deeper_says c.args.size comp.binders c.args.limit (c.args.size + comp.binders) comp.guard (tree comp.item) (view c.in_ok-deep.deep) (view c.in_ok-guard.guard) (view c.in_ok-conjunction.field-0) (view r) refl c.in_ok-deep.ensures (c.in_ok-guard.ensures (c.args.size + comp.binders) c.requires.1) c.in_ok-conjunction.ensures some) c.for_some.ensures

pub one_deeper-returns-then-is_false_formula : goal.one_deeper-returns-then-is_false_formula
one_deeper-returns-then-is_false_formula t c =
    let comp = c.args.comp.now in
    none_deeper_says c.args.size comp.binders c.args.limit (c.args.size + comp.binders) comp.guard (tree comp.item) (view c.in_ok-deep.deep) refl c.in_ok-deep.ensures (c.is_false_formula.ensures.0 c.if-is_false_formula.true)
