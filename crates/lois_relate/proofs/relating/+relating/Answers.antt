use Rattle.std.proofs.Common.{◌≡◌, ◌+◌, ◌<◌, ◌++◌, length, get_or, drop, map, subst, sym, refl, ap, ◌∙◌, arith}
use Rattle.std.proofs.lemmas.List.Elements.{All-nil}
use Rattle.std.proofs.lemmas.Option.{IfSome_then}
use Rattle.std.proofs.lemmas.Result.{IfOk-weaker}
use Rattle.std.specs.Prelude.{IfSome}
use Rattle.lois_base.specs.Data.{comps_of, coll, more, no_comps}
use Rattle.lois_base.specs.ListDepth.{depth_of_comps}
use Rattle.lois_base.specs.Fits.{Fits, ItemsFit}
use Rattle.lois_base.specs.FormulaView.{view}
use Rattle.lois_base.specs.Tree.{tree, comp_of}
use Rattle.lois_base.specs.Validity.{AdmitsComp}
use Rattle.lois_base.specs.Values.{SameAt, AllInAt}
use Rattle.lois_relate.specs.Built.{Defines, IsBoth, IsForSome}
use Rattle.lois_relate.specs.Candidates.{comps_at}
use Rattle.lois_relate.specs.Compared.{IsForEach, DefinesPaired, SaysPaired, IsRow, AreRows}
use Rattle.lois_relate.specs.Named.{atoms_named, level_range}
use Rattle.lois_relate.proofs.AlikeSame.{always_says, listed_each, sets_alike}
use Rattle.lois_relate.proofs.Apart.{item_left_out, pair_left_out, pair_left_out_back}
use Rattle.lois_relate.proofs.Binders.{one_says, none_says}
use Rattle.lois_relate.proofs.Inclusions.{IncludedIn, sets_cut}
use Rattle.lois_relate.proofs.Loops.{all_go_on, all_cut, any_cut}
use Rattle.lois_relate.proofs.Pairs.{item_got, Found, found_goes_on, each_found, pair_item, guarded_item}
use Rattle.lois_relate.proofs.Parts.{terms_from, terms_are, comps_from, comps_are, is_part_of, is_comp_of}
use Rattle.lois_relate.proofs.Single.{singles_say, singles_sets, bare_say}
use Rattle.lois_relate.proofs.Steps.{all_in_split, parts_split, names_below, item_fits, guard_fits, own_below_more, parts_apart, atoms_say, sets_say}
use Rattle.lois_relate.proofs.Places.{places_are, found_starts}
use Rattle.lois_relate.proofs.Rows.{one_longer, rows_more, rows_known, row_more}
use Rattle.lois_relate.proofs.Turned.{pair_says, pair_stays, pair_turns}
use Rattle.lois_relate.proofs.relating.+relating.Goals as goal

pub each_in-found_in-requires : goal.each_in-found_in-requires
each_in-found_in-requires t c =
    (omega arith, (c.requires.left, (c.requires.left_names, (c.requires.right, (c.requires.right_names, (c.requires.places, (c.requires.candidates, c.requires.known)))))))

pub each_in-none_missing-requires : goal.each_in-none_missing-requires
each_in-none_missing-requires t c =
    let comp = c.args.comp.now in
    let e : c.as_slice.result.now ≡ c.args.s_names.now ++ level_range c.args.size comp.binders = c.as_slice.ensures.value ∙ c.in_ok-longer.ensures in
    guard_fits c.args.size comp.binders (c.args.size + comp.binders) refl c.args.s_names.now c.as_slice.result.now e comp.guard (tree comp.item) c.requires.left

pub each_in-returns : goal.each_in-returns
each_in-returns t c =
    let comp = c.args.comp.now in
    let n = c.args.size in
    let sn = c.args.s_names.now in
    let tn = c.args.t_names.now in
    let names = c.as_slice.result.now in
    let e : names ≡ sn ++ level_range n comp.binders = c.as_slice.ensures.value ∙ c.in_ok-longer.ensures in
    let below = names_below n comp.binders (n + comp.binders) refl sn names e c.requires.left_names in
    let found = c.in_ok-found.ensures in
    IfOk-weaker c.none_missing.result _ _ (λ r each. each_found n sn tn comp.binders comp.guard (tree comp.item) c.requires.left_names c.requires.right_names (comps_of (map comp_of c.args.others.comps.now)) (view c.in_ok-found.found) (view r) found (subst (λ z. IsForEach n comp.binders z comp.guard (view c.in_ok-found.found) (view r)) e (each n below found.levels))) c.none_missing.ensures

pub found_in-loop-place-init : goal.found_in-loop-place-init
found_in-loop-place-init t c =
    let comp = c.args.comp.now in
    found_starts c.args.size c.args.s_names.now c.args.t_names.now comp.binders comp.guard (tree comp.item) (map comp_of c.args.others.comps.now) c.args.others.places.now (view c.false_formula-found.result) c.requires.candidates c.false_formula-found.ensures

pub found_in-one_found-requires : goal.found_in-one_found-requires
found_in-one_found-requires t c =
    let items = c.args.others.comps.now in
    let places = c.args.others.places.now in
    let r = c.loop-place.place-index in
    let i = get_or places r 0 in
    let inside : i < length items = c.requires.places r 0 c.loop-place-test.true in
    let other = get_or items i c.index-others-place.result in
    let is : other ≡ get_or items i other = ap (get_or items i) c.index-others-place.is in
    let k = is_comp_of items (map comp_of items) i other refl inside is in
    let at = item_got items (map comp_of items) i other refl inside is in
    let known = IfSome_then c.of.result c.of.ensures (λ f entry. c.requires.known i (comp_of other) (view f.now) at entry) in
    (omega (arith, k.depth), (c.requires.left, (c.requires.left_names, (k.fits (length c.args.t_names.now) c.requires.right, (c.requires.right_names, known)))))

pub found_in-loop-place-preserved : goal.found_in-loop-place-preserved
found_in-loop-place-preserved t c =
    let items = c.args.others.comps.now in
    let places = c.args.others.places.now in
    let r = c.loop-place.place-index in
    let i = get_or places r 0 in
    let inside : i < length items = c.requires.places r 0 c.loop-place-test.true in
    let other = get_or items i c.index-others-place.result in
    let is : other ≡ get_or items i other = ap (get_or items i) c.index-others-place.is in
    let comp = c.args.comp.now in
    let k = is_comp_of items (map comp_of items) i other refl inside is in
    found_goes_on c.args.size c.args.s_names.now c.args.t_names.now comp.binders comp.guard (tree comp.item) (comps_of (map comp_of items)) (comps_at (map comp_of items) (drop r places)) (comps_at (map comp_of items) (drop (r + 1) places)) (comp_of other) (places_are items places r i other c.loop-place-test.true refl inside is) (view c.loop-place.found) (view c.in_ok-one.one) (view c.in_ok-found.found) c.loop-place.invariant c.in_ok-one.ensures k.admits c.in_ok-found.ensures

pub found_in-returns-then-is_true_formula : goal.found_in-returns-then-is_true_formula
found_in-returns-then-is_true_formula t c =
    let items = c.args.others.comps.now in
    let places = c.args.others.places.now in
    let r = c.loop-place.place-index in
    let i = get_or places r 0 in
    let inside : i < length items = c.requires.places r 0 c.loop-place-test.true in
    let other = get_or items i c.index-others-place.result in
    let is : other ≡ get_or items i other = ap (get_or items i) c.index-others-place.is in
    let comp = c.args.comp.now in
    let k = is_comp_of items (map comp_of items) i other refl inside is in
    any_cut (c.args.size + comp.binders) (Found c.args.size c.args.s_names.now c.args.t_names.now comp.binders comp.guard (tree comp.item) (comps_at (map comp_of items) (drop (r + 1) places))) _ _ (view c.in_ok-found.found) (c.is_true_formula.ensures.0 c.if-is_true_formula.true) (found_goes_on c.args.size c.args.s_names.now c.args.t_names.now comp.binders comp.guard (tree comp.item) (comps_of (map comp_of items)) (comps_at (map comp_of items) (drop r places)) (comps_at (map comp_of items) (drop (r + 1) places)) (comp_of other) (places_are items places r i other c.loop-place-test.true refl inside is) (view c.loop-place.found) (view c.in_ok-one.one) (view c.in_ok-found.found) c.loop-place.invariant c.in_ok-one.ensures k.admits c.in_ok-found.ensures)

pub one_found-returns-in-Some : goal.one_found-returns-in-Some
one_found-returns-in-Some t c =
    let comp = c.args.comp.now in
    let other = c.args.other.now in
    let known = subst (λ o. IfSome o (λ f. DefinesPaired c.args.size c.args.s_names.now (comp_of comp) c.args.t_names.now (comp_of other) (view f.now))) c.in-Some.is c.requires.known in
    let pair : DefinesPaired c.args.size c.args.s_names.now (comp_of comp) c.args.t_names.now (comp_of other) (view c.in_ok-copy.field-0) = subst (DefinesPaired c.args.size c.args.s_names.now (comp_of comp) c.args.t_names.now (comp_of other)) (sym c.in_ok-copy.ensures) known in
    IfOk-weaker c.for_some.result (λ r. IsForSome other.binders (view c.in_ok-copy.field-0) (view r)) _ (λ r some. pair_item c.args.size c.args.s_names.now c.args.t_names.now comp.binders comp.guard (tree comp.item) c.requires.left_names c.requires.right_names other.binders other.guard (tree other.item) (view c.in_ok-copy.field-0) (view r) pair some) c.for_some.ensures

pub one_found-returns-then-leaves_out : goal.one_found-returns-then-leaves_out
one_found-returns-then-leaves_out t c =
    let comp = c.args.comp.now in
    item_left_out c.args.size c.args.s_names.now c.args.t_names.now comp.binders comp.guard (tree comp.item) (view c.false_formula.result) c.false_formula.ensures (comp_of c.args.other.now) (c.leaves_out.ensures c.if-leaves_out.true)

pub one_found-is_item-requires : goal.one_found-is_item-requires
one_found-is_item-requires t c =
    let comp = c.args.comp.now in
    let e : c.as_slice-names.result.now ≡ c.args.s_names.now ++ level_range c.args.size comp.binders = c.as_slice-names.ensures.value ∙ c.in_ok-longer.ensures in
    let fits = item_fits c.args.size comp.binders c.in_ok-inner.inner c.in_ok-inner.ensures c.args.s_names.now c.as_slice-names.result.now e comp.guard (tree comp.item) c.requires.left in
    let below = names_below c.args.size comp.binders c.in_ok-inner.inner c.in_ok-inner.ensures c.args.s_names.now c.as_slice-names.result.now e c.requires.left_names in
    let others = own_below_more c.args.size comp.binders c.in_ok-inner.inner c.args.t_names.now c.in_ok-inner.ensures c.requires.right_names in
    (omega arith, (fits, (below, (c.requires.right, others))))

pub one_found-guard_formula-requires : goal.one_found-guard_formula-requires
one_found-guard_formula-requires t c =
    let comp = c.args.comp.now in
    let e : c.as_slice-names.result.now ≡ c.args.s_names.now ++ level_range c.args.size comp.binders = c.as_slice-names.ensures.value ∙ c.in_ok-longer.ensures in
    guard_fits c.args.size comp.binders c.in_ok-inner.inner c.in_ok-inner.ensures c.args.s_names.now c.as_slice-names.result.now e comp.guard (tree comp.item) c.requires.left

pub one_found-returns : goal.one_found-returns
one_found-returns t c =
    let comp = c.args.comp.now in
    let other = c.args.other.now in
    let names = c.as_slice-names.result.now in
    let e : names ≡ c.args.s_names.now ++ level_range c.args.size comp.binders = c.as_slice-names.ensures.value ∙ c.in_ok-longer.ensures in
    let below = names_below c.args.size comp.binders c.in_ok-inner.inner c.in_ok-inner.ensures c.args.s_names.now names e c.requires.left_names in
    IfOk-weaker c.conjunction.result (λ r. IsBoth (view c.in_ok-guard_formula.field-0) (view c.in_ok-one.one) (view r)) _ (λ r both. guarded_item c.args.size c.args.s_names.now c.args.t_names.now comp.binders comp.guard (tree comp.item) c.in_ok-inner.inner c.in_ok-inner.ensures names e (comp_of other) (view c.in_ok-guard_formula.field-0) (view c.in_ok-one.one) (view r) (c.in_ok-guard_formula.ensures c.in_ok-inner.inner below) c.in_ok-one.ensures both) c.conjunction.ensures

pub included-each_in-requires : goal.included-each_in-requires
included-each_in-requires t c =
    let items = c.as_slice-items.result.now in
    let place = c.loop-place.place in
    let k = is_comp_of items c.args.comps.now place c.index-items-place.result c.as_slice-items.ensures c.loop-place-test.true c.index-items-place.is in
    let at = item_got items c.args.comps.now place c.index-items-place.result c.as_slice-items.ensures c.loop-place-test.true c.index-items-place.is in
    let known = rows_known c.args.size (map comp_of c.args.others.comps.now) c.args.t_names.now c.args.comps.now c.args.s_names.now c.args.rows.now place (comp_of c.index-items-place.result) c.requires.rows at in
    (omega (arith, k.depth), (k.fits (length c.args.s_names.now) c.requires.left, (c.requires.left_names, (c.requires.right, (c.requires.right_names, (c.candidates.ensures.places, (c.candidates.ensures.all, known)))))))

pub included-loop-place-preserved : goal.included-loop-place-preserved
included-loop-place-preserved t c =
    let items = c.as_slice-items.result.now in
    let i = c.loop-place.place in
    let k = is_comp_of items c.args.comps.now i c.index-items-place.result c.as_slice-items.ensures c.loop-place-test.true c.index-items-place.is in
    all_go_on c.args.size _ _ _ _ _ _ (view c.loop-place.met) (view c.in_ok-one.one) (view c.in_ok-met.met) c.loop-place.invariant (λ a. all_in_split (comps_from items i) (comps_from items (i + 1)) (comp_of c.index-items-place.result) (comps_are items i c.index-items-place.result c.loop-place-test.true c.index-items-place.is) (atoms_named c.args.s_names.now a) (comps_of (map comp_of c.args.others.comps.now)) (atoms_named c.args.t_names.now a)) c.in_ok-one.ensures (λ o h. (k.admits o h.0, h.1)) c.in_ok-met.ensures

pub included-returns-then-is_false_formula : goal.included-returns-then-is_false_formula
included-returns-then-is_false_formula t c =
    let items = c.as_slice-items.result.now in
    let i = c.loop-place.place in
    let k = is_comp_of items c.args.comps.now i c.index-items-place.result c.as_slice-items.ensures c.loop-place-test.true c.index-items-place.is in
    all_cut c.args.size (λ a. AllInAt (comps_from items (i + 1)) (atoms_named c.args.s_names.now a) (comps_of (map comp_of c.args.others.comps.now)) (atoms_named c.args.t_names.now a)) _ _ (view c.in_ok-met.met) (c.is_false_formula.ensures.0 c.if-is_false_formula.true) (all_go_on c.args.size _ _ _ _ _ _ (view c.loop-place.met) (view c.in_ok-one.one) (view c.in_ok-met.met) c.loop-place.invariant (λ a. all_in_split (comps_from items i) (comps_from items (i + 1)) (comp_of c.index-items-place.result) (comps_are items i c.index-items-place.result c.loop-place-test.true c.index-items-place.is) (atoms_named c.args.s_names.now a) (comps_of (map comp_of c.args.others.comps.now)) (atoms_named c.args.t_names.now a)) c.in_ok-one.ensures (λ o h. (k.admits o h.0, h.1)) c.in_ok-met.ensures)

pub is_item-same-requires : goal.is_item-same-requires
is_item-same-requires t c =
    let comp = c.args.comp.now in
    let e : c.as_slice-names.result.now ≡ c.args.t_names.now ++ level_range c.args.size comp.binders = c.as_slice-names.ensures.value ∙ c.in_ok-longer.ensures in
    let fits = item_fits c.args.size comp.binders c.in_ok-inner.inner c.in_ok-inner.ensures c.args.t_names.now c.as_slice-names.result.now e comp.guard (tree comp.item) c.requires.right in
    let below = names_below c.args.size comp.binders c.in_ok-inner.inner c.in_ok-inner.ensures c.args.t_names.now c.as_slice-names.result.now e c.requires.right_names in
    let own = own_below_more c.args.size comp.binders c.in_ok-inner.inner c.args.s_names.now c.in_ok-inner.ensures c.requires.left_names in
    (omega arith, (fits, (below, (c.requires.left, own))))

pub is_item-guard_formula-requires : goal.is_item-guard_formula-requires
is_item-guard_formula-requires t c =
    let comp = c.args.comp.now in
    let e : c.as_slice-names.result.now ≡ c.args.t_names.now ++ level_range c.args.size comp.binders = c.as_slice-names.ensures.value ∙ c.in_ok-longer.ensures in
    guard_fits c.args.size comp.binders c.in_ok-inner.inner c.in_ok-inner.ensures c.args.t_names.now c.as_slice-names.result.now e comp.guard (tree comp.item) c.requires.right

pub is_item-returns-then-is_false_formula : goal.is_item-returns-then-is_false_formula
is_item-returns-then-is_false_formula t c =
    let comp = c.args.comp.now in
    let e : c.as_slice-names.result.now ≡ c.args.t_names.now ++ level_range c.args.size comp.binders = c.as_slice-names.ensures.value ∙ c.in_ok-longer.ensures in
    none_says c.args.size comp.binders c.in_ok-inner.inner c.in_ok-inner.ensures c.args.s_names.now c.args.t_names.now c.as_slice-names.result.now e c.requires.left_names c.requires.right_names comp.guard (tree comp.item) (tree c.args.s.now) (view c.in_ok-equal.equal) (c.is_false_formula.ensures.0 c.if-is_false_formula.true) c.in_ok-equal.ensures

pub is_item-returns : goal.is_item-returns
is_item-returns t c =
    let comp = c.args.comp.now in
    let e : c.as_slice-names.result.now ≡ c.args.t_names.now ++ level_range c.args.size comp.binders = c.as_slice-names.ensures.value ∙ c.in_ok-longer.ensures in
    let below = names_below c.args.size comp.binders c.in_ok-inner.inner c.in_ok-inner.ensures c.args.t_names.now c.as_slice-names.result.now e c.requires.right_names in
    let guard = c.in_ok-guard.ensures c.in_ok-inner.inner below in
    IfOk-weaker c.for_some.result (λ r. IsForSome comp.binders (view c.in_ok-conjunction.field-0) (view r)) _ (λ r some. one_says c.args.size comp.binders c.in_ok-inner.inner c.in_ok-inner.ensures c.args.s_names.now c.args.t_names.now c.as_slice-names.result.now e c.requires.left_names c.requires.right_names comp.guard (tree comp.item) (tree c.args.s.now) (view c.in_ok-equal.equal) (view c.in_ok-guard.guard) (view c.in_ok-conjunction.field-0) (view r) c.in_ok-equal.ensures guard c.in_ok-conjunction.ensures some) c.for_some.ensures

pub same-returns-in-Var-Var : goal.same-returns-in-Var-Var
same-returns-in-Var-Var t c =
    let arm = c.in-Var-Var in
    let left = subst (λ z. Fits (length c.args.s_names.now) (tree z)) arm.is-0 c.requires.left in
    let right = subst (λ z. Fits (length c.args.t_names.now) (tree z)) arm.is-1 c.requires.right in
    atoms_say c.args.size c.args.s_names.now c.args.t_names.now arm.i arm.j _ _ (view c.same_atoms.result) c.requires.left_names c.requires.right_names left right refl refl c.same_atoms.ensures (tree c.args.s.now) (tree c.args.t.now) (ap tree arm.is-0) (ap tree arm.is-1)

pub same_parts-returns-then-parts-partners : goal.same_parts-returns-then-parts-partners
same_parts-returns-then-parts-partners t c =
    parts_apart c.args.size c.args.s_names.now c.args.t_names.now c.as_slice-parts.result.now c.as_slice-partners.result.now c.args.terms.now c.args.others.now (view c.false_formula.result) c.as_slice-parts.ensures c.as_slice-partners.ensures c.if-parts-partners.true c.false_formula.ensures

pub same_parts-same-requires : goal.same_parts-same-requires
same_parts-same-requires t c =
    let other : c.loop-i.i < length c.as_slice-partners.result.now = omega arith in
    let p = is_part_of c.as_slice-parts.result.now c.args.terms.now c.loop-i.i c.index-parts-i.result c.as_slice-parts.ensures c.loop-i-test.true c.index-parts-i.is in
    let q = is_part_of c.as_slice-partners.result.now c.args.others.now c.loop-i.i c.index-partners-i.result c.as_slice-partners.ensures other c.index-partners-i.is in
    (omega (arith, p.depth, q.depth), (p.fits (length c.args.s_names.now) c.requires.left, (c.requires.left_names, (q.fits (length c.args.t_names.now) c.requires.right, c.requires.right_names))))

pub same_parts-loop-i-preserved : goal.same_parts-loop-i-preserved
same_parts-loop-i-preserved t c =
    let parts = c.as_slice-parts.result.now in
    let partners = c.as_slice-partners.result.now in
    let i = c.loop-i.i in
    let other : c.loop-i.i < length c.as_slice-partners.result.now = omega arith in
    let p = is_part_of parts c.args.terms.now i c.index-parts-i.result c.as_slice-parts.ensures c.loop-i-test.true c.index-parts-i.is in
    let q = is_part_of partners c.args.others.now i c.index-partners-i.result c.as_slice-partners.ensures other c.index-partners-i.is in
    all_go_on c.args.size _ _ _ _ _ _ (view c.loop-i.met) (view c.in_ok-one.one) (view c.in_ok-met.met) c.loop-i.invariant (λ a. parts_split (terms_from parts i) (terms_from parts (i + 1)) (terms_from partners i) (terms_from partners (i + 1)) (tree c.index-parts-i.result) (tree c.index-partners-i.result) (terms_are parts i c.index-parts-i.result c.loop-i-test.true c.index-parts-i.is) (terms_are partners i c.index-partners-i.result other c.index-partners-i.is) (atoms_named c.args.s_names.now a) (atoms_named c.args.t_names.now a)) c.in_ok-one.ensures (λ o h. (p.admits o h.0, q.admits o h.1)) c.in_ok-met.ensures

pub same_sets-sets_compared-requires : goal.same_sets-sets_compared-requires
same_sets-sets_compared-requires t c =
    let right = subst (λ z. ItemsFit (length c.args.t_names.now) (comps_of z)) (sym c.as_slice-other_items.ensures) c.requires.right in
    (omega (arith, ap depth_of_comps c.as_slice-other_items.ensures), (c.requires.left, (c.requires.left_names, (right, (c.requires.right_names, c.in_ok-other_index.ensures)))))

pub same_sets-returns-then-is_false_formula : goal.same_sets-returns-then-is_false_formula
same_sets-returns-then-is_false_formula t c =
    let said = subst (IncludedIn c.args.size c.args.s_names.now c.args.t_names.now c.args.comps.now (view c.in_ok-there.there.included)) c.as_slice-other_items.ensures c.in_ok-there.ensures.included in
    sets_cut c.args.size c.args.s_names.now c.args.t_names.now (comps_of c.args.comps.now) (comps_of c.args.others.now) (view c.in_ok-there.there.included) (c.is_false_formula.ensures.0 c.if-is_false_formula.true) said

pub same_sets-included-requires : goal.same_sets-included-requires
same_sets-included-requires t c =
    let left = subst (λ z. ItemsFit (length c.args.s_names.now) (comps_of z)) (sym c.as_slice-items.ensures) c.requires.left in
    let firsts = subst (λ z. AreRows c.args.size z c.args.s_names.now (map comp_of c.as_slice-other_items.result.now) c.args.t_names.now c.in_ok-there.there.rows.items) (sym c.as_slice-items.ensures) c.in_ok-there.ensures.rows in
    let both = subst (λ z. AreRows c.args.size (map comp_of c.as_slice-items.result.now) c.args.s_names.now z c.args.t_names.now c.in_ok-there.there.rows.items) c.as_slice-other_items.ensures firsts in
    let rows = subst (AreRows c.args.size (map comp_of c.as_slice-items.result.now) c.args.s_names.now c.args.others.now c.args.t_names.now) (sym c.as_slice-rows.ensures.value) both in
    (omega (arith, ap depth_of_comps c.as_slice-items.ensures), (c.requires.right, (c.requires.right_names, (left, (c.requires.left_names, (c.in_ok-index.ensures, rows))))))

pub same_sets-returns : goal.same_sets-returns
same_sets-returns t c =
    let said = subst (IncludedIn c.args.size c.args.s_names.now c.args.t_names.now c.args.comps.now (view c.in_ok-there.there.included)) c.as_slice-other_items.ensures c.in_ok-there.ensures.included in
    let back = subst (IncludedIn c.args.size c.args.t_names.now c.args.s_names.now c.args.others.now (view c.in_ok-back.back)) c.as_slice-items.ensures c.in_ok-back.ensures in
    IfOk-weaker c.conjunction.result (λ r. IsBoth (view c.in_ok-there.there.included) (view c.in_ok-back.back) (view r)) _ (λ r both. sets_say c.args.size c.args.s_names.now c.args.t_names.now (comps_of c.args.comps.now) (comps_of c.args.others.now) (view c.in_ok-there.there.included) (view c.in_ok-back.back) (view r) said back both) c.conjunction.ensures

pub each_in-returns-then-is_listed : goal.each_in-returns-then-is_listed
each_in-returns-then-is_listed t c =
    always_says c.args.size _ _ (view c.true_formula.result) c.true_formula.ensures (λ a. listed_each c.args.s_names.now c.args.t_names.now a (comp_of c.args.comp.now) (comps_of (map comp_of c.args.others.comps.now)) (c.is_listed.ensures c.if-is_listed.true))

pub same_sets-returns-then-sets_match : goal.same_sets-returns-then-sets_match
same_sets-returns-then-sets_match t c =
    always_says c.args.size _ _ (view c.true_formula.result) c.true_formula.ensures (λ a. sets_alike c.args.s_names.now c.args.t_names.now a (comps_of c.args.comps.now) (comps_of c.args.others.now) (c.sets_match.ensures.0 c.if-sets_match.true))

pub same_sets-returns-in-Some-single : goal.same_sets-returns-in-Some-single
same_sets-returns-in-Some-single t c =
    IfOk-weaker c.same_singles.result (λ r. Defines c.args.size (λ a. SameAt (coll (more (comp_of c.in-Some.one.now) no_comps)) (atoms_named c.args.s_names.now a) (coll (more (comp_of c.in-Some-single.other.now) no_comps)) (atoms_named c.args.t_names.now a)) (λ o. AdmitsComp o (comp_of c.in-Some.one.now) × AdmitsComp o (comp_of c.in-Some-single.other.now)) (view r)) _ (λ r says. singles_sets c.args.size c.args.s_names.now c.args.t_names.now c.args.comps.now c.args.others.now (comp_of c.in-Some.one.now) (comp_of c.in-Some-single.other.now) (view r) c.in-Some.ensures.some.0 c.in-Some-single.ensures.some.0 says) c.same_singles.ensures

pub same_singles-returns : goal.same_singles-returns
same_singles-returns t c =
    let one = c.args.one.now in
    let other = c.args.other.now in
    let sn = c.args.s_names.now in
    let tn = c.args.t_names.now in
    let own = c.in_ok-one_there.ensures c.args.size c.requires.left_names in
    let else_there = c.in_ok-other_there.ensures c.args.size c.requires.right_names in
    IfOk-weaker c.conjunction-2.result (λ r. IsBoth (view c.in_ok-forth.forth) (view c.in_ok-back.back) (view r)) _ (λ r all. bare_say c.args.size sn tn one.binders other.binders one.guard other.guard (tree one.item) (tree other.item) (view r) c.requires.left_binders c.requires.right_binders (singles_say c.args.size sn tn one.guard other.guard (tree one.item) (tree other.item) (view c.in_ok-equal.equal) (view c.in_ok-one_there.one_there) (view c.in_ok-other_there.other_there) (view c.in_ok-copy-2.field-0) (view c.in_ok-copy.field-0) (view c.in_ok-partner.partner) (view c.in_ok-forth.forth) (view c.in_ok-back.back) (view r) c.in_ok-equal.ensures own else_there c.in_ok-copy-2.ensures c.in_ok-copy.ensures c.in_ok-partner.ensures c.in_ok-forth.ensures c.in_ok-back.ensures all)) c.conjunction-2.ensures

pub sets_compared-each_compared-requires : goal.sets_compared-each_compared-requires
sets_compared-each_compared-requires t c =
    let k = is_comp_of c.as_slice-comp-items.result.now c.args.comps.now c.loop-comp.comp-index c.comp-item.result c.as_slice-comp-items.ensures c.loop-comp-test.true c.comp-item.is in
    (omega (arith, k.depth), (k.fits (length c.args.s_names.now) c.requires.left, (c.requires.left_names, (c.requires.right, (c.requires.right_names, (c.candidates.ensures.places, c.candidates.ensures.all))))))

pub sets_compared-loop-comp-preserved : goal.sets_compared-loop-comp-preserved
sets_compared-loop-comp-preserved t c =
    let items = c.as_slice-comp-items.result.now in
    let i = c.loop-comp.comp-index in
    let k = is_comp_of items c.args.comps.now i c.comp-item.result c.as_slice-comp-items.ensures c.loop-comp-test.true c.comp-item.is in
    let at = item_got items c.args.comps.now i c.comp-item.result c.as_slice-comp-items.ensures c.loop-comp-test.true c.comp-item.is in
    let old = c.loop-comp.rows.items in
    let more = c.in_ok-push.ensures.items in (
      all_go_on c.args.size _ _ _ _ _ _ (view c.loop-comp.met) _ (view c.in_ok-met.met) c.loop-comp.invariant.0 (λ a. all_in_split (comps_from items i) (comps_from items (i + 1)) (comp_of c.comp-item.result) (comps_are items i c.comp-item.result c.loop-comp-test.true c.comp-item.is) (atoms_named c.args.s_names.now a) (comps_of (map comp_of c.args.others.comps.now)) (atoms_named c.args.t_names.now a)) c.in_ok-there.ensures.there (λ o h. (k.admits o h.0, h.1)) c.in_ok-met.ensures,
      one_longer old _ c.push.new.self.items i c.loop-comp.invariant.1 more,
      rows_more c.args.size c.args.comps.now c.args.s_names.now (map comp_of c.args.others.comps.now) c.args.t_names.now old c.push.new.self.items i (comp_of c.comp-item.result) _ c.loop-comp.invariant.2 c.loop-comp.invariant.1 at more c.in_ok-there.ensures.pairs,
    )

pub sets_compared-returns-then-is_false_formula-clause-included : goal.sets_compared-returns-then-is_false_formula-clause-included
sets_compared-returns-then-is_false_formula-clause-included t c =
    let items = c.as_slice-comp-items.result.now in
    let i = c.loop-comp.comp-index in
    let k = is_comp_of items c.args.comps.now i c.comp-item.result c.as_slice-comp-items.ensures c.loop-comp-test.true c.comp-item.is in
    all_cut c.args.size (λ a. AllInAt (comps_from items (i + 1)) (atoms_named c.args.s_names.now a) (comps_of (map comp_of c.args.others.comps.now)) (atoms_named c.args.t_names.now a)) _ _ (view c.in_ok-met.met) (c.is_false_formula.ensures.0 c.if-is_false_formula.true) (all_go_on c.args.size _ _ _ _ _ _ (view c.loop-comp.met) _ (view c.in_ok-met.met) c.loop-comp.invariant.0 (λ a. all_in_split (comps_from items i) (comps_from items (i + 1)) (comp_of c.comp-item.result) (comps_are items i c.comp-item.result c.loop-comp-test.true c.comp-item.is) (atoms_named c.args.s_names.now a) (comps_of (map comp_of c.args.others.comps.now)) (atoms_named c.args.t_names.now a)) c.in_ok-there.ensures.there (λ o h. (k.admits o h.0, h.1)) c.in_ok-met.ensures)

pub sets_compared-returns-then-is_false_formula-clause-rows : goal.sets_compared-returns-then-is_false_formula-clause-rows
sets_compared-returns-then-is_false_formula-clause-rows t c =
    let items = c.as_slice-comp-items.result.now in
    let i = c.loop-comp.comp-index in
    let at = item_got items c.args.comps.now i c.comp-item.result c.as_slice-comp-items.ensures c.loop-comp-test.true c.comp-item.is in
    let old = c.loop-comp.rows.items in
    let more = c.in_ok-push.ensures.items in
    rows_more c.args.size c.args.comps.now c.args.s_names.now (map comp_of c.args.others.comps.now) c.args.t_names.now old c.push.new.self.items i (comp_of c.comp-item.result) _ c.loop-comp.invariant.2 c.loop-comp.invariant.1 at more c.in_ok-there.ensures.pairs

pub each_compared-returns-then-is_listed-clause-there : goal.each_compared-returns-then-is_listed-clause-there
each_compared-returns-then-is_listed-clause-there t c =
    always_says c.args.size _ _ (view c.true_formula.result) c.true_formula.ensures (λ a. listed_each c.args.s_names.now c.args.t_names.now a (comp_of c.args.comp.now) (comps_of (map comp_of c.args.others.comps.now)) (c.is_listed.ensures c.if-is_listed.true))

pub each_compared-none_missing-requires : goal.each_compared-none_missing-requires
each_compared-none_missing-requires t c =
    let comp = c.args.comp.now in
    let e : c.as_slice.result.now ≡ c.args.s_names.now ++ level_range c.args.size comp.binders = c.as_slice.ensures.value ∙ c.in_ok-longer.ensures in
    guard_fits c.args.size comp.binders (c.args.size + comp.binders) refl c.args.s_names.now c.as_slice.result.now e comp.guard (tree comp.item) c.requires.left

pub each_compared-returns-clause-there : goal.each_compared-returns-clause-there
each_compared-returns-clause-there t c =
    let comp = c.args.comp.now in
    let n = c.args.size in
    let sn = c.args.s_names.now in
    let tn = c.args.t_names.now in
    let names = c.as_slice.result.now in
    let e : names ≡ sn ++ level_range n comp.binders = c.as_slice.ensures.value ∙ c.in_ok-longer.ensures in
    let below = names_below n comp.binders (n + comp.binders) refl sn names e c.requires.left_names in
    let found = c.in_ok-found.ensures.there in
    let each = c.in_ok-none_missing.ensures n below found.levels in
    each_found n sn tn comp.binders comp.guard (tree comp.item) c.requires.left_names c.requires.right_names (comps_of (map comp_of c.args.others.comps.now)) (view c.in_ok-found.found.there) (view c.in_ok-none_missing.field-0) found (subst (λ z. IsForEach n comp.binders z comp.guard (view c.in_ok-found.found.there) (view c.in_ok-none_missing.field-0)) e each)

pub item_compared-loop-place-init : goal.item_compared-loop-place-init
item_compared-loop-place-init t c =
    let comp = c.args.comp.now in (
      found_starts c.args.size c.args.s_names.now c.args.t_names.now comp.binders comp.guard (tree comp.item) (map comp_of c.args.others.comps.now) c.args.others.places.now (view c.false_formula-found.result) c.requires.candidates c.false_formula-found.ensures,
      subst (IsRow c.args.size (comp_of comp) c.args.s_names.now (map comp_of c.args.others.comps.now) c.args.t_names.now) (sym c.new-pairs.ensures.items) (All-nil (SaysPaired c.args.size (comp_of comp) c.args.s_names.now (map comp_of c.args.others.comps.now) c.args.t_names.now)),
    )

pub item_compared-pair_compared-requires : goal.item_compared-pair_compared-requires
item_compared-pair_compared-requires t c =
    let items = c.args.others.comps.now in
    let places = c.args.others.places.now in
    let r = c.loop-place.place-index in
    let i = get_or places r 0 in
    let inside : i < length items = c.requires.places r 0 c.loop-place-test.true in
    let other = get_or items i c.index-others-place.result in
    let is : other ≡ get_or items i other = ap (get_or items i) c.index-others-place.is in
    let k = is_comp_of items (map comp_of items) i other refl inside is in
    (omega (arith, k.depth), (c.requires.left, (c.requires.left_names, (k.fits (length c.args.t_names.now) c.requires.right, c.requires.right_names))))

pub item_compared-loop-place-preserved : goal.item_compared-loop-place-preserved
item_compared-loop-place-preserved t c =
    let items = c.args.others.comps.now in
    let places = c.args.others.places.now in
    let r = c.loop-place.place-index in
    let i = get_or places r 0 in
    let inside : i < length items = c.requires.places r 0 c.loop-place-test.true in
    let other = get_or items i c.index-others-place.result in
    let is : other ≡ get_or items i other = ap (get_or items i) c.index-others-place.is in
    let comp = c.args.comp.now in
    let n = c.args.size in
    let sn = c.args.s_names.now in
    let tn = c.args.t_names.now in
    let k = is_comp_of items (map comp_of items) i other refl inside is in
    let at = item_got items (map comp_of items) i other refl inside is in
    let one = pair_item n sn tn comp.binders comp.guard (tree comp.item) c.requires.left_names c.requires.right_names other.binders other.guard (tree other.item) _ (view c.in_ok-for_some.field-0) c.in_ok-forth.ensures.forth c.in_ok-for_some.ensures in (
      found_goes_on n sn tn comp.binders comp.guard (tree comp.item) (comps_of (map comp_of items)) (comps_at (map comp_of items) (drop r places)) (comps_at (map comp_of items) (drop (r + 1) places)) (comp_of other) (places_are items places r i other c.loop-place-test.true refl inside is) (view c.loop-place.found) (view c.in_ok-for_some.field-0) (view c.in_ok-found.found) c.loop-place.invariant.0 one k.admits c.in_ok-found.ensures,
      row_more n (comp_of comp) sn (map comp_of items) tn c.loop-place.pairs.items c.push.new.self.items _ (comp_of other) c.loop-place.invariant.1 at c.in_ok-push.ensures.items c.in_ok-forth.ensures.back,
    )

pub pair_compared-returns-then-leaves_out-clause-forth : goal.pair_compared-returns-then-leaves_out-clause-forth
pair_compared-returns-then-leaves_out-clause-forth t c =
    let comp = c.args.comp.now in
    let other = c.args.other.now in
    pair_left_out c.args.size c.args.s_names.now c.args.t_names.now comp.binders comp.guard (tree comp.item) (view c.false_formula.result) c.false_formula.ensures other.binders other.guard (tree other.item) (c.leaves_out.ensures c.if-leaves_out.true)

pub pair_compared-returns-then-leaves_out-clause-back : goal.pair_compared-returns-then-leaves_out-clause-back
pair_compared-returns-then-leaves_out-clause-back t c =
    let comp = c.args.comp.now in
    let other = c.args.other.now in
    pair_left_out_back c.args.size c.args.s_names.now c.args.t_names.now comp.binders comp.guard (tree comp.item) (view c.false_formula-then-leaves_out.result) c.false_formula-then-leaves_out.ensures other.binders other.guard (tree other.item) (c.leaves_out.ensures c.if-leaves_out.true)

pub pair_compared-same-requires : goal.pair_compared-same-requires
pair_compared-same-requires t c =
    let comp = c.args.comp.now in
    let other = c.args.other.now in
    let n = c.args.size in
    let inner = c.in_ok-inner.inner in
    let whole = c.in_ok-whole.whole in
    let left = c.as_slice-left.result.now in
    let right = c.as_slice-right.result.now in
    let left_is : left ≡ c.args.s_names.now ++ level_range n comp.binders = c.as_slice-left.ensures.value ∙ c.in_ok-own.ensures in
    let right_is : right ≡ c.args.t_names.now ++ level_range inner other.binders = c.as_slice-right.ensures.value ∙ c.in_ok-longer.ensures in
    let left_fits = item_fits n comp.binders inner c.in_ok-inner.ensures c.args.s_names.now left left_is comp.guard (tree comp.item) c.requires.left in
    let right_fits = item_fits inner other.binders whole c.in_ok-whole.ensures c.args.t_names.now right right_is other.guard (tree other.item) c.requires.right in
    let left_below = own_below_more inner other.binders whole left c.in_ok-whole.ensures (names_below n comp.binders inner c.in_ok-inner.ensures c.args.s_names.now left left_is c.requires.left_names) in
    let right_below = names_below inner other.binders whole c.in_ok-whole.ensures c.args.t_names.now right right_is (own_below_more n comp.binders inner c.args.t_names.now c.in_ok-inner.ensures c.requires.right_names) in
    (omega arith, (right_fits, (right_below, (left_fits, left_below))))

pub pair_compared-guard_formula-requires : goal.pair_compared-guard_formula-requires
pair_compared-guard_formula-requires t c =
    let comp = c.args.comp.now in
    let left = c.as_slice-left.result.now in
    let left_is : left ≡ c.args.s_names.now ++ level_range c.args.size comp.binders = c.as_slice-left.ensures.value ∙ c.in_ok-own.ensures in
    guard_fits c.args.size comp.binders c.in_ok-inner.inner c.in_ok-inner.ensures c.args.s_names.now left left_is comp.guard (tree comp.item) c.requires.left

pub pair_compared-guard_formula-requires-2 : goal.pair_compared-guard_formula-requires-2
pair_compared-guard_formula-requires-2 t c =
    let other = c.args.other.now in
    let right = c.as_slice-right.result.now in
    let right_is : right ≡ c.args.t_names.now ++ level_range c.in_ok-inner.inner other.binders = c.as_slice-right.ensures.value ∙ c.in_ok-longer.ensures in
    guard_fits c.in_ok-inner.inner other.binders c.in_ok-whole.whole c.in_ok-whole.ensures c.args.t_names.now right right_is other.guard (tree other.item) c.requires.right

pub pair_compared-both_ways-requires-clause-levels : goal.pair_compared-both_ways-requires-clause-levels
pair_compared-both_ways-requires-clause-levels t c =
    let comp = c.args.comp.now in
    let other = c.args.other.now in
    let n = c.args.size in
    let inner = c.in_ok-inner.inner in
    let whole = c.in_ok-whole.whole in
    let left = c.as_slice-left.result.now in
    let right = c.as_slice-right.result.now in
    let left_is : left ≡ c.args.s_names.now ++ level_range n comp.binders = c.as_slice-left.ensures.value ∙ c.in_ok-own.ensures in
    let right_is : right ≡ c.args.t_names.now ++ level_range inner other.binders = c.as_slice-right.ensures.value ∙ c.in_ok-longer.ensures in
    let left_below = own_below_more inner other.binders whole left c.in_ok-whole.ensures (names_below n comp.binders inner c.in_ok-inner.ensures c.args.s_names.now left left_is c.requires.left_names) in
    let right_below = names_below inner other.binders whole c.in_ok-whole.ensures c.args.t_names.now right right_is (own_below_more n comp.binders inner c.args.t_names.now c.in_ok-inner.ensures c.requires.right_names) in
    let pair : DefinesPaired n c.args.s_names.now (comp_of comp) c.args.t_names.now (comp_of other) (view c.in_ok-paired.paired) = pair_says n comp.binders other.binders inner whole c.in_ok-inner.ensures c.in_ok-whole.ensures c.args.s_names.now c.args.t_names.now left right left_is right_is comp.guard other.guard (tree comp.item) (tree other.item) (view c.in_ok-guard.guard) (view c.in_ok-other_guard.other_guard) (view c.in_ok-there.there) (view c.in_ok-equal.equal) (view c.in_ok-paired.paired) (c.in_ok-guard.ensures whole left_below) (c.in_ok-other_guard.ensures whole right_below) c.in_ok-there.ensures c.in_ok-equal.ensures c.in_ok-paired.ensures in
    pair.levels

pub pair_compared-returns-clause-forth : goal.pair_compared-returns-clause-forth
pair_compared-returns-clause-forth t c =
    let comp = c.args.comp.now in
    let other = c.args.other.now in
    let n = c.args.size in
    let inner = c.in_ok-inner.inner in
    let whole = c.in_ok-whole.whole in
    let left = c.as_slice-left.result.now in
    let right = c.as_slice-right.result.now in
    let left_is : left ≡ c.args.s_names.now ++ level_range n comp.binders = c.as_slice-left.ensures.value ∙ c.in_ok-own.ensures in
    let right_is : right ≡ c.args.t_names.now ++ level_range inner other.binders = c.as_slice-right.ensures.value ∙ c.in_ok-longer.ensures in
    let left_below = own_below_more inner other.binders whole left c.in_ok-whole.ensures (names_below n comp.binders inner c.in_ok-inner.ensures c.args.s_names.now left left_is c.requires.left_names) in
    let right_below = names_below inner other.binders whole c.in_ok-whole.ensures c.args.t_names.now right right_is (own_below_more n comp.binders inner c.args.t_names.now c.in_ok-inner.ensures c.requires.right_names) in
    let pair : DefinesPaired n c.args.s_names.now (comp_of comp) c.args.t_names.now (comp_of other) (view c.in_ok-paired.paired) = pair_says n comp.binders other.binders inner whole c.in_ok-inner.ensures c.in_ok-whole.ensures c.args.s_names.now c.args.t_names.now left right left_is right_is comp.guard other.guard (tree comp.item) (tree other.item) (view c.in_ok-guard.guard) (view c.in_ok-other_guard.other_guard) (view c.in_ok-there.there) (view c.in_ok-equal.equal) (view c.in_ok-paired.paired) (c.in_ok-guard.ensures whole left_below) (c.in_ok-other_guard.ensures whole right_below) c.in_ok-there.ensures c.in_ok-equal.ensures c.in_ok-paired.ensures in
    IfOk-weaker c.both_ways.result _ _ (λ r same. pair_stays c.args.size c.args.s_names.now c.args.t_names.now c.requires.left_names c.requires.right_names comp.binders other.binders comp.guard other.guard (tree comp.item) (tree other.item) (view c.in_ok-paired.paired) (view r.forth) pair same) c.both_ways.ensures.forth

pub pair_compared-returns-clause-back : goal.pair_compared-returns-clause-back
pair_compared-returns-clause-back t c =
    let comp = c.args.comp.now in
    let other = c.args.other.now in
    let n = c.args.size in
    let inner = c.in_ok-inner.inner in
    let whole = c.in_ok-whole.whole in
    let left = c.as_slice-left.result.now in
    let right = c.as_slice-right.result.now in
    let left_is : left ≡ c.args.s_names.now ++ level_range n comp.binders = c.as_slice-left.ensures.value ∙ c.in_ok-own.ensures in
    let right_is : right ≡ c.args.t_names.now ++ level_range inner other.binders = c.as_slice-right.ensures.value ∙ c.in_ok-longer.ensures in
    let left_below = own_below_more inner other.binders whole left c.in_ok-whole.ensures (names_below n comp.binders inner c.in_ok-inner.ensures c.args.s_names.now left left_is c.requires.left_names) in
    let right_below = names_below inner other.binders whole c.in_ok-whole.ensures c.args.t_names.now right right_is (own_below_more n comp.binders inner c.args.t_names.now c.in_ok-inner.ensures c.requires.right_names) in
    let pair : DefinesPaired n c.args.s_names.now (comp_of comp) c.args.t_names.now (comp_of other) (view c.in_ok-paired.paired) = pair_says n comp.binders other.binders inner whole c.in_ok-inner.ensures c.in_ok-whole.ensures c.args.s_names.now c.args.t_names.now left right left_is right_is comp.guard other.guard (tree comp.item) (tree other.item) (view c.in_ok-guard.guard) (view c.in_ok-other_guard.other_guard) (view c.in_ok-there.there) (view c.in_ok-equal.equal) (view c.in_ok-paired.paired) (c.in_ok-guard.ensures whole left_below) (c.in_ok-other_guard.ensures whole right_below) c.in_ok-there.ensures c.in_ok-equal.ensures c.in_ok-paired.ensures in
    IfOk-weaker c.both_ways.result _ _ (λ r turned. pair_turns c.args.size c.args.s_names.now c.args.t_names.now c.requires.left_names c.requires.right_names comp.binders other.binders comp.guard other.guard (tree comp.item) (tree other.item) (view c.in_ok-paired.paired) (view r.back) pair turned) c.both_ways.ensures.back
