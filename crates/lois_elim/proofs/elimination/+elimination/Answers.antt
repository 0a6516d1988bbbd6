use Rattle.std.proofs.Common.{◌≡◌, ℕ, suc, ◌+◌, ◌<◌, Bool, true, not, ◌&&◌, List, [], ◌∷◌, ◌++◌, length, length-append, refl, subst, sym, ap, ◌∙◌, arith}
use Rattle.std.proofs.lemmas.Bool.{false≢true}
use Rattle.std.proofs.lemmas.Result.{IfOk-weaker}
use Rattle.lois_base.specs.Atom.{Atom}
use Rattle.lois_base.specs.Fits.{LitFits, CubeFits, ConstraintFits}
use Rattle.lois_base.specs.FormulaData.{FormulaD, FormulaFits, all, any, neg, exists, forall, no_formulas, formulas_of}
use Rattle.lois_base.specs.FormulaView.{view, views}
use Rattle.lois_base.specs.Truth.{holds}
use Rattle.lois_base.specs.Validity.{AdmitsCube, AdmitsConstraint}
use Rattle.lois_base.specs.FormulaOperators.{AdmitsFormula, AdmitsFormulas}
use Rattle.lois_base.specs.declared.guards.Lit.{Lit}
use Rattle.lois_base.proofs.FormulaViews.{formula_within, view_Not}
use Rattle.lois_elim.specs.Bound.{HoldsForSome, HoldsForEach}
use Rattle.lois_elim.specs.Names.{AgreesUnder, AgreesUnderWithBoth}
use Rattle.lois_elim.proofs.Naming.{more_names}
use Rattle.lois_elim.proofs.OnePoint.{point_agrees}
use Rattle.lois_elim.proofs.Steps.{AnySoFar, parts_from, no_parts, part_fits, part_admitted, parts_go_on, any_go_on, any_everywhere, any_end, appended_obeys}
use Rattle.lois_elim.specs.Turns.{in_turn, AgreesInTurn}
use Rattle.lois_elim.proofs.Turning.{MetSoFar, met_begin, met_end, met_nowhere, turn_fits, turn_admitted, turn_goes_on, turn_skips, turns_agree}
use Rattle.lois_elim.proofs.Truth.{neg_agrees, exists_agrees, forall_agrees, met_formula, met_negation}
use Rattle.lois_elim.proofs.elimination.+elimination.Goals as goal
use Rattle.lois_elim.proofs.elimination.+elimination.Goals.{meet_parts-then-is_in_turn+in_ok-met, meet_parts-else-is_in_turn}

pub under_names-returns-in-Lit-clause-levels : goal.under_names-returns-in-Lit-clause-levels
under_names-returns-in-Lit-clause-levels g t c =
    let lit : Lit = c.literal_named.result in
    IfOk-weaker c.of_literal.result (λ r. (n : ℕ) → LitFits n lit → ConstraintFits n r) (ConstraintFits c.args.size) (λ r levels. levels c.args.size (c.literal_named.ensures.levels c.args.size c.requires.names)) c.of_literal.ensures.levels

pub under_names-returns-in_ok-under_names-in-Not-clause-truth :
    goal.under_names-returns-in_ok-under_names-in-Not-clause-truth
under_names-returns-in_ok-under_names-in-Not-clause-truth g t c =
    let body = c.in_ok-under_names-in-Not in
    let e : view c.args.f.now ≡ neg (view c.deref.result.now) = view_Not c.args.f.now c.in-Not.body c.deref.result.now c.in-Not.is c.deref.ensures in
    IfOk-weaker c.negate-in-Not.result (λ r. (u : List Atom) → holds u r ≡ not (holds u body.field-0)) (AgreesUnder c.args.size c.args.free c.args.bound.now (view c.args.f.now)) (λ r negated. subst (λ f. AgreesUnder c.args.size c.args.free c.args.bound.now f r) (sym e) (neg_agrees c.args.size c.args.free c.args.bound.now (view c.deref.result.now) body.field-0 r body.ensures.truth negated)) c.negate-in-Not.ensures.truth

pub under_names-returns-in_ok-under_names-in-Not-clause-levels :
    goal.under_names-returns-in_ok-under_names-in-Not-clause-levels
under_names-returns-in_ok-under_names-in-Not-clause-levels g t c =
    let body = c.in_ok-under_names-in-Not in
    IfOk-weaker c.negate-in-Not.result (λ r. (n : ℕ) → ConstraintFits n body.field-0 → ConstraintFits n r) (ConstraintFits c.args.size) (λ r fits. fits c.args.size body.ensures.levels) c.negate-in-Not.ensures.fits

pub some_of-under_names-requires : goal.some_of-under_names-requires
some_of-under_names-requires g t c κs outlives =
    let is : c.as_slice.result.now ≡ c.args.bound.now ++ c.level_named.result ∷ [] = c.as_slice.ensures.value ∙ c.in_ok-names-in-Some.ensures in
    let names = more_names c.args.size c.args.free c.level_named.result c.args.bound.now c.as_slice.result.now is c.requires.names (c.level_named.ensures.levels c.args.size c.requires.names) in
    let deep : suc (c.args.free + length c.args.bound.now) ≡ c.args.free + length c.as_slice.result.now = omega (arith, ap length is, length-append c.args.bound.now (c.level_named.result ∷ [])) in
    let fits = subst (λ n. FormulaFits n (view c.args.body.now)) deep c.requires.levels in
    (omega arith, (outlives, (names, (fits, c.requires.operators))))

pub some_of-returns-in_ok-names-in-Some-clause-truth : goal.some_of-returns-in_ok-names-in-Some-clause-truth
some_of-returns-in_ok-names-in-Some-clause-truth g t c =
    let is : c.as_slice.result.now ≡ c.args.bound.now ++ c.level_named.result ∷ [] = c.as_slice.ensures.value ∙ c.in_ok-names-in-Some.ensures in
    IfOk-weaker c.under_names.result (AgreesUnder c.args.size c.args.free c.as_slice.result.now (view c.args.body.now)) (AgreesUnder c.args.size c.args.free c.args.bound.now (exists (view c.args.body.now))) (λ r agrees. point_agrees c.args.size c.args.free c.in-Some.lower c.in_ok-level_bound.field-0 c.level_named.result c.args.bound.now c.as_slice.result.now (view c.args.body.now) r c.requires.names c.in_ok-level_bound.ensures c.in-Some.ensures.lower c.in-Some.ensures.forced c.level_named.ensures.atom is agrees) c.under_names.ensures.truth

pub some_of-returns-in_ok-inner-in-None-clause-truth : goal.some_of-returns-in_ok-inner-in-None-clause-truth
some_of-returns-in_ok-inner-in-None-clause-truth g t c =
    let inner = c.in_ok-inner-in-None in
    let is : c.as_slice-in-None.result.now ≡ c.args.bound.now ++ c.args.size ∷ [] = ◌∙◌ {c = c.args.bound.now ++ c.args.size ∷ []} c.as_slice-in-None.ensures.value c.in_ok-names-in-None.ensures in
    IfOk-weaker c.for_some.result (HoldsForSome c.args.size inner.inner) (AgreesUnder c.args.size c.args.free c.args.bound.now (exists (view c.args.body.now))) (λ r some. exists_agrees c.args.size c.args.free c.args.bound.now c.in_ok-with_one_more-in-None.field-0 c.as_slice-in-None.result.now (view c.args.body.now) inner.inner r c.requires.names c.in_ok-with_one_more-in-None.ensures is inner.ensures.truth some) c.for_some.ensures.truth

pub each_of-returns-clause-truth : goal.each_of-returns-clause-truth
each_of-returns-clause-truth g t c =
    IfOk-weaker c.for_each.result (HoldsForEach c.args.size c.in_ok-inner.inner) (AgreesUnder c.args.size c.args.free c.args.bound.now (forall (view c.args.body.now))) (λ r each. forall_agrees c.args.size c.args.free c.args.bound.now c.in_ok-with_one_more.field-0 c.as_slice.result.now (view c.args.body.now) c.in_ok-inner.inner r c.requires.names c.in_ok-with_one_more.ensures (c.as_slice.ensures.value ∙ c.in_ok-names.ensures) c.in_ok-inner.ensures.truth each) c.for_each.ensures.truth

pub meet_part-returns-in_ok-under_names-in-Not-clause-truth :
    goal.meet_part-returns-in_ok-under_names-in-Not-clause-truth
meet_part-returns-in_ok-under_names-in-Not-clause-truth g t c =
    let body = c.in_ok-under_names-in-Not in
    let met : List (List Lit) = c.args.met.now in
    let e : view c.args.part.now ≡ neg (view c.deref.result.now) = view_Not c.args.part.now c.in-Not.body c.deref.result.now c.in-Not.is c.deref.ensures in
    IfOk-weaker c.and_not-in-Not.result (λ r. (u : List Atom) → holds u r ≡ (holds u met && not (holds u body.field-0))) (AgreesUnderWithBoth c.args.size c.args.free c.args.bound.now met (view c.args.part.now)) (λ r apart. subst (λ f. AgreesUnderWithBoth c.args.size c.args.free c.args.bound.now met f r) (sym e) (met_negation c.args.size c.args.free c.args.bound.now (view c.deref.result.now) met body.field-0 r body.ensures.truth apart)) c.and_not-in-Not.ensures.truth

pub meet_part-returns-in_ok-under_names-in-Not-clause-levels :
    goal.meet_part-returns-in_ok-under_names-in-Not-clause-levels
meet_part-returns-in_ok-under_names-in-Not-clause-levels g t c =
    IfOk-weaker c.and_not-in-Not.result (λ r. (n : ℕ) → ConstraintFits n c.args.met.now → ConstraintFits n c.in_ok-under_names-in-Not.field-0 → ConstraintFits n r) (λ r. ConstraintFits c.args.size c.args.met.now → ConstraintFits c.args.size r) (λ r fits h. fits c.args.size h c.in_ok-under_names-in-Not.ensures.levels) c.and_not-in-Not.ensures.fits

pub meet_part-returns-in_ok-under_names-in_default : goal.meet_part-returns-in_ok-under_names-in_default
meet_part-returns-in_ok-under_names-in_default g t c =
    let part = c.in_ok-under_names-in_default in
    let met : List (List Lit) = c.args.met.now in
    let f : FormulaD = view c.args.part.now in
    record {
      truth = IfOk-weaker c.meet-in_default.result (λ r. (u : List Atom) → holds u r ≡ (holds u met && holds u part.field-0)) (AgreesUnderWithBoth c.args.size c.args.free c.args.bound.now met f) (λ r both. met_formula c.args.size c.args.free c.args.bound.now f met part.field-0 r part.ensures.truth both) c.meet-in_default.ensures.truth;
      levels = IfOk-weaker c.meet-in_default.result (λ r. (n : ℕ) → ConstraintFits n met → ConstraintFits n part.field-0 → ConstraintFits n r) (λ r. ConstraintFits c.args.size met → ConstraintFits c.args.size r) (λ r fits h. fits c.args.size h part.ensures.levels) c.meet-in_default.ensures.fits;
      operators = IfOk-weaker c.meet-in_default.result (λ r. (o : Bool) → AdmitsConstraint o met → AdmitsConstraint o part.field-0 → AdmitsConstraint o r) (λ r. (o : Bool) → AdmitsConstraint o met → AdmitsFormula o f → AdmitsConstraint o r) (λ r admits o h k. admits o h (part.ensures.operators o k)) c.meet-in_default.ensures.operators;
    }

pub meet_parts-meet_part-requires : goal.meet_parts-meet_part-requires
meet_parts-meet_part-requires g t c =
    let whole = formulas_of (views c.args.parts.now) in
    let items = c.as_slice-part-items.result.now in
    let below : c.loop-part.part-index < length items = omega arith in
    let h = formula_within _ _ _ _ c.as_slice-part-items.ensures below c.part-item.is in
    let fits = turn_fits (in_turn c.args.negations) c.args.size c.args.free c.args.bound.now whole c.args.start items c.loop-part.part-index c.part-item.result below c.part-item.is c.loop-part.met c.loop-part.invariant in
    let admitted = turn_admitted (in_turn c.args.negations) c.args.size c.args.free c.args.bound.now whole c.args.start items c.loop-part.part-index c.part-item.result below c.part-item.is c.loop-part.met c.loop-part.invariant g.T.Structure.ordered c.requires.operators in
    λ κs outlives. (omega (arith, h), (outlives, (c.requires.names, (fits, admitted))))

pub meet_parts-loop-part-preserved : goal.meet_parts-loop-part-preserved
meet_parts-loop-part-preserved g t c =
    let whole = formulas_of (views c.args.parts.now) in
    let items = c.as_slice-part-items.result.now in
    let i = c.loop-part.part-index in
    let below : i < length items = omega arith in
    elim c.if-is_in_turn.branch [
      | meet_parts-then-is_in_turn+in_ok-met w ↦ subst (MetSoFar (in_turn c.args.negations) c.args.size c.args.free c.args.bound.now whole (parts_from items (i + 1)) c.args.start) (sym w.met-is) (turn_goes_on (in_turn c.args.negations) c.args.size c.args.free c.args.bound.now whole c.args.start items i c.part-item.result below c.part-item.is c.loop-part.met c.loop-part.invariant w.in_ok-met.met (sym c.is_in_turn.ensures ∙ w.if-is_in_turn.true) w.in_ok-met.ensures.truth w.in_ok-met.ensures.levels w.in_ok-met.ensures.operators)
      | meet_parts-else-is_in_turn w ↦ subst (MetSoFar (in_turn c.args.negations) c.args.size c.args.free c.args.bound.now whole (parts_from items (i + 1)) c.args.start) (sym w.met-is) (turn_skips (in_turn c.args.negations) c.args.size c.args.free c.args.bound.now whole c.args.start items i c.part-item.result below c.part-item.is c.loop-part.met c.loop-part.invariant (λ now. false≢true (sym w.if-is_in_turn.false ∙ (c.is_in_turn.ensures ∙ now))))
    ]

pub meet_parts-loop-part-init : goal.meet_parts-loop-part-init
meet_parts-loop-part-init g t c =
    let whole = formulas_of (views c.args.parts.now) in
    subst (λ vs. MetSoFar (in_turn c.args.negations) c.args.size c.args.free c.args.bound.now whole (formulas_of vs) c.args.start c.args.start) (sym c.as_slice-part-items.ensures) (met_begin (in_turn c.args.negations) c.args.size c.args.free c.args.bound.now whole c.args.start c.requires.levels)

pub meet_parts-returns : goal.meet_parts-returns
meet_parts-returns g t c =
    let whole = formulas_of (views c.args.parts.now) in
    let items = c.as_slice-part-items.result.now in
    let met = c.loop-part.met in
    let so_far = c.loop-part.invariant in
    let done : MetSoFar (in_turn c.args.negations) c.args.size c.args.free c.args.bound.now whole no_formulas c.args.start met = subst (λ rest. MetSoFar (in_turn c.args.negations) c.args.size c.args.free c.args.bound.now whole rest c.args.start met) (no_parts items c.loop-part.part-index (omega arith)) so_far in
    record {
      truth = met_end (in_turn c.args.negations) c.args.size c.args.free c.args.bound.now whole c.args.start met done;
      levels = so_far.levels;
      operators = so_far.operators;
    }

pub meet_parts-returns-then-len-eq0 : goal.meet_parts-returns-then-len-eq0
meet_parts-returns-then-len-eq0 g t c =
    let whole = formulas_of (views c.args.parts.now) in
    let so_far = c.loop-part.invariant in
    let none : length c.loop-part.met ≡ 0 = omega arith in
    record {
      truth = met_nowhere (in_turn c.args.negations) c.args.size c.args.free c.args.bound.now whole c.args.start (parts_from c.as_slice-part-items.result.now c.loop-part.part-index) c.loop-part.met so_far none;
      levels = so_far.levels;
      operators = so_far.operators;
    }

pub all_of-returns : goal.all_of-returns
all_of-returns g t c =
    let whole = formulas_of (views c.args.parts.now) in
    let cube = c.in_ok-literals_of in
    let literals = c.in_ok-literals in
    let met = c.in_ok-met in
    let n : ℕ = c.args.size in
    let names = c.requires.names in
    record {
      truth = IfOk-weaker c.meet_parts-2.result (AgreesInTurn n c.args.free c.args.bound.now (in_turn true) met.met whole) (AgreesUnder n c.args.free c.args.bound.now (all whole)) (λ r second. turns_agree n c.args.free c.args.bound.now whole literals.literals met.met r cube.field-0 names cube.ensures.truth literals.ensures.truth met.ensures.truth second) c.meet_parts-2.ensures.truth;
      levels = IfOk-weaker c.meet_parts-2.result (λ r. ConstraintFits n met.met → ConstraintFits n r) (ConstraintFits n) (λ r levels. levels (met.ensures.levels (literals.ensures.levels n (cube.ensures.levels n names)))) c.meet_parts-2.ensures.levels;
      operators = IfOk-weaker c.meet_parts-2.result (λ r. (o : Bool) → AdmitsConstraint o met.met → AdmitsFormulas o whole → AdmitsConstraint o r) (λ r. (o : Bool) → AdmitsFormulas o whole → AdmitsConstraint o r) (λ r admits o a. admits o (met.ensures.operators o (literals.ensures.operators o (cube.ensures.operators o a)) a) a) c.meet_parts-2.ensures.operators;
    }

pub any_of-under_names-requires : goal.any_of-under_names-requires
any_of-under_names-requires g t c =
    let whole = formulas_of (views c.args.parts.now) in
    let items = c.as_slice-part-items.result.now in
    let below : c.loop-part.part-index < length items = omega arith in
    let h = formula_within _ _ _ _ c.as_slice-part-items.ensures below c.part-item.is in
    let fits = part_fits c.args.size c.args.free c.args.bound.now whole items c.loop-part.part-index c.part-item.result below c.part-item.is c.loop-part.found c.loop-part.invariant.parts in
    let admitted = part_admitted c.args.size c.args.free c.args.bound.now whole items c.loop-part.part-index c.part-item.result below c.part-item.is c.loop-part.found c.loop-part.invariant.parts g.T.Structure.ordered c.requires.operators in
    λ κs outlives. (omega (arith, h), (outlives, (c.requires.names, (fits, admitted))))

pub any_of-loop-part-preserved : goal.any_of-loop-part-preserved
any_of-loop-part-preserved g t c =
    let whole = formulas_of (views c.args.parts.now) in
    let items = c.as_slice-part-items.result.now in
    let part = c.in_ok-cubes in
    let found : List (List _) = c.append.new.cubes in
    let e = c.in_ok-append.ensures in
    let below : c.loop-part.part-index < length items = omega arith in
    record {
      truth = any_go_on c.args.size c.args.free c.args.bound.now whole items c.loop-part.part-index c.part-item.result below c.part-item.is c.loop-part.found part.cubes found c.loop-part.invariant.truth part.ensures.truth e;
      parts = parts_go_on c.args.size c.args.free c.args.bound.now whole items c.loop-part.part-index c.part-item.result below c.part-item.is c.loop-part.found found c.loop-part.invariant.parts (appended_obeys (CubeFits c.args.size) c.loop-part.found part.cubes found e c.loop-part.invariant.parts.levels part.ensures.levels) (λ o before admitted. appended_obeys (AdmitsCube o) c.loop-part.found part.cubes found e before (part.ensures.operators o admitted));
    }

pub any_of-returns-then-is_everywhere : goal.any_of-returns-then-is_everywhere
any_of-returns-then-is_everywhere g t c =
    let whole = formulas_of (views c.args.parts.now) in
    let items = c.as_slice-part-items.result.now in
    let part = c.in_ok-cubes in
    let below : c.loop-part.part-index < length items = omega arith in
    record {
      truth = any_everywhere c.args.size c.args.free c.args.bound.now whole items c.loop-part.part-index c.part-item.result below c.part-item.is c.loop-part.found part.cubes c.loop-part.invariant.truth part.ensures.truth (c.is_everywhere.ensures c.if-is_everywhere.true);
      levels = part.ensures.levels;
      operators = λ o h. part.ensures.operators o (part_admitted c.args.size c.args.free c.args.bound.now whole items c.loop-part.part-index c.part-item.result below c.part-item.is c.loop-part.found c.loop-part.invariant.parts o h);
    }

pub any_of-returns-clause-truth : goal.any_of-returns-clause-truth
any_of-returns-clause-truth g t c =
    let whole = formulas_of (views c.args.parts.now) in
    let items = c.as_slice-part-items.result.now in
    let done : AnySoFar c.args.size c.args.free c.args.bound.now whole no_formulas c.loop-part.found = subst (λ rest. AnySoFar c.args.size c.args.free c.args.bound.now whole rest c.loop-part.found) (no_parts items c.loop-part.part-index (omega arith)) c.loop-part.invariant.truth in
    IfOk-weaker c.prune.result (λ r. (e : List Atom) → holds e r ≡ holds e c.loop-part.found) (AgreesUnder c.args.size c.args.free c.args.bound.now (any whole)) (λ r same. any_end c.args.size c.args.free c.args.bound.now whole c.loop-part.found r done same) c.prune.ensures.truth

pub any_of-returns-clause-levels : goal.any_of-returns-clause-levels
any_of-returns-clause-levels g t c =
    IfOk-weaker c.prune.result (λ r. (n : ℕ) → ConstraintFits n c.loop-part.found → ConstraintFits n r) (ConstraintFits c.args.size) (λ r fits. fits c.args.size c.loop-part.invariant.parts.levels) c.prune.ensures.fits

pub any_of-returns-then-filled-lt2 : goal.any_of-returns-then-filled-lt2
any_of-returns-then-filled-lt2 g t c =
    let whole = formulas_of (views c.args.parts.now) in
    let items = c.as_slice-part-items.result.now in
    let found : List (List Lit) = c.loop-part.found in
    let done : AnySoFar c.args.size c.args.free c.args.bound.now whole no_formulas found = subst (λ rest. AnySoFar c.args.size c.args.free c.args.bound.now whole rest found) (no_parts items c.loop-part.part-index (omega arith)) c.loop-part.invariant.truth in
    record {
      truth = any_end c.args.size c.args.free c.args.bound.now whole found found done (λ e. refl);
      levels = c.loop-part.invariant.parts.levels;
      operators = λ o h. (c.loop-part.invariant.parts.operators o h).0;
    }
