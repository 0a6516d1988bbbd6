use Rattle.std.proofs.Common.{◌≡◌, ◌+◌, ◌<◌, ◌≤◌, ◌^◌, ◌∷◌, ◌++◌, [], inl, inr, Bool, List, length, take, map, not as opposite, if◌then◌else◌, Some, refl, sym, ap, subst, ◌∙◌, arith}
use Rattle.std.proofs.lemmas.List.{take_more}
use Rattle.std.proofs.lemmas.Result.{IfOk-weaker, IfErr-weaker}
use Rattle.std.specs.Prelude.{IfSome}
use Rattle.lois_base.specs.Atom.{Atom}
use Rattle.lois_base.specs.Data.{comp, coll, comps_of}
use Rattle.lois_base.specs.Fits.{ConstraintFits}
use Rattle.lois_base.specs.Tree.{tree as term_tree}
use Rattle.lois_base.specs.Truth.{holds}
use Rattle.lois_base.specs.Validity.{AdmitsConstraint}
use Rattle.lois_base.specs.Values.{point}
use Rattle.lois_algebra.specs.Parts.{part_of}
use Rattle.lois_meaning.specs.Expressions.{Makes, Gives, HasTruth}
use Rattle.lois_meaning.specs.Faults.{Fails, Breaks, SomeFails, CondFails, IsInvalidOperand, IsNoAtom, IsNoAutomaton, IsNoSet}
use Rattle.lois_meaning.specs.declared.faults.Fault.{Fault}
use Rattle.lois_meaning.proofs.Determined.{makes_same, truth_same}
use Rattle.lois_context.specs.Choices.{IsAdmittedBy, AdmitsContext}
use Rattle.lois_context.specs.Entered.{AreEntered}
use Rattle.lois_context.specs.Sides.{IsSide}
use Rattle.lois_base.proofs.Viewed.{one_more}
use Rattle.lois_script.specs.Tree.{tuple, listed, apply, each, part, pos, truth, falsity, same, differ, below, member, included, empty, not}
use Rattle.lois_script.specs.View.{tree, cond_tree, binding_tree, exprs_of, bindings_of, conds_of}
use Rattle.lois_script.specs.Lists.{exprs_list, bindings_list, conds_list}
use Rattle.lois_script.specs.declared.syntax.Cond.{Cond}
use Rattle.lois_script.specs.declared.syntax.Expr.{Expr}
use Rattle.lois_script.proofs.Views.{tree_Tuple, tree_Listed, tree_Apply, tree_Part, tree_Each, cond_Not, cond_True, cond_False, cond_Same, cond_Differ, cond_Below, cond_Member, cond_Included, cond_Empty}
use Rattle.lois_eval.specs.Automata.{IsEmptiness, IsValueFault}
use Rattle.lois_eval.specs.Checks.{IsDepthFault, IsSetFault}
use Rattle.lois_eval.specs.Evaluated.{IsTermOf, AreTermsOf, IsConstraintOf, HasMembersOnlyWhereAdmitted}
use Rattle.lois_eval.specs.Folded.{IsGatheredInside, IsFoundInside, IsFaultInside}
use Rattle.lois_eval.specs.Forms.{each_from, joint, quantifier, two}
use Rattle.lois_eval.specs.Made.{IsPartFault}
use Rattle.lois_eval.specs.Sides.{sides_listed}
use Rattle.lois_eval.specs.WellFormed.{IsWellFormedIn, IsWellFormed, AreWellFormed, CondIsWellFormed}
use Rattle.lois_eval.specs.Throughout.{IfFault, IsFaultOf}
use Rattle.lois_eval.proofs.Bindings.{first_weight, first_new, first_no_set, first_set_fails, first_inside, first_loop, first_within, first_fails, last_none, last_item_placed, last_one, last_within, last_item_fails, bound_new, bound_no_set, bound_inside, bound_loop, bound_fails}
use Rattle.lois_eval.proofs.Comparing.{sides_from, sides_fail}
use Rattle.lois_eval.proofs.Conditions.{joint_none, joint_more, not_decided}
use Rattle.lois_eval.proofs.Emptiness.{empty_decided, empty_fails}
use Rattle.lois_eval.proofs.Evaluations.{fails_nowhere, placed_as, terms_none, terms_more, some_fails, joint_fails, joint_placed}
use Rattle.lois_eval.proofs.FaultsAt.{if_fault, fault_weaker, fault_within}
use Rattle.lois_eval.proofs.Gathering.{gathered_more, found_more}
use Rattle.lois_eval.proofs.LoopExit.{both_faults, err_always, handed_fault, handed_same, handed_ok, item_there, passed_on, term_given}
use Rattle.lois_eval.proofs.Nodes.{part_made, part_fails, made_as, breaks_as, too_deep_fails}
use Rattle.lois_eval.proofs.Parts.{is_expr_of, is_cond_of}
use Rattle.lois_eval.proofs.Plain.{truth_decided, falsity_decided, decided_as, cond_fails_as}
use Rattle.lois_eval.specs.LeftToRight.{IsOfLeftmost, IsOfLeftmostOperand, IsOfLeftmostSide}
use Rattle.lois_eval.proofs.LeftToRight.{values_given, own_fault, fault_of_operand, leftmost_as, sides_leftmost}
use Rattle.lois_eval.proofs.Weights.{weight_of_cond_positive}
use Rattle.lois_eval.proofs.Wholes.{all_longer}
use Rattle.lois_eval.proofs.evaluating.+evaluation.Goals as goal

pub all_decided-loop-part-init : goal.all_decided-loop-part-init
all_decided-loop-part-init g t c =
    record {
      constraint = joint_none c.args.context.now (CondIsWellFormed (joint c.args.every (conds_of (conds_list c.args.parts.now)))) c.args.every c.in_ok-found.found c.in_ok-found.ensures.truth (c.in_ok-found.ensures.levels c.args.context.now.size) c.in_ok-found.ensures.operators;
      asked = g.met.D.Oracle.reaches_itself c.args.decider.now;
    }

pub all_decided-decided-requires : goal.all_decided-decided-requires
all_decided-decided-requires g t c κs within =
    let k = c.args.context.now in
    let cs = conds_of (conds_list c.args.parts.now) in
    let one = c.part-item.result in
    let p = is_cond_of c.as_slice-part-items.result.now (conds_list c.args.parts.now) c.loop-part.part-index one c.as_slice-part-items.ensures.items c.loop-part-test.true c.part-item.is in
    let before = conds_of (map cond_tree (take c.loop-part.part-index c.as_slice-part-items.result.now)) in
    (omega (arith, p.weight), (within.0, (within.1, (c.requires.sound, joint_placed k c.args.every cs before (cond_tree one) g.T.Structure.ordered p c.requires.placed))))

pub all_decided-returns-in_err-one-clause-fault : goal.all_decided-returns-in_err-one-clause-fault
all_decided-returns-in_err-one-clause-fault g t c =
    let k = c.args.context.now in
    let cs = conds_of (conds_list c.args.parts.now) in
    let one = c.part-item.result in
    let p = is_cond_of c.as_slice-part-items.result.now (conds_list c.args.parts.now) c.loop-part.part-index one c.as_slice-part-items.ensures.items c.loop-part-test.true c.part-item.is in
    let before = conds_of (map cond_tree (take c.loop-part.part-index c.as_slice-part-items.result.now)) in
    let S = CondIsWellFormed (joint c.args.every cs) in
    passed_on c.from_residual-in_err-one.result c.in_err-one.field-0.0 (IsFaultOf g.T.Structure.ordered k (CondFails (cond_tree one))) (IsFaultOf g.T.Structure.ordered k (CondFails (joint c.args.every cs))) c.from_residual-in_err-one.ensures.1
    (λ f h. joint_fails k S g.T.Structure.ordered c.args.every cs before c.loop-part.found (cond_tree one) f p c.loop-part.invariant.constraint h) c.in_err-one.ensures.fault

pub all_decided-loop-part-preserved : goal.all_decided-loop-part-preserved
all_decided-loop-part-preserved g t c =
    let k = c.args.context.now in
    let items = c.as_slice-part-items.result.now in
    let i = c.loop-part.part-index in
    let one = c.part-item.result in
    let cs = conds_of (conds_list c.args.parts.now) in
    let S = CondIsWellFormed (joint c.args.every cs) in
    let p = is_cond_of items (conds_list c.args.parts.now) i one c.as_slice-part-items.ensures.items c.loop-part-test.true c.part-item.is in
    let after = c.in_ok-found-2.found in
    let done = c.in_ok-found-2.ensures in
    record {
      constraint =
          subst (λ z. IsConstraintOf k (HasTruth (joint c.args.every (conds_of z))) S after) (sym (one_more cond_tree items i one c.loop-part-test.true c.part-item.is))
          (joint_more k S c.args.every (map cond_tree (take i items)) (cond_tree one) c.loop-part.found c.in_ok-one.one after c.loop-part.invariant.constraint c.in_ok-one.ensures.constraint done.truth done.levels done.operators (λ o h. joint_placed k c.args.every cs (conds_of (map cond_tree (take i items))) (cond_tree one) o p h));
      asked = g.met.D.Oracle.reaches_then c.args.decider.now c.loop-part.decider c.decided.new.decider c.loop-part.invariant.asked c.decided.ensures.asked;
    }

pub all_evaluated-evaluated-requires : goal.all_evaluated-evaluated-requires
all_evaluated-evaluated-requires g t c κs within =
    let k = c.args.context.now in
    let es = exprs_of (exprs_list c.args.es.now) in
    let e = c.e-item.result in
    let p = is_expr_of c.as_slice-e-items.result.now (exprs_list c.args.es.now) c.loop-e.e-index e c.as_slice-e-items.ensures.items c.loop-e-test.true c.e-item.is in
    (omega (arith, p.weight), (within.0, (within.1, (c.requires.sound, placed_as k g.T.Structure.ordered (AreWellFormed es) (IsWellFormed (tree e)) p.stands c.requires.placed))))

pub all_evaluated-returns-in_err-evaluated-clause-fault :
    goal.all_evaluated-returns-in_err-evaluated-clause-fault
all_evaluated-returns-in_err-evaluated-clause-fault g t c =
    let k = c.args.context.now in
    let es = exprs_of (exprs_list c.args.es.now) in
    let e = c.e-item.result in
    let p = is_expr_of c.as_slice-e-items.result.now (exprs_list c.args.es.now) c.loop-e.e-index e c.as_slice-e-items.ensures.items c.loop-e-test.true c.e-item.is in
    let before = exprs_of (map tree (take c.loop-e.e-index c.as_slice-e-items.result.now)) in
    passed_on c.from_residual.result c.in_err-evaluated.field-0.0 (IsFaultOf g.T.Structure.ordered k (Fails (tree e))) (IsFaultOf g.T.Structure.ordered k (SomeFails es)) c.from_residual.ensures.1
    (λ f h. some_fails k (AreWellFormed es) g.T.Structure.ordered es before c.loop-e.values (tree e) f p c.loop-e.invariant.terms h) c.in_err-evaluated.ensures.fault

pub all_evaluated-loop-e-preserved : goal.all_evaluated-loop-e-preserved
all_evaluated-loop-e-preserved g t c =
    let k = c.args.context.now in
    let items = c.as_slice-e-items.result.now in
    let i = c.loop-e.e-index in
    let e = c.e-item.result in
    let S = AreWellFormed (exprs_of (exprs_list c.args.es.now)) in
    let item = is_expr_of items (exprs_list c.args.es.now) i e c.as_slice-e-items.ensures.items c.loop-e-test.true c.e-item.is in
    record {
      terms =
          subst (λ z. AreTermsOf k (exprs_of z) S c.push.new.self) (sym (one_more tree items i e c.loop-e-test.true c.e-item.is))
          (terms_more k S (map tree (take i items)) (tree e) c.loop-e.values c.push.new.self (term_tree c.in_ok-evaluated.field-0) c.loop-e.invariant.terms c.in_ok-evaluated.ensures.term (λ o h. placed_as k o S (IsWellFormed (tree e)) item.stands h) c.in_ok-push.ensures.ok);
      asked = g.met.D.Oracle.reaches_then c.args.decider.now c.loop-e.decider c.evaluated.new.decider c.loop-e.invariant.asked c.evaluated.ensures.asked;
    }

pub both_evaluated-returns-clause-terms : goal.both_evaluated-returns-clause-terms
both_evaluated-returns-clause-terms g t c =
    let k = c.args.context.now in
    let e = tree c.args.e.now in
    let f = tree c.args.f.now in
    let S = AreWellFormed (two e f) in
    let s = term_tree c.in_ok-left.left in
    let t = term_tree c.in_ok-right.right in
    let one = terms_more k S [] e [] (s ∷ []) s (terms_none k S) c.in_ok-left.ensures.term (λ o h. placed_as k o S (IsWellFormed e) (λ o xs h. h.0) h) refl in
    terms_more k S (e ∷ []) f (s ∷ []) (s ∷ t ∷ []) t one c.in_ok-right.ensures.term (λ o h. placed_as k o S (IsWellFormed f) (λ o xs h. h.1.0) h) refl

pub decided-compared-requires-clause-values : goal.decided-compared-requires-clause-values
decided-compared-requires-clause-values g t c =
    let e = c.in-Same.e in
    let f = c.in-Same.f in
    sides_from c.args.context.now (cond_tree c.args.c.now) (same (tree e) (tree f)) (tree e) (tree f) (sides_listed c.in_ok-values-in-Same.values) (ap cond_tree c.in-Same.is ∙ cond_Same e f) refl (λ o xs h. h) c.in_ok-values-in-Same.ensures.terms

pub decided-compared-requires-in-Differ-clause-values :
    goal.decided-compared-requires-in-Differ-clause-values
decided-compared-requires-in-Differ-clause-values g t c =
    let e = c.in-Differ.e in
    let f = c.in-Differ.f in
    sides_from c.args.context.now (cond_tree c.args.c.now) (differ (tree e) (tree f)) (tree e) (tree f) (sides_listed c.in_ok-values-in-Differ.values) (ap cond_tree c.in-Differ.is ∙ cond_Differ e f) refl (λ o xs h. h) c.in_ok-values-in-Differ.ensures.terms

pub decided-compared-requires-in-Below-clause-values :
    goal.decided-compared-requires-in-Below-clause-values
decided-compared-requires-in-Below-clause-values g t c =
    let e = c.in-Below.e in
    let f = c.in-Below.f in
    let p = c.in-Below.field-0 in
    sides_from c.args.context.now (cond_tree c.args.c.now) (below p.offset (tree e) (tree f)) (tree e) (tree f) (sides_listed c.in_ok-values-in-Below.values) (ap cond_tree c.in-Below.is ∙ cond_Below p e f) refl (λ o xs h. (h.1, h.2)) c.in_ok-values-in-Below.ensures.terms

pub decided-compared-requires-in-Member-clause-values :
    goal.decided-compared-requires-in-Member-clause-values
decided-compared-requires-in-Member-clause-values g t c =
    let e = c.in-Member.e in
    let f = c.in-Member.f in
    sides_from c.args.context.now (cond_tree c.args.c.now) (member (tree e) (tree f)) (tree e) (tree f) (sides_listed c.in_ok-values-in-Member.values) (ap cond_tree c.in-Member.is ∙ cond_Member e f) refl (λ o xs h. h) c.in_ok-values-in-Member.ensures.terms

pub decided-compared-requires-in-Included-clause-values :
    goal.decided-compared-requires-in-Included-clause-values
decided-compared-requires-in-Included-clause-values g t c =
    let e = c.in-Included.e in
    let f = c.in-Included.f in
    sides_from c.args.context.now (cond_tree c.args.c.now) (included (tree e) (tree f)) (tree e) (tree f) (sides_listed c.in_ok-values-in-Included.values) (ap cond_tree c.in-Included.is ∙ cond_Included e f) refl (λ o xs h. h) c.in_ok-values-in-Included.ensures.terms

pub decided-wordless-requires : goal.decided-wordless-requires
decided-wordless-requires g t c =
    let own = c.in_ok-evaluated-in-Empty.ensures.term in
    let e = c.in-Empty.e in
    let is = ap cond_tree c.in-Empty.is ∙ cond_Empty e in
    let o = g.T.Structure.ordered in
    let placed = subst (λ z. IsWellFormedIn (CondIsWellFormed z) o c.args.context.now) is c.requires.placed in
    record {
      sound = c.requires.sound;
      given = own.value;
      over = record {
        levels = own.levels;
        operators = own.operators o (record { names = placed.names; operators = placed.operators });
      };
      context_operators = placed.operators;
    }

pub decided-returns-in_ok-evaluated-in-Empty-clause-constraint :
    goal.decided-returns-in_ok-evaluated-in-Empty-clause-constraint
decided-returns-in_ok-evaluated-in-Empty-clause-constraint g t c =
    let k = c.args.context.now in
    let e = c.in-Empty.e in
    let u = term_tree c.in_ok-evaluated-in-Empty.field-0 in
    let is = ap cond_tree c.in-Empty.is ∙ cond_Empty e in
    IfOk-weaker c.wordless.result (IsEmptiness k u) _ (λ r h. decided_as k (cond_tree c.args.c.now) (empty (tree e)) r is (empty_decided k u (tree e) c.in_ok-evaluated-in-Empty.ensures.term r h)) c.wordless.ensures.emptiness

pub decided-returns-in_ok-evaluated-in-Empty-clause-fault :
    goal.decided-returns-in_ok-evaluated-in-Empty-clause-fault
decided-returns-in_ok-evaluated-in-Empty-clause-fault g t c =
    let k = c.args.context.now in
    let e = c.in-Empty.e in
    let u = term_tree c.in_ok-evaluated-in-Empty.field-0 in
    let is = ap cond_tree c.in-Empty.is ∙ cond_Empty e in
    let P = IsValueFault g.T.Structure.ordered k IsNoAutomaton u (pos (tree e)) in
    IfErr-weaker c.wordless.result (λ s. IfFault s P) _ (λ s h. if_fault s P (IsFaultOf g.T.Structure.ordered k (CondFails (cond_tree c.args.c.now))) (λ f bad. cond_fails_as g.T.Structure.ordered k (cond_tree c.args.c.now) (empty (tree e)) f is (empty_fails k u (tree e) c.in_ok-evaluated-in-Empty.ensures.term g.T.Structure.ordered f c.requires.placed.operators bad)) h) c.wordless.ensures.fault

pub decided-returns-in_ok-unit-in-True-clause-constraint :
    goal.decided-returns-in_ok-unit-in-True-clause-constraint
decided-returns-in_ok-unit-in-True-clause-constraint g t c =
    let k = c.args.context.now in
    let r = c.in_ok-unit-in-True.field-0 in
    decided_as k (cond_tree c.args.c.now) truth r (ap cond_tree c.in-True.is ∙ cond_True) (truth_decided k r c.in_ok-unit-in-True.ensures.truth c.in_ok-unit-in-True.ensures.levels c.in_ok-unit-in-True.ensures.operators)

pub decided-returns-in_ok-unit-in-False-clause-constraint :
    goal.decided-returns-in_ok-unit-in-False-clause-constraint
decided-returns-in_ok-unit-in-False-clause-constraint g t c =
    let k = c.args.context.now in
    let r = c.in_ok-unit-in-False.field-0 in
    decided_as k (cond_tree c.args.c.now) falsity r (ap cond_tree c.in-False.is ∙ cond_False) (falsity_decided k r c.in_ok-unit-in-False.ensures.truth c.in_ok-unit-in-False.ensures.levels c.in_ok-unit-in-False.ensures.operators)

pub decided-returns-in_ok-negate-in-Not-clause-constraint :
    goal.decided-returns-in_ok-negate-in-Not-clause-constraint
decided-returns-in_ok-negate-in-Not-clause-constraint g t c =
    let k = c.args.context.now in
    let negated = c.in-Not.negated in
    let r = c.in_ok-negate-in-Not.field-0 in
    let done = c.in_ok-negate-in-Not.ensures in
    let held = subst (λ (z : Cond). IsConstraintOf k (HasTruth (cond_tree z)) (CondIsWellFormed (cond_tree z)) c.in_ok-held-in-Not.held) c.deref.ensures c.in_ok-held-in-Not.ensures.constraint in
    decided_as k (cond_tree c.args.c.now) (not (cond_tree negated.value)) r (ap cond_tree c.in-Not.is ∙ cond_Not negated)
    (not_decided k (cond_tree negated.value) c.in_ok-held-in-Not.held r held done.truth (done.fits k.size held.levels) done.operators)

pub evaluated-returns-clause-term : goal.evaluated-returns-clause-term
evaluated-returns-clause-term g t c =
    term_given c.args.context.now (tree c.args.e.now) (term_tree c.in_ok-made.field-0) c.shallow.result c.in_ok-made.ensures.term c.shallow.ensures.same c.shallow.ensures.shallow

pub evaluated-returns-clause-fault : goal.evaluated-returns-clause-fault
evaluated-returns-clause-fault g t c =
    let k = c.args.context.now in
    let e = tree c.args.e.now in
    let m = term_tree c.in_ok-made.field-0 in
    IfErr-weaker c.shallow.result (λ s. IfFault s (IsDepthFault g.T.Structure.ordered k m c.pos-pos.result.offset)) _ (λ s h. if_fault s (IsDepthFault g.T.Structure.ordered k m c.pos-pos.result.offset) (IsFaultOf g.T.Structure.ordered k (Fails e)) (λ f d. too_deep_fails k g.T.Structure.ordered e m f c.requires.placed.operators c.in_ok-made.ensures.term (subst (λ z. IsDepthFault g.T.Structure.ordered k m z f) c.pos-pos.ensures.first_token d)) h) c.shallow.ensures.fault

pub found_inside-returns-in_err-held-clause-fault :
    goal.found_inside-returns-in_err-held-clause-fault
found_inside-returns-in_err-held-clause-fault g t c =
    let d = c.context-item.result in
    let fails = CondFails (cond_tree c.args.body.now) in
    passed_on c.from_residual.result c.in_err-held.field-0.0 (IsFaultOf g.T.Structure.ordered d fails) (IsFaultInside g.T.Structure.ordered c.args.inner.now fails) c.from_residual.ensures.1 (λ f h. (d, item_there c.args.inner.now c.loop-context.context-index d c.loop-context-test.true c.context-item.is, h)) c.in_err-held.ensures.fault

pub found_inside-loop-context-preserved : goal.found_inside-loop-context-preserved
found_inside-loop-context-preserved g t c =
    let inner = c.args.inner.now in
    let i = c.loop-context.context-index in
    let d = c.context-item.result in
    let b = cond_tree c.args.body.now in
    let r = c.in_ok-found.ensures.found in
    let own = c.in_ok-held.ensures.constraint in
    let more : take (i + 1) inner ≡ take i inner ++ d ∷ [] = take_more inner i d c.loop-context-test.true ∙ ap (λ z. take i inner ++ z ∷ []) (sym c.context-item.is) in
    let longer : c.args.size ≤ d.size = subst (λ z. c.args.size ≤ z.size) (sym c.context-item.is) (c.requires.sizes i d c.loop-context-test.true) in
    record {
      constraint =
          subst (λ z. IsFoundInside c.args.size (HasTruth b) c.args.wanted (CondIsWellFormed b) z c.in_ok-found.found) (sym more)
          (found_more c.args.size (HasTruth b) c.args.wanted (CondIsWellFormed b) (truth_same b) (take i inner) c.loop-context.found d c.in_ok-held.held r.there r.some c.in_ok-found.found c.loop-context.invariant.constraint longer own r.sought r.bound r.joined (r.levels c.loop-context.invariant.constraint.levels) (λ o a p. r.operators o a (own.operators o p) p.operators));
      asked = g.met.D.Oracle.reaches_then c.args.decider.now c.loop-context.decider c.decided.new.decider c.loop-context.invariant.asked c.decided.ensures.asked;
    }

pub gathered-entered-requires-clause-new_name : goal.gathered-entered-requires-clause-new_name
gathered-entered-requires-clause-new_name g t c =
    let k = c.args.context.now in
    let item = c.args.item.now in
    let bs = c.args.bindings.now in
    let i = c.args.from in
    let cond = c.args.condition.now in
    let b = c.index-bindings-from.result in
    let l : i < length bs = omega arith in
    let is = c.index-bindings-from.is in
    first_new k item bs i b cond l is g.T.Structure.ordered c.requires.placed

pub gathered-returns-in_err-inner-clause-fault : goal.gathered-returns-in_err-inner-clause-fault
gathered-returns-in_err-inner-clause-fault g t c =
    let k = c.args.context.now in
    let item = c.args.item.now in
    let bs = c.args.bindings.now in
    let i = c.args.from in
    let cond = c.args.condition.now in
    let b = c.index-bindings-from.result in
    let l : i < length bs = omega arith in
    let is = c.index-bindings-from.is in
    let t = term_tree c.in_ok-elements.elements in
    passed_on c.from_residual-in_err-inner.result c.in_err-inner.field-0.0 (IsSetFault k t c.pos.result.offset) (IsFaultOf g.T.Structure.ordered k (Breaks (each_from item bs i cond))) c.from_residual-in_err-inner.ensures.1 (λ f h. first_no_set k item bs i b cond l is t c.in_ok-elements.ensures.term g.T.Structure.ordered f c.requires.placed.operators (subst (λ z. IsSetFault k t z f) c.pos.ensures.first_token h)) c.in_err-inner.ensures.fault

pub gathered-gathered_inside-requires : goal.gathered-gathered_inside-requires
gathered-gathered_inside-requires g t c κs within =
    let k = c.args.context.now in
    let item = c.args.item.now in
    let bs = c.args.bindings.now in
    let i = c.args.from in
    let cond = c.args.condition.now in
    let b = c.index-bindings-from.result in
    let l : i < length bs = omega arith in
    let is = c.index-bindings-from.is in
    let t = term_tree c.in_ok-elements.elements in
    let ds = c.deref.result.now in
    let set = c.in_ok-inner.ensures.set in
    let entered = subst (AreEntered k b.name t) (sym c.deref.ensures.value) c.in_ok-inner.ensures.entered in
    (let w = first_weight k item bs i b cond l is in omega (arith, w), (within.0, (within.1, (c.requires.sound, (omega arith, (all_longer k b.name t ds set entered, first_inside k item bs i b cond l is t c.in_ok-elements.ensures.term ds set entered g.T.Structure.ordered c.requires.placed))))))

pub gathered-returns-clause-term : goal.gathered-returns-clause-term
gathered-returns-clause-term g t c =
    let k = c.args.context.now in
    let item = c.args.item.now in
    let bs = c.args.bindings.now in
    let i = c.args.from in
    let cond = c.args.condition.now in
    let b = c.index-bindings-from.result in
    let l : i < length bs = omega arith in
    let is = c.index-bindings-from.is in
    let t = term_tree c.in_ok-elements.elements in
    let ds = c.deref.result.now in
    handed_same c.leave_loop_with_comps.result c.gathered_inside.result (λ r. IsGatheredInside k.size (Makes (each_from item bs (i + 1) cond)) (IsWellFormed (each_from item bs (i + 1) cond)) ds (comps_of r)) (λ r. IsTermOf k (Makes (each_from item bs i cond)) (IsWellFormed (each_from item bs i cond)) (coll (comps_of r)))
    c.leave_loop_with_comps.ensures.ok c.gathered_inside.ensures.comps (λ r h. first_loop k item bs i b cond l is t c.in_ok-elements.ensures.term ds c.in_ok-inner.ensures.set (subst (AreEntered k b.name t) (sym c.deref.ensures.value) c.in_ok-inner.ensures.entered) (comps_of r) h)

pub gathered-returns-clause-within : goal.gathered-returns-clause-within
gathered-returns-clause-within g t c =
    let k = c.args.context.now in
    let item = c.args.item.now in
    let bs = c.args.bindings.now in
    let i = c.args.from in
    let cond = c.args.condition.now in
    let b = c.index-bindings-from.result in
    let l : i < length bs = omega arith in
    let is = c.index-bindings-from.is in
    let t = term_tree c.in_ok-elements.elements in
    let ds = c.deref.result.now in
    handed_same c.leave_loop_with_comps.result c.gathered_inside.result (λ r. IsGatheredInside k.size (Makes (each_from item bs (i + 1) cond)) (IsWellFormed (each_from item bs (i + 1) cond)) ds (comps_of r)) (λ r. HasMembersOnlyWhereAdmitted k (coll (comps_of r)))
    c.leave_loop_with_comps.ensures.ok c.gathered_inside.ensures.comps (λ r h. first_within k item bs i b cond l is t c.in_ok-elements.ensures.term ds c.in_ok-inner.ensures.set (subst (AreEntered k b.name t) (sym c.deref.ensures.value) c.in_ok-inner.ensures.entered) (comps_of r) h)

pub gathered-returns-clause-fault : goal.gathered-returns-clause-fault
gathered-returns-clause-fault g t c =
    let k = c.args.context.now in
    let item = c.args.item.now in
    let bs = c.args.bindings.now in
    let i = c.args.from in
    let cond = c.args.condition.now in
    let b = c.index-bindings-from.result in
    let l : i < length bs = omega arith in
    let is = c.index-bindings-from.is in
    let t = term_tree c.in_ok-elements.elements in
    let ds = c.deref.result.now in
    handed_fault c.leave_loop_with_comps.result c.gathered_inside.result k.size (IsFaultInside g.T.Structure.ordered ds (Breaks (each_from item bs (i + 1) cond))) (IsFaultOf g.T.Structure.ordered k (Breaks (each_from item bs i cond))) c.leave_loop_with_comps.ensures.fault c.gathered_inside.ensures.fault (λ f h inside cut. first_fails k item bs i b cond l is t c.in_ok-elements.ensures.term ds c.in_ok-inner.ensures.set (subst (AreEntered k b.name t) (sym c.deref.ensures.value) c.in_ok-inner.ensures.entered) g.T.Structure.ordered f h inside cut)

pub gathered_here-returns-in_default-clause-term :
    goal.gathered_here-returns-in_default-clause-term
gathered_here-returns-in_default-clause-term g t c =
    let k = c.args.context.now in
    let item = c.args.item.now in
    let bs = c.args.bindings.now in
    let cond = c.args.condition.now in
    let wanted = c.in_ok-wanted.wanted in
    let held = c.in_ok-wanted.ensures.constraint in
    last_none k item bs cond wanted held (λ a p h. subst (λ o. IsAdmittedBy a o) c.in_default.is ((c.in_ok-here.ensures.choices a).1 (p, h))) (coll (comps_of c.new.result)) (ap (λ z. coll (comps_of z)) c.new.ensures)

pub gathered_here-evaluated-requires : goal.gathered_here-evaluated-requires
gathered_here-evaluated-requires g t c κs within =
    let k = c.args.context.now in
    let item = c.args.item.now in
    let bs = c.args.bindings.now in
    let cond = c.args.condition.now in
    let wanted = c.in_ok-wanted.wanted in
    let held = c.in_ok-wanted.ensures.constraint in
    let d = c.in-Some.here in
    let side = subst (λ o. IfSome o (IsSide k (λ a. holds a wanted))) c.in-Some.is c.in_ok-here.ensures.side in
    let kept = λ (o : Bool) (p : AdmitsContext o k) (q : AdmitsConstraint o wanted). subst (λ z. IfSome z (AdmitsContext o)) c.in-Some.is (c.in_ok-here.ensures.operators o p q) in
    (omega (arith, weight_of_cond_positive (cond_tree cond)), (within.0, (within.1, (c.requires.sound, last_item_placed k item bs cond wanted held d side kept g.T.Structure.ordered c.requires.placed))))

pub gathered_here-returns-in_err-evaluated-clause-fault :
    goal.gathered_here-returns-in_err-evaluated-clause-fault
gathered_here-returns-in_err-evaluated-clause-fault g t c =
    let k = c.args.context.now in
    let item = c.args.item.now in
    let bs = c.args.bindings.now in
    let cond = c.args.condition.now in
    let wanted = c.in_ok-wanted.wanted in
    let held = c.in_ok-wanted.ensures.constraint in
    let d = c.in-Some.here in
    let side = subst (λ o. IfSome o (IsSide k (λ a. holds a wanted))) c.in-Some.is c.in_ok-here.ensures.side in
    let kept = λ (o : Bool) (p : AdmitsContext o k) (q : AdmitsConstraint o wanted). subst (λ z. IfSome z (AdmitsContext o)) c.in-Some.is (c.in_ok-here.ensures.operators o p q) in
    passed_on c.from_residual-in_err-evaluated.result c.in_err-evaluated.field-0.0 (IsFaultOf g.T.Structure.ordered d (Fails (tree item))) (IsFaultOf g.T.Structure.ordered k (Breaks (each_from item bs (length bs) cond))) c.from_residual-in_err-evaluated.ensures.1 (λ f h. last_item_fails k item bs cond wanted held d side kept g.T.Structure.ordered f h) c.in_err-evaluated.ensures.fault

pub gathered_here-returns-clause-term : goal.gathered_here-returns-clause-term
gathered_here-returns-clause-term g t c =
    let k = c.args.context.now in
    let item = c.args.item.now in
    let bs = c.args.bindings.now in
    let cond = c.args.condition.now in
    let wanted = c.in_ok-wanted.wanted in
    let held = c.in_ok-wanted.ensures.constraint in
    let d = c.in-Some.here in
    let side = subst (λ o. IfSome o (IsSide k (λ a. holds a wanted))) c.in-Some.is c.in_ok-here.ensures.side in
    let kept = λ (o : Bool) (p : AdmitsContext o k) (q : AdmitsConstraint o wanted). subst (λ z. IfSome z (AdmitsContext o)) c.in-Some.is (c.in_ok-here.ensures.operators o p q) in
    let t = term_tree c.in_ok-evaluated.field-0 in
    let room : k.size < 2 ^ 64 = omega arith in
    IfOk-weaker c.singleton_set.result (λ r. r ≡ comp 0 d.«when» t ∷ []) _ (λ r is. last_one k item bs cond wanted held d side kept t (comps_of r) c.in_ok-evaluated.ensures.term room (ap comps_of is)) c.singleton_set.ensures.ok

pub gathered_here-returns-clause-within : goal.gathered_here-returns-clause-within
gathered_here-returns-clause-within g t c =
    let k = c.args.context.now in
    let item = c.args.item.now in
    let bs = c.args.bindings.now in
    let cond = c.args.condition.now in
    let wanted = c.in_ok-wanted.wanted in
    let held = c.in_ok-wanted.ensures.constraint in
    let d = c.in-Some.here in
    let side = subst (λ o. IfSome o (IsSide k (λ a. holds a wanted))) c.in-Some.is c.in_ok-here.ensures.side in
    let kept = λ (o : Bool) (p : AdmitsContext o k) (q : AdmitsConstraint o wanted). subst (λ z. IfSome z (AdmitsContext o)) c.in-Some.is (c.in_ok-here.ensures.operators o p q) in
    let t = term_tree c.in_ok-evaluated.field-0 in
    IfOk-weaker c.singleton_set.result (λ r. r ≡ comp 0 d.«when» t ∷ []) _ (λ r is. last_within k item bs cond wanted held d side kept t (comps_of r) c.in_ok-evaluated.ensures.term (ap comps_of is)) c.singleton_set.ensures.ok

pub gathered_inside-returns-in_err-more-clause-fault :
    goal.gathered_inside-returns-in_err-more-clause-fault
gathered_inside-returns-in_err-more-clause-fault g t c =
    let d = c.context-item.result in
    let fails = Breaks (each_from c.args.item.now c.args.bindings.now c.args.from c.args.condition.now) in
    passed_on c.from_residual.result c.in_err-more.field-0.0 (IsFaultOf g.T.Structure.ordered d fails) (IsFaultInside g.T.Structure.ordered c.args.inner.now fails) c.from_residual.ensures.1 (λ f h. (d, item_there c.args.inner.now c.loop-context.context-index d c.loop-context-test.true c.context-item.is, h)) c.in_err-more.ensures.fault

pub gathered_inside-loop-context-preserved : goal.gathered_inside-loop-context-preserved
gathered_inside-loop-context-preserved g t c =
    let inner = c.args.inner.now in
    let i = c.loop-context.context-index in
    let d = c.context-item.result in
    let e = each_from c.args.item.now c.args.bindings.now c.args.from c.args.condition.now in
    let more : take (i + 1) inner ≡ take i inner ++ d ∷ [] = take_more inner i d c.loop-context-test.true ∙ ap (λ z. take i inner ++ z ∷ []) (sym c.context-item.is) in
    let longer : c.args.size ≤ d.size = subst (λ z. c.args.size ≤ z.size) (sym c.context-item.is) (c.requires.sizes i d c.loop-context-test.true) in
    record {
      comps =
          subst (λ z. IsGatheredInside c.args.size (Makes e) (IsWellFormed e) z (comps_of c.put_outward.new.comps)) (sym more)
          (gathered_more c.args.size (Makes e) (IsWellFormed e) (makes_same e) (take i inner) c.loop-context.comps d c.in_ok-more.more c.put_outward.new.comps c.loop-context.invariant.comps longer c.in_ok-more.ensures.term c.in_ok-more.ensures.within c.in_ok-put_outward.ensures);
      asked = g.met.D.Oracle.reaches_then c.args.decider.now c.loop-context.decider c.gathered.new.decider c.loop-context.invariant.asked c.gathered.ensures.asked;
    }

pub made-returns-in_ok-gathered-in-Each-clause-term :
    goal.made-returns-in_ok-gathered-in-Each-clause-term
made-returns-in_ok-gathered-in-Each-clause-term g t c =
    let k = c.args.context.now in
    let p = c.in-Each.field-0 in
    let item = c.in-Each.item in
    let bindings = c.in-Each.bindings in
    let cond = c.in-Each.condition in
    let t = coll (comps_of c.in_ok-gathered-in-Each.field-0) in
    let is = ap tree c.in-Each.is ∙ tree_Each p item bindings cond in
    let Made : Expr → Cond → Type 0 = λ e d. IsTermOf k (Makes (each_from e c.as_slice.result.now 0 d)) (IsWellFormed (each_from e c.as_slice.result.now 0 d)) t in
    let made = subst (λ e. Made e cond.value) c.deref.ensures (subst (λ d. Made c.deref.result.now d) c.deref-in-Each.ensures c.in_ok-gathered-in-Each.ensures.term) in
    made_as k (tree c.args.e.now) (each p.offset (tree item.value) (bindings_of (bindings_list bindings)) (cond_tree cond.value)) t is
    (subst (λ z. IsTermOf k (Makes (each p.offset (tree item.value) (bindings_of z) (cond_tree cond.value))) (IsWellFormed (each p.offset (tree item.value) (bindings_of z) (cond_tree cond.value))) t) c.as_slice.ensures.items made)

pub made-returns-in_ok-evaluated-in-Part-clause-term :
    goal.made-returns-in_ok-evaluated-in-Part-clause-term
made-returns-in_ok-evaluated-in-Part-clause-term g t c =
    let k = c.args.context.now in
    let p = c.in-Part.field-0 in
    let whole = c.in-Part.whole in
    let n = c.in-Part.n in
    let u = term_tree c.in_ok-evaluated-in-Part.field-0 in
    let is = ap tree c.in-Part.is ∙ tree_Part p whole n in
    let own = subst (λ (z : Expr). IsTermOf k (Gives (tree z)) (IsWellFormed (tree z)) u) c.deref-in-Part-2.ensures c.in_ok-evaluated-in-Part.ensures.term in
    IfOk-weaker c.part.result (λ r. part_of u n ≡ Some (term_tree r)) _ (λ r found. made_as k (tree c.args.e.now) (part p.offset (tree whole.value) n) (term_tree r) is (part_made k p.offset (tree whole.value) n u (term_tree r) own found)) c.part.ensures.part

pub made-returns-in_ok-evaluated-in-Part-clause-fault :
    goal.made-returns-in_ok-evaluated-in-Part-clause-fault
made-returns-in_ok-evaluated-in-Part-clause-fault g t c =
    let k = c.args.context.now in
    let p = c.in-Part.field-0 in
    let whole = c.in-Part.whole in
    let n = c.in-Part.n in
    let u = term_tree c.in_ok-evaluated-in-Part.field-0 in
    let is = ap tree c.in-Part.is ∙ tree_Part p whole n in
    let own = subst (λ (z : Expr). IsTermOf k (Gives (tree z)) (IsWellFormed (tree z)) u) c.deref-in-Part-2.ensures c.in_ok-evaluated-in-Part.ensures.term in
    IfErr-weaker c.part.result (λ s. IfFault s (IsPartFault k u n c.pos-pos.result.offset)) _ (λ s h. if_fault s (IsPartFault k u n c.pos-pos.result.offset) (IsFaultOf g.T.Structure.ordered k (Breaks (tree c.args.e.now))) (λ f d. breaks_as g.T.Structure.ordered k (tree c.args.e.now) (part p.offset (tree whole.value) n) f is (part_fails g.T.Structure.ordered k p.offset (tree whole.value) n u f c.requires.placed.operators own (subst (λ z. IsPartFault k u n z f) (c.pos-pos.ensures.first_token ∙ ap (λ (z : Expr). pos (tree z)) c.deref-in-Part.ensures) d))) h) c.part.ensures.fault

pub quantified-entered-requires-clause-new_name : goal.quantified-entered-requires-clause-new_name
quantified-entered-requires-clause-new_name g t c =
    let k = c.args.context.now in
    let b = c.args.binding.now in
    let body = c.args.body.now in
    let some = c.args.some in
    bound_new k some b body g.T.Structure.ordered c.requires.placed

pub quantified-returns-in_err-inner-clause-fault :
    goal.quantified-returns-in_err-inner-clause-fault
quantified-returns-in_err-inner-clause-fault g t c =
    let k = c.args.context.now in
    let b = c.args.binding.now in
    let body = c.args.body.now in
    let some = c.args.some in
    let t = term_tree c.in_ok-elements.elements in
    passed_on c.from_residual-in_err-inner.result c.in_err-inner.field-0.0 (IsSetFault k t c.pos.result.offset) (IsFaultOf g.T.Structure.ordered k (CondFails (quantifier some (binding_tree b) (cond_tree body)))) c.from_residual-in_err-inner.ensures.1 (λ f h. bound_no_set k some b body t c.in_ok-elements.ensures.term g.T.Structure.ordered f c.requires.placed.operators (subst (λ z. IsSetFault k t z f) c.pos.ensures.first_token h)) c.in_err-inner.ensures.fault

pub quantified-found_inside-requires : goal.quantified-found_inside-requires
quantified-found_inside-requires g t c κs within =
    let k = c.args.context.now in
    let b = c.args.binding.now in
    let body = c.args.body.now in
    let some = c.args.some in
    let t = term_tree c.in_ok-elements.elements in
    let ds = c.deref.result.now in
    let set = c.in_ok-inner.ensures.set in
    let entered = subst (AreEntered k b.name t) (sym c.deref.ensures.value) c.in_ok-inner.ensures.entered in
    let own = c.in_ok-elements.ensures.term in
    (omega arith, (within.0, (within.1, (c.requires.sound, (all_longer k b.name t ds set entered, bound_inside k some b body t own ds set entered g.T.Structure.ordered c.requires.placed)))))

pub quantified-returns-clause-constraint : goal.quantified-returns-clause-constraint
quantified-returns-clause-constraint g t c =
    let k = c.args.context.now in
    let b = c.args.binding.now in
    let body = c.args.body.now in
    let some = c.args.some in
    let t = term_tree c.in_ok-elements.elements in
    let ds = c.deref.result.now in
    let set = c.in_ok-inner.ensures.set in
    let entered = subst (AreEntered k b.name t) (sym c.deref.ensures.value) c.in_ok-inner.ensures.entered in
    let own = c.in_ok-elements.ensures.term in
    handed_ok c.leave_loop_with_constraint.result c.found_inside.result (λ r f. (a : List Atom) → holds a r ≡ (if some then holds a f else opposite (holds a f))) (λ r f. ConstraintFits k.size f → ConstraintFits k.size r) (λ r f. (o : Bool) → AdmitsConstraint o f → AdmitsConstraint o r)
    (IsFoundInside k.size (HasTruth (cond_tree body)) some (CondIsWellFormed (cond_tree body)) ds) (IsConstraintOf k (HasTruth (quantifier some (binding_tree b) (cond_tree body))) (CondIsWellFormed (quantifier some (binding_tree b) (cond_tree body))))
    c.leave_loop_with_constraint.ensures.truth c.leave_loop_with_constraint.ensures.levels c.leave_loop_with_constraint.ensures.operators c.found_inside.ensures.constraint
    (λ r f holding levels operators found. bound_loop k some b body t own ds set entered f r found holding (levels found.levels) operators)

pub quantified-returns-clause-fault : goal.quantified-returns-clause-fault
quantified-returns-clause-fault g t c =
    let k = c.args.context.now in
    let b = c.args.binding.now in
    let body = c.args.body.now in
    let some = c.args.some in
    let t = term_tree c.in_ok-elements.elements in
    let ds = c.deref.result.now in
    let set = c.in_ok-inner.ensures.set in
    let entered = subst (AreEntered k b.name t) (sym c.deref.ensures.value) c.in_ok-inner.ensures.entered in
    let own = c.in_ok-elements.ensures.term in
    handed_fault c.leave_loop_with_constraint.result c.found_inside.result k.size (IsFaultInside g.T.Structure.ordered ds (CondFails (cond_tree body))) (IsFaultOf g.T.Structure.ordered k (CondFails (quantifier some (binding_tree b) (cond_tree body)))) c.leave_loop_with_constraint.ensures.fault c.found_inside.ensures.fault (λ f h there cut. bound_fails k some b body t own ds set entered g.T.Structure.ordered f h there cut)

pub both_evaluated-returns-in_err-right-clause-fault :
    goal.both_evaluated-returns-in_err-right-clause-fault
both_evaluated-returns-in_err-right-clause-fault g t c =
    let k = c.args.context.now in
    let e = tree c.args.e.now in
    let f = tree c.args.f.now in
    let s = term_tree c.in_ok-left.left in
    passed_on c.from_residual-in_err-right.result c.in_err-right.field-0.0 (IsFaultOf g.T.Structure.ordered k (Fails f)) (IsFaultOf g.T.Structure.ordered k (SomeFails (two e f))) c.from_residual-in_err-right.ensures.1
    (λ x h. fault_within g.T.Structure.ordered k (Fails f) (SomeFails (two e f)) x (λ d a at kind bad. inr (point s d, c.in_ok-left.ensures.term.value d a, inl bad)) h) c.in_err-right.ensures.fault

pub decided-returns-in_err-values-in-Same-clause-fault :
    goal.decided-returns-in_err-values-in-Same-clause-fault
decided-returns-in_err-values-in-Same-clause-fault g t c =
    let k = c.args.context.now in
    let e = c.in-Same.e in
    let f = c.in-Same.f in
    passed_on c.from_residual-in_err-values-in-Same.result c.in_err-values-in-Same.field-0.0 (IsFaultOf g.T.Structure.ordered k (SomeFails (two (tree e) (tree f)))) (IsFaultOf g.T.Structure.ordered k (CondFails (cond_tree c.args.c.now))) c.from_residual-in_err-values-in-Same.ensures.1
    (λ x h. sides_fail g.T.Structure.ordered k (cond_tree c.args.c.now) (same (tree e) (tree f)) (tree e) (tree f) x (ap cond_tree c.in-Same.is ∙ cond_Same e f) (λ s at kind bad. bad) h) c.in_err-values-in-Same.ensures.fault

pub decided-returns-in_err-values-in-Differ-clause-fault :
    goal.decided-returns-in_err-values-in-Differ-clause-fault
decided-returns-in_err-values-in-Differ-clause-fault g t c =
    let k = c.args.context.now in
    let e = c.in-Differ.e in
    let f = c.in-Differ.f in
    passed_on c.from_residual-in_err-values-in-Differ.result c.in_err-values-in-Differ.field-0.0 (IsFaultOf g.T.Structure.ordered k (SomeFails (two (tree e) (tree f)))) (IsFaultOf g.T.Structure.ordered k (CondFails (cond_tree c.args.c.now))) c.from_residual-in_err-values-in-Differ.ensures.1
    (λ x h. sides_fail g.T.Structure.ordered k (cond_tree c.args.c.now) (differ (tree e) (tree f)) (tree e) (tree f) x (ap cond_tree c.in-Differ.is ∙ cond_Differ e f) (λ s at kind bad. bad) h) c.in_err-values-in-Differ.ensures.fault

pub decided-returns-in_err-values-in-Below-clause-fault :
    goal.decided-returns-in_err-values-in-Below-clause-fault
decided-returns-in_err-values-in-Below-clause-fault g t c =
    let k = c.args.context.now in
    let e = c.in-Below.e in
    let f = c.in-Below.f in
    passed_on c.from_residual-in_err-values-in-Below.result c.in_err-values-in-Below.field-0.0 (IsFaultOf g.T.Structure.ordered k (SomeFails (two (tree e) (tree f)))) (IsFaultOf g.T.Structure.ordered k (CondFails (cond_tree c.args.c.now))) c.from_residual-in_err-values-in-Below.ensures.1
    (λ x h. sides_fail g.T.Structure.ordered k (cond_tree c.args.c.now) (below c.in-Below.field-0.offset (tree e) (tree f)) (tree e) (tree f) x (ap cond_tree c.in-Below.is ∙ cond_Below c.in-Below.field-0 e f) (λ s at kind bad. elim bad [ inl a ↦ inl a | inr b ↦ inr (inl b) ]) h) c.in_err-values-in-Below.ensures.fault

pub decided-returns-in_err-values-in-Member-clause-fault :
    goal.decided-returns-in_err-values-in-Member-clause-fault
decided-returns-in_err-values-in-Member-clause-fault g t c =
    let k = c.args.context.now in
    let e = c.in-Member.e in
    let f = c.in-Member.f in
    passed_on c.from_residual-in_err-values-in-Member.result c.in_err-values-in-Member.field-0.0 (IsFaultOf g.T.Structure.ordered k (SomeFails (two (tree e) (tree f)))) (IsFaultOf g.T.Structure.ordered k (CondFails (cond_tree c.args.c.now))) c.from_residual-in_err-values-in-Member.ensures.1
    (λ x h. sides_fail g.T.Structure.ordered k (cond_tree c.args.c.now) (member (tree e) (tree f)) (tree e) (tree f) x (ap cond_tree c.in-Member.is ∙ cond_Member e f) (λ s at kind bad. elim bad [ inl a ↦ inl a | inr b ↦ inr (inl b) ]) h) c.in_err-values-in-Member.ensures.fault

pub decided-returns-in_err-values-in-Included-clause-fault :
    goal.decided-returns-in_err-values-in-Included-clause-fault
decided-returns-in_err-values-in-Included-clause-fault g t c =
    let k = c.args.context.now in
    let e = c.in-Included.e in
    let f = c.in-Included.f in
    passed_on c.from_residual-in_err-values-in-Included.result c.in_err-values-in-Included.field-0.0 (IsFaultOf g.T.Structure.ordered k (SomeFails (two (tree e) (tree f)))) (IsFaultOf g.T.Structure.ordered k (CondFails (cond_tree c.args.c.now))) c.from_residual-in_err-values-in-Included.ensures.1
    (λ x h. sides_fail g.T.Structure.ordered k (cond_tree c.args.c.now) (included (tree e) (tree f)) (tree e) (tree f) x (ap cond_tree c.in-Included.is ∙ cond_Included e f) (λ s at kind bad. elim bad [ inl a ↦ inl a | inr b ↦ inr (inl b) ]) h) c.in_err-values-in-Included.ensures.fault

pub gathered-returns-in_err-elements-clause-fault :
    goal.gathered-returns-in_err-elements-clause-fault
gathered-returns-in_err-elements-clause-fault g t c =
    let k = c.args.context.now in
    let item = c.args.item.now in
    let bs = c.args.bindings.now in
    let i = c.args.from in
    let cond = c.args.condition.now in
    let b = c.index-bindings-from.result in
    let l : i < length bs = omega arith in
    let is = c.index-bindings-from.is in
    passed_on c.from_residual.result c.in_err-elements.field-0.0 (IsFaultOf g.T.Structure.ordered k (Fails (tree b.from))) (IsFaultOf g.T.Structure.ordered k (Breaks (each_from item bs i cond))) c.from_residual.ensures.1 (λ f h. first_set_fails k item bs i b cond l is g.T.Structure.ordered f h) c.in_err-elements.ensures.fault

pub made-returns-in_err-gathered-in-Each-clause-fault :
    goal.made-returns-in_err-gathered-in-Each-clause-fault
made-returns-in_err-gathered-in-Each-clause-fault g t c =
    let k = c.args.context.now in
    let p = c.in-Each.field-0 in
    let item = c.in-Each.item in
    let bindings = c.in-Each.bindings in
    let cond = c.in-Each.condition in
    let is = ap tree c.in-Each.is ∙ tree_Each p item bindings cond in
    let bs = c.as_slice.result.now in
    let Bad : Expr → Cond → Fault → Type 0 = λ e d. IsFaultOf g.T.Structure.ordered k (Breaks (each_from e bs 0 d)) in
    passed_on c.from_residual-in_err-gathered-in-Each.result c.in_err-gathered-in-Each.field-0.0 (Bad c.deref.result.now c.deref-in-Each.result.now) (IsFaultOf g.T.Structure.ordered k (Breaks (tree c.args.e.now))) c.from_residual-in_err-gathered-in-Each.ensures.1 (λ f h.
    let here = subst (λ e. Bad e cond.value f) c.deref.ensures (subst (λ d. Bad c.deref.result.now d f) c.deref-in-Each.ensures h) in
    let own = fault_weaker g.T.Structure.ordered k (Breaks (each_from item.value bs 0 cond.value)) (Breaks (each p.offset (tree item.value) (bindings_of (map binding_tree bs)) (cond_tree cond.value))) f (λ s at kind bad. bad) here in
    breaks_as g.T.Structure.ordered k (tree c.args.e.now) (each p.offset (tree item.value) (bindings_of (bindings_list bindings)) (cond_tree cond.value)) f is
    (subst (λ z. IsFaultOf g.T.Structure.ordered k (Breaks (each p.offset (tree item.value) (bindings_of z) (cond_tree cond.value))) f) c.as_slice.ensures.items own)) c.in_err-gathered-in-Each.ensures.fault

pub evaluated-returns-clause-leftmost : goal.evaluated-returns-clause-leftmost
evaluated-returns-clause-leftmost g t c =
    let k = c.args.context.now in
    let e = tree c.args.e.now in
    err_always c.shallow.result (IsOfLeftmostOperand g.T.Structure.ordered k e) (λ f. own_fault g.T.Structure.ordered k e (term_tree c.in_ok-made.field-0) f c.in_ok-made.ensures.term)

pub all_evaluated-returns-in_err-evaluated-clause-leftmost :
    goal.all_evaluated-returns-in_err-evaluated-clause-leftmost
all_evaluated-returns-in_err-evaluated-clause-leftmost g t c =
    let k = c.args.context.now in
    let es = exprs_of (exprs_list c.args.es.now) in
    let e = c.e-item.result in
    let p = is_expr_of c.as_slice-e-items.result.now (exprs_list c.args.es.now) c.loop-e.e-index e c.as_slice-e-items.ensures.items c.loop-e-test.true c.e-item.is in
    let before = exprs_of (map tree (take c.loop-e.e-index c.as_slice-e-items.result.now)) in
    let Bad : Fault → Type 0 = IsFaultOf g.T.Structure.ordered k (Fails (tree e)) in
    let Own : Fault → Type 0 = IsOfLeftmostOperand g.T.Structure.ordered k (tree e) in
    passed_on c.from_residual.result c.in_err-evaluated.field-0.0 (λ f. Bad f × Own f) (IsOfLeftmost g.T.Structure.ordered k es) c.from_residual.ensures.1
    (λ f h. p.leftmost g.T.Structure.ordered k f (values_given k before c.loop-e.values c.loop-e.invariant.terms.values) h) (both_faults c.in_err-evaluated.field-0.0 Bad Own c.in_err-evaluated.ensures.fault c.in_err-evaluated.ensures.leftmost)

pub both_evaluated-returns-in_err-left-clause-leftmost :
    goal.both_evaluated-returns-in_err-left-clause-leftmost
both_evaluated-returns-in_err-left-clause-leftmost g t c =
    let k = c.args.context.now in
    let e = tree c.args.e.now in
    let f = tree c.args.f.now in
    let Bad : Fault → Type 0 = IsFaultOf g.T.Structure.ordered k (Fails e) in
    let Own : Fault → Type 0 = IsOfLeftmostOperand g.T.Structure.ordered k e in
    passed_on c.from_residual.result c.in_err-left.field-0.0 (λ x. Bad x × Own x) (IsOfLeftmost g.T.Structure.ordered k (two e f)) c.from_residual.ensures.1
    (λ x h. inl h) (both_faults c.in_err-left.field-0.0 Bad Own c.in_err-left.ensures.fault c.in_err-left.ensures.leftmost)

pub both_evaluated-returns-in_err-right-clause-leftmost :
    goal.both_evaluated-returns-in_err-right-clause-leftmost
both_evaluated-returns-in_err-right-clause-leftmost g t c =
    let k = c.args.context.now in
    let e = tree c.args.e.now in
    let f = tree c.args.f.now in
    let s = term_tree c.in_ok-left.left in
    let Bad : Fault → Type 0 = IsFaultOf g.T.Structure.ordered k (Fails f) in
    let Own : Fault → Type 0 = IsOfLeftmostOperand g.T.Structure.ordered k f in
    passed_on c.from_residual-in_err-right.result c.in_err-right.field-0.0 (λ x. Bad x × Own x) (IsOfLeftmost g.T.Structure.ordered k (two e f)) c.from_residual-in_err-right.ensures.1
    (λ x h. inr (fails_nowhere k e s c.in_ok-left.ensures.term.value, inl h)) (both_faults c.in_err-right.field-0.0 Bad Own c.in_err-right.ensures.fault c.in_err-right.ensures.leftmost)

pub made-returns-in_err-values-in-Tuple-clause-leftmost : goal.made-returns-in_err-values-in-Tuple-clause-leftmost
made-returns-in_err-values-in-Tuple-clause-leftmost g t c =
    let k = c.args.context.now in
    let es = c.in-Tuple.parts in
    let d = tuple c.in-Tuple.field-0.offset (exprs_of (exprs_list es)) in
    let is = ap tree c.in-Tuple.is ∙ tree_Tuple c.in-Tuple.field-0 es in
    leftmost_as g.T.Structure.ordered k (tree c.args.e.now) d c.from_residual.result is (passed_on c.from_residual.result c.in_err-values-in-Tuple.field-0.0 (IsOfLeftmost g.T.Structure.ordered k (exprs_of (exprs_list es))) (IsOfLeftmostOperand g.T.Structure.ordered k d) c.from_residual.ensures.1 (λ f h. h) c.in_err-values-in-Tuple.ensures.leftmost)

pub made-returns-in_err-values-in-Listed-clause-leftmost : goal.made-returns-in_err-values-in-Listed-clause-leftmost
made-returns-in_err-values-in-Listed-clause-leftmost g t c =
    let k = c.args.context.now in
    let es = c.in-Listed.items in
    let d = listed c.in-Listed.field-0.offset (exprs_of (exprs_list es)) in
    let is = ap tree c.in-Listed.is ∙ tree_Listed c.in-Listed.field-0 es in
    leftmost_as g.T.Structure.ordered k (tree c.args.e.now) d c.from_residual-in_err-values-in-Listed.result is (passed_on c.from_residual-in_err-values-in-Listed.result c.in_err-values-in-Listed.field-0.0 (IsOfLeftmost g.T.Structure.ordered k (exprs_of (exprs_list es))) (IsOfLeftmostOperand g.T.Structure.ordered k d) c.from_residual-in_err-values-in-Listed.ensures.1 (λ f h. h) c.in_err-values-in-Listed.ensures.leftmost)

pub made-returns-in_err-values-in-Apply-clause-leftmost : goal.made-returns-in_err-values-in-Apply-clause-leftmost
made-returns-in_err-values-in-Apply-clause-leftmost g t c =
    let k = c.args.context.now in
    let es = c.in-Apply.operands in
    let d = apply c.in-Apply.field-0.offset c.in-Apply.field-1 (exprs_of (exprs_list es)) in
    let operands = exprs_of (exprs_list es) in
    let Bad : Fault → Type 0 = IsFaultOf g.T.Structure.ordered k (SomeFails operands) in
    let Own : Fault → Type 0 = IsOfLeftmost g.T.Structure.ordered k operands in
    let is = ap tree c.in-Apply.is ∙ tree_Apply c.in-Apply.field-0 c.in-Apply.field-1 es in
    leftmost_as g.T.Structure.ordered k (tree c.args.e.now) d c.from_residual-in_err-values-in-Apply.result is (passed_on c.from_residual-in_err-values-in-Apply.result c.in_err-values-in-Apply.field-0.0 (λ f. Bad f × Own f) (IsOfLeftmostOperand g.T.Structure.ordered k d) c.from_residual-in_err-values-in-Apply.ensures.1
    (λ f h. fault_of_operand g.T.Structure.ordered k (IsInvalidOperand c.in-Apply.field-1) operands f h.0 h.1) (both_faults c.in_err-values-in-Apply.field-0.0 Bad Own c.in_err-values-in-Apply.ensures.fault c.in_err-values-in-Apply.ensures.leftmost))

pub decided-returns-in_err-values-in-Same-clause-leftmost : goal.decided-returns-in_err-values-in-Same-clause-leftmost
decided-returns-in_err-values-in-Same-clause-leftmost g t c =
    let k = c.args.context.now in
    let e = c.in-Same.e in
    let f = c.in-Same.f in
    let sides = two (tree e) (tree f) in
    let is = ap cond_tree c.in-Same.is ∙ cond_Same e f in
    sides_leftmost g.T.Structure.ordered k (cond_tree c.args.c.now) (same (tree e) (tree f)) c.from_residual-in_err-values-in-Same.result is (passed_on c.from_residual-in_err-values-in-Same.result c.in_err-values-in-Same.field-0.0 (IsOfLeftmost g.T.Structure.ordered k sides) (IsOfLeftmostSide g.T.Structure.ordered k (same (tree e) (tree f))) c.from_residual-in_err-values-in-Same.ensures.1 (λ x h. h) c.in_err-values-in-Same.ensures.leftmost)

pub decided-returns-in_err-values-in-Differ-clause-leftmost : goal.decided-returns-in_err-values-in-Differ-clause-leftmost
decided-returns-in_err-values-in-Differ-clause-leftmost g t c =
    let k = c.args.context.now in
    let e = c.in-Differ.e in
    let f = c.in-Differ.f in
    let sides = two (tree e) (tree f) in
    let is = ap cond_tree c.in-Differ.is ∙ cond_Differ e f in
    sides_leftmost g.T.Structure.ordered k (cond_tree c.args.c.now) (differ (tree e) (tree f)) c.from_residual-in_err-values-in-Differ.result is (passed_on c.from_residual-in_err-values-in-Differ.result c.in_err-values-in-Differ.field-0.0 (IsOfLeftmost g.T.Structure.ordered k sides) (IsOfLeftmostSide g.T.Structure.ordered k (differ (tree e) (tree f))) c.from_residual-in_err-values-in-Differ.ensures.1 (λ x h. h) c.in_err-values-in-Differ.ensures.leftmost)

pub decided-returns-in_err-values-in-Below-clause-leftmost : goal.decided-returns-in_err-values-in-Below-clause-leftmost
decided-returns-in_err-values-in-Below-clause-leftmost g t c =
    let k = c.args.context.now in
    let e = c.in-Below.e in
    let f = c.in-Below.f in
    let sides = two (tree e) (tree f) in
    let Bad : Fault → Type 0 = IsFaultOf g.T.Structure.ordered k (SomeFails sides) in
    let Own : Fault → Type 0 = IsOfLeftmost g.T.Structure.ordered k sides in
    let is = ap cond_tree c.in-Below.is ∙ cond_Below c.in-Below.field-0 e f in
    sides_leftmost g.T.Structure.ordered k (cond_tree c.args.c.now) (below c.in-Below.field-0.offset (tree e) (tree f)) c.from_residual-in_err-values-in-Below.result is (passed_on c.from_residual-in_err-values-in-Below.result c.in_err-values-in-Below.field-0.0 (λ x. Bad x × Own x) (IsOfLeftmostSide g.T.Structure.ordered k (below c.in-Below.field-0.offset (tree e) (tree f))) c.from_residual-in_err-values-in-Below.ensures.1
    (λ x h. fault_of_operand g.T.Structure.ordered k IsNoAtom sides x h.0 h.1) (both_faults c.in_err-values-in-Below.field-0.0 Bad Own c.in_err-values-in-Below.ensures.fault c.in_err-values-in-Below.ensures.leftmost))

pub decided-returns-in_err-values-in-Member-clause-leftmost : goal.decided-returns-in_err-values-in-Member-clause-leftmost
decided-returns-in_err-values-in-Member-clause-leftmost g t c =
    let k = c.args.context.now in
    let e = c.in-Member.e in
    let f = c.in-Member.f in
    let sides = two (tree e) (tree f) in
    let is = ap cond_tree c.in-Member.is ∙ cond_Member e f in
    sides_leftmost g.T.Structure.ordered k (cond_tree c.args.c.now) (member (tree e) (tree f)) c.from_residual-in_err-values-in-Member.result is (passed_on c.from_residual-in_err-values-in-Member.result c.in_err-values-in-Member.field-0.0 (IsOfLeftmost g.T.Structure.ordered k sides) (IsOfLeftmostSide g.T.Structure.ordered k (member (tree e) (tree f))) c.from_residual-in_err-values-in-Member.ensures.1 (λ x h. h) c.in_err-values-in-Member.ensures.leftmost)

pub decided-returns-in_err-values-in-Included-clause-leftmost : goal.decided-returns-in_err-values-in-Included-clause-leftmost
decided-returns-in_err-values-in-Included-clause-leftmost g t c =
    let k = c.args.context.now in
    let e = c.in-Included.e in
    let f = c.in-Included.f in
    let sides = two (tree e) (tree f) in
    let Bad : Fault → Type 0 = IsFaultOf g.T.Structure.ordered k (SomeFails sides) in
    let Own : Fault → Type 0 = IsOfLeftmost g.T.Structure.ordered k sides in
    let is = ap cond_tree c.in-Included.is ∙ cond_Included e f in
    sides_leftmost g.T.Structure.ordered k (cond_tree c.args.c.now) (included (tree e) (tree f)) c.from_residual-in_err-values-in-Included.result is (passed_on c.from_residual-in_err-values-in-Included.result c.in_err-values-in-Included.field-0.0 (λ x. Bad x × Own x) (IsOfLeftmostSide g.T.Structure.ordered k (included (tree e) (tree f))) c.from_residual-in_err-values-in-Included.ensures.1
    (λ x h. fault_of_operand g.T.Structure.ordered k IsNoSet sides x h.0 h.1) (both_faults c.in_err-values-in-Included.field-0.0 Bad Own c.in_err-values-in-Included.ensures.fault c.in_err-values-in-Included.ensures.leftmost))

pub made-returns-in_ok-evaluated-in-Part-clause-leftmost :
    goal.made-returns-in_ok-evaluated-in-Part-clause-leftmost
made-returns-in_ok-evaluated-in-Part-clause-leftmost g t c =
    let k = c.args.context.now in
    let p = c.in-Part.field-0 in
    let whole = c.in-Part.whole in
    let n = c.in-Part.n in
    let u = term_tree c.in_ok-evaluated-in-Part.field-0 in
    let d = part p.offset (tree whole.value) n in
    let is = ap tree c.in-Part.is ∙ tree_Part p whole n in
    let own = subst (λ (z : Expr). IsTermOf k (Gives (tree z)) (IsWellFormed (tree z)) u) c.deref-in-Part-2.ensures c.in_ok-evaluated-in-Part.ensures.term in
    leftmost_as g.T.Structure.ordered k (tree c.args.e.now) d c.part.result is (err_always c.part.result (IsOfLeftmostOperand g.T.Structure.ordered k d) (λ f. inr (fails_nowhere k (tree whole.value) u own.value)))
