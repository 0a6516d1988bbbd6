use Rattle.std.proofs.Common.{[], ◌∷◌, true, ap, subst, ◌∙◌}
use Rattle.std.proofs.lemmas.Result.{IfErr-weaker}
use Rattle.lois_base.specs.Fits.{ConstraintFits}
use Rattle.lois_base.specs.Tree.{tree as term_tree}
use Rattle.lois_base.specs.Validity.{AdmitsConstraint}
use Rattle.lois_meaning.specs.Faults.{CondFails}
use Rattle.lois_script.specs.Tree.{same, differ, below, member, included, pos}
use Rattle.lois_script.specs.View.{tree, cond_tree}
use Rattle.lois_script.proofs.Views.{cond_Same, cond_Differ, cond_Below, cond_Member, cond_Included}
use Rattle.lois_eval.specs.Checks.{IsSetFault}
use Rattle.lois_eval.specs.Compared.{AreAtomsBelow, IsBelowFault}
use Rattle.lois_eval.specs.LeftToRight.{IsOfLeftmostSide}
use Rattle.lois_eval.specs.WellFormed.{CondIsWellFormed}
use Rattle.lois_eval.specs.Throughout.{IfFault, IsFaultOf}
use Rattle.lois_eval.proofs.Comparing.{sides_as, below_fails, below_leftmost, member_fails, member_leftmost, included_fails_left, included_fails_right, included_leftmost_left, included_leftmost_right}
use Rattle.lois_eval.proofs.Conditions.{same_decided, differ_decided, below_decided, member_decided, included_decided}
use Rattle.lois_eval.proofs.FaultsAt.{if_fault}
use Rattle.lois_eval.proofs.LeftToRight.{sides_leftmost}
use Rattle.lois_eval.proofs.LoopExit.{err_always, err_weaker, passed_on, three_ok}
use Rattle.lois_eval.proofs.Plain.{decided_as, cond_fails_as}
use Rattle.lois_eval.proofs.forms.compared_with.Goals as goal

pub returns-in_ok-equal-in-Same-clause-constraint : goal.returns-in_ok-equal-in-Same-clause-constraint
returns-in_ok-equal-in-Same-clause-constraint g c =
    let k = c.args.context.now in
    let s = term_tree c.args.s.now in
    let t = term_tree c.args.t.now in
    let e = tree c.in-Same.field-0 in
    let f = tree c.in-Same.field-1 in
    let is = ap cond_tree c.in-Same.is ∙ cond_Same c.in-Same.field-0 c.in-Same.field-1 in
    let both = sides_as k (cond_tree c.args.c.now) (same e f) (s ∷ t ∷ []) is c.requires.values in
    let r = c.in_ok-equal-in-Same.field-0 in
    let h = c.in_ok-equal-in-Same.ensures in
    decided_as k (cond_tree c.args.c.now) (same e f) r is (same_decided k e f s t r both h.truth h.levels h.operators)

pub returns-in_ok-unequal-in-Differ-clause-constraint : goal.returns-in_ok-unequal-in-Differ-clause-constraint
returns-in_ok-unequal-in-Differ-clause-constraint g c =
    let k = c.args.context.now in
    let s = term_tree c.args.s.now in
    let t = term_tree c.args.t.now in
    let e = tree c.in-Differ.field-0 in
    let f = tree c.in-Differ.field-1 in
    let is = ap cond_tree c.in-Differ.is ∙ cond_Differ c.in-Differ.field-0 c.in-Differ.field-1 in
    let both = sides_as k (cond_tree c.args.c.now) (differ e f) (s ∷ t ∷ []) is c.requires.values in
    let r = c.in_ok-unequal-in-Differ.field-0 in
    let h = c.in_ok-unequal-in-Differ.ensures in
    decided_as k (cond_tree c.args.c.now) (differ e f) r is (differ_decided k e f s t r both h.truth h.levels h.operators)

pub returns-in_ok-within-in-Member-clause-constraint : goal.returns-in_ok-within-in-Member-clause-constraint
returns-in_ok-within-in-Member-clause-constraint g c =
    let k = c.args.context.now in
    let s = term_tree c.args.s.now in
    let t = term_tree c.args.t.now in
    let e = tree c.in-Member.field-0 in
    let f = tree c.in-Member.f in
    let is = ap cond_tree c.in-Member.is ∙ cond_Member c.in-Member.field-0 c.in-Member.f in
    let both = sides_as k (cond_tree c.args.c.now) (member e f) (s ∷ t ∷ []) is c.requires.values in
    let r = c.in_ok-within-in-Member.field-0 in
    let h = c.in_ok-within-in-Member.ensures in
    decided_as k (cond_tree c.args.c.now) (member e f) r is (member_decided k e f s t r both c.in_ok-check_set-in-Member.ensures.set h.truth h.levels h.operators)

pub returns-in_ok-included-in-Included-clause-constraint : goal.returns-in_ok-included-in-Included-clause-constraint
returns-in_ok-included-in-Included-clause-constraint g c =
    let k = c.args.context.now in
    let s = term_tree c.args.s.now in
    let t = term_tree c.args.t.now in
    let e = tree c.in-Included.e in
    let f = tree c.in-Included.f in
    let is = ap cond_tree c.in-Included.is ∙ cond_Included c.in-Included.e c.in-Included.f in
    let both = sides_as k (cond_tree c.args.c.now) (included e f) (s ∷ t ∷ []) is c.requires.values in
    let r = c.in_ok-included-in-Included.field-0 in
    let h = c.in_ok-included-in-Included.ensures in
    decided_as k (cond_tree c.args.c.now) (included e f) r is (included_decided k e f s t r both c.in_ok-check_set-in-Included.ensures.set c.in_ok-check_set-in-Included-2.ensures.set h.truth h.levels h.operators)

pub returns-in-Below-clause-constraint : goal.returns-in-Below-clause-constraint
returns-in-Below-clause-constraint g c =
    let k = c.args.context.now in
    let s = term_tree c.args.s.now in
    let t = term_tree c.args.t.now in
    let e = tree c.in-Below.e in
    let f = tree c.in-Below.f in
    let is = ap cond_tree c.in-Below.is ∙ cond_Below c.in-Below.field-0 c.in-Below.e c.in-Below.f in
    let both = sides_as k (cond_tree c.args.c.now) (below c.in-Below.field-0.offset e f) (s ∷ t ∷ []) is c.requires.values in
    let p = c.in-Below.field-0 in
    three_ok c.below.result (AreAtomsBelow s t) (ConstraintFits k.size) (AdmitsConstraint true) _ c.below.ensures.truth c.below.ensures.levels c.below.ensures.operators
    (λ r atoms fits admits. decided_as k (cond_tree c.args.c.now) (below p.offset e f) r is (below_decided k e f s t p.offset r both atoms fits admits))

pub returns-in-Below-clause-fault : goal.returns-in-Below-clause-fault
returns-in-Below-clause-fault g c =
    let k = c.args.context.now in
    let s = term_tree c.args.s.now in
    let t = term_tree c.args.t.now in
    let e = tree c.in-Below.e in
    let f = tree c.in-Below.f in
    let is = ap cond_tree c.in-Below.is ∙ cond_Below c.in-Below.field-0 c.in-Below.e c.in-Below.f in
    let both = sides_as k (cond_tree c.args.c.now) (below c.in-Below.field-0.offset e f) (s ∷ t ∷ []) is c.requires.values in
    let p = c.in-Below.field-0 in
    let P = IsBelowFault k s c.pos.result.offset t c.pos-in-Below.result.offset in
    IfErr-weaker c.below.result (λ z. IfFault z P) _ (λ z h. if_fault z P (IsFaultOf g.T.Structure.ordered k (CondFails (cond_tree c.args.c.now))) (λ x bad. cond_fails_as g.T.Structure.ordered k (cond_tree c.args.c.now) (below p.offset e f) x is
    (below_fails k e f s t (CondIsWellFormed (below p.offset e f)) both x g.T.Structure.ordered c.requires.context_operators p.offset (subst (λ at. IsBelowFault k s at t (pos f) x) c.pos.ensures.first_token (subst (λ at. IsBelowFault k s c.pos.result.offset t at x) c.pos-in-Below.ensures.first_token bad)))) h) c.below.ensures.fault

pub returns-in_err-check_set-in-Member-clause-fault : goal.returns-in_err-check_set-in-Member-clause-fault
returns-in_err-check_set-in-Member-clause-fault g c =
    let k = c.args.context.now in
    let s = term_tree c.args.s.now in
    let t = term_tree c.args.t.now in
    let e = tree c.in-Member.field-0 in
    let f = tree c.in-Member.f in
    let is = ap cond_tree c.in-Member.is ∙ cond_Member c.in-Member.field-0 c.in-Member.f in
    let both = sides_as k (cond_tree c.args.c.now) (member e f) (s ∷ t ∷ []) is c.requires.values in
    passed_on c.from_residual-in_err-check_set-in-Member.result c.in_err-check_set-in-Member.field-0.0 (IsSetFault k t c.pos-in-Member.result.offset) (IsFaultOf g.T.Structure.ordered k (CondFails (cond_tree c.args.c.now))) c.from_residual-in_err-check_set-in-Member.ensures.1
    (λ x bad. cond_fails_as g.T.Structure.ordered k (cond_tree c.args.c.now) (member e f) x is (member_fails k e f s t (CondIsWellFormed (member e f)) both x g.T.Structure.ordered c.requires.context_operators (subst (λ at. IsSetFault k t at x) c.pos-in-Member.ensures.first_token bad))) c.in_err-check_set-in-Member.ensures.fault

pub returns-in_err-check_set-in-Included-clause-fault : goal.returns-in_err-check_set-in-Included-clause-fault
returns-in_err-check_set-in-Included-clause-fault g c =
    let k = c.args.context.now in
    let s = term_tree c.args.s.now in
    let t = term_tree c.args.t.now in
    let e = tree c.in-Included.e in
    let f = tree c.in-Included.f in
    let is = ap cond_tree c.in-Included.is ∙ cond_Included c.in-Included.e c.in-Included.f in
    let both = sides_as k (cond_tree c.args.c.now) (included e f) (s ∷ t ∷ []) is c.requires.values in
    passed_on c.from_residual-in_err-check_set-in-Included.result c.in_err-check_set-in-Included.field-0.0 (IsSetFault k s c.pos-in-Included.result.offset) (IsFaultOf g.T.Structure.ordered k (CondFails (cond_tree c.args.c.now))) c.from_residual-in_err-check_set-in-Included.ensures.1
    (λ x bad. cond_fails_as g.T.Structure.ordered k (cond_tree c.args.c.now) (included e f) x is (included_fails_left k e f s t (CondIsWellFormed (included e f)) both x g.T.Structure.ordered c.requires.context_operators (subst (λ at. IsSetFault k s at x) c.pos-in-Included.ensures.first_token bad))) c.in_err-check_set-in-Included.ensures.fault

pub returns-in_err-check_set-in-Included-2-clause-fault : goal.returns-in_err-check_set-in-Included-2-clause-fault
returns-in_err-check_set-in-Included-2-clause-fault g c =
    let k = c.args.context.now in
    let s = term_tree c.args.s.now in
    let t = term_tree c.args.t.now in
    let e = tree c.in-Included.e in
    let f = tree c.in-Included.f in
    let is = ap cond_tree c.in-Included.is ∙ cond_Included c.in-Included.e c.in-Included.f in
    let both = sides_as k (cond_tree c.args.c.now) (included e f) (s ∷ t ∷ []) is c.requires.values in
    passed_on c.from_residual-in_err-check_set-in-Included-2.result c.in_err-check_set-in-Included-2.field-0.0 (IsSetFault k t c.pos-in-Included-2.result.offset) (IsFaultOf g.T.Structure.ordered k (CondFails (cond_tree c.args.c.now))) c.from_residual-in_err-check_set-in-Included-2.ensures.1
    (λ x bad. cond_fails_as g.T.Structure.ordered k (cond_tree c.args.c.now) (included e f) x is (included_fails_right k e f s t (CondIsWellFormed (included e f)) both x g.T.Structure.ordered c.requires.context_operators c.in_ok-check_set-in-Included.ensures.set (subst (λ at. IsSetFault k t at x) c.pos-in-Included-2.ensures.first_token bad))) c.in_err-check_set-in-Included-2.ensures.fault

pub returns-in-Below-clause-leftmost : goal.returns-in-Below-clause-leftmost
returns-in-Below-clause-leftmost g c =
    let o = g.T.Structure.ordered in
    let k = c.args.context.now in
    let s = term_tree c.args.s.now in
    let t = term_tree c.args.t.now in
    let e = tree c.in-Below.e in
    let f = tree c.in-Below.f in
    let p = c.in-Below.field-0 in
    let d = below p.offset e f in
    let is = ap cond_tree c.in-Below.is ∙ cond_Below p c.in-Below.e c.in-Below.f in
    let both = sides_as k (cond_tree c.args.c.now) d (s ∷ t ∷ []) is c.requires.values in
    sides_leftmost o k (cond_tree c.args.c.now) d c.below.result is (err_weaker c.below.result (IsBelowFault k s c.pos.result.offset t c.pos-in-Below.result.offset) (IsOfLeftmostSide o k d) (λ x bad.
    below_leftmost k e f s t (CondIsWellFormed d) both x o c.requires.context_operators p.offset (subst (λ at. IsBelowFault k s at t (pos f) x) c.pos.ensures.first_token (subst (λ at. IsBelowFault k s c.pos.result.offset t at x) c.pos-in-Below.ensures.first_token bad))) c.below.ensures.fault)

pub returns-in_err-check_set-in-Member-clause-leftmost : goal.returns-in_err-check_set-in-Member-clause-leftmost
returns-in_err-check_set-in-Member-clause-leftmost g c =
    let o = g.T.Structure.ordered in
    let k = c.args.context.now in
    let s = term_tree c.args.s.now in
    let t = term_tree c.args.t.now in
    let e = tree c.in-Member.field-0 in
    let f = tree c.in-Member.f in
    let d = member e f in
    let is = ap cond_tree c.in-Member.is ∙ cond_Member c.in-Member.field-0 c.in-Member.f in
    let both = sides_as k (cond_tree c.args.c.now) d (s ∷ t ∷ []) is c.requires.values in
    let r = c.from_residual-in_err-check_set-in-Member.result in
    sides_leftmost o k (cond_tree c.args.c.now) d r is (err_always r (IsOfLeftmostSide o k d) (λ x. member_leftmost k e f s t (CondIsWellFormed d) both x o c.requires.context_operators))

pub returns-in_err-check_set-in-Included-clause-leftmost : goal.returns-in_err-check_set-in-Included-clause-leftmost
returns-in_err-check_set-in-Included-clause-leftmost g c =
    let o = g.T.Structure.ordered in
    let k = c.args.context.now in
    let s = term_tree c.args.s.now in
    let t = term_tree c.args.t.now in
    let e = tree c.in-Included.e in
    let f = tree c.in-Included.f in
    let d = included e f in
    let is = ap cond_tree c.in-Included.is ∙ cond_Included c.in-Included.e c.in-Included.f in
    let both = sides_as k (cond_tree c.args.c.now) d (s ∷ t ∷ []) is c.requires.values in
    let r = c.from_residual-in_err-check_set-in-Included.result in
    sides_leftmost o k (cond_tree c.args.c.now) d r is (passed_on r c.in_err-check_set-in-Included.field-0.0 (IsSetFault k s c.pos-in-Included.result.offset) (IsOfLeftmostSide o k d) c.from_residual-in_err-check_set-in-Included.ensures.1
    (λ x bad. included_leftmost_left k e f s t (CondIsWellFormed d) both x o c.requires.context_operators (subst (λ at. IsSetFault k s at x) c.pos-in-Included.ensures.first_token bad)) c.in_err-check_set-in-Included.ensures.fault)

pub returns-in_err-check_set-in-Included-2-clause-leftmost : goal.returns-in_err-check_set-in-Included-2-clause-leftmost
returns-in_err-check_set-in-Included-2-clause-leftmost g c =
    let o = g.T.Structure.ordered in
    let k = c.args.context.now in
    let s = term_tree c.args.s.now in
    let t = term_tree c.args.t.now in
    let e = tree c.in-Included.e in
    let f = tree c.in-Included.f in
    let d = included e f in
    let is = ap cond_tree c.in-Included.is ∙ cond_Included c.in-Included.e c.in-Included.f in
    let both = sides_as k (cond_tree c.args.c.now) d (s ∷ t ∷ []) is c.requires.values in
    let r = c.from_residual-in_err-check_set-in-Included-2.result in
    sides_leftmost o k (cond_tree c.args.c.now) d r is (passed_on r c.in_err-check_set-in-Included-2.field-0.0 (IsSetFault k t c.pos-in-Included-2.result.offset) (IsOfLeftmostSide o k d) c.from_residual-in_err-check_set-in-Included-2.ensures.1
    (λ x bad. included_leftmost_right k e f s t (CondIsWellFormed d) both x o c.requires.context_operators c.in_ok-check_set-in-Included.ensures.set (subst (λ at. IsSetFault k t at x) c.pos-in-Included-2.ensures.first_token bad)) c.in_err-check_set-in-Included-2.ensures.fault)
