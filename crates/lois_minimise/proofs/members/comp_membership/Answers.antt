use Rattle.std.proofs.Common.{◌+◌, [], map, sym, subst}
use Rattle.std.proofs.lemmas.Result.{IfOk-weaker}
use Rattle.lois_base.specs.Data.{comps_of}
use Rattle.lois_base.specs.Fits.{Fits}
use Rattle.lois_base.specs.FormulaView.{view}
use Rattle.lois_base.specs.Tree.{tree, comp_of}
use Rattle.lois_base.specs.Values.{SameAt}
use Rattle.lois_elim.specs.Bound.{AgreesWith}
use Rattle.lois_relate.specs.Relations.{HoldsWhereItemIn}
use Rattle.lois_minimise.specs.Ties.{AddsTies, HoldsWhereTied}
use Rattle.lois_minimise.proofs.Ties.{one_where_tied, one_where_listed}
use Rattle.lois_minimise.proofs.members.comp_membership.Goals as goal

pub returns-then-branch-clause-truth : goal.returns-then-branch-clause-truth
returns-then-branch-clause-truth g c =
    let comp = c.args.comp.now in
    let item = tree c.args.item.now in
    let body = tree comp.item in
    let ties = c.as_slice.result.now in
    let adds : AddsTies (λ x d. SameAt body x item d) (λ i j. Fits i body × Fits j item) c.new-ties.result.items c.tie_terms.new.ties.items = c.in_ok-tie_terms.ensures (cc) in
    let from_none : AddsTies (λ x d. SameAt body x item d) (λ i j. Fits i body × Fits j item) [] ties = subst (AddsTies (λ x d. SameAt body x item d) (λ i j. Fits i body × Fits j item) []) (sym c.as_slice.ensures.value) (subst (λ z. AddsTies (λ x d. SameAt body x item d) (λ i j. Fits i body × Fits j item) z c.tie_terms.new.ties.items) c.new-ties.ensures.items adds) in
    IfOk-weaker c.tied_membership.result (HoldsWhereTied c.args.size c.args.by comp.binders comp.guard ties) _ (λ r tied. one_where_tied c.args.size c.args.by item comp.binders comp.guard body ties r from_none tied) c.tied_membership.ensures.truth

pub returns-clause-truth : goal.returns-clause-truth
returns-clause-truth g c =
    let n = c.args.size in
    let m = c.args.by in
    let item = tree c.args.item.now in
    let f = view c.in_ok-formula.formula in
    let listed = subst (λ z. HoldsWhereItemIn n m item (comps_of (map comp_of z)) f) c.from_ref-one.ensures.value c.in_ok-formula.ensures.truth in
    IfOk-weaker c.quantifier_free.result (AgreesWith (n + m) f) _ (λ r agrees. one_where_listed n m item (comp_of c.args.comp.now) f r listed agrees) c.quantifier_free.ensures.truth
