use Rattle.std.proofs.Common.{◌≡◌, map, refl, ap, ◌∙◌, sym, subst}
use Rattle.std.proofs.lemmas.Result.{IfOk-weaker}
use Rattle.lois_base.specs.Data.{coll, comps_of}
use Rattle.lois_base.specs.FormulaView.{view}
use Rattle.lois_base.specs.Tree.{tree, comp_of}
use Rattle.lois_relate.specs.Built.{IsEither}
use Rattle.lois_relate.specs.Candidates.{comps_at}
use Rattle.lois_relate.specs.Relations.{HoldsWhereItemIn}
use Rattle.lois_eval.proofs.Candidates.{in_none, in_one, in_some}
use Rattle.lois_eval.proofs.relations.membership.Goals as goal

pub returns-in_default-first_candidate-clause-truth :
    goal.returns-in_default-first_candidate-clause-truth
returns-in_default-first_candidate-clause-truth c =
    let ks = map comp_of c.as_slice-others.result.now in
    let t = tree c.args.t.now in
    let set : t ≡ coll (comps_of ks) = ap tree c.in-Coll.is ∙ ap (λ z. coll (comps_of z)) (sym c.as_slice-others.ensures) in
    in_none c.args.size (tree c.args.s.now) t ks (view c.false_formula.result) set (c.in_default-first_candidate.ensures.none refl) c.false_formula.ensures

pub returns-then-is_true_formula-clause-truth : goal.returns-then-is_true_formula-clause-truth
returns-then-is_true_formula-clause-truth c =
    let ks = map comp_of c.as_slice-others.result.now in
    let t = tree c.args.t.now in
    let set : t ≡ coll (comps_of ks) = ap tree c.in-Coll.is ∙ ap (λ z. coll (comps_of z)) (sym c.as_slice-others.ensures) in
    in_one c.args.size (tree c.args.s.now) t ks (view c.in_ok-here-in-Coll.here) set c.in-Some.first (c.is_true_formula.ensures.0 c.if-is_true_formula.true) c.in_ok-here-in-Coll.ensures.truth

pub returns-clause-truth : goal.returns-clause-truth
returns-clause-truth c =
    let ks = map comp_of c.as_slice-others.result.now in
    let s = tree c.args.s.now in
    let t = tree c.args.t.now in
    let here = view c.in_ok-here-in-Coll.here in
    let there = view c.in_ok-there-in-Coll.there in
    let first = c.in-Some.ensures.first in
    let set : t ≡ coll (comps_of ks) = ap tree c.in-Coll.is ∙ ap (λ z. coll (comps_of z)) (sym c.as_slice-others.ensures) in
    let found = subst (λ z. HoldsWhereItemIn c.args.size 0 s (comps_at ks z) there) c.as_slice.ensures.value c.in_ok-there-in-Coll.ensures.truth in
    IfOk-weaker c.disjunction.result (λ f. IsEither here there (view f)) _
    (λ f either. in_some c.args.size s t ks (view f) set c.in-Some.first c.in_ok-places-in-Coll.places.items here there first.1 c.in_ok-places-in-Coll.ensures.all c.in_ok-here-in-Coll.ensures.truth found either) c.disjunction.ensures
