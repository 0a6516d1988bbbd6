use Rattle.std.proofs.Common.{◌≡◌, ◌++◌, map, subst, Contains}
use Rattle.std.proofs.lemmas.Result.{IfOk-weaker}
use Rattle.std.specs.Bool.{IsTrue, IsFalse}
use Rattle.lois_base.specs.Data.{CompD}
use Rattle.lois_base.specs.Tree.{tree, comp_of}
use Rattle.lois_terms.specs.Shapes.{item_shape}
use Rattle.lois_simplify.specs.Candidates.{AddsCandidates}
use Rattle.lois_simplify.specs.Covered.{IsCovered}
use Rattle.lois_simplify.specs.Lean.{HasOwn}
use Rattle.lois_simplify.proofs.Candidates.{candidates_only, candidates_all, candidates_fit, candidates_admit, covered_by_all, own_beside_all}
use Rattle.lois_simplify.proofs.covering.is_covered.Goals as goal

pub is_covered_by-requires-clause-other : goal.is_covered_by-requires-clause-other
is_covered_by-requires-clause-other g c =
    let x = c.shape-shape.result in
    let kept = c.args.kept.now in
    let coming = map comp_of c.args.coming.now in
    let one = subst (λ z. AddsCandidates x kept z c.add_candidates.new.candidates) c.new-candidates.ensures (subst (λ z. AddsCandidates x z c.new-candidates.result c.add_candidates.new.candidates) c.as_slice.ensures c.in_ok-add_candidates.ensures) in
    record {
      levels = candidates_fit x kept coming c.add_candidates.new.candidates c.add_candidates-2.new.candidates one c.in_ok-add_candidates-2.ensures c.args.size c.requires.kept.levels c.requires.coming.levels;
      operators = candidates_admit x kept coming c.add_candidates.new.candidates c.add_candidates-2.new.candidates one c.in_ok-add_candidates-2.ensures g.T.Structure.ordered c.requires.kept.operators c.requires.coming.operators;
    }

pub returns-clause-covered : goal.returns-clause-covered
returns-clause-covered g c =
    let x = c.shape-shape.result in
    let k = c.args.comp.now in
    let kept = c.args.kept.now in
    let coming = map comp_of c.args.coming.now in
    let rs = c.add_candidates-2.new.candidates in
    let one = subst (λ z. AddsCandidates x kept z c.add_candidates.new.candidates) c.new-candidates.ensures (subst (λ z. AddsCandidates x z c.new-candidates.result c.add_candidates.new.candidates) c.as_slice.ensures c.in_ok-add_candidates.ensures) in
    let only = candidates_only x kept coming c.add_candidates.new.candidates rs one c.in_ok-add_candidates-2.ensures in
    IfOk-weaker c.is_covered_by.result (λ b. IsTrue b → IsCovered c.args.under.now c.args.size rs (comp_of k)) _ (λ b covered t. covered_by_all c.args.under.now c.args.size k.binders k.guard (tree k.item) (kept ++ coming) rs only (covered t)) c.is_covered_by.ensures.covered

pub returns-clause-own : goal.returns-clause-own
returns-clause-own g c =
    let x = c.shape-shape.result in
    let k = c.args.comp.now in
    let kept = c.args.kept.now in
    let coming = map comp_of c.args.coming.now in
    let rs = c.add_candidates-2.new.candidates in
    let one = subst (λ z. AddsCandidates x kept z c.add_candidates.new.candidates) c.new-candidates.ensures (subst (λ z. AddsCandidates x z c.new-candidates.result c.add_candidates.new.candidates) c.as_slice.ensures c.in_ok-add_candidates.ensures) in
    let only = candidates_only x kept coming c.add_candidates.new.candidates rs one c.in_ok-add_candidates-2.ensures in
    let all = subst (λ z. (j : CompD) → Contains (kept ++ coming) j → item_shape j ≡ z → Contains rs j) c.shape-shape.ensures.exact (candidates_all x kept coming c.add_candidates.new.candidates rs one c.in_ok-add_candidates-2.ensures) in
    IfOk-weaker c.is_covered_by.result (λ b. IsFalse b → HasOwn c.args.under.now c.args.size rs (comp_of k)) _ (λ b own f. own_beside_all c.args.under.now c.args.size k.binders k.guard (tree k.item) (kept ++ coming) rs only all (own f)) c.is_covered_by.ensures.own
