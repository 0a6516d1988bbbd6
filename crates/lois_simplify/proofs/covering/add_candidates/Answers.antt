use Rattle.std.proofs.Common.{◌≡◌, ℕ, inl, map, get_or, Some, Contains, refl, subst, arith}
use Rattle.std.proofs.lemmas.List.{take_all}
use Rattle.std.proofs.lemmas.List.Elements.{All-nil}
use Rattle.std.specs.List.{All}
use Rattle.lois_base.specs.Data.{CompD}
use Rattle.lois_base.specs.Tree.{comp_of}
use Rattle.lois_simplify.specs.Candidates.{behind}
use Rattle.lois_simplify.proofs.Candidates.{still_there, added_only, behind_among, looked_further, all_added}
use Rattle.lois_simplify.proofs.covering.add_candidates.Goals as goal

pub loop-position-init : goal.loop-position-init
loop-position-init c = record {
  kept = λ k h. h;
  only = λ k h. inl h;
  all = All-nil (λ i. (k : CompD) → behind c.args.first (map comp_of c.args.comps.now) i ≡ Some k → Contains c.args.candidates.now k);
}

pub loop-position-preserved : goal.loop-position-preserved
loop-position-preserved c =
    let others = map comp_of c.args.comps.now in
    let first = c.args.first in
    let ps = c.positions-position-items.result.now in
    let j = c.loop-position.position-index in
    let i : ℕ = get_or ps j 0 in
    let adds = c.in_ok-add_candidate.ensures in
    record {
      kept = still_there 0 others c.args.candidates.now c.loop-position.candidates c.add_candidate.new.candidates (behind first others i) adds c.loop-position.invariant.kept;
      only = added_only 0 others c.args.candidates.now c.loop-position.candidates c.add_candidate.new.candidates (behind first others i) adds (behind_among first others i) c.loop-position.invariant.only;
      all = looked_further first others c.loop-position.candidates c.add_candidate.new.candidates ps j i 0 (omega (arith, c.loop-position-test.true)) refl adds c.loop-position.invariant.all;
    }

pub returns : goal.returns
returns c =
    let others = map comp_of c.args.comps.now in
    let first = c.args.first in
    let ps = c.positions-position-items.result.now in
    let P : ℕ → Type 0 = λ i. (k : CompD) → behind first others i ≡ Some k → Contains c.loop-position.candidates k in
    record {
      kept = c.loop-position.invariant.kept;
      only = c.loop-position.invariant.only;
      all = all_added c.args.shape first others c.loop-position.candidates c.args.shapes.now ps c.requires c.positions-position-items.ensures.found
          (subst (All P) (take_all c.loop-position.position-index ps (omega (arith, c.loop-position-test.false))) c.loop-position.invariant.all);
    }
