use Rattle.std.proofs.Common.{◌≡◌, ℕ, false, ◌+◌, ◌<◌, ◌≤◌, List, [], length, get_or, set, map, sym, ap, ◌∙◌, subst, arith}
use Rattle.std.proofs.lemmas.List.{nil_from_length}
use Rattle.std.proofs.lemmas.List.Elements.{Contains-push}
use Rattle.std.specs.List.{Contains, filter}
use Rattle.lois_deciders.specs.Ranks.{AreUnheld, is_step_from, occurrences}
use Rattle.lois_deciders.proofs.Ranking.{IsRanking}
use Rattle.lois_deciders.proofs.Queued.{IsQueue, first_queue, no_label_ready, next_queue, enough_steps, ready_level, all_ranked}
use Rattle.lois_deciders.proofs.ranks.rank_labels.Goals as goal

pub loop-rank-init : goal.loop-rank-init
loop-rank-init c =
    first_queue c.args.cube.now c.args.labels.now c.in_ok-steps.steps.items c.in_ok-unheld.unheld.items c.in_ok-ranks.ranks.items c.in_ok-steps.ensures.count (omega (arith, c.in_ok-ranks.ensures.len)) c.in_ok-steps.ensures.steps (subst (λ (s : List ℕ). AreUnheld s c.in_ok-unheld.unheld.items) c.deref.ensures.value c.in_ok-unheld.ensures)

pub returns-in_default-clause-none : goal.returns-in_default-clause-none
returns-in_default-clause-none c =
    let q = c.loop-rank.invariant.1 in
    let none : c.loop-rank.unheld.items ≡ [] = nil_from_length c.loop-rank.unheld.items (omega (arith, c.in_default.ensures.cases.0)) in
    no_label_ready c.args.cube.now c.args.labels.now c.loop-rank.steps.items c.loop-rank.ranks.items c.loop-rank.rank c.loop-rank.invariant.0 c.requires.levels c.requires.labelling (subst (λ (u : List ℕ). IsQueue c.args.cube.now c.args.labels.now c.loop-rank.steps.items u c.loop-rank.ranks.items c.loop-rank.rank c.loop-rank.invariant.0) none q) c.loop-rank-test.true

pub index_mut-requires : goal.index_mut-requires
index_mut-requires c =
    let q = c.loop-rank.invariant.1 in
    let x : ℕ = c.in-Some.label in
    let among : Contains c.loop-rank.unheld.items x = subst (λ (u : List ℕ). Contains u x) (sym c.in-Some.ensures.items) (Contains-push c.pop.new.self.items x) in
    let l : x < length c.args.labels.now = ready_level c.args.cube.now c.args.labels.now c.loop-rank.steps.items c.loop-rank.unheld.items c.loop-rank.ranks.items c.loop-rank.rank c.loop-rank.invariant.0 x q among in
    omega (arith, l, q.ranking.rank_count)

pub index-requires : goal.index-requires
index-requires c =
    let q = c.loop-rank.invariant.1 in
    let x : ℕ = c.in-Some.label in
    let among : Contains c.loop-rank.unheld.items x = subst (λ (u : List ℕ). Contains u x) (sym c.in-Some.ensures.items) (Contains-push c.pop.new.self.items x) in
    let l : x < length c.args.labels.now = ready_level c.args.cube.now c.args.labels.now c.loop-rank.steps.items c.loop-rank.unheld.items c.loop-rank.ranks.items c.loop-rank.rank c.loop-rank.invariant.0 x q among in
    omega (arith, l, c.in_ok-above.ensures.count)

pub release-requires : goal.release-requires
release-requires c =
    let q = c.loop-rank.invariant.1 in
    let x : ℕ = c.in-Some.label in
    let among : Contains c.loop-rank.unheld.items x = subst (λ (u : List ℕ). Contains u x) (sym c.in-Some.ensures.items) (Contains-push c.pop.new.self.items x) in
    let l : x < length c.args.labels.now = ready_level c.args.cube.now c.args.labels.now c.loop-rank.steps.items c.loop-rank.unheld.items c.loop-rank.ranks.items c.loop-rank.rank c.loop-rank.invariant.0 x q among in
    let above : c.deref-in-loop-rank.result.now ≡ map (λ l. get_or c.args.labels.now l.right 0) (filter (is_step_from c.args.labels.now x) c.args.cube.now) = c.deref-in-loop-rank.ensures ∙ (ap (λ v. v.items) c.index.ensures ∙ c.in_ok-above.ensures.uppers x c.index.result.now l) in
    let enough = enough_steps c.args.cube.now c.args.labels.now c.loop-rank.steps.items c.loop-rank.unheld.items c.loop-rank.ranks.items c.loop-rank.rank c.loop-rank.invariant.0 x q among in
    λ y. subst (λ (a : List ℕ). occurrences y a ≤ get_or c.loop-rank.steps.items y 0) (sym above) (enough y)

pub loop-rank-preserved : goal.loop-rank-preserved
loop-rank-preserved c =
    let q = c.loop-rank.invariant.1 in
    let x : ℕ = c.in-Some.label in
    let r = c.in_ok-release.ensures in
    let among : Contains c.loop-rank.unheld.items x = subst (λ (u : List ℕ). Contains u x) (sym c.in-Some.ensures.items) (Contains-push c.pop.new.self.items x) in
    let l : x < length c.args.labels.now = ready_level c.args.cube.now c.args.labels.now c.loop-rank.steps.items c.loop-rank.unheld.items c.loop-rank.ranks.items c.loop-rank.rank c.loop-rank.invariant.0 x q among in
    let above : c.deref-in-loop-rank.result.now ≡ map (λ l. get_or c.args.labels.now l.right 0) (filter (is_step_from c.args.labels.now x) c.args.cube.now) = c.deref-in-loop-rank.ensures ∙ (ap (λ v. v.items) c.index.ensures ∙ c.in_ok-above.ensures.uppers x c.index.result.now l) in
    let popped = subst (λ (u : List ℕ). IsQueue c.args.cube.now c.args.labels.now c.loop-rank.steps.items u c.loop-rank.ranks.items c.loop-rank.rank c.loop-rank.invariant.0) c.in-Some.ensures.items q in
    let dropped = λ (y : ℕ). subst (λ (a : List ℕ). get_or c.release.new.steps.items y 0 + occurrences y a ≡ get_or c.loop-rank.steps.items y 0) above (r.steps y) in
    (set c.loop-rank.invariant.0 x false, next_queue c.args.cube.now c.args.labels.now c.loop-rank.steps.items c.loop-rank.ranks.items c.loop-rank.rank c.loop-rank.invariant.0 c.requires.levels c.requires.labelling c.pop.new.self.items x popped c.release.new.steps.items c.release.new.unheld.items dropped r.unheld)

pub returns-clause-found : goal.returns-clause-found
returns-clause-found c =
    let q = c.loop-rank.invariant.1 in
    let e : c.loop-rank.rank ≡ length c.args.labels.now = omega arith in
    all_ranked c.args.cube.now c.args.labels.now c.loop-rank.invariant.0 c.loop-rank.ranks.items c.requires.levels c.requires.labelling (subst (IsRanking c.args.cube.now c.args.labels.now c.loop-rank.invariant.0 c.loop-rank.ranks.items) e q.ranking)
