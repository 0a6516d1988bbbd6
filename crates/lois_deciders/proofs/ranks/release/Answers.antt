use Rattle.std.proofs.Common.{◌≡◌, ℕ, ◌+◌, ◌-◌, List, [], ◌∷◌, ◌++◌, get_or, set, take, refl, ap, ◌∙◌, subst, sym, arith}
use Rattle.lois_deciders.specs.Ranks.{occurrences, IsReleased}
use Rattle.lois_deciders.proofs.Queued.{some_left, within, lower_here, lower_steps, released_more, released_same, nothing_released, read_at}
use Rattle.lois_deciders.proofs.ranks.release.Goals as goal
use Rattle.lois_deciders.proofs.ranks.release.Goals.{then-left-eq0+in_ok-push, else-left-eq0}

pub loop-label-init : goal.loop-label-init
loop-label-init c = record {
  steps = λ y. omega arith;
  unheld = nothing_released c.args.steps.now.items c.args.unheld.now.items;
}

pub index-requires : goal.index-requires
index-requires c =
    let inside = within c.args.steps.now.items c.loop-label.steps.items c.args.above.now c.loop-label.label-index (get_or c.args.above.now c.loop-label.label-index 0) c.loop-label-test.true refl c.requires c.loop-label.invariant.steps in
    omega (arith, inside)

pub index_mut-requires : goal.index_mut-requires
index_mut-requires c =
    let inside = within c.args.steps.now.items c.loop-label.steps.items c.args.above.now c.loop-label.label-index (get_or c.args.above.now c.loop-label.label-index 0) c.loop-label-test.true refl c.requires c.loop-label.invariant.steps in
    omega (arith, inside)

pub overflow_sub-left : goal.overflow_sub-left
overflow_sub-left c =
    let u : ℕ = get_or c.args.above.now c.loop-label.label-index 0 in
    let inside = within c.args.steps.now.items c.loop-label.steps.items c.args.above.now c.loop-label.label-index u c.loop-label-test.true refl c.requires c.loop-label.invariant.steps in
    let some = some_left c.args.steps.now.items c.loop-label.steps.items c.args.above.now c.loop-label.label-index u c.loop-label-test.true refl c.requires c.loop-label.invariant.steps in
    let e : c.index.result.now ≡ get_or c.loop-label.steps.items u 0 = read_at c.loop-label.steps.items u c.index.result.now c.index.ensures inside in
    omega (arith, e, some)

pub loop-label-preserved : goal.loop-label-preserved
loop-label-preserved c =
    let first : List ℕ = c.args.steps.now.items in
    let steps : List ℕ = c.loop-label.steps.items in
    let above : List ℕ = c.args.above.now in
    let i : ℕ = c.loop-label.label-index in
    let u : ℕ = get_or above i 0 in
    let free : List ℕ = c.args.unheld.now.items in
    let next : List ℕ = c.loop-label.unheld.items in
    let h = c.loop-label.invariant in
    let inside = within first steps above i u c.loop-label-test.true refl c.requires h.steps in
    let e : get_or steps u 0 ≡ c.index.result.now = sym (read_at steps u c.index.result.now c.index.ensures inside) in
    let here = lower_here first steps above i u c.loop-label-test.true refl c.requires h.steps in
    let fewer = subst (λ (v : ℕ). (y : ℕ) → get_or (set steps u (v - 1)) y 0 + occurrences y (take (i + 1) above) ≡ get_or first y 0) e (lower_steps first steps above i u c.loop-label-test.true refl c.requires h.steps) in
    elim c.if-left-eq0.branch [
      | then-left-eq0+in_ok-push w ↦ record {
        steps = fewer;
        unheld = subst (IsReleased first (set steps u (c.index.result.now - 1)) free) (sym (ap (λ v. v.items) w.unheld-is ∙ w.in_ok-push.ensures.items)) (subst (λ (v : ℕ). IsReleased first (set steps u (v - 1)) free (next ++ u ∷ [])) e (released_more first steps above i u c.loop-label-test.true refl c.requires h.steps free next h.unheld (here ∙ (ap (λ v. v - 1) e ∙ w.if-left-eq0.true))));
      }
      | else-left-eq0 w ↦ record {
        steps = fewer;
        unheld = subst (IsReleased first (set steps u (c.index.result.now - 1)) free) (sym (ap (λ v. v.items) w.unheld-is)) (subst (λ (v : ℕ). IsReleased first (set steps u (v - 1)) free next) e (released_same first steps above i u c.loop-label-test.true refl c.requires h.steps free next h.unheld (λ z. w.if-left-eq0.false (sym (ap (λ v. v - 1) e) ∙ (sym here ∙ z)))));
      }
    ]
