use Rattle.std.proofs.Common.{◌≡◌, ℕ, ◌+◌, ◌<◌, List, ◌∷◌, [], ◌++◌, get_or, sym, ap, ◌∙◌, subst}
use Rattle.std.specs.List.{All, AllPairs, Contains}
use Rattle.lois_deciders.proofs.Queued.{still_free, also_free, also_found, still_found, also_distinct}
use Rattle.lois_deciders.proofs.ranks.unheld_labels.Goals as goal
use Rattle.lois_deciders.proofs.ranks.unheld_labels.Goals.{then-count-eq0+in_ok-push, else-count-eq0}

pub loop-label-preserved : goal.loop-label-preserved
loop-label-preserved c =
    let steps : List ℕ = c.args.steps.now in
    let i : ℕ = c.loop-label.label in
    let before : List ℕ = c.loop-label.unheld.items in
    let h = c.loop-label.invariant in
    elim c.if-count-eq0.branch [
      | then-count-eq0+in_ok-push w ↦ (let e : before ++ i ∷ [] ≡ c.if-count-eq0.unheld.items = sym (ap (λ v. v.items) w.unheld-is ∙ w.in_ok-push.ensures.items) in
          record {
            free = subst (All (λ z. (z < i + 1) × (get_or steps z 0 ≡ 0))) e (also_free steps i c.loop-label-test.true before h.free h.found w.if-count-eq0.true);
            found = subst (λ (u : List ℕ). (z : ℕ) → z < i + 1 → get_or steps z 0 ≡ 0 → Contains u z) e (also_found steps i c.loop-label-test.true before h.free h.found w.if-count-eq0.true);
            distinct = subst (AllPairs (λ y z. y ≡ z → ⊥)) e (also_distinct steps i c.loop-label-test.true before h.free h.found h.distinct);
          })
      | else-count-eq0 w ↦ (let e : before ≡ c.if-count-eq0.unheld.items = sym (ap (λ v. v.items) w.unheld-is) in
          record {
            free = subst (All (λ z. (z < i + 1) × (get_or steps z 0 ≡ 0))) e (still_free steps i c.loop-label-test.true before h.free h.found);
            found = subst (λ (u : List ℕ). (z : ℕ) → z < i + 1 → get_or steps z 0 ≡ 0 → Contains u z) e (still_found steps i c.loop-label-test.true before h.free h.found w.if-count-eq0.false);
            distinct = subst (AllPairs (λ y z. y ≡ z → ⊥)) e h.distinct;
          })
    ]
