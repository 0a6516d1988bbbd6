use Rattle.std.proofs.Common.{◌≡◌, ℕ, ◌+◌, ◌<◌, ◌⊎◌, inl, inr, List, get_or, sym, ap, ◌∙◌, subst, arith}
use Rattle.std.proofs.lemmas.Bool.{cases_order}
use Rattle.std.proofs.lemmas.List.{get_or_default}
use Rattle.lois_base.specs.declared.guards.Lit.{Lit}
use Rattle.lois_constraint.specs.Entailment.{Entails}
use Rattle.lois_constraint.proofs.antichain.Antichain.covers.Goals as goal

pub loop-other-preserved : goal.loop-other-preserved
loop-other-preserved c = λ k d l. go k d l (cases_order k i)
  where
    i : ℕ
    i = c.loop-other.other-index

    items : List (List Lit)
    items = c.deref-other-items.result.now

    go : (k : ℕ) (d : List Lit) → k < i + 1 → (k ≡ i) ⊎ ((k < i) ⊎ (i < k)) → Entails c.args.cube.now (get_or items k d) → ⊥
    go k d l (inl at) = λ within.
        let is : get_or items k d ≡ c.other-item.result = ap (λ j. get_or items j d) at ∙ (get_or_default items i d c.other-item.result c.loop-other-test.true ∙ sym c.other-item.is) in
        let yes = c.entails_cube.ensures.1 (subst (Entails c.args.cube.now) is within) in
        let no = c.if-entails_cube.false in
        cc
    go k d l (inr (inl less)) = c.loop-other.invariant k d less
    go k d l (inr (inr more)) = absurd (omega arith)
