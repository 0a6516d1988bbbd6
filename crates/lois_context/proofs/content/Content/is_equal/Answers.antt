use Rattle.std.proofs.Common.{◌≡◌, ◌++◌, map, sym, ap, subst, ◌∙◌}
use Rattle.lois_base.specs.Tree.{tree, comp_of}
use Rattle.lois_terms.specs.Collections.{IsColl}
use Rattle.lois_context.specs.Entered.{comps_listed}
use Rattle.lois_context.proofs.Contents.{with_set, same_listed}
use Rattle.lois_context.proofs.content.Content.is_equal.Goals as goal

pub returns-then-is_set-2 : goal.returns-then-is_set-2
returns-then-is_set-2 c =
    let base = c.self.inside.base in let added = c.self.inside.added in
    let other = c.other.inside.base in let others = c.other.inside.added in
    let first : IsColl (tree base) = (with_set base added).1 (subst (λ z. IsColl (tree z)) (sym c.self.view_is) (c.is_set.ensures.0 c.if-is_set.true)) in
    let second : IsColl (tree other) = (with_set other others).1 (subst (λ z. IsColl (tree z)) (sym c.other.view_is) (c.is_set-then-is_set.ensures.0 c.if-is_set-2.true)) in
    let own : map comp_of c.comps_of_set.result.now ≡ comps_listed (tree base) = c.comps_of_set.ensures ∙ ap (λ z. comps_listed (tree z)) c.get.ensures.same in
    let more : map comp_of c.as_slice.result.now ≡ added = c.as_slice.ensures ∙ c.get-then-is_set-2.ensures.same in
    let own_there : map comp_of c.comps_of_set-then-is_set-2.result.now ≡ comps_listed (tree other) = c.comps_of_set-then-is_set-2.ensures ∙ ap (λ z. comps_listed (tree z)) c.get-then-is_set-2-2.ensures.same in
    let more_there : map comp_of c.as_slice-then-is_set-2.result.now ≡ others = c.as_slice-then-is_set-2.ensures ∙ c.get-then-is_set-2-3.ensures.same in
    let left = ap (λ z. z ++ map comp_of c.as_slice.result.now) own ∙ ap (λ z. comps_listed (tree base) ++ z) more in
    let right = ap (λ z. z ++ map comp_of c.as_slice-then-is_set-2.result.now) own_there ∙ ap (λ z. comps_listed (tree other) ++ z) more_there in
    let same = same_listed base other added others first second in (
      λ t. sym (ap tree c.self.view_is) ∙ (same.0 (sym left ∙ (c.are_equal.ensures.0 t ∙ right)) ∙ ap tree c.other.view_is),
      λ e. c.are_equal.ensures.1 (left ∙ (same.1 (ap tree c.self.view_is ∙ (e ∙ sym (ap tree c.other.view_is))) ∙ sym right)),
    )
