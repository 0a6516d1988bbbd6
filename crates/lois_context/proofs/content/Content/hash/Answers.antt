use Rattle.std.proofs.Common.{sym, ap, subst, ◌∙◌}
use Rattle.lois_base.specs.Tree.{tree}
use Rattle.lois_terms.specs.Collections.{IsColl}
use Rattle.lois_context.specs.Entered.{comps_listed}
use Rattle.lois_context.specs.Hash.{comps_hash, content_hash}
use Rattle.lois_context.proofs.Contents.{with_hash, with_set}
use Rattle.lois_context.proofs.content.Content.hash.Goals as goal

pub returns : goal.returns
returns c =
    let base = c.self.inside.base in let added = c.self.inside.added in let h = c.args.seed in
    let set : IsColl (tree base) = (with_set base added).1 (subst (λ z. IsColl (tree z)) (sym c.self.view_is) (c.is_set.ensures.0 c.if-not-is_set.false)) in
    let first = c.hash_comps-hash.ensures ∙ ap (comps_hash h) (c.comps_of_set.ensures ∙ ap (λ z. comps_listed (tree z)) c.get-2.ensures.same) in
    let second = ap (comps_hash c.hash_comps-hash.result) (c.as_slice.ensures ∙ c.get-3.ensures.same) in
    c.hash_comps.ensures ∙ (second ∙ (ap (λ z. comps_hash z added) first ∙ (sym (with_hash base added h set) ∙ ap (λ z. content_hash h (tree z)) c.self.view_is)))
