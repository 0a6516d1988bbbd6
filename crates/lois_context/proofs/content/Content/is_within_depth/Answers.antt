use Rattle.std.proofs.Common.{◌≤◌, ◌<◌, subst, ◌∙◌}
use Rattle.lois_base.specs.Data.{depth}
use Rattle.lois_base.specs.ListDepth.{depth_of_comps}
use Rattle.lois_base.specs.Tree.{tree}
use Rattle.lois_terms.proofs.Heights.{not_deeper}
use Rattle.lois_context.proofs.Contents.{with_depth}
use Rattle.lois_context.proofs.content.Content.is_within_depth.Goals as goal

pub returns-then-is_noted_within_depth-clause-written : goal.returns-then-is_noted_within_depth-clause-written
returns-then-is_noted_within_depth-clause-written c = λ t.
    let base = c.self.inside.base in let added = c.self.inside.added in let n = c.args.limit in
    let own : depth (tree base) ≤ n = subst (λ z. depth (tree z) ≤ n) c.get.ensures.same (c.is_noted_within_depth.ensures c.if-is_noted_within_depth.true) in
    let more : depth_of_comps added < n = subst (λ z. depth_of_comps z < n) (c.as_slice.ensures ∙ c.get-then-is_noted_within_depth.ensures.same) (c.are_within_depth.ensures t) in
    subst (λ z. depth (tree z) ≤ n) c.self.view_is (with_depth base added n own more)

pub returns-then-is_noted_within_depth-clause-values : goal.returns-then-is_noted_within_depth-clause-values
returns-then-is_noted_within_depth-clause-values c = λ t.
    let base = c.self.inside.base in let added = c.self.inside.added in let n = c.args.limit in
    let own : depth (tree base) ≤ n = subst (λ z. depth (tree z) ≤ n) c.get.ensures.same (c.is_noted_within_depth.ensures c.if-is_noted_within_depth.true) in
    let more : depth_of_comps added < n = subst (λ z. depth_of_comps z < n) (c.as_slice.ensures ∙ c.get-then-is_noted_within_depth.ensures.same) (c.are_within_depth.ensures t) in
    not_deeper (tree c.args.self.now) n (subst (λ z. depth (tree z) ≤ n) c.self.view_is (with_depth base added n own more))
