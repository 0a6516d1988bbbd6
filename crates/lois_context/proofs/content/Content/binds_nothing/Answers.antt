use Rattle.std.proofs.Common.{subst, ◌∙◌}
use Rattle.lois_base.specs.Data.{comps_of}
use Rattle.lois_base.specs.Tree.{tree}
use Rattle.lois_terms.specs.Binding.{BindsNothing, ItemsBindNothing}
use Rattle.lois_context.proofs.Contents.{with_unbound}
use Rattle.lois_context.proofs.content.Content.binds_nothing.Goals as goal

pub returns-then-is_noted_unbound : goal.returns-then-is_noted_unbound
returns-then-is_noted_unbound c = λ yes.
    let base = c.self.inside.base in let added = c.self.inside.added in
    let own : BindsNothing (tree base) = subst (λ z. BindsNothing (tree z)) c.get.ensures.same (c.is_noted_unbound.ensures c.if-is_noted_unbound.true) in
    let more : ItemsBindNothing (comps_of added) = subst (λ z. ItemsBindNothing (comps_of z)) (c.as_slice.ensures ∙ c.get-then-is_noted_unbound.ensures.same) (c.bind_nothing.ensures yes) in
    subst (λ z. BindsNothing (tree z)) c.self.view_is (with_unbound base added own more)
