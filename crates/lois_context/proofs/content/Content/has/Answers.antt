use Rattle.std.proofs.Common.{sym, ap, subst, ◌∙◌}
use Rattle.std.specs.List.{Contains}
use Rattle.lois_base.specs.Tree.{tree, comp_of}
use Rattle.lois_terms.specs.Collections.{IsColl}
use Rattle.lois_context.specs.Entered.{comps_listed}
use Rattle.lois_context.proofs.Contents.{with_set, among_first, among_second}
use Rattle.lois_context.proofs.content.Content.has.Goals as goal

pub returns-then-finds : goal.returns-then-finds
returns-then-finds c = λ t.
    let base = c.self.inside.base in let added = c.self.inside.added in let k = comp_of c.args.comp.now in
    let set : IsColl (tree base) = (with_set base added).1 (subst (λ z. IsColl (tree z)) (sym c.self.view_is) c.requires) in
    let own : Contains (comps_listed (tree base)) k = subst (λ z. Contains z k) (c.comps_of_set.ensures ∙ ap (λ z. comps_listed (tree z)) c.get-2.ensures.same) (c.finds.ensures t) in
    subst (λ z. Contains (comps_listed (tree z)) k) c.self.view_is (among_first base added k set own)

pub returns-else-finds : goal.returns-else-finds
returns-else-finds c = λ t.
    let base = c.self.inside.base in let added = c.self.inside.added in let k = comp_of c.args.comp.now in
    let set : IsColl (tree base) = (with_set base added).1 (subst (λ z. IsColl (tree z)) (sym c.self.view_is) c.requires) in
    let own : Contains added k = subst (λ z. Contains z k) (c.as_slice.ensures ∙ c.get-else-finds-2.ensures.same) (c.finds-else-finds.ensures t) in
    subst (λ z. Contains (comps_listed (tree z)) k) c.self.view_is (among_second base added k set own)
