use Rattle.std.proofs.Common.{◌↔◌, subst}
use Rattle.std.specs.Bool.{IsTrue}
use Rattle.lois_base.specs.Tree.{tree}
use Rattle.lois_terms.specs.Collections.{IsColl}
use Rattle.lois_context.proofs.Contents.{with_set}
use Rattle.lois_context.proofs.content.Content.is_set.Goals as goal

pub returns : goal.returns
returns c =
    let base = c.self.inside.base in
    let added = c.self.inside.added in
    let own = subst (λ z. IsTrue c.is_set.result ↔ IsColl (tree z)) c.get.ensures.same c.is_set.ensures in
    let set = with_set base added in
    subst (λ z. IsTrue c.is_set.result ↔ IsColl (tree z)) c.self.view_is (λ t. set.0 (own.0 t), λ h. own.1 (set.1 h))
