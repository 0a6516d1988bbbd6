use Rattle.std.proofs.Common.{length, sym, ap, subst, arith}
use Rattle.std.proofs.lemmas.List.{length-map}
use Rattle.lois_base.specs.Tree.{tree, comp_of}
use Rattle.lois_terms.specs.Collections.{IsColl}
use Rattle.lois_context.specs.Entered.{comps_listed}
use Rattle.lois_context.specs.ItemCounts.{comps_in}
use Rattle.lois_context.proofs.Contents.{own_counted, with_count, with_set}
use Rattle.lois_context.proofs.content.Content.count.Goals as goal

pub overflow_add-result : goal.overflow_add-result
overflow_add-result c =
    omega (arith, c.self.invariant, own_counted c.self.inside.base, ap length c.comps_of_set.ensures, length-map c.comps_of_set.result.now comp_of, ap (λ z. length (comps_listed (tree z))) c.get.ensures.same, c.len.ensures, ap length c.get-2.ensures.same)

pub returns : goal.returns
returns c =
    let base = c.self.inside.base in let added = c.self.inside.added in
    let set : IsColl (tree base) = (with_set base added).1 (subst (λ z. IsColl (tree z)) (sym c.self.view_is) (c.is_set.ensures.0 c.if-not-is_set.false)) in
    omega (arith, with_count base added set, ap (λ z. comps_in (tree z)) c.self.view_is, ap length c.comps_of_set.ensures, length-map c.comps_of_set.result.now comp_of, ap (λ z. length (comps_listed (tree z))) c.get.ensures.same, c.len.ensures, ap length c.get-2.ensures.same)
