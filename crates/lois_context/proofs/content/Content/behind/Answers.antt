use Rattle.std.proofs.Common.{◌≡◌, ◌++◌, ◌-◌, map, drop, length, sym, ap, subst, ◌∙◌, arith}
use Rattle.std.proofs.lemmas.List.{length-map, drop-map}
use Rattle.lois_base.specs.Tree.{tree, comp_of}
use Rattle.lois_terms.specs.Collections.{IsColl}
use Rattle.lois_context.specs.Entered.{comps_listed}
use Rattle.lois_context.proofs.Contents.{with_listed, with_set, dropped_parts}
use Rattle.lois_context.proofs.content.Content.behind.Goals as goal

pub returns : goal.returns
returns c =
    let base = c.self.inside.base in let added = c.self.inside.added in let from = c.args.from in
    let set : IsColl (tree base) = (with_set base added).1 (subst (λ z. IsColl (tree z)) (sym c.self.view_is) (c.is_set.ensures.0 c.if-not-is_set.false)) in
    let own : map comp_of c.comps_of_set-own.result.now ≡ comps_listed (tree base) = c.comps_of_set-own.ensures ∙ ap (λ z. comps_listed (tree z)) c.get.ensures.same in
    let more : map comp_of c.as_slice.result.now ≡ added = c.as_slice.ensures ∙ c.get-2.ensures.same in
    let first : map comp_of c.from_index.result.now ≡ drop from (comps_listed (tree base)) =
    ap (map comp_of) c.from_index.ensures ∙ (sym (drop-map comp_of from c.comps_of_set-own.result.now) ∙ ap (drop from) own) in
    let at : c.saturating_sub.result ≡ from - length (comps_listed (tree base)) =
    omega (arith, c.saturating_sub.ensures, ap length own, length-map c.comps_of_set-own.result.now comp_of) in
    let second : map comp_of c.from_index-2.result.now ≡ drop (from - length (comps_listed (tree base))) added =
    ap (map comp_of) c.from_index-2.ensures ∙ (sym (drop-map comp_of c.saturating_sub.result c.as_slice.result.now) ∙ (ap (drop c.saturating_sub.result) more ∙ ap (λ z. drop z added) at)) in
    ap (λ z. z ++ map comp_of c.from_index-2.result.now) first ∙ (ap (λ z. drop from (comps_listed (tree base)) ++ z) second ∙
    (dropped_parts from (comps_listed (tree base)) added ∙ (ap (drop from) (sym (with_listed base added set)) ∙ ap (λ z. drop from (comps_listed (tree z))) c.self.view_is)))
