use Rattle.std.proofs.Common.{◌≡◌, ◌-◌, ◌≤◌, length, take, drop, sym, ap, subst, ◌∙◌, arith}
use Rattle.std.specs.Prelude.{IfOk}
use Rattle.std.proofs.lemmas.List.{length-map}
use Rattle.lois_base.specs.Tree.{tree, comp_of}
use Rattle.lois_terms.specs.Collections.{IsColl}
use Rattle.lois_context.specs.Content.{with_comps}
use Rattle.lois_context.specs.Entered.{comps_listed}
use Rattle.lois_context.proofs.Contents.{one_term, with_set, first_of_both, rest_of_both}
use Rattle.lois_context.proofs.content.Content.parted.Goals as goal

pub parted_whole-requires : goal.parted_whole-requires
parted_whole-requires c =
    let base = c.self.inside.base in let own = c.in_ok-into_term.field-0 in
    let whole : c.in_ok-set.set ≡ c.args.self =
    c.in_ok-set.ensures ∙ (ap (λ z. with_comps z c.in_ok-more.more) (one_term own base c.in_ok-into_term.ensures.same) ∙ (ap (with_comps base) c.in_ok-more.ensures.same ∙ c.self.view_is)) in
    subst (λ z. IsColl (tree z)) (sym whole) c.requires

pub returns-then-first-count-clause-old : goal.returns-then-first-count-clause-old
returns-then-first-count-clause-old c =
    let base = c.self.inside.base in let own = c.in_ok-into_term.field-0 in
    let whole : c.in_ok-set.set ≡ c.args.self =
    c.in_ok-set.ensures ∙ (ap (λ z. with_comps z c.in_ok-more.more) (one_term own base c.in_ok-into_term.ensures.same) ∙ (ap (with_comps base) c.in_ok-more.ensures.same ∙ c.self.view_is)) in
    subst (λ z. IfOk c.parted_whole.result (λ r. comps_listed (tree r.0) ≡ take c.args.first (comps_listed (tree z)))) whole c.parted_whole.ensures.old

pub returns-then-first-count-clause-added : goal.returns-then-first-count-clause-added
returns-then-first-count-clause-added c =
    let base = c.self.inside.base in let own = c.in_ok-into_term.field-0 in
    let whole : c.in_ok-set.set ≡ c.args.self =
    c.in_ok-set.ensures ∙ (ap (λ z. with_comps z c.in_ok-more.more) (one_term own base c.in_ok-into_term.ensures.same) ∙ (ap (with_comps base) c.in_ok-more.ensures.same ∙ c.self.view_is)) in
    subst (λ z. IfOk c.parted_whole.result (λ r. r.1 ≡ drop c.args.first (comps_listed (tree z)))) whole c.parted_whole.ensures.added

pub returns-clause-set : goal.returns-clause-set
returns-clause-set c =
    let base = c.self.inside.base in
    let set : IsColl (tree base) = (with_set base c.self.inside.added).1 (subst (λ z. IsColl (tree z)) (sym c.self.view_is) c.requires) in
    subst (λ z. IsColl (tree z)) (sym c.in_ok-content.ensures) ((with_set base c.in_ok-parts.parts.0).0 set)

pub returns-clause-old : goal.returns-clause-old
returns-clause-old c =
    let base = c.self.inside.base in let added = c.self.inside.added in let first = c.args.first in let old = c.in_ok-parts.parts.0 in
    let items = c.comps_of_set-count.result.now in
    let set : IsColl (tree base) = (with_set base added).1 (subst (λ z. IsColl (tree z)) (sym c.self.view_is) c.requires) in
    let count : length items ≡ length (comps_listed (tree base)) =
    sym (length-map items comp_of) ∙ ap length (c.comps_of_set-count.ensures ∙ ap (λ z. comps_listed (tree z)) c.get.ensures.same) in
    let within : length (comps_listed (tree base)) ≤ first = omega (arith, c.if-first-count.false, count) in
    let old_is : old ≡ take (first - length (comps_listed (tree base))) added =
    c.in_ok-parts.ensures.old ∙ (ap (take (first - length items)) c.in_ok-more.ensures.same ∙ ap (λ z. take (first - z) added) count) in
    ap (λ z. comps_listed (tree z)) c.in_ok-content.ensures ∙ (first_of_both base added old first set within old_is ∙ ap (λ z. take first (comps_listed (tree z))) c.self.view_is)

pub returns-clause-added : goal.returns-clause-added
returns-clause-added c =
    let base = c.self.inside.base in let added = c.self.inside.added in let first = c.args.first in
    let items = c.comps_of_set-count.result.now in
    let set : IsColl (tree base) = (with_set base added).1 (subst (λ z. IsColl (tree z)) (sym c.self.view_is) c.requires) in
    let count : length items ≡ length (comps_listed (tree base)) =
    sym (length-map items comp_of) ∙ ap length (c.comps_of_set-count.ensures ∙ ap (λ z. comps_listed (tree z)) c.get.ensures.same) in
    let within : length (comps_listed (tree base)) ≤ first = omega (arith, c.if-first-count.false, count) in
    c.in_ok-parts.ensures.added ∙ (ap (drop (first - length items)) c.in_ok-more.ensures.same ∙ (ap (λ z. drop (first - z) added) count ∙ (rest_of_both base added first set within ∙ ap (λ z. drop first (comps_listed (tree z))) c.self.view_is)))
