use Rattle.std.proofs.Common.{[], ◌∷◌, ◌++◌, ◌≡◌, sym, ap, subst, ◌∙◌}
use Rattle.std.specs.Prelude.{IfOk}
use Rattle.std.proofs.lemmas.Result.{IfOk-weaker}
use Rattle.lois_base.specs.Tree.{comp_of}
use Rattle.lois_context.specs.Content.{with_comps}
use Rattle.lois_context.specs.Noted.{IsNotedOf}
use Rattle.lois_context.proofs.Contents.{with_none, with_twice}
use Rattle.lois_context.proofs.content.Content.with_comp.Goals as goal

pub returns-in-Ok : goal.returns-in-Ok
returns-in-Ok c =
    let k = comp_of c.args.comp in
    let base = c.self.inside.base in let added = c.self.inside.added in
    let more = c.push.new.self in
    let whole = c.in_ok-base-in-Ok.base in
    let more_is : more ≡ added ++ k ∷ [] = c.in_ok-push.ensures.ok ∙ ap (λ z. z ++ k ∷ []) c.in_ok-more.ensures.same in
    let grown_is : whole ≡ with_comps c.in-Ok.term more = c.in_ok-base-in-Ok.ensures.same ∙ c.in_ok-grown-in-Ok.ensures in
    let all : whole ≡ with_comps c.args.self (k ∷ []) =
    grown_is ∙ (ap (λ z. with_comps z more) c.in-Ok.ensures.moved ∙ (ap (with_comps base) more_is ∙ (sym (with_twice base added (k ∷ [])) ∙ ap (λ z. with_comps z (k ∷ [])) c.self.view_is))) in
    IfOk-weaker c.holding.result (λ r. r ≡ with_comps whole []) (λ r. r ≡ with_comps c.args.self (k ∷ []))
    (λ r is. is ∙ (with_none whole ∙ all)) (subst (λ z. IfOk c.holding.result (λ r. r ≡ with_comps whole z)) c.new-in-Ok-3.ensures c.holding.ensures)

pub holding-requires : goal.holding-requires
holding-requires c =
    let base = c.self.inside.base in let noted = c.self.inside.noted in
    let more = c.push.new.self in let whole = c.in_ok-base-in-Ok.base in
    let grown_is : whole ≡ with_comps c.in-Ok.term more = c.in_ok-base-in-Ok.ensures.same ∙ c.in_ok-grown-in-Ok.ensures in
    let own : IsNotedOf noted c.in-Ok.term = subst (IsNotedOf noted) (sym c.in-Ok.ensures.moved) c.self.invariant.1 in
    subst (IsNotedOf c.note_more-noted.result) (ap (with_comps c.in-Ok.term) c.as_slice.ensures ∙ sym grown_is) (c.note_more-noted.ensures c.in-Ok.term own)
