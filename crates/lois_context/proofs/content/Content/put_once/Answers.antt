use Rattle.std.proofs.Common.{[], ◌∷◌, ◌≡◌, sym, ap, subst, ◌∙◌}
use Rattle.std.proofs.lemmas.Result.{IfOk-weaker}
use Rattle.lois_base.specs.Tree.{tree, comp_of}
use Rattle.std.specs.List.{Contains}
use Rattle.lois_context.specs.Content.{with_comps}
use Rattle.lois_context.specs.Entered.{comps_listed}
use Rattle.lois_context.specs.Put.{IsWithOnce}
use Rattle.lois_context.proofs.Contents.{put_kept, put_behind}
use Rattle.lois_context.proofs.content.Content.put_once.Goals as goal

pub returns-then-has : goal.returns-then-has
returns-then-has c =
    let k = comp_of c.args.comp in
    let known = c.in_ok-known.known in
    let same : known ≡ c.args.self = c.in_ok-known.ensures in
    let there = subst (λ z. Contains (comps_listed (tree z)) k) same (c.has.ensures c.if-has.true) in
    subst (λ z. IsWithOnce (tree c.args.self) k (tree z)) (sym same) (put_kept (tree c.args.self) k c.requires there)

pub returns : goal.returns
returns c =
    let k = comp_of c.args.comp in
    let known = c.in_ok-known.known in
    IfOk-weaker c.with_comp.result (λ r. r ≡ with_comps known (k ∷ [])) (λ r. IsWithOnce (tree c.args.self) k (tree r))
    (λ r is. put_behind c.args.self r k c.requires (is ∙ ap (λ z. with_comps z (k ∷ [])) c.in_ok-known.ensures)) c.with_comp.ensures
