use Rattle.std.proofs.Common.{◌≡◌, take, get_or, sym, subst, ◌∙◌, arith}
use Rattle.std.specs.Prelude.{bytes_eq}
use Rattle.std.specs.Bool.{IsFalse}
use Rattle.std.proofs.lemmas.List.{take_more, take_all}
use Rattle.std.proofs.lemmas.List.Elements.{All-push}
use Rattle.lois_eval.specs.WellFormed.{IsNamed, IsUnnamed}
use Rattle.lois_vectors_expressions.proofs.Placed.{named_at}
use Rattle.lois_vectors_expressions.proofs.standing.named.Goals as goal

pub returns-then-eq-clause-some : goal.returns-then-eq-clause-some
returns-then-eq-clause-some c =
    let items = c.as_slice-other-items.result.now in
    let here = named_at c.args.name.now items c.loop-other.other-index c.other-item.result c.loop-other-test.true c.other-item.is (sym c.eq.ensures ∙ c.if-eq.true) in
    subst (IsNamed c.args.name.now) c.as_slice-other-items.ensures here

pub loop-other-preserved : goal.loop-other-preserved
loop-other-preserved c =
    let x = c.args.name.now in
    let items = c.as_slice-other-items.result.now in
    let i = c.loop-other.other-index in
    let other = c.other-item.result in
    let apart : IsFalse (bytes_eq other x) = sym c.eq.ensures ∙ c.if-eq.false in
    subst (IsUnnamed x) (sym (take_more items i other c.loop-other-test.true))
    (All-push (λ y. IsFalse (bytes_eq y x)) (take i items) (get_or items i other) c.loop-other.invariant (subst (λ y. IsFalse (bytes_eq y x)) c.other-item.is apart))

pub returns-clause-none : goal.returns-clause-none
returns-clause-none c =
    let items = c.as_slice-other-items.result.now in
    λ e. subst (IsUnnamed c.args.name.now) (take_all c.loop-other.other-index items (omega arith) ∙ c.as_slice-other-items.ensures) c.loop-other.invariant
