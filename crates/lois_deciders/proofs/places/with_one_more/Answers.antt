use Rattle.std.proofs.Common.{◌+◌, length, sym, ap, ◌∙◌, subst, arith, below_more}
use Rattle.lois_base.specs.Truth.{holds, sampled}
use Rattle.lois_deciders.specs.Satisfaction.{IsSmall}
use Rattle.lois_deciders.proofs.Placed.{FailsAt, no_place, new_small}
use Rattle.lois_deciders.proofs.places.with_one_more.Goals as goal

pub returns-then-at-2-clause-found : goal.returns-then-at-2-clause-found
returns-then-at-2-clause-found c =
    let g = c.args.c.now in
    (subst (IsSmall (length c.args.sample.now + 1)) (sym c.in_ok-between.ensures) (new_small c.args.sample.now c.loop-place.place c.requires.small (omega arith)), sym (c.if-at-2.ensures ∙ ap (λ z. holds (sampled z) g) c.deref-in-loop-place.ensures.value))

pub loop-place-preserved : goal.loop-place-preserved
loop-place-preserved c =
    let g = c.args.c.now in
    below_more (FailsAt c.args.sample.now g) c.loop-place.place c.loop-place.invariant
    (sym (c.if-at.ensures ∙ ap (λ z. holds (sampled z) g) (c.deref.ensures.value ∙ c.in_ok-same.ensures)), sym (c.if-at-2.ensures ∙ ap (λ z. holds (sampled z) g) (c.deref-in-loop-place.ensures.value ∙ c.in_ok-between.ensures)))

pub returns-clause-none : goal.returns-clause-none
returns-clause-none c =
    no_place c.args.sample.now c.args.c.now c.requires.small c.requires.levels (λ p l. c.loop-place.invariant p (omega arith))
