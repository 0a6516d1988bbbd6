use Rattle.std.proofs.Common.{◌≡◌, ◌+◌, ◌-◌, [], ◌∷◌, ◌++◌, length, get_or, sym, ap, ◌∙◌, subst, arith}
use Rattle.std.proofs.lemmas.List.{length-map}
use Rattle.std.specs.Bool.{IsFalse}
use Rattle.lois_base.specs.Atom.{whole}
use Rattle.lois_base.specs.Fits.{ConstraintFits}
use Rattle.lois_base.specs.Truth.{holds, sampled}
use Rattle.lois_deciders.proofs.Staged.{never_met, no_atom_is_absurd, stage_read, one_cube_met}
use Rattle.lois_deciders.proofs.plain.sample.Goals as goal

pub returns-then-not-at-clause-none : goal.returns-then-not-at-clause-none
returns-then-not-at-clause-none c = λ sat.
    let is : c.index.result.now ≡ get_or c.in_ok-stages.stages.items c.args.size [] = stage_read c.in_ok-stages.stages.items c.args.size c.index.result.now (omega (arith, c.in_ok-stages.ensures.count)) c.index.ensures in
    never_met c.args.size (c.args.cube.now ∷ []) c.in_ok-stages.stages.items c.in_ok-stages.ensures (sym (c.if-not-at.ensures ∙ ap (holds []) is)) (one_cube_met c.args.size c.args.cube.now sat)

pub with_one_more-requires-clause-levels : goal.with_one_more-requires-clause-levels
with_one_more-requires-clause-levels c =
    let k = c.args.size - c.loop-level.level - 1 in
    let e : c.args.size - k ≡ length c.deref.result.now + 1 = omega (arith, c.loop-level.invariant.0.count, ap length c.deref.ensures.value) in
    let is : c.index-in-loop-level.result.now ≡ get_or c.in_ok-stages.stages.items k [] = stage_read c.in_ok-stages.stages.items k c.index-in-loop-level.result.now (omega (arith, c.in_ok-stages.ensures.count)) c.index-in-loop-level.ensures in
    subst (λ n. ConstraintFits n c.index-in-loop-level.result.now) e (subst (ConstraintFits (c.args.size - k)) (sym is) (c.in_ok-stages.ensures.levels k (omega arith)))

pub returns-in_default-clause-none : goal.returns-in_default-clause-none
returns-in_default-clause-none c = λ sat.
    let k = c.args.size - c.loop-level.level - 1 in
    let s = c.loop-level.sample.items in
    let is : c.index-in-loop-level.result.now ≡ get_or c.in_ok-stages.stages.items k [] = stage_read c.in_ok-stages.stages.items k c.index-in-loop-level.result.now (omega (arith, c.in_ok-stages.ensures.count)) c.index-in-loop-level.ensures in
    let none = rw c.in_default.is at c.in_ok-longer.ensures.none in
    let count : length (sampled s) ≡ c.loop-level.level = omega (arith, c.loop-level.invariant.0.count, length-map s whole) in
    no_atom_is_absurd c.args.size (c.args.cube.now ∷ []) c.in_ok-stages.stages.items c.in_ok-stages.ensures c.loop-level.level (omega arith) s count c.loop-level.invariant.1 (λ a. subst (λ g. IsFalse (holds (sampled s ++ a ∷ []) g)) is (subst (λ t. IsFalse (holds (sampled t ++ a ∷ []) c.index-in-loop-level.result.now)) c.deref.ensures.value (none a)))
